use Rattle.std.proofs.Common.{Option, Some, None}
use Rattle.std.specs.Prelude.{IsSomeAnd, MatchOption}
use Rattle.std.proofs.lemmas.Str.Pattern.{split_after}
use Rattle.argon2_base.specs.Texts.{is_value_char}
use Rattle.argon2_base.proofs.phc_lemmas.Characters.{lacks_by}
use Rattle.argon2_base.proofs.phc_lemmas.Separators.{Lacks_at}
use Rattle.argon2_c.proofs.decode.cut.Goals as goal

-- an option that cannot be none has a value
MatchOption-some : {A : Type 0} (P : A → Type 0) (r : Option A) → MatchOption r ⊥ P → IsSomeAnd r P
MatchOption-some P None h = h
MatchOption-some P (Some x) h = h

pub returns-clause-only : goal.returns-clause-only
returns-clause-only c = λ x left chars is.
    MatchOption-some _ c.split_once.result (split_after c.args.mark c.args.text.now x left c.split_once.result
    c.split_once.ensures.cases c.requires.0 is (Lacks_at c.args.mark x (lacks_by is_value_char c.args.mark c.requires.1 x chars)))
