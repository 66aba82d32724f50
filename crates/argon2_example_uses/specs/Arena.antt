-- The tag of an input, and why it is refused.
use Rattle.std.specs.Prelude.{ℕ, List, [], ◌∷◌, Option, None, length}
use Rattle.std.specs.Option.{option_or}
use Rattle.argon2.specs.Rfc9106.{Context, tag_of}
use Rattle.argon2.specs.Layout.{Memory}
use Rattle.argon2.specs.Hashing.{refusal_of}
use Rattle.argon2.specs.base_declared.error.Error.{Error}
use Rattle.argon2.specs.declared.context.Argon2.{Argon2}
use Rattle.argon2_example_uses.specs.declared.arena.Input.{Input}

-- the tag of an input, 32 bytes
abbrev pub input_tag : Context → Input → List ℕ
input_tag ctx input = tag_of ctx input.password.now input.salt.now 32

-- why an input is refused on the arena
abbrev pub input_refusal : Argon2 → Memory → Input → Option Error
input_refusal argon2 arena input = refusal_of argon2 32 input.password.now input.salt.now (length arena)

-- why the first refused input is refused
abbrev pub first_refusal : Argon2 → Memory → List Input → Option Error
first_refusal argon2 arena [] = None
first_refusal argon2 arena (input ∷ inputs) = option_or (input_refusal argon2 arena input) (first_refusal argon2 arena inputs)
