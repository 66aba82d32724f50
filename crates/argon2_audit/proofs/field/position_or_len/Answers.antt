use Rattle.std.proofs.Common.{arith, rules, ◌==◌, ◌≡◌, ℕ, Bool, List, length, Option, Some, None, sym}
use Rattle.std.specs.Option.{unwrap_or}
use Rattle.std.specs.List.{position_or_len}
use Rattle.std.proofs.lemmas.Bool.{false_from_ne_true}
use Rattle.std.proofs.lemmas.List.Sums.{position_or_len_is}
use Rattle.memchr.specs.Find.{IsFirstByte}
use Rattle.argon2_audit.proofs.field.position_or_len.Goals as goal

-- the index of the first byte that passes, or the length, is `position_or_len`
position_or_len-first_byte : (test : ℕ → Bool) (bytes : List ℕ) (found : Option ℕ) → IsFirstByte test bytes found
    → unwrap_or found (length bytes) ≡ position_or_len test bytes
position_or_len-first_byte test bytes None never =
    sym (position_or_len_is test bytes (length bytes) 0 (omega arith)
    (λ k below. false_from_ne_true _ (never k (omega arith) below)) (λ past. absurd (omega arith)))
position_or_len-first_byte test bytes (Some k) first =
    sym (position_or_len_is test bytes k 0 (let high = first.0.high in omega arith)
    (λ i below. false_from_ne_true _ (first.0.before i (omega arith) below)) (λ _. first.1))

pub returns-clause-value : goal.returns-clause-value
returns-clause-value c =
    let index = position_or_len-first_byte (λ byte. byte == c.args.separator) c.args.bytes.now c.memchr.result c.memchr.ensures in
    search rules
