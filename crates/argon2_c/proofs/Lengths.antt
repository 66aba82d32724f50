-- The lengths of texts.
use Rattle.std.proofs.Common.{◌≡◌, ℕ, ◌+◌, ◌*◌, ◌/◌, ◌++◌, ◌∷◌, List, length, arith, length-append}
use Rattle.argon2_base.specs.Texts.{strict_base64}
use Rattle.argon2_base.proofs.phc_lemmas.Base64Lemmas.{length-strict_base64}

-- the length of a text with the prefix `front` before its salt is the sum of the lengths of its parts
pub length-text : (front : List ℕ) (text : List ℕ → List ℕ) (salt tag : List ℕ) → ((left : List ℕ) → front ++ left ≡ text left)
    → length (text (strict_base64 salt ++ 36 ∷ strict_base64 tag))
    ≡ length front + (4 * length salt + 2) / 3 + (4 * length tag + 2) / 3 + 1
length-text front text salt tag is = rw (← is (strict_base64 salt ++ 36 ∷ strict_base64 tag))
    (simp (length-append, length-strict_base64) (omega arith))
