-- Byte lists with zeros after their bytes: what copying and decoding into zeros leaves.
use Rattle.argon2_base.proofs.Imports.{common_steps, ◌≡◌, ℕ, ◌-◌, ◌≤◌, Bool, false, List, ◌++◌, length, take, drop, replicate, if◌then◌else◌, Option, Result, Ok, Err, sym, ◌∙◌, arith}
use Rattle.argon2_base.proofs.Imports.{nat_tests, le-ltb, drop-replicate, take_at, drop-append-drop, standard_no_pad, decode_slice_of, decoded_bytes_of, DecodeError, IsBytes, strict_base64}
use Rattle.argon2_base.proofs.Imports.{base64_length}
use Rattle.base64.specs.Decode.{bytes_fit, decode_outcome, or_else, or_error}
use Rattle.base64.specs.declared.decode.DecodeSliceError.{DecodeSliceError}
use Rattle.base64.specs.declared.decode.DecodeSliceError.TheVariants.{OutputSliceTooSmall}
use Rattle.argon2_base.proofs.phc_lemmas.Base64Lemmas.{decode_of-strict_base64, length-strict_base64, strict_base64_decoded}

-- after the k bytes ys that were copied, the rest of n zeros is left
pub drop-filled : (n k : ℕ) (ys : List ℕ) → length ys ≡ k → drop k (ys ++ drop k (replicate n 0)) ≡ replicate (n - k) 0
drop-filled n k ys e = drop-append-drop k (replicate n 0) ys k (omega arith) e ∙ drop-replicate k n 0

-- the answer by the errors x and y, a test for room between them, and the bytes d
abbrev answer : Option DecodeError → Bool → Option DecodeError → List ℕ → ℕ → Result ℕ DecodeSliceError
answer x small y d room = or_error x (if small then Err OutputSliceTooSmall else or_error y (bytes_fit (length d) room))

-- an answer that counts bytes comes of no error, and they fit
answer_ok : (x y : Option DecodeError) (small : Bool) (d : List ℕ) (room n : ℕ) → answer x small y d room ≡ Ok n
    → (decode_outcome (or_else x y) d ≡ Ok d) × (n ≡ length d) × (length d ≤ room)
answer_ok x y small d room n h = grind (arith, nat_tests)

-- if there is no error and room for the bytes, nothing is refused
answer_err : (x y : Option DecodeError) (small : Bool) (d b : List ℕ) (room : ℕ) (f : DecodeSliceError)
    → decode_outcome (or_else x y) d ≡ Ok b
    → length b ≤ room → small ≡ false → answer x small y d room ≡ Err f → ⊥
answer_err x y small d b room f ok fits wide h = grind (arith, nat_tests)

-- What was decoded into zeros.
pub record IsDecoded (s new : List ℕ) (room n : ℕ) : Type 0 where
  pub bytes : IsBytes (take n new)
  pub text : s ≡ strict_base64 (take n new)
  pub zeros : drop n new ≡ replicate (room - n) 0
  pub fits : n ≤ room

pub decoded_into_zeros : (s t new : List ℕ) (room wide n : ℕ) → t ≡ s → wide ≡ room → IsBytes s
    → Ok n ≡ decode_slice_of standard_no_pad t wide
    → IsBytes (decoded_bytes_of standard_no_pad t)
    → new ≡ decoded_bytes_of standard_no_pad t ++ drop (length (decoded_bytes_of standard_no_pad t)) (replicate room 0)
    → IsDecoded s new room n
decoded_into_zeros s t new room wide n same length_is text_bytes ok bytes' written' =
    let d : List ℕ = decoded_bytes_of standard_no_pad s in
    let parts = answer_ok _ _ _ d room n (rw (same, length_is) at (sym ok)) in
    let front = take_at d (drop (length d) (replicate room 0)) n (sym parts.1) in
    record {
      bytes = grind arith;
      text = grind (arith, strict_base64_decoded);
      zeros = grind (arith, drop-filled);
      fits = grind arith;
    }

-- the Base64 of bytes that fit into the list is not refused
pub decode_slice_err : (s t b : List ℕ) (room wide : ℕ) (f : DecodeSliceError) → t ≡ s → wide ≡ room
    → IsBytes b → s ≡ strict_base64 b → length s ≤ base64_length room
    → Err f ≡ decode_slice_of standard_no_pad t wide → ⊥
decode_slice_err s t b room wide f same length_is bytes is short err' =
    grind (arith, common_steps, decode_of-strict_base64, length-strict_base64, answer_err, le-ltb)
