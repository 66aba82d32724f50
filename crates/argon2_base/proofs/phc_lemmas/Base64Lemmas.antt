-- The engine without padding reads and writes strict Base64, and nothing else.
use Rattle.argon2_base.proofs.Imports.{nat_tests, common_steps, ◌≡◌, ◌≢◌, ℕ, zero, suc, ◌+◌, ◌*◌, ◌/◌, ◌<◌, ◌≤◌, Bool, true, ◌&&◌, nat_le, nat_lt, List, [], ◌∷◌, ◌++◌, length, take, drop}
use Rattle.argon2_base.proofs.Imports.{Ok, Err, refl, sym, ◌∙◌, ap, arith, Result, Option, Some, None, le-leb, lt-ltb, IsUtf8-from_ascii, list_all, IsUtf8, standard_no_pad, encode_symbols}
use Rattle.argon2_base.proofs.Imports.{decode_of, decoded_of, encode_of, encoded_size_of, DecodeError, alphabet, strict_base64, short_bytes, IsBytes, base64_length, IsBase64Cause}
use Rattle.std.proofs.lemmas.List.{append-nil}
use Rattle.base64.specs.declared.encode.EncodeSliceError.{EncodeSliceError}
use Rattle.base64.specs.declared.encode.EncodeSliceError.TheVariants.{OutputSliceTooSmall}
use Rattle.base64.proofs.EngineFacts.{decode_of_strict, decode_of-encode_of, encoded_prefix, IsAscii-encode_of}
use Rattle.base64.proofs.RoundTrip.{length-encode_symbols}
use Rattle.argon2_base.specs.declared.error.B64Error.{B64Error}
use Rattle.argon2_base.specs.declared.error.B64Error.TheVariants.{InvalidEncoding, InvalidLength}

-- what the engine writes
pub encode_of-strict : (b : List ℕ) → encode_of standard_no_pad b ≡ strict_base64 b
unfolding strict_base64
encode_of-strict b = append-nil (encode_symbols alphabet b)

-- what decodes is the text of what it decodes to
pub strict_base64_decoded : (s b : List ℕ) → IsBytes s → decode_of standard_no_pad s ≡ Ok b → s ≡ strict_base64 b
strict_base64_decoded s b bytes ok = decode_of_strict standard_no_pad s b (refl, refl) bytes ok ∙ encode_of-strict b

-- a strict text decodes to its bytes
pub decode_of-strict_base64 : (b : List ℕ) → IsBytes b → decode_of standard_no_pad (strict_base64 b) ≡ Ok b
decode_of-strict_base64 b bytes = ap (decode_of standard_no_pad) (sym (encode_of-strict b))
    ∙ decode_of-encode_of standard_no_pad b refl bytes

-- the length of the text of some bytes
pub length-strict_base64 : (b : List ℕ) → length (strict_base64 b) ≡ (4 * length b + 2) / 3
unfolding strict_base64
length-strict_base64 b = length-encode_symbols alphabet b

-- ---- `short_bytes`

-- bytes pass the test of each
bytes_pass : (b : List ℕ) → IsBytes b → list_all (λ x. nat_lt x 256) b ≡ true
bytes_pass [] h = refl
bytes_pass (x ∷ b) h = rw (lt-ltb x 256 (h 0)) (bytes_pass b (λ i. h (suc i)))

-- what passes is bytes
passing_bytes : (b : List ℕ) → list_all (λ x. nat_lt x 256) b ≡ true → IsBytes b
passing_bytes [] h i = omega arith
passing_bytes (x ∷ b) h zero = grind (arith, nat_tests, h)
passing_bytes (x ∷ b) h (suc i) = grind (arith, nat_tests, passing_bytes b)

abbrev passes : ℕ → List ℕ → Bool
passes most b = nat_le (length b) most && list_all (λ x. nat_lt x 256) b

-- what `short_bytes` answers, by what decoding does
short_by : (most : ℕ) (s b : List ℕ) (r : Result (List ℕ) DecodeError) → decode_of standard_no_pad s ≡ r
    → short_bytes most s ≡ Some b → (r ≡ Ok b) × (passes most b ≡ true)
unfolding decoded_of
short_by most s b r is h = let found = rw is at h in grind arith

-- `short_bytes` finds the bytes whose strict Base64 a text is, if they are at most `most`
pub short_bytes_found : (most : ℕ) (s b : List ℕ) → IsBytes s → short_bytes most s ≡ Some b
    → IsBytes b × (length b ≤ most) × (s ≡ strict_base64 b)
short_bytes_found most s b bytes h =
    let found = short_by most s b (decode_of standard_no_pad s) refl h in
    grind (arith, nat_tests, passing_bytes, strict_base64_decoded)

-- `short_bytes` finds the bytes of each such text
pub short_bytes_again : (most : ℕ) (s b : List ℕ) → IsBytes b → length b ≤ most → s ≡ strict_base64 b
    → short_bytes most s ≡ Some b
unfolding decoded_of
short_bytes_again most s b bytes short is = grind (arith, decode_of-strict_base64, le-leb, bytes_pass)

none_unless : (o : Option (List ℕ)) → ((b : List ℕ) → o ≡ Some b → ⊥) → o ≡ None
none_unless o h = grind arith

-- a text that is refused is not the Base64 of bytes that fit
pub refused_text : (most : ℕ) (s : List ℕ) (cause : B64Error) → IsBase64Cause (base64_length most) s cause
    → (b : List ℕ) → IsBytes b → length b ≤ most → s ≢ strict_base64 b
refused_text most s InvalidLength long b bytes fits is = omega (arith, ap length is, length-strict_base64 b)
refused_text most s InvalidEncoding refused b bytes fits is = refused.1 b bytes is

-- `short_bytes` finds no bytes of a text that is refused
pub short_bytes_refused : (most : ℕ) (s : List ℕ) (cause : B64Error) → IsBytes s
    → IsBase64Cause (base64_length most) s cause → short_bytes most s ≡ None
short_bytes_refused most s cause bytes refused = grind (arith, none_unless, short_bytes_found, refused_text)

-- two byte lists with one text are one
pub strict_base64_unique : (s b d : List ℕ) → IsBytes b → s ≡ strict_base64 b → decode_of standard_no_pad s ≡ Ok d → b ≡ d
strict_base64_unique s b d bytes is ok = cc (decode_of-strict_base64 b bytes)

-- a strict text is never refused
pub strict_base64_never_refused : (s b : List ℕ) (e : DecodeError) → IsBytes b → s ≡ strict_base64 b
    → decode_of standard_no_pad s ≡ Err e → ⊥
strict_base64_never_refused s b e bytes is err = cc (decode_of-strict_base64 b bytes)

abbrev written : ℕ → Result ℕ EncodeSliceError
written n = Ok n

-- what encoding into a slice wrote, if it said Ok
pub strict_base64_written : (b old new : List ℕ) (len : ℕ) → length new ≡ length old
    → (encoded_size_of standard_no_pad (length b) ≤ length old → written len ≡ Ok (encoded_size_of standard_no_pad (length b)))
    → (length old < encoded_size_of standard_no_pad (length b) → written len ≡ Err OutputSliceTooSmall)
    → new ≡ encode_of standard_no_pad b ++ drop (encoded_size_of standard_no_pad (length b)) old
    → take len new ≡ strict_base64 b
strict_base64_written b old new len same fits small put = grind (arith, common_steps, encoded_prefix, encode_of-strict)

-- a strict text is text
pub IsUtf8-strict_base64 : (b : List ℕ) → IsUtf8 (strict_base64 b)
IsUtf8-strict_base64 b = rw (encode_of-strict b) at
    (IsUtf8-from_ascii (encode_of standard_no_pad b) (IsAscii-encode_of standard_no_pad b))
