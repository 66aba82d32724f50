use Rattle.argon2.proofs.Imports.{arith, refl, ◌≡◌, ℕ, ◌≤◌, List, length, None, Some, Ok, length-take, IsBytes, base64_length, short_bytes_again, short_bytes_refused, own_bytes, short_bytes}
use Rattle.argon2.proofs.Imports.{Error}
use Rattle.argon2_base.specs.declared.error.Error.TheVariants.{B64Encoding}
use Rattle.argon2.specs.declared.params.short_bytes.ShortBytes.{ShortBytes}
use Rattle.argon2.specs.Params.{IsBase64Fault, IsOfText}
use Rattle.argon2.proofs.params.reading.take_bytes.Goals as goal

-- a refused text is the Base64 of no bytes
text_refused : (most : ℕ) (s : List ℕ) (e : Error) → IsBytes s → IsBase64Fault (base64_length most) s e
    → short_bytes most s ≡ None
text_refused most s (B64Encoding cause) bytes h = short_bytes_refused most s cause bytes h
text_refused most s _ bytes h = absurd h

-- a text that was read is the Base64 of the bytes
text_read : (most : ℕ) (s : List ℕ) (short : ShortBytes most) → IsOfText own_bytes (base64_length most) s (Ok short)
    → short_bytes most s ≡ Some (own_bytes short)
text_read most s short h =
    let fits : length (own_bytes short) ≤ most = omega (arith, length-take short.bytes.len short.bytes.bytes, short.bytes.fits) in
    short_bytes_again most s (own_bytes short) h.0 fits h.1

pub returns : goal.returns
returns g c = rw (text_read g.row.MAX_LEN c.args.text.now c.in-Ok.bytes c.in-Ok.ensures) refl

pub returns-in_default : goal.returns-in_default
returns-in_default g c =
    rw (text_refused g.row.MAX_LEN c.args.text.now c.in_default.field-0
    (λ i. omega (arith, c.type_inv.text i)) c.in_default.ensures) refl
