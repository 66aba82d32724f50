use Rattle.std.proofs.Common.{◌≡◌, ◌++◌, ℕ, List, length, sym, ap, ◌∙◌, subst, arith}
use Rattle.std.specs.Prelude.{drop, take}
use Rattle.std.proofs.Math.Seq.{length-take-le}
use Rattle.std.proofs.lemmas.List.{take-append-drop}
use Rattle.base64.specs.Decode.{IsWrittenOver}
use Rattle.base64.specs.Engines.{standard_no_pad}
use Rattle.base64.specs.GeneralPurpose.{IsDecodedInto}
use Rattle.base64.proofs.EngineFacts.{front_bytes}
use Rattle.argon2_base.specs.Texts.{IsBytes, strict_base64}
use Rattle.argon2_base.proofs.phc_lemmas.Base64Lemmas.{length-strict_base64, strict_base64_decoded, strict_base64_unique, strict_base64_never_refused}
use Rattle.argon2_c.proofs.decode.bytes.Goals as goal

-- the bytes that strict Base64 is decoded to are written over the beginning of the room
IsDecodedInto-strict : (n : ℕ) (s old new : List ℕ) → IsBytes s → IsBytes new → length new ≡ length old
    → IsDecodedInto standard_no_pad s n old new
    → IsBytes (take n new) × (s ≡ strict_base64 (take n new)) × (n ≡ length (take n new)) × IsWrittenOver (take n new) old new
IsDecodedInto-strict n s old new text bytes same into =
    let long : length (take n new) ≡ n = length-take-le n new (omega (arith, into.2)) in
    let parts = take-append-drop n new in (
      front_bytes (take n new) (drop n new) (subst IsBytes (sym parts) bytes),
      strict_base64_decoded s (take n new) text into.0,
      sym long,
      sym parts ∙ ap (λ x. take n new ++ x) (into.1 ∙ ap (λ k. drop k old) (sym long)),
    )

pub returns-in-Ok-clause-found : goal.returns-in-Ok-clause-found
returns-in-Ok-clause-found c =
    let new = c.decode_slice_unchecked.new.output in
    let over = IsDecodedInto-strict c.in-Ok.n c.args.text.now c.args.out.now new (λ i. omega (arith, c.type_inv.text i))
    (λ i. omega (arith, c.type_inv.out i)) c.decode_slice_unchecked.auto.output
    (rw c.as_bytes.ensures.value at c.in-Ok.ensures.ok) in
    (take c.in-Ok.n new, over.0, over.1, over.2, over.3)

pub returns-in-Ok-clause-within : goal.returns-in-Ok-clause-within
returns-in-Ok-clause-within c =
    let found = returns-in-Ok-clause-found c in
    omega (arith, found.3, ap length found.2, length-strict_base64 found.0)

pub returns-in-Ok-clause-only : goal.returns-in-Ok-clause-only
unfolding returns-in-Ok-clause-found
returns-in-Ok-clause-only c = λ b bytes is.
    let found = returns-in-Ok-clause-found c in
    let into = rw c.as_bytes.ensures.value at c.in-Ok.ensures.ok in
    subst (λ (x : List ℕ). (c.in-Ok.n ≡ length x) × IsWrittenOver x c.args.out.now c.decode_slice_unchecked.new.output)
    (sym (strict_base64_unique c.args.text.now b found.0 bytes is into.0)) (found.3, found.4)

pub returns-in-Err-clause-only : goal.returns-in-Err-clause-only
returns-in-Err-clause-only c = λ b bytes is.
    strict_base64_never_refused c.args.text.now b c.in-Err.field-0 bytes is
    (rw c.as_bytes.ensures.value at c.in-Err.ensures.err)
