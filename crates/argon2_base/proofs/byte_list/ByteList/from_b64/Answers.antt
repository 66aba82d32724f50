use Rattle.argon2_base.proofs.Imports.{arith, length-replicate}
use Rattle.argon2_base.proofs.phc_lemmas.ByteListLemmas.{IsDecoded, decoded_into_zeros, decode_slice_err}
use Rattle.argon2_base.proofs.byte_list.ByteList.from_b64.Given.{Over}
use Rattle.argon2_base.proofs.byte_list.ByteList.from_b64.Goals as goal

-- what decoding left, if it succeeded
decoded : (g : Over) (c : goal.In-Ok g) → IsDecoded c.args.text.now c.decode_slice.new.output g.row.N c.in-Ok.len
decoded g c = decoded_into_zeros c.args.text.now _ _ g.row.N _ c.in-Ok.len c.as_bytes.ensures.value
    (length-replicate g.row.N 0) (λ i. omega (arith, c.type_inv.text i)) c.in-Ok.ensures.value
    c.in-Ok.ensures.bytes c.in-Ok.ensures.written

pub invariant_of-result-clause-fits : goal.invariant_of-result-clause-fits
invariant_of-result-clause-fits g c = (decoded g c).fits

pub invariant_of-result-clause-zeros : goal.invariant_of-result-clause-zeros
invariant_of-result-clause-zeros g c = (decoded g c).zeros

pub returns-in-Ok : goal.returns-in-Ok
returns-in-Ok g c =
    let decoded = decoded_into_zeros c.args.text.now _ _ g.row.N _ c.in-Ok.len c.as_bytes.ensures.value
    (length-replicate g.row.N 0) (λ i. omega (arith, c.type_inv.text i)) c.in-Ok.ensures.value
    c.in-Ok.ensures.bytes c.in-Ok.ensures.written in
    (decoded.bytes, decoded.text)

pub returns-in-Err : goal.returns-in-Err
returns-in-Err g c = (
  omega arith,
  λ bytes are is. decode_slice_err c.args.text.now _ bytes g.row.N _ c.in-Err.field-0 c.as_bytes.ensures.value
      (length-replicate g.row.N 0) are is (omega arith) c.in-Err.ensures.value,
)
