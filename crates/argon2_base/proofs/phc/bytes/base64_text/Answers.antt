use Rattle.argon2_base.proofs.phc_lemmas.Base64Lemmas.{strict_base64_written, IsUtf8-strict_base64}
use Rattle.argon2_base.proofs.phc.bytes.base64_text.Goals as goal

pub unreachable-requires-in_default-from_utf8 : goal.unreachable-requires-in_default-from_utf8
unreachable-requires-in_default-from_utf8 g c =
    let text = strict_base64_written c.args.bytes.now _ c.encode_slice.new.output c.in-Ok.len
    c.encode_slice.auto.output c.in-Ok.ensures.fits c.in-Ok.ensures.too_small c.in-Ok.ensures.written in
    c.in_default-from_utf8.ensures.cases.0 (rw text (IsUtf8-strict_base64 c.args.bytes.now))
