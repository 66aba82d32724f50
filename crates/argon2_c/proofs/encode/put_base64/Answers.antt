use Rattle.std.proofs.Common.{◌-◌, ◌++◌, length, length-append, length-drop, refl, ap, ◌∙◌, arith}
use Rattle.std.specs.Prelude.{drop, take}
use Rattle.std.proofs.Math.Seq.{length-take-le}
use Rattle.argon2_base.specs.Texts.{strict_base64}
use Rattle.argon2_base.proofs.phc_lemmas.Base64Lemmas.{encode_of-strict, length-strict_base64}
use Rattle.argon2_c.proofs.Appending.{IsWrittenOver-append}
use Rattle.argon2_c.proofs.encode.put_base64.Goals as goal

pub returns-clause-appends : goal.returns-clause-appends
returns-clause-appends c = λ text first long is.
    let bytes = c.args.bytes.now in
    let old = c.args.out.now in
    let k = length old - c.args.at in
    let after = length-drop c.args.at old in
    let room = length-take-le k (drop c.args.at old) (omega arith) in
    let digits = length-strict_base64 bytes in
    let ok = c.encode_slice.ensures.fits (omega (arith, room, after)) in
    let size = rw ok at c.unwrap.ensures in
    let wrote = rw (encode_of-strict bytes) at (rw ok at c.encode_slice.ensures.written) in (
      grind (arith, length-append text (strict_base64 bytes), digits, size, long),
      IsWrittenOver-append c.args.at k old c.encode_slice.new.output (strict_base64 bytes) text first refl long is
          (wrote ∙ ap (λ n. strict_base64 bytes ++ drop n (take k (drop c.args.at old))) (omega (arith, digits))),
    )
