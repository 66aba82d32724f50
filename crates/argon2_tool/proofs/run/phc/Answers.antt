use Rattle.std.proofs.Common.{rules, inl, inr}
use Rattle.argon2_base.specs.PhcFields.{phc_of}
use Rattle.argon2_tool.proofs.run.phc.Goals as goal

pub returns : goal.returns
returns c =
    let (asked, no_secret) = c.in_ok-argon2.ensures in
    let same = c.as_bytes.ensures.value in
    let text = c.text.ensures.1 in
    rw asked (
      phc_of c.in_ok-hash.hash,
      elim c.in_ok-hash.ensures.answer [ inl is ↦ cc | inr other ↦ let no = other.0 in absurd cc ],
      search (rules, text),
    )
