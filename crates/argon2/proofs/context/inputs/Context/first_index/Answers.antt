use Rattle.argon2.proofs.context_lemmas.SegmentColumns.{later_slice}
use Rattle.argon2.proofs.context.inputs.Context.first_index.Goals.{else-pass-eq0-via-then-pass-eq0+else-slice-eq0, else-pass-eq0-via-else-pass-eq0}
use Rattle.argon2.proofs.context.inputs.Context.first_index.Goals as goal

pub returns-else-pass-eq0-clause-later : goal.returns-else-pass-eq0-clause-later
returns-else-pass-eq0-clause-later c = λ first. elim c.else-pass-eq0.branch [
  | else-pass-eq0-via-then-pass-eq0+else-slice-eq0 w ↦ later_slice c.args.slice _ 0 w.if-slice-eq0.false c.requires
  | else-pass-eq0-via-else-pass-eq0 w ↦ absurd (w.if-pass-eq0.false first)
]
