use Rattle.argon2.proofs.Imports.{◌≡◌, ◌-◌, ◌*◌, sym, ◌∙◌, add-one, arith, segment_length}
use Rattle.argon2.proofs.context_lemmas.SegmentColumns.{slice_of_column}
use Rattle.argon2.proofs.recurrence.PermittedPlaces.{in_slice}
use Rattle.argon2.proofs.context.inputs.Context.block.Goals as goal

pub returns-then-slice-at : goal.returns-then-slice-at
returns-then-slice-at c = λ memory parts.
    let ctx = c.args.self.now in
    let at = c.args.at in
    let column = c.args.column in
    let is = sym c.if-slice-at.true ∙ c.slice_of-slice.ensures in
    let s = segment_length ctx in
    let two = c.segment_length.ensures.sizes.two_columns in
    let here = rw (← is) at (in_slice s column two c.requires.place.in_columns) in
    let own : c.args.lane ≡ at.lane =
    grind (arith, is, c.requires.place.apart, slice_of_column ctx at c.requires.in_segment) in
    rw (c.if-slice-at.true, c.segment_length.ensures.value, own) (grind (arith, parts.in_own (column - at.slice * s)))

pub returns-then-slice-at-2 : goal.returns-then-slice-at-2
returns-then-slice-at-2 c = λ memory parts.
    let s = segment_length c.args.self.now in
    let k = c.slice_of-slice.result in
    let two = c.segment_length.ensures.sizes.two_columns in
    let slice = rw (← c.slice_of-slice.ensures) at (in_slice s c.args.column two c.requires.place.in_columns) in
    rw (c.place_in_slices.ensures.value, c.segment_length.ensures.value)
    (grind (arith, parts.in_before k c.args.lane (c.args.column - k * s)))

pub returns-else-slice-at-2 : goal.returns-else-slice-at-2
returns-else-slice-at-2 c = λ memory parts.
    let s = segment_length c.args.self.now in
    let k = c.slice_of-slice.result in
    let two = c.segment_length.ensures.sizes.two_columns in
    let slice = rw (← c.slice_of-slice.ensures) at (in_slice s c.args.column two c.requires.place.in_columns) in
    rw (c.place_in_slices-else-slice-at-2.ensures.value, c.segment_length.ensures.value, add-one)
    (grind (arith, parts.in_after k c.args.lane (c.args.column - k * s)))
