use Rattle.argon2.proofs.Imports.{map-id}
use Rattle.argon2.proofs.context.Argon2.begin_slices.Goals as goal

pub returns : goal.returns
returns c =
    rw (c.segment_length.ensures.value, c.new-context.ensures.value, map-id c.args.first.now, map-id c.begin.new.blocks) at
    c.begin.ensures
