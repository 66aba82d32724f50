use Rattle.argon2.proofs.Imports.{map-id}
use Rattle.argon2.proofs.context.Argon2.finish_slices.Goals as goal

pub returns : goal.returns
returns c =
    rw (c.segment_length.ensures.value, c.context-context.ensures.value, map-id c.args.last.now) at c.write_tag.ensures
