use Rattle.argon2.proofs.context_lemmas.SegmentLaw.{segments_give_tag}
use Rattle.argon2.proofs.laws.segments_apart.Goals as goal

pub returns : goal.returns
returns c = segments_give_tag
