use Rattle.argon2.proofs.context_lemmas.InMemory.{place_below}
use Rattle.argon2.proofs.context.inputs.Context.place.Goals as goal

pub returns-clause-within : goal.returns-clause-within
returns-clause-within c =
    let below = place_below c.args.self.now c.args.lane c.args.column c.requires.in_lanes c.requires.in_columns in
    rw c.lane_length.ensures.value below
