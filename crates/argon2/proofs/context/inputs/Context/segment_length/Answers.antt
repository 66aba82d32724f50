use Rattle.argon2.proofs.Imports.{rules, segment_length}
use Rattle.argon2.proofs.recurrence.Validity.{is_size}
use Rattle.argon2.proofs.context.inputs.Context.segment_length.Goals as goal

pub returns : goal.returns
returns c =
    is_size segment_length _ _ _ c.self.view_is c.self.invariant.1 (search rules) (search rules) c.self.invariant.0
