use Rattle.argon2.proofs.Imports.{refl, rules}
use Rattle.argon2.proofs.recurrence.Validity.{is_size}
use Rattle.argon2.proofs.context.inputs.Context.lanes.Goals as goal

pub returns : goal.returns
returns c = is_size (λ ctx. ctx.p_cost) _ _ _ c.self.view_is refl (search rules) (search rules) c.self.invariant.0
