use Rattle.argon2.proofs.Imports.{refl, rules}
use Rattle.argon2.proofs.recurrence.Validity.{is_size}
use Rattle.argon2.proofs.context.inputs.Context.passes.Goals as goal

pub returns : goal.returns
returns c = is_size (λ ctx. ctx.t_cost) _ _ _ c.self.view_is refl (search rules) (search rules) c.self.invariant.0
