use Rattle.std.proofs.Common.{◌≡◌, ◌⊎◌, inl, inr, rules, Option, Some, None, Err}
use Rattle.argon2.specs.Hashing.{AsksFirst}
use Rattle.argon2_base.specs.declared.error.Error.{Error}
use Rattle.argon2_base.specs.declared.error.Error.TheVariants.{OutOfMemory}
use Rattle.argon2_tool.proofs.run.tag.Goals as goal

-- a call that fails answers that there is no memory, or the refusal
AsksFirst-Err : (refusal : Option Error) (e : Error) → AsksFirst refusal (Err e) → (e ≡ OutOfMemory) ⊎ (refusal ≡ Some e)
AsksFirst-Err refusal e (inl is) = inl cc
AsksFirst-Err None e (inr is) = absurd cc
AsksFirst-Err (Some fault) e (inr is) = inr cc

pub returns-in_err-hash_password_into : goal.returns-in_err-hash_password_into
returns-in_err-hash_password_into c =
    let why = AsksFirst-Err _ _ c.in_err-hash_password_into.ensures.answer in
    search rules
