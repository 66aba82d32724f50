use Rattle.std.proofs.Common.{◌≢◌, ◌↔◌, ℕ, Result, Ok, Err, refl}
use Rattle.std.specs.Prelude.{IsNone}
use Rattle.std.specs.Result.{result_ok}
use Rattle.argon2_base.specs.declared.error.Error.{Error}
use Rattle.argon2_base.specs.declared.error.Error.TheVariants.{VersionInvalid}
use Rattle.argon2.specs.Settings.{IsReadBy, version_number}
use Rattle.argon2.specs.declared.version.Version.{Version}
use Rattle.argon2.specs.declared.version.Version.TheVariants.{V0x10, V0x13}
use Rattle.argon2_c.proofs.number.version.Goals as goal

-- a number is refused if and only if it is neither 16 nor 19
IsReadBy-none : (n : ℕ) (r : Result Version Error) → IsReadBy version_number VersionInvalid n r
    → IsNone (result_ok r) ↔ (n ≢ 16) × (n ≢ 19)
IsReadBy-none n (Ok V0x10) is = (λ none. absurd cc, λ other. absurd (other.0 is))
IsReadBy-none n (Ok V0x13) is = (λ none. absurd cc, λ other. absurd (other.1 is))
IsReadBy-none n (Err e) is = (λ none. (is.1 V0x10, is.1 V0x13), λ other. refl)

pub returns-clause-none : goal.returns-clause-none
returns-clause-none c = rw c.ok.ensures.value (IsReadBy-none c.args.number c.try_from.result c.try_from.ensures)
