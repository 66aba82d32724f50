-- What a stored text asks for, and whether a bound admits it.
use Rattle.std.specs.Prelude.{◌≡◌, ◌⊎◌, ℕ, ◌≤◌, ◌*◌, List, codes, Result, Ok, Err, IsErrAnd}
use Rattle.std.specs.Result.{result_map_both}
use Rattle.argon2_base.specs.Error.{fault_of, hash_error_text}
use Rattle.argon2_base.specs.PhcText.{Phc, IsPhcText}
use Rattle.argon2_base.specs.declared.error.password_hash.Error.{Error}
use Rattle.argon2_base.specs.declared.error.password_hash.Error.TheVariants.{EncodingInvalid, OutOfMemory}
use Rattle.argon2.specs.declared.bound.Bound.{Bound}
use Rattle.argon2.specs.declared.bound.BoundError.{BoundError}
use Rattle.argon2.specs.declared.bound.BoundError.TheVariants.{TooExpensive, Refused}
use Rattle.argon2.specs.StoredTexts.{Accepts, AcceptsBy, IsVerifyAnswer, stored_of}
use Rattle.argon2.specs.ListedParameters.{asked_of}
use Rattle.argon2.specs.NamedTexts.{IsText}
use Rattle.argon2.specs.Settings.{Parameters}
use Rattle.argon2.specs.Rfc9106.{block_count_for}

-- no cost is above the bound's
abbrev pub IsWithin : Bound → Parameters → Type 0
IsWithin bound parameters = (parameters.m_cost ≤ bound.m_cost)
    × (parameters.t_cost ≤ bound.t_cost) × (parameters.p_cost ≤ bound.p_cost)

-- the value asks for costs within the bound, and so for at most that much memory
pub record AsksWithin (bound : Bound) (v : Phc) : Type 0 where
  pub parameters : Parameters
  pub asked : asked_of v ≡ Ok parameters
  pub within : IsWithin bound parameters
  pub memory : 1024 * block_count_for parameters.m_cost parameters.p_cost ≤ 1024 * bound.m_cost

-- the value asks for costs within the bound, and for this number of blocks
abbrev pub AsksBlocksWithin : Bound → Phc → ℕ → Type 0
AsksBlocksWithin bound v blocks = (asks : AsksWithin bound v)
    × (blocks ≡ block_count_for asks.parameters.m_cost asks.parameters.p_cost)

-- why a value is not admitted
abbrev pub IsHashRefusal : Bound → Phc → BoundError → Type 0
IsHashRefusal bound v TooExpensive =
    (parameters : Parameters) × (asked_of v ≡ Ok parameters) × (IsWithin bound parameters → ⊥)
IsHashRefusal bound v (Refused e) = asked_of v ≡ Err (fault_of e)

-- why the settings, the salt and the hash of a value are not read: it is not admitted, or one is missing or unknown
abbrev pub IsStoredRefusal : Bound → Phc → BoundError → Type 0
IsStoredRefusal bound v TooExpensive = IsHashRefusal bound v TooExpensive
IsStoredRefusal bound v (Refused e) =
    IsHashRefusal bound v (Refused e) ⊎ (AsksWithin bound v × (stored_of v ≡ Err (fault_of e)))

-- why a text is not admitted: its value is not, or it is the text of no value
abbrev pub IsBoundRefusal : Bound → List ℕ → BoundError → Type 0
IsBoundRefusal bound text error = ((v : Phc) → IsPhcText text v → IsHashRefusal bound v error)
    × (IsText text ⊎ (error ≡ Refused EncodingInvalid))

-- ---- verifying

-- what verifying within a bound answers: why the text is not admitted, or what verifying its value does, with its
-- error as a bound's
abbrev pub IsBoundAnswer : Bound → List ℕ → List ℕ → List ℕ → Result (Unit {0}) BoundError → Type 0
IsBoundAnswer bound secret password text r = IsErrAnd r (IsBoundRefusal bound text)
    ⊎ ((v : Phc) × IsPhcText text v × AsksWithin bound v
    × (answer : Result (Unit {0}) Error) × IsVerifyAnswer secret password v answer
    × (r ≡ result_map_both (λ x. x) Refused answer))

-- what Ok of it means
abbrev pub AcceptsWithin : Bound → List ℕ → List ℕ → List ℕ → Type 0
AcceptsWithin bound secret password text =
    (v : Phc) × IsPhcText text v × AsksWithin bound v × AcceptsBy secret password v

-- what its refusal means: the text asks for more than the bound, memory was refused, or the text does not accept the password
abbrev pub IsVerifyRefusal : Bound → List ℕ → List ℕ → List ℕ → BoundError → Type 0
IsVerifyRefusal bound secret password text TooExpensive = IsBoundRefusal bound text TooExpensive
IsVerifyRefusal bound secret password text (Refused e) =
    (e ≡ OutOfMemory) ⊎ (Accepts secret password text → ⊥)

-- ---- texts

-- what an error prints
abbrev pub bound_error_text : BoundError → List ℕ
bound_error_text TooExpensive = codes "costs are above the bound"
bound_error_text (Refused e) = hash_error_text e
