-- The codes of argon2_phc.h for the faults of a text.
use Rattle.std.specs.Prelude.{ℕ, ℤ, Result, Ok, Err, if◌then◌else◌, List, codes}
use Rattle.std.specs.Str.{bytes_eq}
use Rattle.argon2_base.specs.Error.{Fault, fault_of, bad_algorithm, bad_param, bad_params, bad_password, bad_version}
use Rattle.argon2.specs.declared.bound.BoundError.{BoundError}
use Rattle.argon2.specs.declared.bound.BoundError.TheVariants.{Refused, TooExpensive}
use Rattle.argon2_c.specs.declared.code.TheConstants.{NO_ALGORITHM, NO_VERSION, TEXT_INVALID, TEXT_MEMORY, TEXT_PASSES, TEXT_LANES, TEXT_KEYID, TEXT_DATA, TEXT_PARAMETERS, TEXT_INCOMPLETE, ABOVE_BOUND}

-- the code of a parameter that is not valid
abbrev pub param_code : List ℕ → ℤ
param_code name =
    if bytes_eq name (codes "m") then TEXT_MEMORY
    else if bytes_eq name (codes "t") then TEXT_PASSES
    else if bytes_eq name (codes "p") then TEXT_LANES
    else if bytes_eq name (codes "keyid") then TEXT_KEYID
    else TEXT_DATA

-- the code of a fault of a text; other faults do not occur in a text
abbrev pub text_code : Fault → ℤ
text_code bad_algorithm = NO_ALGORITHM
text_code bad_version = NO_VERSION
text_code bad_params = TEXT_PARAMETERS
text_code (bad_param name) = param_code name
text_code bad_password = TEXT_INCOMPLETE
text_code _ = TEXT_INVALID

-- a code for what is read, or the code of its fault
abbrev pub code_of : {X : Type 0} → Result X Fault → (X → ℤ) → ℤ
code_of (Ok x) next = next x
code_of (Err fault) next = text_code fault

-- the code of the error with which a bound refuses a text
abbrev pub bound_code : BoundError → ℤ
bound_code TooExpensive = ABOVE_BOUND
bound_code (Refused error) = text_code (fault_of error)
