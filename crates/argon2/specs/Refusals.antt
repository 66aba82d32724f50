-- Tables of tests: a call is refused with the fault of the first test that holds.
use Rattle.std.specs.Prelude.{ℕ, Bool, List, [], ◌∷◌, ◌++◌, nat_lt, if◌then◌else◌, Option, Some, None, unwrap_or, Result, Ok, Err}
use Rattle.argon2_base.specs.declared.error.Error.{Error}
use Rattle.argon2_base.specs.declared.error.Error.TheVariants.{AdTooLong, MemoryTooLittle, OutputTooLong, OutputTooShort, PwdTooLong, SaltTooLong, SaltTooShort}

-- the most bytes of an output, a password, a salt, a secret or associated data
abbrev pub max_len : ℕ
max_len = 4294967295

-- the fault of the first test that holds
abbrev pub first_of : {E : Type 0} → List (Bool × E) → Option E
first_of [] = None
first_of (row ∷ rows) = if row.0 then Some row.1 else first_of rows

-- the answer with this fault, or with the value if no fault is given
abbrev pub answer_unless : {A : Type 0} → Option Error → A → Result A Error
answer_unless None value = Ok value
answer_unless (Some fault) value = Err fault

-- the faults of an output of `output` bytes; n is the output length of the parameters, if it is set
abbrev pub output_faults : Option ℕ → ℕ → List (Bool × Error)
output_faults n output =
    (nat_lt output (unwrap_or n 4), OutputTooShort)
    ∷ (nat_lt (unwrap_or n max_len) output, OutputTooLong) ∷ []

-- the faults of a password of `password` bytes and a salt of `salt` bytes
abbrev pub input_faults : ℕ → ℕ → List (Bool × Error)
input_faults password salt =
    (nat_lt max_len password, PwdTooLong)
    ∷ (nat_lt salt 8, SaltTooShort) ∷ (nat_lt max_len salt, SaltTooLong) ∷ []

-- the fault of `lent` blocks of memory, if the hash fills `wanted` blocks
abbrev pub memory_faults : ℕ → ℕ → List (Bool × Error)
memory_faults wanted lent = (nat_lt lent wanted, MemoryTooLittle) ∷ []

-- the first fault of these lengths; memory is not tested
abbrev pub length_refusal : Option ℕ → ℕ → ℕ → ℕ → Option Error
length_refusal n output password salt = first_of (output_faults n output ++ input_faults password salt)

-- the same, after a test of the length of the associated data, `associated` bytes
abbrev pub associated_refusal : ℕ → Option ℕ → ℕ → ℕ → ℕ → Option Error
associated_refusal associated n output password salt =
    if nat_lt max_len associated then Some AdTooLong else length_refusal n output password salt
