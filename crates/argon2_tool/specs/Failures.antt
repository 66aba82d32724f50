-- Why a command fails, and what is printed then.
use Rattle.std.specs.Prelude.{◌≡◌, ◌≢◌, ℕ, List, [], ◌∷◌, ◌++◌, Option, codes}
use Rattle.argon2_io.specs.Failures.{IsInput, IsMemory, IsStream}
use Rattle.argon2_io.specs.Lines.{AppendsPrefix}
use Rattle.argon2_io.specs.declared.failure.Failure.{Failure as IoFailure}
use Rattle.argon2_io.specs.declared.failure.Failure.TheVariants.{Input, Output, Memory, Other}
use Rattle.argon2_base.specs.Error.{error_text, hash_error_text}
use Rattle.argon2_base.specs.declared.error.Error.{Error}
use Rattle.argon2_base.specs.declared.error.Error.TheVariants.{OutOfMemory}
use Rattle.argon2_base.specs.declared.error.password_hash.Error.{Error as TextError}
use Rattle.argon2_base.specs.declared.error.password_hash.Error.TheVariants.{OutOfMemory as TextOutOfMemory}
use Rattle.argon2_tool.specs.declared.failure.Failure.{Failure}
use Rattle.argon2_tool.specs.declared.failure.Failure.TheVariants.{Io, Hashing, Text}

-- the failure is of a stream or of memory, and meets the condition
abbrev pub IsIoAnd : (IoFailure → Type 0) → Failure → Type 0
IsIoAnd P (Io failure) = P failure
IsIoAnd P _ = ⊥

-- the failure of a hashing call that refuses: `OutOfMemory` becomes a failure of memory
abbrev pub IsHashingFailure : Error → Failure → Type 0
IsHashingFailure refusal (Io failure) = IsMemory failure × (refusal ≡ OutOfMemory)
IsHashingFailure refusal (Hashing error) = (error ≡ refusal) × (refusal ≢ OutOfMemory)
IsHashingFailure refusal _ = ⊥

-- the failure of a call on a text that refuses: `OutOfMemory` becomes a failure of memory
abbrev pub IsTextFailure : TextError → Failure → Type 0
IsTextFailure refusal (Io failure) = IsMemory failure × (refusal ≡ TextOutOfMemory)
IsTextFailure refusal (Text error) = (error ≡ refusal) × (refusal ≢ TextOutOfMemory)
IsTextFailure refusal _ = ⊥

-- a request for memory was refused
abbrev pub IsOfMemory : Failure → Type 0
IsOfMemory failure = IsIoAnd IsMemory failure

-- the input can't be read, or a request for memory was refused
abbrev pub IsOfInput : Failure → Type 0
IsOfInput failure = IsIoAnd IsInput failure

-- the input can't be read, standard error can't be written, or a request for memory was refused
abbrev pub IsOfAsking : Failure → Type 0
IsOfAsking failure = IsIoAnd IsStream failure

-- ---- what is printed

-- the text of a failure
abbrev pub failure_text : Failure → List ℕ
failure_text (Io (Input error)) = codes "standard input can't be read"
failure_text (Io (Output error)) = codes "standard output can't be written"
failure_text (Io (Memory refused)) = codes "out of memory"
failure_text (Io (Other what)) = what.now
failure_text (Hashing refusal) = error_text refusal
failure_text (Text refusal) = hash_error_text refusal

-- known bytes grow by the failure's line, or by a prefix of the line if a write fails
abbrev pub IsReported : Failure → Option (List ℕ) → Option (List ℕ) → Type 0
IsReported failure old new = AppendsPrefix old new (codes "argon2: " ++ failure_text failure ++ 10 ∷ [])
