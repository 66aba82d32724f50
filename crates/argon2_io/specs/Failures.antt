-- Why the programs fail.
use Rattle.std.specs.Prelude.{◌≡◌, ◌≢◌, ⊤}
use Rattle.std.specs.IoError.{error_kind}
use Rattle.std.specs.declared.io.Error.{Error}
use Rattle.std.specs.declared.io.ErrorKind.TheVariants.{OutOfMemory}
use Rattle.argon2_io.specs.declared.failure.Failure.{Failure}
use Rattle.argon2_io.specs.declared.failure.Failure.TheVariants.{Input, Output, Memory}

-- the failure of a read: `OutOfMemory` becomes a failure of memory
abbrev pub IsOfReading : Error → Failure → Type 0
IsOfReading error (Memory refused) = error_kind error ≡ OutOfMemory
IsOfReading error (Input same) = (same ≡ error) × (error_kind error ≢ OutOfMemory)
IsOfReading error _ = ⊥

-- a request for memory was refused
abbrev pub IsMemory : Failure → Type 0
IsMemory (Memory refused) = ⊤
IsMemory _ = ⊥

-- the input can't be read, or a request for memory was refused
abbrev pub IsInput : Failure → Type 0
IsInput (Input error) = ⊤
IsInput failure = IsMemory failure

-- a stream fails, or a request for memory was refused
abbrev pub IsStream : Failure → Type 0
IsStream (Output error) = ⊤
IsStream failure = IsInput failure
