-- The errors of account files.
use Rattle.std.specs.Prelude.{ℕ, List, Bool, true, false, Option, None, Some, Result, Ok, Err, ◌++◌, codes, ⊤}
use Rattle.std.specs.Fmt.{decimal}
use Rattle.sqlite_std_file.specs.declared.pair.OpenError.{OpenError as PathError}
use Rattle.sqlite_std_file.specs.declared.pair.OpenError.TheVariants as path
use Rattle.sqlite_store.specs.declared.error.OpenError.{OpenError as FilesError}
use Rattle.sqlite_store.specs.declared.error.OpenError.TheVariants as files
use Rattle.sqlite_trees.specs.declared.error.StoreError.{StoreError}
use Rattle.sqlite_trees.specs.declared.error.StoreError.TheVariants as below
use Rattle.sqlite_wal.specs.declared.error.Error.{Error as LogError}
use Rattle.sqlite_wal.specs.declared.error.Error.TheVariants as log
use Rattle.argon2_rows.specs.declared.view.Written.{Written}
use Rattle.argon2_rows.specs.declared.view.Written.TheVariants as written
use Rattle.argon2_rows.specs.declared.view.Written.TheVariants.{All, Failed}
pub use Rattle.argon2_store.specs.declared.error.FileError.{FileError}
pub use Rattle.argon2_store.specs.declared.error.FileError.TheVariants.{NameTaken, NameUnknown, Changed, Locked, OutOfMemory, Io, Damaged, Full, TooLong, Closed}
pub use Rattle.argon2_store.specs.declared.error.LineError.{LineError}
pub use Rattle.argon2_store.specs.declared.error.LineError.TheVariants.{Breaks, File, Write}
pub use Rattle.argon2_store.specs.declared.error.OpenError.{OpenError}
use Rattle.argon2_store.specs.declared.error.OpenError.TheVariants as no
use Rattle.argon2_store.specs.declared.error.OpenError.TheVariants.{Path, Busy, HotJournal, LogWithoutFile, LogOfAnother, Format, NotAccounts}

-- the error of the file that stands for an error of the store
abbrev pub file_error : StoreError → FileError
file_error below.OutOfMemory = OutOfMemory
file_error below.Io = Io
file_error below.Corrupt = Damaged
file_error below.Full = Full
file_error below.Broken = Closed
file_error below.Unstorable = TooLong

-- The error of a call that reads or changes an open file. Without an earlier error only a wrong answer of the disk breaks the
-- store, so that the file counts as damaged.
abbrev pub call_error : StoreError → FileError
call_error below.Broken = Damaged
call_error e = file_error e

-- the result of a call that read or changed an open file
abbrev pub read_of : {X : Type 0} → Result X StoreError → Result X FileError
read_of (Ok x) = Ok x
read_of (Err e) = Err (call_error e)

-- the result of reading the file, as lines were written
abbrev pub read_by : Result (Unit {0}) LineError → Result (Unit {0}) FileError
read_by (Err (File e)) = Err e
read_by _ = Ok tt

-- the result of writing the lines of a file
abbrev pub lines_by : Result Written FileError → Result (Unit {0}) LineError
lines_by (Ok All) = Ok tt
lines_by (Ok written.Breaks) = Err Breaks
lines_by (Ok (Failed e)) = Err (Write e)
lines_by (Err e) = Err (File e)

-- the error is a refusal: the names are the reason, and nothing was written
abbrev pub is_refusal : FileError → Bool
is_refusal NameTaken = true
is_refusal NameUnknown = true
is_refusal Changed = true
is_refusal Locked = true
is_refusal _ = false

-- the errors of an open that stand for the errors of the calls below it
abbrev pub path_error : PathError → OpenError
path_error (path.Io why) = Path why
path_error path.OutOfMemory = no.OutOfMemory
path_error path.Busy = Busy
path_error path.HotJournal = HotJournal

abbrev pub log_error : LogError → OpenError
log_error log.OutOfMemory = no.OutOfMemory
log_error (log.Io why) = no.Io
log_error log.Full = no.Full
log_error _ = NotAccounts

abbrev pub files_error : FilesError → OpenError
files_error files.OutOfMemory = no.OutOfMemory
files_error files.Io = no.Io
files_error files.Full = no.Full
files_error files.Refused = NotAccounts

abbrev pub store_error : StoreError → OpenError
store_error below.OutOfMemory = no.OutOfMemory
store_error below.Io = no.Io
store_error below.Full = no.Full
store_error _ = NotAccounts

-- the error of the open is an error of the database
abbrev pub IsOfDatabase : OpenError → Type 0
IsOfDatabase no.OutOfMemory = ⊤
IsOfDatabase no.Io = ⊤
IsOfDatabase no.Full = ⊤
IsOfDatabase NotAccounts = ⊤
IsOfDatabase _ = ⊥

-- what an error prints
abbrev pub file_error_text : FileError → List ℕ
file_error_text NameTaken = codes "name is taken"
file_error_text NameUnknown = codes "name is unknown"
file_error_text Changed = codes "hash has changed"
file_error_text Locked = codes "name is locked"
file_error_text OutOfMemory = codes "out of memory"
file_error_text Io = codes "the disk failed"
file_error_text Damaged = codes "the file is damaged"
file_error_text Full = codes "the disk or the file is full"
file_error_text TooLong = codes "name or hash is too long"
file_error_text Closed = codes "the file has to be opened again"

-- what an error of writing lines prints; None is an error of the system, whose text no clause says
abbrev pub line_error_text : LineError → Option (List ℕ)
line_error_text (File e) = Some (file_error_text e)
line_error_text Breaks = Some (codes "the line of a name would read as that of another")
line_error_text (Write why) = None

-- what an error of an open prints; None is an error of the system, whose text no clause says
abbrev pub open_error_text : OpenError → Option (List ℕ)
open_error_text (Path why) = None
open_error_text Busy = Some (codes "the file is in use")
open_error_text HotJournal = Some (codes "the file has a journal to play back: open it with sqlite3 first")
open_error_text LogWithoutFile =
    Some (codes "the file is missing or empty, but its -wal or -journal is there: bring it back, or move that away")
open_error_text LogOfAnother = Some (codes "the -wal of the file belongs to another user")
open_error_text no.OutOfMemory = Some (codes "out of memory")
open_error_text no.Io = Some (codes "the disk failed")
open_error_text no.Full = Some (codes "the disk or the file is full")
open_error_text no.DamagedLog = Some (codes "the log is damaged")
open_error_text (Format n) = Some
    (codes "the file has format " ++ decimal n ++ codes ", not 0: use the release that made it, or export with that and import")
open_error_text NotAccounts = Some (codes "the file does not hold accounts")
open_error_text no.Row = Some (codes "a row is not a name with a hash")
