use Rattle.argon2_passwd.proofs.Common.{None}
use Rattle.argon2_passwd.proofs.run.serve.Goals as goal

pub returns-in-Edit : goal.returns-in-Edit
returns-in-Edit g c = rw (c.in-OnFile.is, c.in-Edit.is) (c.edit.ensures _)

pub returns-in-Import : goal.returns-in-Import
returns-in-Import g c = rw (c.in-OnFile.is, c.in-Import.is) (c.import.ensures _)

pub returns-in-ImportOthers : goal.returns-in-ImportOthers
returns-in-ImportOthers g c = rw (c.in-OnFile.is, c.in-ImportOthers.is) (c.import_others.ensures _)

pub returns-in-CheckFile : goal.returns-in-CheckFile
returns-in-CheckFile g c = rw (c.in-OnFile.is, c.in-CheckFile.is) (c.check_file.ensures None _)
