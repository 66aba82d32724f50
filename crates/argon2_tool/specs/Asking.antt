-- What the program says on a terminal.
use Rattle.argon2_tool.specs.declared.arguments.Command.{Command}
use Rattle.argon2_tool.specs.declared.arguments.Command.TheVariants.{Digest, Long, Tag, Phc, Verify, Help, Version}
use Rattle.argon2_tool.specs.declared.asking.Awaited.{Awaited}
use Rattle.argon2_tool.specs.declared.asking.Awaited.TheVariants.{Nothing, Input, Password}

-- what a command reads: `tag`, `phc` and `verify` take a password
abbrev pub awaited_by : Command → Awaited
awaited_by (Digest len) = Input
awaited_by (Long len) = Input
awaited_by (Tag request len salt) = Password
awaited_by (Phc request salt) = Password
awaited_by (Verify text) = Password
awaited_by Help = Nothing
awaited_by Version = Nothing
