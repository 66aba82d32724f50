-- The pages of a program.
use Rattle.std.specs.Prelude.{◌≡◌, ◌⊎◌}
use Rattle.clap.specs.declared.error.kind.ErrorKind.{ErrorKind}
use Rattle.clap.specs.declared.error.kind.ErrorKind.TheVariants.{DisplayHelp, DisplayVersion}

-- the help or the version was asked for
abbrev pub IsPageKind : ErrorKind → Type 0
IsPageKind kind = (kind ≡ DisplayHelp) ⊎ (kind ≡ DisplayVersion)
