-- What the program says of a file although nothing fails.
use Rattle.std.specs.Prelude.{List, [], ◌++◌, ℕ, codes, if◌then◌else◌}
use Rattle.argon2_passwd.specs.declared.command.Action.{Action}
use Rattle.argon2_passwd.specs.declared.command.Action.TheVariants.{OnFile}
use Rattle.argon2_passwd.specs.declared.outside.News.{News}

-- the lines that say that the command made the file, and that the log has changes which the file lacks
abbrev pub news_text : List ℕ → News → List ℕ
news_text path news =
    (if news.is_made then codes "argon2-passwd" ++ codes ": made " ++ path ++ codes "\n" else [])
    ++ (if news.is_behind then codes "argon2-passwd: " ++ (path ++ (codes "-wal has changes that "
    ++ (path ++ codes " lacks: keep both\n"))) else [])

-- the news of a command, which are none without a file
abbrev pub news_of : Action → News → List ℕ
news_of (OnFile path task) news = news_text path.now news
news_of _ news = []
