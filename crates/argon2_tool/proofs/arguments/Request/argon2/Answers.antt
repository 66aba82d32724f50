use Rattle.std.proofs.Common.{rules}
use Rattle.argon2.proofs.params_lemmas.Named.{algorithm_named-no, version_numbered-no}
use Rattle.argon2_tool.proofs.arguments.Request.argon2.Goals as goal

pub returns-in_err-algorithm : goal.returns-in_err-algorithm
returns-in_err-algorithm c = search (rules, algorithm_named-no _ c.in_err-algorithm.ensures.1)

pub returns-in_err-version : goal.returns-in_err-version
returns-in_err-version c = search (rules, version_numbered-no _ c.in_err-version.ensures.1)
