use Rattle.argon2_passwd.proofs.Common.{FileUse, List}
use Rattle.argon2_passwd.proofs.run.accounts.open.Given as goal

abbrev pub invariant-loop : goal.invariant-loop
invariant-loop g l =
    (uses : List (FileUse g.row.P-File.Denot)) → g.P.Outside.closed l.fn.outside uses → g.P.Outside.closed l.outside uses
