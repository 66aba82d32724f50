use Rattle.argon2_passwd.proofs.Common.{[], inl, file_was_used, rules}
use Rattle.argon2_passwd.proofs.run.accounts.show.Goals as goal

pub returns : goal.returns
returns g c input =
    let lines = c.write_lines-written.ensures in
    let closed = rw c.into_store.ensures at c.close.ensures [] _ _ (c.in_ok-accounts.ensures.opened [] c.requires) in
    inl (
      c.write_lines-written.result,
      search rules,
      file_was_used _ _ c.in_ok-accounts.ensures.ok (λ names has. (lines.reads names has, lines.shows names has)) closed,
    )
