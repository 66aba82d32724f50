use Rattle.argon2_passwd.proofs.Common.{inl, file_was_used, rules}
use Rattle.argon2_passwd.proofs.run.edits.edit_file.Goals as goal

pub returns : goal.returns
returns g c before was =
    let closed = rw c.into_store.ensures at c.close.ensures before _ _ (c.in_ok-accounts.ensures.opened before was) in
    inl (c.edit-done.result, search rules, file_was_used _ _ c.in_ok-accounts.ensures.ok c.edit-done.ensures.call closed)
