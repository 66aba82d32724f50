use Rattle.argon2_passwd.proofs.Common.{[], entry_or_flaw, inl, unwritten_keeps, map, file_was_used, read_lines_are_said}
use Rattle.argon2_passwd.proofs.run.others.import_others.Goals as goal

pub returns : goal.returns
returns g c output =
    let said = map entry_or_flaw c.in_ok-lines.lines.items in
    let lines = read_lines_are_said (g.R.Read.remaining c.args.input.now) c.args.any_text c.in_ok-bytes.bytes.items said
    c.in_ok-bytes.ensures.ok (rw c.as_slice.ensures.value at c.in_ok-lines.ensures) in
    let adds = rw c.as_slice-2.ensures.value at c.add_others-added.ensures in
    let closed = rw c.into_store.ensures at c.close.ensures [] _ _ (c.in_ok-accounts.ensures.opened [] c.requires) in
    inl (unwritten_keeps _, (said, lines, file_was_used _ _ c.in_ok-accounts.ensures.ok adds closed))
