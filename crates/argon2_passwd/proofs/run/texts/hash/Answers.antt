use Rattle.argon2_passwd.proofs.Common.{inl, ◌∙◌}
use Rattle.argon2_passwd.proofs.run.texts.hash.Goals as goal

pub returns : goal.returns
returns g c = inl (_, c.in_ok-hash.ensures.ok, rw (c.as_str.ensures.value ∙ c.text.ensures.1) at c.say.ensures)
