use Rattle.argon2_audit.proofs.field.+field_numbered.Given as goal

abbrev pub decreases-field_numbered : goal.decreases-field_numbered
decreases-field_numbered l = l.before
