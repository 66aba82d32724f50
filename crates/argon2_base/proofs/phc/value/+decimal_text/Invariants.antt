use Rattle.argon2_base.proofs.phc.value.+decimal_text.Given as goal

abbrev pub decreases-decimal_text : goal.decreases-decimal_text
decreases-decimal_text l = l.n
