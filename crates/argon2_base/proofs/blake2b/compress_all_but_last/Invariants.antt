use Rattle.argon2_base.proofs.Imports.{◌≡◌, hash_on}
use Rattle.argon2_base.proofs.blake2b.compress_all_but_last.Given as goal

abbrev pub invariant-blocks-2 : goal.invariant-blocks-2
invariant-blocks-2 l = l.h ≡ hash_on l.fn.h l.total l.input l.i
