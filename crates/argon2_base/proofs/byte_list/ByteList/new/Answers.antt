use Rattle.argon2_base.proofs.Imports.{rules}
use Rattle.argon2_base.proofs.phc_lemmas.ByteListLemmas.{drop-filled}
use Rattle.argon2_base.proofs.byte_list.ByteList.new.Goals as goal

pub invariant_of-result-clause-zeros : goal.invariant_of-result-clause-zeros
invariant_of-result-clause-zeros g c = drop-filled g.row.N _ _ (search rules)
