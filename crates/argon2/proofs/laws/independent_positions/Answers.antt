use Rattle.argon2.proofs.recurrence.Validity.{sizes-valid}
use Rattle.argon2.proofs.recurrence.Independence.{positions_agree, argon2i_independent, argon2id_independent}
use Rattle.argon2.proofs.laws.independent_positions.Goals as goal

pub returns-clause-argon2i : goal.returns-clause-argon2i
returns-clause-argon2i c = λ one other v alike i first second pass lane column.
    positions_agree one other alike first second pass lane column (argon2i_independent one pass _ i)

pub returns-clause-argon2id : goal.returns-clause-argon2id
returns-clause-argon2id c = λ one other v alike id first second lane column low.
    positions_agree one other alike first second 0 lane column (argon2id_independent one (sizes-valid one v) column id low)
