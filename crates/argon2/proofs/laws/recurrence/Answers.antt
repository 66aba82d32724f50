use Rattle.argon2.proofs.Imports.{suc, arith, block_of}
use Rattle.argon2.proofs.recurrence.Validity.{sizes-valid}
use Rattle.argon2.proofs.recurrence.History as h
use Rattle.argon2.proofs.laws.recurrence.Goals as goal

pub returns-clause-follow : goal.returns-clause-follow
returns-clause-follow c = λ ctx v first pass lane column a b. h.recurrence ctx (sizes-valid ctx v) first pass lane column a b

pub returns-clause-alone : goal.returns-clause-alone
returns-clause-alone c = λ ctx v first blocks is pass lane column a b.
    let sizes = sizes-valid ctx v in
    h.recurrence_unique_up_to ctx sizes first blocks (block_of ctx first) is (h.recurrence ctx sizes first)
    (suc (h.moment ctx pass column)) pass lane column a b (omega arith)
