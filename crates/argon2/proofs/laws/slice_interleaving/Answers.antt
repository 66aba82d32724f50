use Rattle.argon2.proofs.Imports.{first_block, matrix_of}
use Rattle.argon2.proofs.recurrence.Validity.{sizes-valid}
use Rattle.argon2.proofs.context_lemmas.Schedules.{schedules_agree}
use Rattle.argon2.proofs.context_lemmas.Filling.{schedules_fill}
use Rattle.argon2.proofs.context_lemmas.LastColumn.{tag_of_matrix}
use Rattle.argon2.proofs.laws.slice_interleaving.Goals as goal

pub returns-clause-agree : goal.returns-clause-agree
returns-clause-agree c =
    λ ctx v memory size pass slice _ four one other a b. schedules_agree ctx
    (sizes-valid ctx v) pass slice four one other a b memory size

pub returns-clause-fill : goal.returns-clause-fill
returns-clause-fill c =
    λ ctx v first memory begins schedules are. schedules_fill ctx (sizes-valid ctx v) first schedules are memory begins

pub returns-clause-tag : goal.returns-clause-tag
unfolding matrix_of
returns-clause-tag c = λ ctx v password salt n memory begins schedules are.
    tag_of_matrix ctx (sizes-valid ctx v) password salt n _
    (schedules_fill ctx (sizes-valid ctx v) (first_block ctx password salt n) schedules are memory begins)
