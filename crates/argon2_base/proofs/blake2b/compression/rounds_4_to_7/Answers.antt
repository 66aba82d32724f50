use Rattle.argon2_base.proofs.blake2b_lemmas.Rounds.{one_more}
use Rattle.argon2_base.proofs.blake2b.compression.rounds_4_to_7.Goals as goal

pub returns : goal.returns
returns c = λ start before.
    one_more _ _ _ (one_more _ _ _ (one_more _ _ _ (one_more _ _ _ before c.round-v.ensures) c.round-v-2.ensures)
    c.round-v-3.ensures) c.round.ensures
