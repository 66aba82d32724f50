use Rattle.argon2.proofs.Imports.{length, ap, ◌≡◌, ◌∙◌, sym, arith, length-replicate}
use Rattle.argon2.proofs.context_lemmas.Refusing.{checked_first}
use Rattle.argon2.proofs.context.Argon2.hash_password_into_with_data.Goals as goal

pub returns-clause-answer : goal.returns-clause-answer
returns-clause-answer g c =
    let enough : length c.as_mut_slice-blocks.result.now ≡ c.block_count.result =
    ap length (c.as_mut_slice-blocks.ensures.value ∙ c.in_ok-memory.ensures.zeroed) ∙ length-replicate _ _
    ∙ sym c.block_count.ensures.value in
    checked_first c.args.self.now (length c.args.associated.now)
    (length c.args.out.now) _ _ c.args.pwd.now c.args.salt.now _ _ _
    (omega arith) c.in_ok-check.ensures.answer enough c.hash.ensures.answer
