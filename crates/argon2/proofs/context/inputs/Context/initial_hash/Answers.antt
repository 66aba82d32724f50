use Rattle.argon2.proofs.Imports.{◌≡◌, ℕ, ◌++◌, List, [], ap, arith, blake2b, Context, initial_hash, number, with_length}
use Rattle.argon2.proofs.context.inputs.Context.initial_hash.Goals as goal

-- ten pieces, one after the other, are the initial hash's message
initial_hash_of_pieces : (ctx : Context) (password salt : List ℕ) (n p m t v y len : ℕ) (secret associated hash : List ℕ)
    → p ≡ ctx.p_cost → m ≡ ctx.m_cost → t ≡ ctx.t_cost → v ≡ ctx.version → y ≡ ctx.algorithm
    → secret ≡ ctx.secret → associated ≡ ctx.associated
    → hash ≡ blake2b len (((((((((([] ++ number p) ++ number n) ++ number m) ++ number t) ++ number v) ++ number y)
    ++ with_length password) ++ with_length salt) ++ with_length secret) ++ with_length associated) → len ≡ 64
    → hash ≡ initial_hash ctx password salt n
unfolding initial_hash
initial_hash_of_pieces ctx password salt n p m t v y len secret associated hash ep em et ev ey es ea e l = cc

pub returns : goal.returns
returns c =
    let numbers = c.update_number-6.ensures.holds _ (c.update_number-5.ensures.holds _
    (c.update_number-4.ensures.holds _ (c.update_number-3.ensures.holds _
    (c.update_number-2.ensures.holds _ (c.update_number.ensures.holds _ c.new-hasher.ensures.holds))))) in
    let message = c.update_input-4.ensures.holds _ (c.update_input-3.ensures.holds _
    (c.update_input-2.ensures.holds _ (c.update_input.ensures.holds _ numbers))) in
    initial_hash_of_pieces c.args.self.now c.args.pwd.now c.args.salt.now c.args.out_len _ _ _ _ _ _ _ _ _
    c.lanes.ensures.value (ap (λ (x : Context). x.m_cost) c.self.view_is) c.passes.ensures.value
    (rw c.from.ensures (ap (λ (x : Context). x.version) c.self.view_is)) c.algorithm_number.ensures
    (ap (λ (x : Context). x.secret) c.self.view_is) (ap (λ (x : Context). x.associated) c.self.view_is)
    (c.finalize_into.ensures _ message) (omega arith)
