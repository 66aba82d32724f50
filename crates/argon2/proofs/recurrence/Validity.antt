-- What the costs of a valid context amount to.
use Rattle.argon2.proofs.Imports.{◌≡◌, subst, ℕ, ◌*◌, ◌^◌, ◌<◌, ◌≤◌, None, arith, nat_tests, le-div, div-mul-le_self, IsNone, first_fault, Context, IsValid, segment_length_for, IsSize}
use Rattle.argon2.proofs.Imports.{HasSizes}

-- the inequalities of RFC 9106, section 3.1, give sizes
sizes_of_costs : (ctx : Context) → 1 ≤ ctx.p_cost → ctx.p_cost < 2 ^ 24 → 8 * ctx.p_cost ≤ ctx.m_cost
    → ctx.m_cost < 2 ^ 32 → 1 ≤ ctx.t_cost → ctx.t_cost < 2 ^ 32 → HasSizes ctx
unfolding segment_length_for
sizes_of_costs ctx some most room small pass few =
    let below = div-mul-le_self ctx.m_cost (4 * ctx.p_cost) in
    let two = le-div 2 ctx.m_cost (4 * ctx.p_cost) (omega arith) (omega arith) in
    omega arith

-- costs that are not refused have these sizes
pub sizes_of_none : (ctx : Context) → ctx.m_cost < 2 ^ 32 → ctx.t_cost < 2 ^ 32
    → IsNone (first_fault ctx.m_cost ctx.t_cost ctx.p_cost None) → HasSizes ctx
sizes_of_none ctx small_m small_t none =
    let costs : (1 ≤ ctx.p_cost) × (ctx.p_cost ≤ 16777215) × (8 * ctx.p_cost ≤ ctx.m_cost) × (1 ≤ ctx.t_cost) =
    grind (arith, nat_tests) in
    sizes_of_costs ctx costs.0 (omega arith) costs.2 small_m costs.3 small_t

-- a valid context has these sizes
pub sizes-valid : (ctx : Context) → IsValid ctx → HasSizes ctx
sizes-valid ctx valid =
    sizes_of_costs ctx valid.lanes.0 valid.lanes.1 valid.memory.0 valid.memory.1 valid.passes.0 valid.passes.1

-- what such costs have as one of their sizes
pub is_size : (of : Context → ℕ) (ctx seen : Context) (n : ℕ) → ctx ≡ seen → n ≡ of ctx
    → ctx.m_cost < 2 ^ 32 → ctx.t_cost < 2 ^ 32 → IsNone (first_fault ctx.m_cost ctx.t_cost ctx.p_cost None)
    → IsSize of seen n
is_size of ctx seen n same value small_m small_t none =
    subst (λ x. IsSize of x n) same (record { value = value; sizes = sizes_of_none ctx small_m small_t none })
