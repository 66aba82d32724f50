use Rattle.std.proofs.Common.{arith, ◌≡◌, ◌*◌, ◌≤◌, ℕ, Option, None, sym}
use Rattle.std.specs.Prelude.{unwrap_or}
use Rattle.std.proofs.lemmas.Bool.Decides.{nat_tests}
use Rattle.std.proofs.lemmas.Result.{IfOk-weaker}
use Rattle.argon2.specs.Settings.{AreValid, cost_parameters}
use Rattle.argon2_calibrate.specs.Choice.{ArePossible, IsBest, IsChoice, IsFirst, least_passes}
use Rattle.argon2_calibrate.specs.declared.choice.Choice.{Choice}
use Rattle.argon2_calibrate.specs.declared.choice.Found.{Found}
use Rattle.argon2_calibrate.specs.declared.options.Options.{Options}
use Rattle.argon2_calibrate.specs.declared.stopwatch.Times.{Times}
use Rattle.argon2_calibrate.proofs.search.search.Goals as goal

-- costs are valid if valid costs have the same lanes, and they have 8 blocks for each lane and a pass
AreValid-within : (most least p m t : ℕ) → AreValid (cost_parameters most least p None) → 8 * p ≤ m → 1 ≤ t
    → AreValid (cost_parameters m t p None)
AreValid-within most least p m t valid room some = grind (arith, nat_tests)

-- the best passes over the memory that was found first are a choice
IsChoice-best : (Takes : ℕ → ℕ → Option Times → Type 0) (options : Options) (first : Choice) (found : Found)
    → ArePossible options → 1 ≤ first.t_cost → IsFirst Takes options first → IsBest Takes options.target first found
    → IsChoice Takes options found
IsChoice-best Takes options first found possible some of best =
    let memory = best.costs.memory in
    let more = best.costs.some in
    let room = of.some in
    let least : least_passes options.min_t found.choice.m_cost ≡ first.t_cost = rw memory (sym of.least) in record {
      valid = AreValid-within options.most (unwrap_or options.min_t 1) options.lanes found.choice.m_cost found.choice.t_cost
          possible (omega arith) (omega arith);
      least = omega arith;
      within = grind (arith, best.costs.within, of.short, of.least);
      first = first;
      memory = of;
      passes = best;
    }

pub returns : goal.returns
returns g c =
    let first = c.in_ok-first.first.choice in
    IfOk-weaker c.most_passes.result _ _ (λ found best. IsChoice-best _ c.args.options first found c.requires
    c.in_ok-first.ensures.some c.in_ok-first.ensures.first best) c.most_passes.ensures
