-- What is known after some numbers of passes were tried.
use Rattle.std.proofs.Common.{arith, ◌≡◌, inl, ℕ, ◌+◌, ◌-◌, ◌<◌, ◌≤◌, min, Bool, List, ◌∷◌, length, true, false, ap, refl, Option}
use Rattle.std.specs.Prelude.{nat_le, if◌then◌else◌}
use Rattle.std.proofs.lemmas.Bool.{leb-true}
use Rattle.argon2_calibrate.specs.Choice.{AreTrials, IsCandidate, IsGreatest, IsNext, IsMeasured, below, best, pass_time_of}
use Rattle.argon2_calibrate.specs.declared.choice.Choice.{Choice}
use Rattle.argon2_calibrate.specs.declared.stopwatch.Times.{Times}

-- the search after its first trials
pub record IsTried (Takes : ℕ → ℕ → Option Times → Type 0) (target : ℕ) (first now : Choice)
    (most next count : ℕ) : Type 0 where
  pub costs : IsCandidate Takes target first now
  pub trials : List Choice
  pub count_is : length trials ≡ count
  pub tried : AreTrials Takes target first trials
  pub best : now ≡ best target first trials
  pub after : IsNext target first trials next
  pub bound : most ≡ below target trials
  pub fits : next ≤ most

-- the greatest number of passes that may be tried falls below a trial that took longer than the target
min-bound : (b : Bool) (most next : ℕ) → next ≤ most → (if b then most else next - 1) ≡ (if b then most else min (next - 1) most)
min-bound true most next fits = refl
min-bound false most next fits = omega arith

-- after a trial the better of the trial and the costs so far is a candidate
IsCandidate-trial : {Takes : ℕ → ℕ → Option Times → Type 0} {target : ℕ} {first now : Choice} (trial : Choice) (b : Bool)
    → nat_le trial.time target ≡ b → IsCandidate Takes target first now → now.t_cost < trial.t_cost → trial.m_cost ≡ first.m_cost
    → IsMeasured Takes trial → IsCandidate Takes target first (if b then trial else now)
IsCandidate-trial trial true test costs rises memory took =
    record { memory = memory; some = omega (arith, costs.some); measured = took; within = inl (leb-true _ _ test) }
IsCandidate-trial trial false test costs rises memory took = costs

-- after one trial more the search has one trial more
pub IsTried-trial : {Takes : ℕ → ℕ → Option Times → Type 0} {target : ℕ} {first now : Choice} {most next count : ℕ}
    (trial : Choice) (more : ℕ) (b : Bool) → nat_le trial.time target ≡ b → IsTried Takes target first now most next count
    → now.t_cost < next → trial.t_cost ≡ next → trial.m_cost ≡ first.m_cost → IsMeasured Takes trial
    → IsGreatest target first (pass_time_of first next trial.time) more → IsTried Takes target first (if b then trial else now)
    (if b then most else next - 1) (min more (if b then most else next - 1)) (count + 1)
IsTried-trial {target = target} {first = first} {most = most} {next = next} trial more b test so rises same memory took greatest =
    let bound : (if b then most else next - 1) ≡ below target (trial ∷ so.trials) =
    rw (test, same, ← so.bound) (min-bound b most next so.fits) in record {
      costs = IsCandidate-trial trial b test so.costs (omega arith) memory took;
      trials = trial ∷ so.trials;
      count_is = omega (arith, so.count_is);
      tried = (rw same so.after, rw (same, ← so.best) rises, memory, took, so.tried);
      best = rw (test, so.best) refl;
      after = (more, rw same greatest, ap (min more) bound);
      bound = bound;
      fits = omega arith;
    }
