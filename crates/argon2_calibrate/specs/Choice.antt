-- Costs that are chosen by measured times.
use Rattle.std.specs.Prelude.{◌≡◌, ◌⊎◌, ⊤, ℕ, ◌+◌, ◌-◌, ◌*◌, ◌<◌, ◌≤◌, ◌/◌, ◌||◌, zero, suc, max, min, nat_le, nat_lt, if◌then◌else◌, List, [], ◌∷◌, length, Bool, Option, Some, None, unwrap_or, IsFalse}
use Rattle.argon2.specs.Settings.{AreValid, cost_parameters}
use Rattle.argon2_calibrate.specs.declared.choice.Choice.{Choice}
use Rattle.argon2_calibrate.specs.declared.choice.Found.{Found}
use Rattle.argon2_calibrate.specs.declared.options.Options.{Options}
use Rattle.argon2_calibrate.specs.declared.stopwatch.Times.{Times}

-- the least number of passes over `m_cost` blocks: what is asked for, or else 2 below 64 MiB and 1 from 64 MiB on
abbrev pub least_passes : Option ℕ → ℕ → ℕ
least_passes (Some least) m_cost = least
least_passes None m_cost = if nat_lt m_cost 65536 then 2 else 1

-- the estimated time of `passes`, from the time of the least passes and the time of one more pass
abbrev pub time_of : Choice → ℕ → ℕ → ℕ
time_of first pass_time passes = first.time + (passes - first.t_cost) * pass_time

-- The estimated time of one more pass, from the times of the least passes and of `passes`. It is at least half of the average
-- time of a pass, because the first hash can be slower than the others.
abbrev pub pass_time_of : Choice → ℕ → ℕ → ℕ
pass_time_of first passes time = max (max ((time - first.time) / (passes - first.t_cost)) (time / (2 * passes))) 1

-- `passes` take no longer than the target by the estimate, unless they are the least passes. One more pass takes longer, unless
-- `passes` is the greatest number of passes.
pub record IsGreatest (target : ℕ) (first : Choice) (pass_time passes : ℕ) : Type 0 where
  pub some : first.t_cost ≤ passes
  pub within : (time_of first pass_time passes ≤ target) ⊎ (passes ≡ first.t_cost)
  pub greatest : (target < time_of first pass_time (passes + 1)) ⊎ (passes ≡ 4294967295)

-- ---- memory

-- the most memory has 8 blocks for each lane, and the least passes are at least 1
abbrev pub ArePossible : Options → Type 0
ArePossible options = AreValid (cost_parameters options.most (unwrap_or options.min_t 1) options.lanes None)

-- the greatest of three times is above the least by more than a quarter
abbrev pub are_scattered : ℕ → ℕ → ℕ → Bool
are_scattered a b c = nat_lt (min (min a b) c / 4) (max (max a b) c - min (min a b) c)

-- the processor worked for less than three quarters of a time
abbrev pub is_shared : ℕ → ℕ → Bool
is_shared worked time = nat_lt worked (time - time / 4)

-- three hashes were measured: the choice has the least of their times, and says whether they scatter or the processor was shared
abbrev pub IsMeasured : (ℕ → ℕ → Option Times → Type 0) → Choice → Type 0
IsMeasured Takes choice = (times : Times) × (a b c : ℕ) × Takes choice.m_cost choice.t_cost (Some times)
    × (times.taken ≡ a ∷ b ∷ c ∷ []) × (choice.time ≡ min (min a b) c)
    × (choice.busy ≡ (are_scattered a b c || is_shared times.worked choice.time))

-- `most` halved a number of times
abbrev pub halved : ℕ → ℕ → ℕ
halved zero most = most
halved (suc times) most = halved times most / 2

-- memory of `m_cost` blocks was refused, or the least passes over it took longer than the target
abbrev pub IsTooMuch : (ℕ → ℕ → Option Times → Type 0) → Options → ℕ → Type 0
IsTooMuch Takes options m_cost = Takes m_cost (least_passes options.min_t m_cost) None
    ⊎ ((choice : Choice) × (choice.m_cost ≡ m_cost) × (choice.t_cost ≡ least_passes options.min_t m_cost)
    × IsMeasured Takes choice × (options.target < choice.time))

-- the most memory was halved to `m_cost` blocks, each time because it was too much
abbrev pub IsHalved : (ℕ → ℕ → Option Times → Type 0) → Options → ℕ → Type 0
IsHalved Takes options m_cost = (times : ℕ) × (m_cost ≡ halved times options.most)
    × ((before : ℕ) → before < times → IsTooMuch Takes options (halved before options.most))

-- the memory was halved until the least passes took no longer than the target, or until it was the least memory for the lanes
pub record IsFirst (Takes : ℕ → ℕ → Option Times → Type 0) (options : Options) (first : Choice) : Type 0 where
  pub least : first.t_cost ≡ least_passes options.min_t first.m_cost
  pub some : 8 * options.lanes ≤ first.m_cost
  pub affordable : first.m_cost ≤ options.most
  pub memory : IsHalved Takes options first.m_cost
  pub short : (first.time ≤ options.target) ⊎ (first.m_cost < 16 * options.lanes)
  pub measured : IsMeasured Takes first

-- ---- passes

-- the greatest number of passes that is less than each number that took longer than the target
abbrev pub below : ℕ → List Choice → ℕ
below target [] = 4294967295
below target (trial ∷ earlier) = if nat_le trial.time target then below target earlier
    else min (trial.t_cost - 1) (below target earlier)

-- The number of passes that is tried after these trials; the last trial comes first. Before any trial it is one more than the
-- least passes. Then it is the greatest number that by the last time takes no longer than the target, and that is less than each
-- number that took longer.
abbrev pub IsNext : ℕ → Choice → List Choice → ℕ → Type 0
IsNext target first [] passes = passes ≡ min (first.t_cost + 1) 4294967295
IsNext target first (last ∷ earlier) passes = (greatest : ℕ)
    × IsGreatest target first (pass_time_of first last.t_cost last.time) greatest
    × (passes ≡ min greatest (below target (last ∷ earlier)))

-- the last trial that took no longer than the target, or the least passes if no trial did
abbrev pub best : ℕ → Choice → List Choice → Choice
best target first [] = first
best target first (last ∷ earlier) = if nat_le last.time target then last else best target first earlier

-- each trial follows from the trials before, has more passes over the same memory than the best of them, and was measured
abbrev pub AreTrials : (ℕ → ℕ → Option Times → Type 0) → ℕ → Choice → List Choice → Type 0
AreTrials Takes target first [] = ⊤
AreTrials Takes target first (last ∷ earlier) = IsNext target first earlier last.t_cost
    × ((best target first earlier).t_cost < last.t_cost) × (last.m_cost ≡ first.m_cost) × IsMeasured Takes last
    × AreTrials Takes target first earlier

-- the choice uses less than half of the target, though no trial of one more pass took longer than the target
abbrev pub IsShort : ℕ → List Choice → Choice → Type 0
IsShort target trials choice = (choice.time < target / 2) × (choice.t_cost < below target trials)

-- the choice has the same memory and at least as many passes as the first, and took no longer than the target or is the first
pub record IsCandidate (Takes : ℕ → ℕ → Option Times → Type 0) (target : ℕ) (first choice : Choice) : Type 0 where
  pub memory : choice.m_cost ≡ first.m_cost
  pub some : first.t_cost ≤ choice.t_cost
  pub measured : IsMeasured Takes choice
  pub within : (choice.time ≤ target) ⊎ (choice ≡ first)

-- Four numbers of passes were tried, or fewer if no more were left to try, and the choice is the best trial. The machine counts
-- as not busy only if the three times of the choice do not scatter, the processor was not shared, and the choice is not short.
pub record IsBest (Takes : ℕ → ℕ → Option Times → Type 0) (target : ℕ) (first : Choice) (found : Found) : Type 0 where
  pub costs : IsCandidate Takes target first found.choice
  pub trials : List Choice
  pub tried : AreTrials Takes target first trials
  pub best : found.choice ≡ best target first trials
  pub ended : (length trials ≡ 4) ⊎ ((next : ℕ) × IsNext target first trials next × (next ≤ found.choice.t_cost))
  pub steady : IsFalse found.busy → IsFalse found.choice.busy
  pub full : IsFalse found.busy → ¬ IsShort target trials found.choice

-- The parameters are valid, and took no longer than the target, unless they are the least passes over the least memory. The
-- memory is the most memory, halved until it was not refused and the least passes took no longer than the target. The passes are
-- the greatest number that was tried and took no longer than the target, and no fewer than the least.
pub record IsChoice (Takes : ℕ → ℕ → Option Times → Type 0) (options : Options) (found : Found) : Type 0 where
  pub valid : AreValid (cost_parameters found.choice.m_cost found.choice.t_cost options.lanes None)
  pub least : least_passes options.min_t found.choice.m_cost ≤ found.choice.t_cost
  pub within : (found.choice.time ≤ options.target)
      ⊎ ((found.choice.t_cost ≡ least_passes options.min_t found.choice.m_cost)
      × (found.choice.m_cost < 16 * options.lanes))
  pub first : Choice
  pub memory : IsFirst Takes options first
  pub passes : IsBest Takes options.target first found
