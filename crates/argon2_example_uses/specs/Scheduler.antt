-- A schedule of rounds: each lane takes a turn, and so on, until the slice is filled.
use Rattle.std.specs.Prelude.{ℕ, zero, suc, List, [], ◌++◌}
use Rattle.std.specs.List.{range_with_len}
use Rattle.argon2.specs.Rfc9106.{Context}
use Rattle.argon2.specs.Steps.{turn_count}

-- all lanes in order, in each of n rounds
unfoldable pub lanes_by_round : ℕ → ℕ → List ℕ
lanes_by_round lanes zero = []
lanes_by_round lanes (suc n) = range_with_len 0 lanes ++ lanes_by_round lanes n

-- all lanes in order, in one round for each column that a lane of the slice fills
abbrev pub lanes_in_rounds : Context → ℕ → ℕ → List ℕ
lanes_in_rounds ctx pass slice = lanes_by_round ctx.p_cost (turn_count ctx pass slice)
