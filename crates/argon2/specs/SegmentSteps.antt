-- Steps by the index in their segment.
use Rattle.std.specs.Prelude.{ℕ, ◌+◌, ◌*◌, ◌<◌}
use Rattle.argon2.specs.declared.context.fill.Step.{Step}
use Rattle.argon2.specs.Rfc9106.{Context, segment_length}
use Rattle.argon2.specs.Layout.{HasSizes}
use Rattle.argon2.specs.Steps.{IsStep}

-- the column of a slice and an index
abbrev pub column_of : Context → Step → ℕ
column_of ctx at = at.slice * segment_length ctx + at.index

-- costs that are not refused, and a step of a segment
pub record IsStepAt (ctx : Context) (at : Step) : Type 0 where
  pub sizes : HasSizes ctx
  pub step : IsStep ctx at.pass at.lane (column_of ctx at)
  pub in_slices : at.slice < 4
  pub in_segment : at.index < segment_length ctx
