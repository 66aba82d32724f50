-- A block that lends its words for writing.
use Rattle.std.specs.Prelude.{List}
use Rattle.std.specs.Borrow.{Lends, MutBor, Fml, RattleType, Array}
use Rattle.argon2_base.specs.contracts.block.Block.{the_row}

-- the block ends as the words last written after r
abbrev pub LendsWords : (T : RattleType) → MutBor (List T.Denot) → MutBor (List T.Denot) → Fml
LendsWords T s r = Lends (the_row T) (Array T 0) s r (λ words. words)
