-- Salts, which a generator draws after a seed of the system.
use Rattle.std.specs.Prelude.{◌≡◌, ℕ, List}
use Rattle.rand_core.specs.Steps.{steps_u32, stream_of}
use Rattle.rand_core.specs.Stream.{fill_bytes}
use Rattle.rand_chacha.specs.ChaCha.{ChaCha, next_word, of_seed}

-- the next 16 bytes of a ChaCha20 generator
abbrev pub next_salt : ChaCha → List ℕ
next_salt rng = (fill_bytes 16 (stream_of (steps_u32 (next_word 10)) rng)).0

-- the salt is the first 16 bytes of a generator whose seed the system gave
abbrev pub IsSalt : (List ℕ → Type 0) → List ℕ → Type 0
IsSalt Gives salt = (seed : List ℕ) × Gives seed × (salt ≡ next_salt (of_seed seed))
