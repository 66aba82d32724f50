-- Locks of stored texts. A locked text accepts no password.
use Rattle.std.specs.Prelude.{◌==◌, ℕ, List, [], ◌∷◌, if◌then◌else◌, Bool, Option, Some, None}
use Rattle.std.specs.Option.{is_some}

-- the text after the `!` of a locked text
abbrev pub after_lock : List ℕ → Option (List ℕ)
after_lock [] = None
after_lock (c ∷ text) = if c == 33 then Some text else None

abbrev pub is_locked : List ℕ → Bool
is_locked text = is_some (after_lock text)

-- the text without a `!` before it
abbrev pub without_lock : List ℕ → List ℕ
without_lock [] = []
without_lock (c ∷ text) = if c == 33 then text else c ∷ text
