use Rattle.argon2_passwd.proofs.Common.{Bool, database_of, drop, entry_or_flaw, has_name, HasNames, has_text, IsHonest, List, Looks, map, new_lines, None, Texts, ℕ, ◌++◌, ◌||◌, ◌≡◌}
use Rattle.argon2_passwd.proofs.run.others.new_lines.Given as goal

-- names were looked up, and what is left makes the rest of the lines, unless their names are taken by now
abbrev pub invariant-loop-line : goal.invariant-loop-line
invariant-loop-line g l = Looks None l.fn.accounts l.accounts
    × ((known : Texts) → HasNames l.fn.accounts known → IsHonest g.S.Store (database_of l.accounts)
    → (is_taken : List ℕ → Bool) × ((name : List ℕ) → is_taken name ≡ (has_name l.names name || has_text known name))
    × (map entry_or_flaw l.found.items ++ new_lines is_taken (map entry_or_flaw (drop l.line-index l.lines))
    ≡ new_lines (has_text known) (map entry_or_flaw l.lines)))
