use Rattle.argon2_passwd.proofs.Common.{drop, entries_in, entry_of, entry_or_flaw, flaws_from, map, suc, ◌++◌, ◌≡◌}
use Rattle.argon2_passwd.proofs.lines.entries_and_flaws.Given as goal

-- what is left makes the rest of the entries and of the flaws
abbrev pub invariant-loop-k : goal.invariant-loop-k
invariant-loop-k l = let rest = map entry_or_flaw (drop l.k l.lines) in let all = map entry_or_flaw l.lines in
    (map entry_of l.entries.items ++ entries_in rest ≡ entries_in all)
    × (l.flaws.items ++ flaws_from (suc l.k) rest ≡ flaws_from 1 all)
