use Rattle.argon2_passwd.proofs.Common.{AllZip, entry_or_flaw, IsEntryOrFlaw, LineValue, lines, List, map, unmarked, ◌++◌}
use Rattle.std.specs.Slice.Iter.{split_inclusive_rest}
use Rattle.argon2_passwd.proofs.lines.read_lines.Given as goal

-- what is left says what all lines lack
abbrev pub invariant-loop-line : goal.invariant-loop-line
invariant-loop-line l = (rest : List LineValue)
    → AllZip (IsEntryOrFlaw l.any_text) (lines (split_inclusive_rest l.line-iterator)) rest
    → AllZip (IsEntryOrFlaw l.any_text) (lines (unmarked l.fn.input)) (map entry_or_flaw l.found.items ++ rest)
