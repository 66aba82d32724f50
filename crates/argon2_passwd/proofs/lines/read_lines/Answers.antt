use Rattle.argon2_passwd.proofs.Common.{[], AllZip, append-nil, arith, entry_or_flaw, IsEntryOrFlaw, lines, rules, subst, sym, unmarked, ◌==◌, ◌∷◌}
use Rattle.std.proofs.lemmas.List.Sorted.{answers_always}
use Rattle.argon2_passwd.proofs.LineLemmas.{lines_first, map-push, lines-empty}
use Rattle.argon2_passwd.proofs.lines.read_lines.Goals as goal

pub loop-line-preserved : goal.loop-line-preserved
loop-line-preserved c =
    let steps = c.in-Some.ensures.steps in
    let (always, first) = steps.1.2 (λ b. b == 10) (answers_always _ _ _ (λ f a r g h. search rules)) in
    let line = lines_first _ _ _ _ steps.2 steps.0 steps.1.1 first in
    let x = c.read_line.result in
    let said = subst (λ l. IsEntryOrFlaw c.args.any_text l (entry_or_flaw x)) c.line_len.ensures.value c.read_line.ensures in
    λ rest are.
    let all = c.loop-line.invariant (entry_or_flaw x ∷ rest)
    (subst (λ ls. AllZip (IsEntryOrFlaw c.args.any_text) ls (entry_or_flaw x ∷ rest)) (sym line) (said, are)) in
    rw c.in_ok-push.ensures.items
    (subst (AllZip (IsEntryOrFlaw c.args.any_text) (lines (unmarked c.args.input.now)))
    (map-push entry_or_flaw c.loop-line.found.items x rest) all)

pub returns : goal.returns
returns c =
    subst (AllZip (IsEntryOrFlaw c.args.any_text) (lines (unmarked c.args.input.now))) (append-nil _)
    (c.loop-line.invariant [] (lines-empty _ _ c.in-None.ensures.steps.0))

pub loop-line-init : goal.loop-line-init
loop-line-init c = grind arith
