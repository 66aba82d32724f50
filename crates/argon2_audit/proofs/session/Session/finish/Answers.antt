use Rattle.std.proofs.Common.{arith, rules, ◌≡◌, ◌∙◌, ◌<◌, ◌++◌, Bool, true, false, List, [], ◌∷◌, ℕ, length, MatchBool, vec_len, ◌==◌, refl, sym, ap, append-nil, inl, inr}
use Rattle.std.proofs.lemmas.Result.{on_ok_weaker}
use Rattle.argon2_audit.specs.Audit.{text_of_lines}
use Rattle.argon2_audit.proofs.session.Session.finish.Goals as goal

-- a line is empty if no byte of it is kept
IsRead-none : (is_long : Bool) (items line : List ℕ) → length items ≡ 0
    → MatchBool is_long ((length items ≡ 4096) × (4096 < length line)) (items ≡ line) → line ≡ []
IsRead-none true items line none long = absurd (let full = long.0 in omega arith)
IsRead-none false [] line none is = sym is
IsRead-none false (x ∷ xs) line none is = absurd (omega arith)

-- no byte is kept of an empty line
IsRead-empty : (is_long : Bool) (items line : List ℕ)
    → MatchBool is_long ((length items ≡ 4096) × (4096 < length line)) (items ≡ line) → line ≡ [] → length items ≡ 0
IsRead-empty true items line long none = absurd (let past = long.1 in let empty = ap length none in omega arith)
IsRead-empty false items line is none = ap length (is ∙ none)

pub returns-then-is_empty : goal.returns-then-is_empty
returns-then-is_empty g c = λ options bytes b.
    let none = IsRead-none _ _ b.rest (search rules) b.at.read in
    (b.lines, b.at.findings, inl (b.split ∙ rw none (append-nil (text_of_lines b.lines))), b.at.counted)

pub returns : goal.returns
returns g c = on_ok_weaker c.end_line.result (λ ended options bytes b.
    let after = ended options b.lines b.rest b.at in (
      b.rest ∷ b.lines,
      after.findings,
      inr (
        b.rest,
        b.lines,
        refl,
        b.split ∙ ap (λ l. text_of_lines b.lines ++ l) (append-nil b.rest),
        λ none. absurd (
            let items = IsRead-empty _ _ b.rest b.at.read none in
            let empty : vec_len c.args.self.now.line.bytes ≡ 0 = search rules in
            let clash : false ≡ true = c.if-is_empty.ensures ∙ ap (λ n. n == 0) empty in cc),
      ),
      after.counted,
    ))
    c.end_line.ensures.ended
