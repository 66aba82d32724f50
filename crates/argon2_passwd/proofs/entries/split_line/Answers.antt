use Rattle.argon2_passwd.proofs.Common.{[], after_first, ap, arith, before_first, Bor, common_steps, is_utf8, List, lit<, Option, parts_now, refl, rules, true, unwrap_or, ℕ, ◌==◌, ◌∙◌, ◌≡◌}
use Rattle.std.proofs.lemmas.Str.{is_utf8-from_IsUtf8, IsUtf8-from_is_utf8}
use Rattle.std.proofs.lemmas.Str.Pattern.{IsSplitOnceResult, split_once_first}
use Rattle.argon2_passwd.proofs.entries.split_line.Goals as goal

-- splitting at the first colon gives the parts before and after it, or the whole line
split_gives_parts : (line : List ℕ) (r : Option (Bor (List ℕ) × Bor (List ℕ))) (other : Bor (List ℕ) × Bor (List ℕ))
    → IsSplitOnceResult 58 line r → other.0.now ≡ line → other.1.now ≡ []
    → parts_now (unwrap_or r other) ≡ (before_first (λ b. b == 58) line, after_first (λ b. b == 58) line)
split_gives_parts line r other is name text = let found = split_once_first 58 line r is (lit< tt) in grind (arith, common_steps)

pub returns-in-Ok : goal.returns-in-Ok
returns-in-Ok c =
    let (same, utf8) = c.in-Ok.ensures.cases in
    let is = is_utf8-from_IsUtf8 _ utf8 in
    ap parts_now c.unwrap_or.ensures
    ∙ split_gives_parts _ c.split_once.result _ c.split_once.ensures.cases refl refl ∙ grind rules

pub returns-in-Err : goal.returns-in-Err
returns-in-Err c =
    let isnt : ¬ (is_utf8 c.args.line.now ≡ true) = λ is. c.in-Err.ensures.cases.0 (IsUtf8-from_is_utf8 _ is) in
    grind rules
