use Rattle.std.proofs.Common.{arith, ℕ, List, [], ◌∷◌, ◌++◌, ◌+◌, ◌-◌, ◌<◌, ◌≡◌, ◌≢◌, ◌∙◌, append_assoc, append-nil, sym, ap, take, drop, length, refl}
use Rattle.std.proofs.lemmas.Grind.{common_steps}
use Rattle.std.proofs.lemmas.List.{length-drop, take_all}
use Rattle.std.proofs.lemmas.List.Elements.{All-append}
use Rattle.memchr.specs.Find.{Nowhere, Passes, is_byte}
use Rattle.argon2_audit.specs.Audit.{HasNoFeed, IsAt, IsRead, text_of_lines}
use Rattle.argon2_audit.specs.declared.options.Options.{Options}
use Rattle.argon2_audit.specs.declared.session.Line.{Line}
use Rattle.argon2_audit.specs.declared.session.Session.{Session}
use Rattle.argon2_audit.proofs.session.Session.add.Goals as goal

-- a session that reads a part of a line without a line feed is at the longer line
IsAt-part : {options : Options} {old : Session} {line : Line} {lines : List (List ℕ)} {rest : List ℕ}
    (part : List ℕ) → ((l : List ℕ) → IsRead old.line l → IsRead line (l ++ part)) → HasNoFeed part
    → IsAt options old lines rest → IsAt options (record old { line = line }) lines (rest ++ part)
IsAt-part {rest = rest} part reads feed at = record {
  same = at.same;
  findings = at.findings;
  counted = at.counted;
  salts = at.salts;
  feed = All-append (λ byte. byte ≢ 10) rest part at.feed feed;
  read = reads rest at.read;
}

-- the bytes before the first line feed have no line feed
HasNoFeed-take : (bytes : List ℕ) (end : ℕ) → Nowhere (Passes (is_byte 10) bytes) 0 end → HasNoFeed (take end bytes)
HasNoFeed-take bytes end never = λ k d below. grind (arith, common_steps, never k)

-- bytes with a line feed at an index are the bytes before it, the line feed, and the bytes after it
split-at_feed : (bytes : List ℕ) (end : ℕ) → end < length bytes → Passes (is_byte 10) bytes end
    → bytes ≡ take end bytes ++ 10 ∷ drop (end + 1) bytes
split-at_feed bytes end below is = grind (arith, common_steps)

pub returns-clause-taken : goal.returns-clause-taken
returns-clause-taken g c = λ options all before.
    let b = c.lines.invariant.1 options all before in
    let rest = c.lines.rest.now in
    let whole = take_all (length rest) rest (omega arith) in record {
      lines = b.lines;
      rest = b.rest ++ rest;
      split = b.split ∙ rw append-nil refl;
      at = IsAt-part rest c.in_ok-extend-2.ensures (rw whole at (HasNoFeed-take rest (length rest) c.in_default.ensures)) b.at;
    }

pub lines-preserved : goal.lines-preserved
lines-preserved g c =
    let rest = c.lines.rest.now in
    let end = c.in-Some.end in
    let part = take end rest in
    let first = c.in-Some.ensures in
    let after = drop (end + 1) rest in
    let whole = take_all (length rest - (end + 1)) after (omega (arith, length-drop (end + 1) rest)) in
    let cut = split-at_feed rest end first.0.high first.1 in (
      omega (arith, length-drop (end + 1) rest, ap length whole, c.in_ok-end_line.ensures.lines, c.lines.invariant.0),
      λ options all before.
          let b = c.lines.invariant.1 options all before in record {
            lines = (b.rest ++ part) ∷ b.lines;
            rest = [];
            split = b.split ∙ ap (λ l. text_of_lines b.lines ++ (b.rest ++ l)) cut ∙ rw whole (sym (simp append_assoc));
            at = c.in_ok-end_line.ensures.ended options b.lines (b.rest ++ part)
                (IsAt-part part c.in_ok-extend.ensures (HasNoFeed-take rest end first.0.before) b.at);
          },
    )
