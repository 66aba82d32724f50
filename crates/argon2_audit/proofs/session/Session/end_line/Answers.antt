use Rattle.std.proofs.Common.{◌∷◌, arith, refl}
use Rattle.std.proofs.lemmas.List.Elements.{All-nil}
use Rattle.std.proofs.Math.Path.{fun_ext}
use Rattle.argon2_audit.proofs.session.Session.end_line.Goals as goal

pub returns-clause-ended : goal.returns-clause-ended
returns-clause-ended g c = λ options lines rest at.
    let finding = c.end-finding.result in
    let counts = c.add-2.ensures in
    let texts = c.in_ok-is_equal.ensures in
    let known = at.counted in record {
      same = at.same;
      findings = finding ∷ at.findings;
      counted = record {
        found = ((at.feed, rw at.same at (c.end-finding.ensures.finding rest at.read)), known.found);
        all = omega (arith, known.all, counts.lines);
        classes = λ n. rw (counts.classes n, known.classes n, c.class.ensures, at.same) refl;
        short_salts = rw (counts.short_salts, known.short_salts, c.has_short_salt.ensures, at.same) refl;
        equal_salts = rw (counts.equal_salts, known.equal_salts, texts.equal, fun_ext at.salts) refl;
        other_keys = rw (counts.other_keys, known.other_keys, c.shows_other_key.ensures, at.same) refl;
      };
      salts = λ salt. rw (texts.kept salt, at.salts salt) refl;
      feed = All-nil _;
      read = c.end-finding.ensures.next;
    }
