use Rattle.std.proofs.Common.{rules, [], refl}
use Rattle.argon2_audit.proofs.session.Session.new.Goals as goal

pub returns-clause-none : goal.returns-clause-none
returns-clause-none c = record {
  lines = [];
  rest = [];
  split = refl;
  at = record {
    same = refl;
    findings = [];
    counted = search rules;
    salts = c.new.ensures;
    feed = search rules;
    read = search rules;
  };
}
