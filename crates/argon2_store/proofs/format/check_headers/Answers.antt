use Rattle.argon2_store.proofs.Imports.{arith, rules, inl, halves}
use Rattle.argon2_store.proofs.OpenLemmas.{IsOfFormat-after_read, not_HasOtherFormat, IsOfPair-IsOfDatabase, OnlyReadsBoth-then}
use Rattle.argon2_store.proofs.format.check_headers.Goals as goal

pub returns-in-Err-probe_format-clause-refused : goal.returns-in-Err-probe_format-clause-refused
returns-in-Err-probe_format-clause-refused g c =
    IsOfPair-IsOfDatabase _ c.into.ensures.1 (λ clean damaged. search (arith, halves))
    (λ clean n has. rw c.into.ensures.0
    (IsOfFormat-after_read g.D.Disk _ _ _ _ n _ c.in-Ok-false.ensures.faults c.is_damaged.ensures.same.seen
    (rw c.is_damaged.ensures.same.seen at (c.in-Err-probe_format.ensures.error clean) has.1.0 has.1.1 n)))
    (λ clean left may. inl (
      c.is_damaged.ensures.same.crash left.log (c.probe_format.ensures.log.crash left.log may.0),
      c.probe_format.ensures.db.crash left.db may.1,
    ))

pub returns-in-Ok-eq0-clause-known : goal.returns-in-Ok-eq0-clause-known
returns-in-Ok-eq0-clause-known g c clean =
    not_HasOtherFormat _ _ (search rules) (rw c.is_damaged.ensures.same.seen at (c.in-Ok-eq0.ensures.found clean))

pub returns-in-Ok-eq0-clause-reads : goal.returns-in-Ok-eq0-clause-reads
returns-in-Ok-eq0-clause-reads g c =
    OnlyReadsBoth-then c.is_damaged.ensures.same c.probe_format.ensures.log c.probe_format.ensures.db
