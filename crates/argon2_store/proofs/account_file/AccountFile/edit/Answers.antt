use Rattle.argon2_store.proofs.Imports.{◌≡◌, ◌∙◌, ◌≤◌, None, OnOk, IfSome, IsSomeAnd, IsUtf8, arith, length, refl, sym, option_copied, ∥∥₁_map, get, changed}
use Rattle.argon2_store.proofs.Imports.{Changes, HasNames, HasRows, IsHonest, IsOverlong, Sees, Texts, Writes, Writes-map, Changes-Finishes, gives, HasRows-Changes, edit_value, AreTexts-changed}
use Rattle.argon2_store.proofs.FileLemmas.{EditsText-same, AddsShortName-written, IsOverlong-IsLong, IsOverlong-IsHuge, Serves-unreadable, EditsText-OutOfMemory, EditsText-refused, AddsShortName-same, EditsText-written}
use Rattle.argon2_store.proofs.account_file.AccountFile.edit.Goals as goal
use Rattle.argon2_store.proofs.account_file.AccountFile.edit.Goals.{After-as_deref, After-finish}
use Rattle.argon2_store.proofs.account_file.AccountFile.edit.Goals.{in-Insert, in-Replace, in-Remove, in-Lock+in_ok-locked-in-Lock, in-Unlock}

-- the text that was looked up
looked_up : (g : _) (c : After-as_deref g) (names : Texts) → HasNames c.text_of.new.self names
    → IsHonest g.S.Store c.text_of.new.self.store
    → get names c.args.name.now ≡ option_copied c.as_deref.result
looked_up g c names has clean =
    c.in_ok-text.ensures.shows names has clean ∙ sym c.as_deref.ensures.value

-- the row is committed, or taken back
written : (g : _) (c : After-finish g) (before : Texts) → HasRows g.S.Store c.text_of.new.self.store before
    → let after = gives (edit_value c.args.edit.now) (option_copied c.as_deref.result) in
    Changes g.S.Store c.text_of.new.self.store c.finish.new.store before (changed before c.args.name.now after)
    (IsSomeAnd after (λ text. IsOverlong (edit_value c.args.edit.now) (c.args.name.now, text))) c.finish.result
written g c before has =
    let name = c.args.name.now in
    let after = gives (edit_value c.args.edit.now) (option_copied c.as_deref.result) in
    let done = c.in_ok-change.ensures in
    let known : IsHonest g.S.Store c.text_of.new.self.store → get before name ≡ option_copied c.as_deref.result =
    λ clean. c.in_ok-text.ensures.shows before has clean ∙ sym c.as_deref.ensures.value in
    let sees : IsHonest g.S.Store c.text_of.new.self.store → Sees (g.S.Store.view c.text_of.new.self.store) before =
    λ clean unbroken. has.1.seen clean (c.in_ok-text.ensures.open clean) in
    let edit = edit_value c.args.edit.now in
    let both : IfSome after IsUtf8 × Writes g.S.Store c.text_of.new.self.store c.match-change.self.1.0 before
    (changed before name after) (IsSomeAnd after (λ text. IsOverlong edit (name, text))) c.match-change.done =
    elim c.match-change.branch [
      | in-Insert w ↦
          let makes = rw w.in-Insert.is at done.1 in
          let writes = Writes-map (w.insert-done.ensures.writes before (λ clean. known clean ∙ makes.0))
          (IsOverlong-IsLong edit _ _ done.0 makes.0) in search arith
      | in-Replace w ↦
          let makes = rw w.in-Replace.is at done.1 in
          let writes = Writes-map (w.replace-done.ensures.writes before (λ clean. (sees clean, known clean ∙ makes.0)))
          (IsOverlong-IsHuge edit _) in search arith
      | in-Remove w ↦
          let makes = rw w.in-Remove.is at done.1 in
          let writes = w.remove-done.ensures.writes before (λ clean. (sees clean, known clean ∙ makes.0)) in search arith
      | in-Lock+in_ok-locked-in-Lock w ↦
          let makes = rw w.in-Lock.is at done.1 in
          let writes = Writes-map (w.replace-done-in-Lock.ensures.writes before (λ clean. (sees clean, known clean ∙ makes.0)))
          (IsOverlong-IsHuge edit _) in search arith
      | in-Unlock w ↦
          let makes = rw w.in-Unlock.is at done.1 in
          let writes = Writes-map (w.replace-done-in-Unlock.ensures.writes before (λ clean. (sees clean, known clean ∙ makes.0)))
          (IsOverlong-IsHuge edit _) in search arith
    ] in
    Changes-Finishes g.met.S.Store.settled (search arith) c.match-change.done c.finish.result has
    (AreTexts-changed before name after has.0 c.utf8.name both.0) both.1 c.finish.ensures.finishes

pub returns-in_err-text-clause-call : goal.returns-in_err-text-clause-call
returns-in_err-text-clause-call g c = Serves-unreadable c.in_err-text.ensures.reads c.from_residual.ensures.1

pub returns-in_err-change-clause-call : goal.returns-in_err-change-clause-call
returns-in_err-change-clause-call g c =
    EditsText-refused c.in_ok-text.ensures.reads (looked_up g (goal.at.returns-in_err-change-clause-call g c).After-as_deref)
    c.in_err-change.ensures c.from_residual-in_err-change.ensures.1

pub returns-in-Keep-clause-call : goal.returns-in-Keep-clause-call
returns-in-Keep-clause-call g c =
    let done = rw c.in-Keep.is at c.in_ok-change.ensures in
    EditsText-same c.in_ok-text.ensures.reads (looked_up g (goal.at.returns-in-Keep-clause-call g c).After-as_deref) refl done.0
    done.1

pub returns-in-Keep-clause-short : goal.returns-in-Keep-clause-short
returns-in-Keep-clause-short g c =
    let done = rw c.in-Keep.is at c.in_ok-change.ensures in
    AddsShortName-same c.args.name.now (edit_value c.args.edit.now) (option_copied c.as_deref.result) done.0 done.1

pub returns-in_err-locked-in-Lock-clause-call : goal.returns-in_err-locked-in-Lock-clause-call
returns-in_err-locked-in-Lock-clause-call g c =
    EditsText-OutOfMemory c.in_ok-text.ensures.reads
    (looked_up g (goal.at.returns-in_err-locked-in-Lock-clause-call g c).After-as_deref) refl
    c.from_residual-in_err-locked-in-Lock.ensures.1

pub invariant_of-self-2 : goal.invariant_of-self-2
invariant_of-self-2 g c =
    record { kept = ∥∥₁_map c.text_of.new.self.kept (λ it. HasRows-Changes c.finish.result (written g c it.0 it.1)) }

pub returns-clause-call : goal.returns-clause-call
returns-clause-call g c =
    EditsText-written c.in_ok-text.ensures.reads (looked_up g (goal.at.returns-clause-call g c).After-as_deref)
    c.in_ok-change.ensures.0 (written g (goal.at.returns-clause-call g c).After-finish) c.read_result.ensures

-- a name that had no text is new
pub returns-clause-short : goal.returns-clause-short
returns-clause-short g c =
    let text = option_copied c.as_deref.result in
    let done = c.in_ok-change.ensures in
    let short : text ≡ None → OnOk c.match-change.done (length c.args.name.now ≤ 4096) = λ none. elim c.match-change.branch [
      | in-Insert w ↦ search (arith, w.insert-done.ensures.short)
      | in-Replace w ↦ let makes = rw w.in-Replace.is at done.1 in absurd cc
      | in-Remove w ↦ let makes = rw w.in-Remove.is at done.1 in absurd cc
      | in-Lock+in_ok-locked-in-Lock w ↦ let makes = rw w.in-Lock.is at done.1 in absurd cc
      | in-Unlock w ↦ let makes = rw w.in-Unlock.is at done.1 in absurd cc
    ] in
    AddsShortName-written _ _ text c.match-change.done c.finish.result done.0 short c.finish.ensures.failed
    c.read_result.ensures
