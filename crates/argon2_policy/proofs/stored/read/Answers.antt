use Rattle.std.proofs.Common.{◌≡◌, ℕ, Bool, false, List, Option, Bor, arith, option_copied}
use Rattle.std.specs.Option.{is_some}
use Rattle.argon2_schemes.specs.Locks.{after_lock, is_locked}
use Rattle.argon2_policy.proofs.DenyingLemmas.{err_is}
use Rattle.argon2_policy.proofs.stored.read.Goals as goal

-- a text that has nothing after a lock is not locked
open_is : (text : List ℕ) (r : Option (Bor (List ℕ))) {b : Bool} → option_copied r ≡ after_lock text → b ≡ is_some r
    → b ≡ false → is_locked text ≡ false
open_is text r behind some isnt = grind arith

pub returns-in-Some-scheme_of-clause-shut : goal.returns-in-Some-scheme_of-clause-shut
returns-in-Some-scheme_of-clause-shut c =
    let free = open_is c.in-Some.text.now _ c.after_lock.ensures c.is_some.ensures c.if-is_some.false in
    rw c.in-Some.is (grind arith)

pub returns-in_err-new-in-None-clause-shut : goal.returns-in_err-new-in-None-clause-shut
returns-in_err-new-in-None-clause-shut c =
    let free = open_is c.in-Some.text.now _ c.after_lock.ensures c.is_some.ensures c.if-is_some.false in
    rw (err_is _ _ c.from_residual.ensures.1, c.in-Some.is) (grind arith)

pub returns-in_ok-new-in-None-clause-found : goal.returns-in_ok-new-in-None-clause-found
returns-in_ok-new-in-None-clause-found c =
    let free = open_is c.in-Some.text.now _ c.after_lock.ensures c.is_some.ensures c.if-is_some.false in
    rw c.in-Some.is (grind arith)
