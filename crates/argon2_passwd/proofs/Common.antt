-- Words that the proofs of this crate share, and lemmas on passwords, lines, failures and uses of files.
pub use Rattle.std.proofs.Common.{[], ap, append-nil, append_assoc, arith, Bool, Bor, drop, Err, false, inl, inr, length, List, lit<, map, min, None, Ok, Option, refl}
pub use Rattle.std.proofs.Common.{Result, rules, Some, subst, suc, sym, take, true, ℕ, ⊎_elim, ◌++◌, ◌+◌, ◌<◌, ◌==◌, ◌||◌, ◌∙◌, ◌∷◌, ◌≡◌}
pub use Rattle.std.proofs.lemmas.Option.{IfSome_then}
pub use Rattle.std.proofs.lemmas.Grind.{common_steps}
pub use Rattle.std.specs.Io.BufRead.{drop_through, DropsThrough, strip_last}
pub use Rattle.std.specs.Io.KnownBytes.{WriteAppends}
pub use Rattle.std.specs.List.{after_first, AllZip, before_first, IsFirstMatchOrLen, slice_get, slice_split}
pub use Rattle.std.specs.Option.{is_some, option_copied, unwrap_or}
pub use Rattle.std.specs.Prelude.{All, IfOk, IfSome, String, string_bytes, ◌≢◌}
pub use Rattle.std.specs.Str.{is_utf8}
pub use Rattle.std.specs.Str.Lines.{lines, lines_of_parts, strip_carriage_return}
pub use Rattle.argon2_rows.proofs.TableLemmas.{err_is, StaysQuiet-trans}
pub use Rattle.argon2_schemes.specs.Locks.{after_lock, without_lock}
pub use Rattle.argon2_store.specs.AccountFile.{HasCause, HasFailedBy, IsClosed, Reads}
pub use Rattle.argon2_passwd.specs.Answers.{AccountFile, AddsEntries, additions, Appends, AreSaid, after_line, Bor, database_of, entries_in, entry_of, entry_or_flaw}
pub use Rattle.argon2_passwd.specs.Answers.{FileError, FileUse, Flaw, flaws_from, get, Ghosts, has_name, HasNames, has_text, IsHonest, ReadsText, ReportsFirst, IsOpened, IsOpenFor}
pub use Rattle.argon2_passwd.specs.Answers.{Keeps, LineValue, line_has_name, Looks, NameTaken, new_line, new_lines, next_salt, file_failure, ReadsPassword, option_map, password_of, phc_of, scheme_of}
pub use Rattle.argon2_passwd.specs.Answers.{accepted_of, AdmitsStored, fresh_of, SaysValue, Serves, Stays, Texts, value_after}
pub use Rattle.argon2_passwd.specs.Lines.{IsEntryOrFlaw, MayBeAdded, parts_now, unmarked}
pub use Rattle.argon2_passwd.specs.Passwords.{IsNotNew, IsUnread, line_of}
pub use Rattle.argon2_passwd.specs.Answers.{Failure, is_denial, status_of}
use Rattle.argon2_policy.specs.Policy.{IsChangeRefusal, Stream}
pub use Rattle.argon2_passwd.specs.Answers.{Denial, Denies, PolicyValue, policy_value, RefusesChange}
use Rattle.argon2_passwd.specs.Answers.{is_refusal}

-- a stream to which nothing is written keeps its bytes
pub unwritten_keeps : (known : Option (List ℕ)) → Keeps known known
unwritten_keeps known = grind arith

-- the first password of an input, if it is known under equal bytes
pub password_by_bytes : (input : Option (List ℕ)) {p q : List ℕ} → p ≡ q → IfSome input (λ bytes. password_of bytes ≡ Some q)
    → IfSome input (λ bytes. password_of bytes ≡ Some p)
password_by_bytes input same found = subst (λ p. IfSome input (λ bytes. password_of bytes ≡ Some p)) (sym same) found

-- the password on the line after the first, if it is known under equal bytes
pub next_password_by_bytes : (input rest : Option (List ℕ)) {p q : List ℕ} → p ≡ q → DropsThrough input rest 10
    → IfSome rest (λ bytes. password_of bytes ≡ Some q) → IfSome (after_line input) (λ bytes. password_of bytes ≡ Some p)
next_password_by_bytes None rest same drops found = tt
next_password_by_bytes (Some bytes) rest same drops found =
    password_by_bytes (Some (drop_through 10 bytes)) same (rw drops at found)

-- `P` holds of the passwords on the first two lines, and nothing is written
pub reads_two : {P : List ℕ → List ℕ → Type 0} (output input rest : Option (List ℕ)) {first second p q : List ℕ} → first ≡ p
    → second ≡ q
    → DropsThrough input rest 10 → IfSome input (λ bytes. password_of bytes ≡ Some p)
    → IfSome rest (λ bytes. password_of bytes ≡ Some q)
    → P first second → Keeps output output × ReadsPassword (λ a. ReadsPassword (P a) (after_line input)) input
reads_two output input rest same other drops found next it =
    (unwritten_keeps output, (_, password_by_bytes input same found, (_, next_password_by_bytes input rest other drops next, it)))

-- what the lines of the bytes that were read say is what the lines of the input say
pub read_lines_are_said : (input : Option (List ℕ)) (any_text : Bool) (read : List ℕ) (said : List LineValue)
    → IfSome input (λ known. read ≡ known)
    → AreSaid any_text read said → IfSome input (λ bytes. AreSaid any_text bytes said)
read_lines_are_said input any_text read said same are =
    IfSome_then input same (λ known all. subst (λ bytes. AreSaid any_text bytes said) all are)

-- a change that the policy refuses is refused by what is stored, or no text is made
pub change_refusal_refuses : (policy : PolicyValue) (first second : List ℕ) (stored : Option (List ℕ)) (before after : Stream)
    (why : Denial) → IsChangeRefusal policy first second stored before after why → RefusesChange policy first second stored why
change_refusal_refuses policy first second stored before after why (inl (denies, same)) = inl denies
change_refusal_refuses policy first second stored before after why (inr (admits, making, drawn)) = inr (admits, making)

-- an error of the file that is no refusal gives status 3
pub failed_file_has_status_3 : (e : FileError) → is_refusal e ≡ false → status_of (file_failure e) ≡ 3
failed_file_has_status_3 e file = grind arith

module _ {S : Type 0} {g : Ghosts S} where
  -- a file that was opened, used as `Does` says, and closed is one use of the file
  pub file_was_used : {path : List ℕ} {Does : AccountFile S g → AccountFile S g → Type 0} {Next : FileUse S → Type 0}
      (before after : AccountFile S g) → IsOpened before → Does before after
      → Next (record { path = path; first = database_of before; last = database_of after }) → IsOpenFor g path Does Next
  file_was_used before after opened does next =
      record { before = before; after = after; opened = opened; does = does; next = next }

  -- the same use, with another fact of it
  pub same_use_then : {path : List ℕ} {Does : AccountFile S g → AccountFile S g → Type 0} {Next After : FileUse S → Type 0}
      (looked : IsOpenFor g path Does Next)
      → After (record { path = path; first = database_of looked.before; last = database_of looked.after })
      → IsOpenFor g path Does After
  same_use_then looked next = file_was_used looked.before looked.after looked.opened looked.does next

  -- a text that was looked up, if it is known under equal bytes
  pub text_read_by_bytes : {path : List ℕ} (name : List ℕ) {Next : FileUse S → Type 0} {o p : Option (List ℕ)} → o ≡ p
      → ReadsText g path name (Ok o) Next → ReadsText g path name (Ok p) Next
  text_read_by_bytes {path} name {Next} same looked = subst (λ x. ReadsText g path name (Ok x) Next) same looked
