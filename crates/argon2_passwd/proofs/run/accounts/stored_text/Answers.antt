use Rattle.argon2_passwd.proofs.Common.{[], AccountFile, database_of, Err, err_is, FileError, FileUse, get, Ghosts, HasNames, IfOk, inl, IsHonest, ReadsText, IsOpened, List, Ok, file_was_used}
use Rattle.argon2_passwd.proofs.Common.{Option, option_map, Reads, refl, Result, String, string_bytes, Texts, ℕ, ◌≡◌}
use Rattle.argon2_passwd.proofs.run.accounts.stored_text.Goals as goal

module _ {S Y : Type 0} {g : Ghosts S} {path : List ℕ} {Next : FileUse S → Type 0} (name : List ℕ)
    (before after : AccountFile S g) (found : Result (Option (String Y)) FileError) (opened : IsOpened before)
    (reads : Reads found before after) (shows : (names : Texts) → HasNames after names → IfOk found (λ text.
    IsHonest g (database_of after) → get names name ≡ option_map string_bytes text))
    (next : Next (record { path = path; first = database_of before; last = database_of after })) where
  -- a look-up that succeeds reads the text
  text_is_read : (text : Option (String Y)) → found ≡ Ok text
      → ReadsText g path name (Ok (option_map string_bytes text)) Next
  text_is_read text is =
      file_was_used before after opened (λ names has. (rw is at reads names has, rw is at shows names (reads names has).has)) next

  -- a look-up that fails reads the error
  error_is_read : (e : FileError) → found ≡ Err e → ReadsText g path name (Err e) Next
  error_is_read e is = file_was_used before after opened (λ names has. (rw is at reads names has, tt)) next

pub returns-in_err-text : goal.returns-in_err-text
returns-in_err-text g c =
    let found = c.text_of-text.ensures in
    let closed = rw c.into_store.ensures at c.close.ensures [] _ _ (c.in_ok-accounts.ensures.opened [] c.requires) in
    rw (err_is _ _ c.from_residual-in_err-text.ensures.1)
    (inl
    (_, refl, error_is_read c.args.name.now _ _ _ c.in_ok-accounts.ensures.ok found.reads found.shows closed _ c.in_err-text.was))

pub returns : goal.returns
returns g c =
    let found = c.text_of-text.ensures in
    let closed = rw c.into_store.ensures at c.close.ensures [] _ _ (c.in_ok-accounts.ensures.opened [] c.requires) in
    text_is_read c.args.name.now _ _ _ c.in_ok-accounts.ensures.ok found.reads found.shows closed _ c.in_ok-text.was
