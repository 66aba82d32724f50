use Rattle.std.specs.Prelude.{unwrap_or}
use Rattle.argon2.proofs.Imports.{◌≤◌, ap, arith, rules, ◌∙◌, inl, ident_text, algorithm_name, version_number, parameters_of, settings_of, subst, tag_length, target_of, ◌≡◌, ℕ, List, length, Ok}
use Rattle.argon2.proofs.Imports.{nat_tests, Phc, TargetValue, hash_value, hash_outcome}
use Rattle.argon2.proofs.password_hash_lemmas.MadeValues.{is_made, is_target, made_accepted, made_shows}
use Rattle.argon2.proofs.password_hash.hashing.Argon2PasswordHasherPasswordHash.hash_password_with_salt.Goals as goal

-- the answer if a value was made
answer_made : (target : TargetValue) (password salt : List ℕ) → 8 ≤ length salt → length salt ≤ 48
    → tag_length target.settings ≤ 64 → (v : Phc) → v ≡ hash_value target password salt → length password ≤ 4294967295
    → Ok v ≡ hash_outcome target password salt
answer_made target password salt least most fits v is short = grind (arith, nat_tests)

pub returns : goal.returns
returns c =
    let target = target_of c.args.self.now in
    let password = c.args.password.now in
    let salt = c.args.salt.now in
    let is = is_made target password salt (ident_text c.ident.result) c.from.result c.in_ok-try_from.field-0
    (parameters_of c.params-params.result.now) c.in_ok-salt.salt c.as_bytes.result.now c.in_ok-hash.hash
    (c.ident.ensures ∙ ap algorithm_name c.algorithm.ensures) (c.from.ensures ∙ ap version_number c.version.ensures)
    c.in_ok-try_from.ensures.0 c.params-params.ensures.value c.in_ok-salt.ensures.value c.as_bytes.ensures.value
    c.in_ok-hash.ensures.1 in
    let fits : tag_length (settings_of c.args.self.now) ≤ 64 =
    subst (λ v. unwrap_or v.output_len 32 ≤ 64) c.params-params.ensures.value
    ((rw c.if-not-hash_fits_text.false at c.hash_fits_text.ensures.value).0 (search rules)) in
    let target_fits = is_target c.args.self.now c.params-params.ensures.sound fits in
    let lengths = c.in_ok-salt.ensures.when in
    let bytes = rw c.in_ok-salt.ensures.value at c.as_bytes.ensures.bytes in
    record {
      answer = inl (answer_made target password salt lengths.0 lengths.1 fits _ is
          c.in_ok-hash.ensures.0);
      accepted = record { text = made_accepted target target_fits password salt _ is bytes c.in_ok-hash.ensures.0 };
      shown = made_shows target target_fits password salt _ is;
    }
