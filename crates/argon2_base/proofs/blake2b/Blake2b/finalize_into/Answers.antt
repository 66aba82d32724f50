use Rattle.argon2_base.proofs.Imports.{◌≡◌, ℕ, length, refl, ap, sym, ◌∙◌, blake2b}
use Rattle.argon2_base.proofs.blake2b_lemmas.HasherFields.{held_by_fields, digest_written}
use Rattle.argon2_base.proofs.blake2b.Blake2b.finalize_into.Goals as goal

pub returns : goal.returns
returns c = λ m held.
    let s = c.self.inside in
    let len : s.len ≡ length c.args.out.now = ap (λ r. r.digest_len) c.self.view_is ∙ sym c.requires in
    let before = held_by_fields c.args.self s.len s.total s.h s.buffer m c.self.view_is held in
    digest_written s.len s.total s.h s.buffer m _ _ _ _ _ _ _ c.held_len-filled.result before
    c.held_len-filled.ensures refl c.copy_from_slice.ensures.after refl c.compress.ensures
    c.le_bytes.ensures c.copy_from_slice-2.ensures.after refl ∙ ap (λ (n : ℕ). blake2b n m) len
