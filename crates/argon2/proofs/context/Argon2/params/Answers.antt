use Rattle.argon2.proofs.Imports.{ℕ, ◌≤◌, length, arith, subst, length-take, list_bytes}
use Rattle.argon2.specs.Argon2.{IsSound, target_inside}
use Rattle.argon2.specs.declared.context.Argon2.TheInside.{Inside}
use Rattle.argon2_base.specs.declared.byte_list.ByteList.{ByteList}
use Rattle.argon2.proofs.context.Argon2.params.Goals as goal

-- a list has no more bytes than its capacity
list_fits : (n : ℕ) (list : ByteList n) → length (list_bytes list) ≤ n
list_fits n list = omega (arith, length-take list.len list.bytes, list.fits)

is_sound : (a : Inside) → IsSound (target_inside a)
is_sound a = record {
  valid = a.params.valid;
  m_cost = a.params.memory;
  t_cost = a.params.passes;
  keyid = (a.params.keyid.are_bytes, omega arith, list_fits 8 a.params.keyid.bytes);
  associated = (a.params.associated.are_bytes, omega arith, list_fits 32 a.params.associated.bytes);
}

pub returns-clause-sound : goal.returns-clause-sound
returns-clause-sound c = subst IsSound c.self.view_is (is_sound c.self.inside)
