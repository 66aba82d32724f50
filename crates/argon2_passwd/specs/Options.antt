-- The bound and the policy that the options make.
use Rattle.std.specs.Prelude.{List, [], ℕ, Option, max, unwrap_or}
use Rattle.argon2.specs.Argon2.{argon2id_with, parameters_of}
use Rattle.argon2.specs.declared.bound.Bound.{Bound}
use Rattle.argon2_policy.specs.Policy.{PolicyValue}
use Rattle.argon2_passwd.specs.declared.options.Options.{Options}

-- the bound that is given, or 2 GiB, 64 passes and 64 lanes, each no less than the parameter
abbrev pub bound_or_default : Options → Bound
bound_or_default options = unwrap_or options.bound (record {
  m_cost = max (parameters_of options.params).m_cost 2097152;
  t_cost = max (parameters_of options.params).t_cost 64;
  p_cost = max (parameters_of options.params).p_cost 64;
})

-- Argon2id of version 0x13 with these parameters, under the secret and the old secret, if they are given, and the bound
abbrev pub policy_by : Options → Option (List ℕ) → Option (List ℕ) → PolicyValue
policy_by options secret old = record {
  target = record { settings = argon2id_with (parameters_of options.params); secret = unwrap_or secret [] };
  old_secret = old;
  bound = bound_or_default options;
}
