use Rattle.std.proofs.Common.{◌≡◌, ℕ, ◌<◌, ◌^◌, ◌&&◌, ◌==◌, not, nat_lt, ℤ, Bool, true, false, [], ◌∷◌, Option, Some, None, length, rules, arith, refl, sym, subst}
use Rattle.std.specs.Option.{option_or}
use Rattle.std.proofs.lemmas.Bool.Decides.{nat_tests}
use Rattle.argon2_base.specs.PhcText.{HasBytes}
use Rattle.std.specs.Prelude.{option_map}
use Rattle.argon2.specs.Refusals.{first_of, max_len}
use Rattle.argon2.specs.Settings.{first_fault}
use Rattle.argon2_c.specs.declared.code.TheConstants.{KEYID_TOO_LONG, AD_TOO_LONG, NO_ALGORITHM, NO_VERSION, SECRET_TOO_LONG}
use Rattle.argon2_c.specs.declared.request.Request.{Request}
use Rattle.argon2_c.specs.PhcRequests.{error_code, params_refusal}
use Rattle.argon2_c.proofs.phc.encode.value_of.Goals as goal

-- if nothing is refused, the fourth fault does not hold
first_of-fourth : (o : Option ℤ) (a b c d e : Bool) (i j k l m : ℤ)
    → option_or o (first_of ((a, i) ∷ (b, j) ∷ (c, k) ∷ (d, l) ∷ (e, m) ∷ [])) ≡ None → d ≡ false
first_of-fourth (Some x) a b c d e i j k l m h = absurd cc
first_of-fourth None true b c d e i j k l m h = absurd cc
first_of-fourth None false true c d e i j k l m h = absurd cc
first_of-fourth None false false true d e i j k l m h = absurd cc
first_of-fourth None false false false true e i j k l m h = absurd cc
first_of-fourth None false false false false e i j k l m h = refl

-- a number that is 16 or 19 has 32 bits
version-small : (n : ℕ) → not (n == 16) && not (n == 19) ≡ false → n < 2 ^ 32
version-small n h = grind (arith, nat_tests)

-- the version of parameters that are not refused has 32 bits
params_refusal-version : (r : Request) (keyid associated : ℕ) → params_refusal r None 32 keyid associated 0 ≡ None
    → r.version < 2 ^ 32
params_refusal-version r keyid associated h = version-small r.version (first_of-fourth
    (option_map error_code (first_fault r.m_cost r.t_cost r.lanes None)) (nat_lt 8 keyid) (nat_lt 32 associated)
    (nat_lt 2 r.algorithm) (not (r.version == 16) && not (r.version == 19)) (nat_lt max_len 0)
    KEYID_TOO_LONG AD_TOO_LONG NO_ALGORITHM NO_VERSION SECRET_TOO_LONG h)

pub invariant_of-result : goal.invariant_of-result
invariant_of-result c =
    let salt = c.in-Ok-Ok.ensures in
    let hash = c.in-Ok-Ok.ensures' in
    record {
      grammatical = record {
        algorithm = search rules;
        version = params_refusal-version c.args.request.now (length c.args.keyid.now) (length c.args.associated.now)
            c.requires.params;
        params = search rules;
        salt = subst (HasBytes 8 48) (sym salt.value) ((λ i. omega (arith, c.type_inv.salt i)), salt.when.0, salt.when.1);
        hash = subst (HasBytes 4 64) (sym hash.value) ((λ i. omega (arith, c.type_inv.hash i)), hash.when.0, hash.when.1);
        salted = search rules;
      };
    }
