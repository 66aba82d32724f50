use Rattle.argon2.proofs.Imports.{◌*◌, rules, arith, refl, sym, div-mul-le_self, parameters_of, segment_length_for}
use Rattle.argon2.specs.Bound.{IsWithin}
use Rattle.argon2.proofs.bound.Bound.admitted_params.Goals as goal

pub returns-clause-asked : goal.returns-clause-asked
unfolding segment_length_for
returns-clause-asked c =
    let asked = parameters_of c.in_ok-params.params in
    let within : IsWithin c.args.self.now asked = search rules in
    let most = within.0 in
    let filled = div-mul-le_self asked.m_cost (4 * asked.p_cost) in (
      record {
        parameters = asked;
        asked = sym c.in_ok-params.ensures;
        within = within;
        memory = omega arith;
      },
      refl,
    )
