use Rattle.argon2_base.proofs.Imports.{◌∙◌, sym, ap, arith, fields_left}
use Rattle.argon2_base.proofs.phc_lemmas.Separators.{Lacks_not}
use Rattle.argon2_base.proofs.phc_lemmas.PhcTextLemmas.{no_list_read, list_read}
use Rattle.argon2_base.proofs.phc.fields.params_field.Goals as goal

pub returns-in_default-cut-clause-only : goal.returns-in_default-cut-clause-only
returns-in_default-cut-clause-only c = λ ps rest good k e.
    let parts = ap fields_left c.in-Some.is ∙ c.first_field.ensures in
    let r = no_list_read _ _ rest ps (λ p is. Lacks_not 61 p.0 p.1 (rw is at c.in_default-cut.ensures)) (sym parts ∙ e) in
    (c.new-in_default-cut.ensures ∙ r.0, parts ∙ r.1)

pub returns-in_default-read-clause-only : goal.returns-in_default-read-clause-only
returns-in_default-read-clause-only c = λ ps rest good k e.
    let pair = c.in-Some-cut._pair in
    let r = list_read _ _ rest ps (pair.0.now, pair.1.now) c.in-Some-cut.ensures.0 k
    (sym (ap fields_left c.in-Some.is ∙ c.first_field.ensures) ∙ e) in
    grind arith

pub returns-clause-only : goal.returns-clause-only
returns-clause-only c = λ ps rest good k e.
    let pair = c.in-Some-cut._pair in
    let r = list_read _ _ rest ps (pair.0.now, pair.1.now) c.in-Some-cut.ensures.0 k
    (sym (ap fields_left c.in-Some.is ∙ c.first_field.ensures) ∙ e) in
    grind arith
