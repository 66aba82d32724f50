use Rattle.argon2_base.proofs.Imports.{◌∙◌, ap, lit<, Some, None, split_parts, fields_of}
use Rattle.argon2_base.proofs.phc_lemmas.Separators.{Lacks_from, slice_split-first, slice_split-lacks}
use Rattle.argon2_base.proofs.phc.fields.first_field.Goals as goal

pub returns-in-Some : goal.returns-in-Some
returns-in-Some c =
    let parts = split_parts 36 c.args.text.now (Some (c.in-Some.field, c.in-Some.rest)) c.in-Some.ensures.cases (lit< tt) in
    ap fields_of parts.0 ∙ slice_split-first 36 c.in-Some.field.now c.in-Some.rest.now (Lacks_from 36 c.in-Some.field.now parts.1)

pub returns-in-None : goal.returns-in-None
returns-in-None c =
    let none = split_parts 36 c.args.text.now None c.in-None.ensures.cases (lit< tt) in
    slice_split-lacks 36 c.args.text.now (Lacks_from 36 c.args.text.now none)
