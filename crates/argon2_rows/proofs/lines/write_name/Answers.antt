use Rattle.argon2_rows.proofs.Imports.{◌≡◌, ◌∙◌, sym, map-id, chars, length, take, shown_char}
use Rattle.std.proofs.lemmas.Iterator.{YieldsList-from_chars}
use Rattle.std.proofs.lemmas.Iterator.Consumers.{YieldsList-end, YieldsList-so_far, YieldsList-turn}
use Rattle.argon2_io.proofs.Prefixes.{prefix_of_each, whole_is_prefix}
use Rattle.argon2_rows.proofs.lines.write_name.Goals as goal

pub returns-in_err-write_char-clause-cut : goal.returns-in_err-write_char-clause-cut
returns-in_err-write_char-clause-cut g c =
    let yields = YieldsList-from_chars c.args.name.now c.utf8.name cc in
    let turn = YieldsList-turn yields c.loop-c.yielded _ c.loop-c.yielded_by _ _ _ c.in-Some.is c.next.ensures.steps in
    let so_far : c.loop-c.yielded ≡ take (length c.loop-c.yielded) (chars c.args.name.now) =
    sym (map-id c.loop-c.yielded) ∙ YieldsList-so_far yields c.loop-c.yielded _ c.loop-c.yielded_by in
    prefix_of_each shown_char (chars c.args.name.now) (length c.loop-c.yielded) _ _ _ _ turn.0 (rw so_far at c.loop-c.invariant)
    (rw turn.1 at c.write_char.ensures.cut)

pub returns : goal.returns
returns g c =
    let all = YieldsList-end (YieldsList-from_chars c.args.name.now c.utf8.name cc) c.loop-c.yielded _ c.loop-c.yielded_by _ _
    c.in-None.is c.next.ensures.steps in
    let text : c.loop-c.yielded ≡ chars c.args.name.now = sym (map-id c.loop-c.yielded) ∙ all.0 in
    rw (← text) record { written = c.loop-c.invariant; cut = whole_is_prefix _ _ _ c.loop-c.invariant }
