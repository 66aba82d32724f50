use Rattle.argon2.proofs.Imports.{◌≡◌, ◌+◌, ◌*◌, map, ap, ◌∙◌, arith, rules, map-set, xor_blocks, place_of, lane_length, reference, column_of, step}
use Rattle.argon2.proofs.context_lemmas.InMemory.{first_word_read, made_by_places, words_read}
use Rattle.argon2.proofs.context.inputs.Context.step.Goals as goal

pub returns-clause-step : goal.returns-clause-step
unfolding step
returns-clause-step g c =
    let ctx = c.args.self.now in
    let f = g.B.MemoryBlock.words in
    let m = c.args.memory.now in
    let at = c.args.at in
    let q = c.place-previous.ensures.value ∙ ap (λ column. at.lane * lane_length ctx + column) c.previous_column.ensures.value in
    let word = c.word-word.ensures _
    (first_word_read f ctx m at.pass at.lane (column_of ctx at) _ _ _ (search rules) q c.first_word.ensures) in
    let r : c.place-reference.result ≡ place_of ctx (reference ctx at.pass at.lane (column_of ctx at) c.word-word.result) =
    c.place-reference.ensures.value
    ∙ (λ i. c.reference-lane.ensures.lane i * lane_length ctx + c.reference-lane.ensures.column i) in
    let p = c.place-place.ensures.value in
    let n = c.column.ensures.value in
    let x = words_read f m c.place-previous.result c.index-memory-previous-2.result (grind arith) c.index-memory-previous-2.is in
    let y = words_read f m c.place-reference.result c.index-memory-reference.result (grind arith) c.index-memory-reference.is in
    let b = c.put_mixed.ensures.block _ _ (c.xor_of.ensures ∙ (λ i. xor_blocks (x i) (y i))) in
    let old = words_read f m c.place-place.result c.index-memory-place.result (grind arith) c.index-memory-place.is in
    let xors = c.xors.ensures in
    let set = map-set f m c.place-place.result c.put_mixed.new.self in
    let by = made_by_places ctx (map f m) at.pass at.lane (column_of ctx at) _ word in
    cc
