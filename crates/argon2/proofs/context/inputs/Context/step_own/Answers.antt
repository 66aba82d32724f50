use Rattle.argon2.proofs.Imports.{◌≡◌, ap, slice_index, made_block, previous, column_of, in_memory}
use Rattle.argon2.proofs.context_lemmas.InMemory.{made_by_places, previous_in_memory}
use Rattle.argon2.proofs.context_lemmas.SegmentParts.{step_parts}
use Rattle.argon2.proofs.context.inputs.Context.step_own.Goals as goal

pub returns-clause-step : goal.returns-clause-step
returns-clause-step c = λ memory all parts.
    let ctx = c.args.self.now in
    let at = c.args.at in
    let column = column_of ctx at in
    let p = c.previous_column.ensures.value in
    let x = c.block-x.ensures memory parts in
    let y = c.block-y.ensures memory parts in
    let l = c.reference-lane.ensures.lane in
    let r = c.reference-lane.ensures.column in
    let before = previous_in_memory ctx memory at.pass at.lane column in
    let x' : c.block-x.result.now ≡ previous ctx (in_memory ctx memory) at.pass at.lane column = cc in
    let word = c.word-word.ensures (in_memory ctx memory) (ap (λ b. slice_index b 0) x') in
    let by = made_by_places ctx memory at.pass at.lane column c.word-word.result word in
    let own = parts.in_own at.index c.requires.step.in_segment in
    let made = c.put_mixed_words.ensures.words _ _ c.xor_of.ensures in
    let xors = c.xors.ensures in
    let is : c.put_mixed_words.new.out ≡ made_block ctx (in_memory ctx memory) at.pass at.lane column = cc in
    step_parts ctx at memory c.args.before.now c.args.own.now c.args.after.now _ c.requires.step c.requires.parts.is_own all
    parts is
