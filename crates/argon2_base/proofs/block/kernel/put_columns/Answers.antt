use Rattle.argon2_base.proofs.Imports.{◌≡◌, ◌+◌, ◌*◌, ◌/◌, ◌%◌, ◌∙◌, inl, inr, sym, ap, ap₂, arith, slice_index, cases_lt, lane_word, written}
use Rattle.std.proofs.Common.{bit_xor}
use Rattle.argon2_base.proofs.block.kernel.put_columns.Goals as goal

pub vectors-preserved : goal.vectors-preserved
vectors-preserved c =
    let i = c.vectors.i in
    let h = c.args.h in
    let r = c.args.r.now in
    let before = c.vectors.invariant in
    let first = c.put.ensures in
    let second = c.put-in-vectors.ensures in
    record {
      long = second.size;
      done = λ w below half.
          elim (cases_lt w (32 * i)) [
            | inl earlier ↦
                second.below w (omega arith) ∙ first.below w (omega arith) ∙ before.done w earlier half
            | inr now ↦
                let vector : i ≡ w / 32 = omega arith in
                elim (cases_lt w (32 * i + 16)) [
                  | inl left ↦
                      let place : 32 * i + 8 * h + w % 8 ≡ w = omega arith in
                      let lane : 0 + w % 8 ≡ 8 * (w / 16 % 2) + w % 8 = omega arith in
                      let old = ap (slice_index c.vectors.out) place ∙ before.left w (omega arith) in
                      let word = c.left_half.ensures (w % 8) (omega arith) ∙ ap₂ (lane_word c.args.v) vector lane in
                      second.below w (omega arith)
                      ∙ sym (ap (slice_index c.put.new.out) place)
                      ∙ first.here (w % 8) (omega arith)
                      ∙ (λ p. written c.args.xors (old p) (bit_xor (word p) (slice_index r (place p))))
                  | inr right ↦
                      let place : 32 * i + 8 * h + 16 + w % 8 ≡ w = omega arith in
                      let lane : 8 + w % 8 ≡ 8 * (w / 16 % 2) + w % 8 = omega arith in
                      let old = ap (slice_index c.put.new.out) place ∙ first.above w (omega arith)
                      ∙ before.left w (omega arith) in
                      let word = c.right_half.ensures (w % 8) (omega arith) ∙ ap₂ (lane_word c.args.v) vector lane in
                      sym (ap (slice_index c.put-in-vectors.new.out) place)
                      ∙ second.here (w % 8) (omega arith)
                      ∙ (λ p. written c.args.xors (old p) (bit_xor (word p) (slice_index r (place p))))
                ]
          ];
      left = λ w after. second.above w (omega arith) ∙ first.above w (omega arith) ∙ before.left w (omega arith);
      others = λ w half.
          (elim (cases_lt w (32 * i + 8 * h + 16)) [
            | inl low ↦ second.below w low
            | inr high ↦ second.above w (omega arith)
          ])
          ∙ (elim (cases_lt w (32 * i + 8 * h)) [
            | inl low ↦ first.below w low
            | inr high ↦ first.above w (omega arith)
          ])
          ∙ before.others w half;
    }
