use Rattle.std.proofs.Common.{◌≡◌, ℕ, ◌+◌, ◌*◌, ◌/◌, ◌-◌, List, length, take, arith, ◌∙◌, sym, ap}
use Rattle.wf_row.specs.Gather.{reversed}
use Rattle.wf_row.proofs.Reversals.{reversed_to, reversed_more, reversed_rest}
use Rattle.wf_row.proofs.reversing.reverse_row.Goals as goal

pub loop-block-preserved : goal.loop-block-preserved
loop-block-preserved c =
    let src : List ℕ = c.args.src.now in
    reversed_more (4 * c.loop-block.block) (16 * c.loop-block.block) (16 * (c.loop-block.block + 1))
    (length src - 16 - 16 * c.loop-block.block) (length src / 4) src c.args.out.now c.loop-block.out c.reverse_lanes-pixels.result
    (omega arith) (omega arith) (omega arith) (omega arith) (omega arith) c.requires.same (omega arith) c.loop-block.invariant
    (c.reverse_lanes-pixels.ensures.value ∙ ap reversed c.load_four.ensures.value)

pub returns : goal.returns
returns c =
    let src : List ℕ = c.args.src.now in
    let at : ℕ = 16 * (length src / 16) in
    let same : length src ≡ length c.loop-block.out = sym c.requires.same ∙ sym c.loop-block.auto.out in
    let all : c.loop-block.block ≡ length src / 16 = omega arith in
    reversed_rest (4 * (length src / 16)) at (length c.loop-block.out - at) (length src / 4) src c.args.out.now c.loop-block.out
    c.reverse_rest.new.out
    (omega arith) (omega arith) (omega arith) c.requires.same (omega arith) (c.loop-block.invariant
    ∙ ap (λ (j : ℕ). reversed_to (16 * j) src c.args.out.now) all)
    (c.reverse_rest.ensures ∙ ap (λ (j : ℕ). reversed (take (j - at) src)) same)
