use Rattle.std.proofs.Common.{ℕ, ◌+◌, ◌-◌, ◌*◌, arith, refl}
use Rattle.std.proofs.lemmas.List.Elements.{All-replicate}
use borrow.Rule.Slice.PartMut.{put_mid}
use Rattle.wf_kernel.specs.Bound.{bound_colour}
use Rattle.wf_kernel.specs.Strips.{IsStrip}
use Rattle.wf_kernel.proofs.Partly.{part_none, part_more}
use Rattle.wf_kernel.proofs.parts.paint_part.Goals as goal

pub loop-y-init : goal.loop-y-init
loop-y-init c =
    record {
      partly = part_none c.args.width c.args.height (bound_colour c.args.layers.now c.args.background) c.args.part c.args.bytes.now;
      kept = c.requires.kept;
      strips = All-replicate (IsStrip c.args.layers.now c.args.part.right) 65 c.no_strip-strips.result
          (c.no_strip-strips.ensures c.args.layers.now c.args.part.right);
    }

pub loop-y-preserved : goal.loop-y-preserved
loop-y-preserved c =
    let w : ℕ = c.args.width in
    let y : ℕ = c.loop-y.y in
    let p = c.args.part in
    let at : ℕ = 4 * (y * w + p.left) in
    let k : ℕ = at + 4 * (p.right - p.left) - at in
    let test = c.loop-y-test.true in
    let bottom = c.requires.part.bottom in
    record {
      partly =
          part_more w c.args.height (bound_colour c.args.layers.now c.args.background) p y at k c.args.bytes.now c.loop-y.bytes
          (put_mid at k c.loop-y.bytes c.paint_piece.new.row) c.paint_piece.new.row c.requires.part (omega arith) (omega arith)
          c.requires.count refl (omega arith) refl c.paint_piece.ensures.row c.loop-y.invariant.partly;
      kept = c.paint_piece.ensures.kept;
      strips = c.paint_piece.ensures.strips;
    }
