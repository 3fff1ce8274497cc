use Rattle.std.proofs.Common.{◌≡◌, ℕ, ◌+◌, ◌*◌, ◌/◌, ◌%◌, length, drop, arith, refl, sym, ap, ◌∙◌}
use Rattle.std.proofs.lemmas.List.Elements.{All-replicate}
use Rattle.std.proofs.lemmas.Nat.{div-add-mod'}
use Rattle.wf_kernel.specs.Bound.{bound_row}
use Rattle.wf_kernel.specs.Strips.{IsStrip}
use Rattle.wf_kernel.proofs.Banded.{all_rows, rows_left, rows_more}
use Rattle.wf_kernel.proofs.Pictures.{length-bound_row}
use Rattle.wf_kernel.proofs.painting.paint_by_strips.Goals as goal

pub loop-i-init : goal.loop-i-init
loop-i-init g c =
    let none : 0 * (4 * c.args.width) ≡ 0 = omega arith in
    record {
      few = omega arith;
      written = ap (λ (j : ℕ). drop j c.args.bytes.now) (sym none);
      kept = c.requires.kept;
      strips = All-replicate (IsStrip c.args.layers.now c.args.width) g.row.N c.no_strip-strips.result
          (c.no_strip-strips.ensures c.args.layers.now c.args.width);
    }

pub paint_next-i-requires-clause-count : goal.paint_next-i-requires-clause-count
paint_next-i-requires-clause-count g c =
    let stride : ℕ = 4 * c.args.width in
    let all : ℕ = length c.args.bytes.now in
    let whole : all / stride * stride + all % stride ≡ all = div-add-mod' all stride in
    let rest = c.requires.count in
    rows_left (all / stride) c.loop-i.i stride c.loop-i.bytes (c.loop-i.auto.bytes ∙ omega arith) c.loop-i.invariant.few

pub loop-i-preserved : goal.loop-i-preserved
loop-i-preserved g c =
    let few = c.paint_next-i.ensures.few in
    let low = c.loop-i-test.true in
    record {
      few = omega arith;
      written =
          rows_more (λ y. bound_row c.args.width c.args.layers.now c.args.background y) c.args.first c.loop-i.i c.paint_next-i.result
          (4 * c.args.width) c.loop-i.bytes c.paint_next-i.new.bytes c.args.bytes.now
          (length-bound_row c.args.width c.args.layers.now c.args.background) c.loop-i.invariant.written c.paint_next-i.ensures.rows;
      kept = c.paint_next-i.ensures.kept;
      strips = c.paint_next-i.ensures.strips;
    }

pub returns : goal.returns
returns g c =
    let few = c.loop-i.invariant.few in
    let end = c.loop-i-test.false in
    all_rows (λ y. bound_row c.args.width c.args.layers.now c.args.background y) c.args.first (length c.args.bytes.now / (4 * c.args.width))
    c.loop-i.i (4 * c.args.width) c.loop-i.bytes c.args.bytes.now
    c.requires.count refl (omega arith) c.loop-i.invariant.written
