use Rattle.std.proofs.Common.{◌≡◌, ℕ, ◌+◌, ◌-◌, ◌*◌, ◌++◌, drop, refl, sym, ap, ◌∙◌, arith}
use Rattle.wf_pixel.specs.declared.Rgba.{Rgba}
use Rattle.wf_pixel.specs.declared.Format.TheVariants.{Rgba8Pre}
use Rattle.wf_image.specs.Bitmap.{drawn_row}
use Rattle.wf_kernel.specs.Bound.{bound_colour}
use Rattle.wf_kernel.proofs.Stacks.{strip_more}
use Rattle.wf_kernel.proofs.painting.paint_piece.Goals as goal

pub loop-first-init : goal.loop-first-init
loop-first-init c =
    let colour : ℕ → Rgba = λ x. bound_colour c.args.layers.now c.args.background (c.args.left + x) c.args.y in
    let none : c.args.left - c.args.left ≡ 0 = omega arith in
    record {
      strips = c.requires.strips;
      kept = c.requires.kept;
      few = omega arith;
      from = omega arith;
      within = c.requires.order;
      written = sym (ap (λ (n : ℕ). drawn_row n Rgba8Pre colour ++ drop (4 * n) c.args.row.now) none);
    }

pub loop-first-preserved : goal.loop-first-preserved
loop-first-preserved c =
    let left : ℕ = c.args.left in
    let at : ℕ = c.loop-first.first in
    let a : ℕ = at - left in
    let n : ℕ = c.strip_for-strip.result.width in
    let colour : ℕ → Rgba = λ x. bound_colour c.args.layers.now c.args.background (left + x) c.args.y in
    let strip = c.strip_for-strip.ensures.strip in
    let first = c.strip_for-strip.ensures.first in
    let some = strip.some c.args.y c.strip_for-strip.ensures.from c.strip_for-strip.ensures.bottom in
    let within = strip.within in
    let from = c.loop-first.invariant.from in
    let place : (x : ℕ) → c.strip_for-strip.result.first + x ≡ left + (a + x) = λ x. omega arith in
    let piece = c.paint_strip.ensures.row
    ∙ (λ j. drawn_row n Rgba8Pre (λ x. bound_colour c.args.layers.now c.args.background (place x j) c.args.y)) in
    let next : a + n ≡ at + n - left = omega arith in
    record {
      strips = c.strip_for-strip.ensures.strips;
      kept = c.paint_strip.ensures.kept;
      few = omega arith;
      from = omega arith;
      within = omega arith;
      written =
          strip_more colour a n (4 * a) (4 * a + 4 * n - 4 * a) c.loop-first.row c.paint_strip.new.row c.args.row.now refl (omega arith)
          c.loop-first.invariant.written piece
          ∙ ap (λ (k : ℕ). drawn_row k Rgba8Pre colour ++ drop (4 * k) c.args.row.now) next;
    }
