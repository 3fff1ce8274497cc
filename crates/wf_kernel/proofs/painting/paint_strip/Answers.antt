use Rattle.std.proofs.Common.{◌≡◌, ℕ, ◌+◌, take, ap, ◌∙◌, arith}
use Rattle.wf_pixel.specs.declared.Format.TheVariants.{Rgba8Pre}
use Rattle.wf_image.specs.Bitmap.{drawn_row}
use Rattle.wf_kernel.specs.Bound.{bound_colour, no_bound}
use Rattle.wf_kernel.proofs.Stacks.{laid_next}
use Rattle.wf_kernel.proofs.Cuts.{strip_drawn}
use Rattle.wf_kernel.proofs.painting.paint_strip.Goals as goal

pub loop-i-preserved : goal.loop-i-preserved
loop-i-preserved c =
    let s = c.args.strip in
    record {
      row =
          c.lay_row.ensures.row
          ∙ laid_next s.first s.width c.args.layers.now c.loop-i.i no_bound c.args.background c.args.y c.loop-i.row (omega arith)
          c.loop-i.invariant.row;
      kept = c.lay_row.ensures.kept;
    }

pub returns-clause-row : goal.returns-clause-row
returns-clause-row c =
    let s = c.args.strip in
    let end : c.loop-i.i ≡ s.top = omega arith in
    c.loop-i.invariant.row
    ∙ ap (λ (i : ℕ). drawn_row s.width Rgba8Pre (λ x. bound_colour (take i c.args.layers.now) c.args.background (s.first + x) c.args.y)) end
    ∙ strip_drawn c.args.layers.now c.args.background c.args.width c.args.y s c.requires.strip c.requires.from c.requires.bottom
