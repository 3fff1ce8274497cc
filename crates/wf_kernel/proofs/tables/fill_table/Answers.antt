use Rattle.std.proofs.Common.{ℕ, pos, sym, ap, subst, ◌∙◌, arith}
use Rattle.std.specs.Prelude.{Option}
use Rattle.wf_pixel.specs.declared.Rect.{Rect}
use Rattle.wf_pixel.specs.Along.{along}
use Rattle.wf_kernel.specs.Bound.{cut_to}
use Rattle.wf_kernel.specs.Placed.{turned_rect, across}
use Rattle.wf_kernel.specs.Spans.{IsReach}
use Rattle.wf_kernel.proofs.Reaches.{reach_holds}
use Rattle.wf_kernel.proofs.tables.fill_table.Goals as goal

pub returns : goal.returns
returns c = record {
  long = c.loop-x.invariant.long;
  holds = λ x a e.
      let side : Rect → ℕ → Option ℕ = λ p j. cut_to c.args.left c.args.right j (along p.x p.w (pos j)) in
      let place : Rect = turned_rect c.args.turn c.args.space c.args.layer.now.dest in
      let r = c.columns_of-reach.result in
      let reach = subst (λ (p : Rect). IsReach (side p) p.w r) c.turned_rect-place.ensures.value c.columns_of-reach.ensures.reach in
      let inside = reach_holds (side place) place.w r x a reach e in
      let high = inside.1.0 in
      c.loop-x.invariant.holds x inside.0 (omega arith) ∙ ap (across c.args.turn c.args.layer.now) (sym inside.1.1);
}
