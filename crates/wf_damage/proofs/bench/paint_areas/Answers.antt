use Rattle.std.proofs.Common.{ℕ, List, take, map, length, get_or, sym, ap, subst, ◌∙◌, refl, pos}
use Rattle.std.specs.Prelude.{sum}
use Rattle.std.proofs.lemmas.List.{take_more}
use Rattle.wf_pixel.specs.declared.Rect.{Rect}
use Rattle.wf_image.specs.Bitmap.{Bitmap}
use Rattle.wf_damage.specs.Bench.{area, IsRise, over_picture}
use Rattle.wf_damage.proofs.Painted.{over_none, over_more, part_size, part_format, rise_none, rise_more, sum_more}
use Rattle.wf_damage.proofs.bench.paint_areas.Goals as goal

pub loop-i-init : goal.loop-i-init
loop-i-init g c =
    record {
      picture = sym (over_none c.args.scene.now c.args.contents.now c.args.target.now
          (ap (λ (l : List ℕ). length l) (sym c.bytes-bytes.ensures.value) ∙ c.bytes-bytes.ensures.len) c.requires.pixels);
      painted = rise_none (g.B.Brush.count c.args.brush.now);
      size = refl;
      format = refl;
    }

pub loop-i-preserved : goal.loop-i-preserved
loop-i-preserved g c =
    let s = c.args.scene.now in
    let contents = c.args.contents.now in
    let list = c.args.list.now in
    let i : ℕ = c.loop-i.i in
    let none : Rect = record { x = pos 0; y = pos 0; w = 0; h = 0 } in
    let r : Rect = get_or list i none in
    let low = c.loop-i-test.true in
    let inv = c.loop-i.invariant in
    record {
      picture =
          c.part.ensures.picture
          ∙ over_more s contents (take i list) r c.args.target.now c.loop-i.target c.requires.size c.requires.pixels inv.picture
          ∙ ap (λ (rs : List Rect). over_picture s contents rs c.args.target.now) (sym (take_more list i none low));
      painted =
          subst (λ (n : ℕ). IsRise (g.B.Brush.count c.args.brush.now) (g.B.Brush.count c.part.new.self) n) (sym (sum_more list i none low))
          (rise_more (g.B.Brush.count c.args.brush.now) (g.B.Brush.count c.loop-i.brush) (g.B.Brush.count c.part.new.self)
          (sum (map area (take i list))) (area r) inv.painted c.part.ensures.painted);
      size = ap (λ (b : Bitmap). b.size) c.part.ensures.picture ∙ part_size s contents r c.loop-i.target ∙ inv.size;
      format = ap (λ (b : Bitmap). b.format) c.part.ensures.picture ∙ part_format s contents r c.loop-i.target ∙ inv.format;
    }
