use Rattle.std.proofs.Common.{List, ap, map, sym, subst, ◌∙◌}
use Rattle.std.specs.Prelude.{sum}
use Rattle.wf_pixel.specs.declared.Rect.{Rect}
use Rattle.wf_image.specs.Bitmap.{Bitmap}
use Rattle.wf_damage.specs.Bench.{area, IsRise, over_picture}
use Rattle.wf_damage.proofs.Painted.{over_all, picture_size}
use Rattle.wf_damage.proofs.bench.paint_changes.Goals as goal

pub paint_areas-requires-clause-size : goal.paint_areas-requires-clause-size
paint_areas-requires-clause-size g c =
    let k = c.args.kept.now in
    ap (λ (b : Bitmap). b.size) c.requires.kept.picture_is ∙ picture_size k.scene k.contents k.picture.format ∙ c.requires.size

pub returns : goal.returns
returns g c =
    let k = c.args.kept.now in
    let s = c.args.scene.now in
    let contents = c.args.contents.now in
    let list = c.as_slice.ensures.value ∙ c.areas_by-list.ensures.areas in
    let picture_is =
    c.paint_areas.ensures.picture
    ∙ ap (λ (rs : List Rect). over_picture s contents rs k.picture) list
    ∙ over_all k.scene s k.contents contents k.picture k.picture.format c.requires.kept.four (sym c.requires.size)
    c.requires.kept.picture_is in
    record {
      kept = ap (λ (b : Bitmap). record { kind = k.kind; scene = k.scene; contents = k.contents; picture = b }) picture_is;
      compared = c.areas_by-list.ensures.compared;
      painted =
          subst (λ (rs : List Rect).
          IsRise (g.B.Brush.count c.args.brush.now) (g.B.Brush.count c.paint_areas.new.brush) (sum (map area rs))) list
          c.paint_areas.ensures.painted;
    }
