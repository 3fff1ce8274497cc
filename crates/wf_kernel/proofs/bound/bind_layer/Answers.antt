use Rattle.std.proofs.Common.{◌≡◌, pos, rules, sym, subst, refl}
use Rattle.std.specs.Prelude.{Option, IsTrue}
use Rattle.std.specs.Option.{option_copied}
use Rattle.wf_image.specs.Bitmap.{Bitmap}
use Rattle.wf_image.specs.Contents.{image_of}
use Rattle.wf_model.specs.Picture.{CanShow}
use Rattle.wf_pixel.specs.declared.Rect.{Rect}
use Rattle.wf_pixel.specs.declared.Size.{Size}
use Rattle.wf_pixel.specs.Along.{along}
use Rattle.wf_pixel.specs.Choice.{has_sides}
use Rattle.wf_kernel.proofs.Placed.{turned_sides}
use Rattle.wf_kernel.specs.Bound.{cut_to}
use Rattle.wf_kernel.specs.Spans.{IsReach}
use Rattle.wf_kernel.specs.Prepared.{IsTable}
use Rattle.wf_kernel.proofs.bound.bind_layer.Goals as goal

pub invariant_of-result : goal.invariant_of-result
invariant_of-result c =
    let turn = c.args.scene.now.turn in
    let source : option_copied c.find-source.result ≡ image_of c.args.layer.stream c.args.contents.now = search rules in
    let mask : option_copied c.find.result ≡ image_of c.args.layer.mask c.args.contents.now = search rules in
    let place = c.turned_rect-place.ensures.value in
    record {
      showable = subst (λ (m : Option Bitmap). CanShow c.args.layer (option_copied c.find-source.result) m) (sym mask)
          (subst (λ (s : Option Bitmap). CanShow c.args.layer s (image_of c.args.layer.mask c.args.contents.now)) (sym source)
          c.requires.fits);
      space_is = subst (λ (s : Size). IsTrue (has_sides s)) (sym c.turned-space.ensures)
          (turned_sides turn c.args.scene.now.size c.requires.sides);
      order = c.requires.order;
      right_high = c.requires.right;
      columns_are = subst (λ (r : Rect). IsReach (λ j. cut_to c.args.left c.args.right j (along r.x r.w (pos j))) r.w c.columns_of.result)
          place c.columns_of.ensures.reach;
      rows_are = subst (λ (r : Rect). IsReach (λ j. along r.y r.h (pos j)) r.h c.rows_of.result) place c.rows_of.ensures;
      hides_below = λ t. c.hides_below.ensures t _ refl refl;
      crossed_is = c.is_crossed.ensures;
      walk_is = c.walk_of.ensures.walk;
      table_is = λ is. subst (λ (s : Size). IsTable turn s c.args.left c.args.right c.args.layer c.args.table.now)
          (sym c.turned-space.ensures) (c.requires.table (c.walk_of.ensures.table is));
    }
