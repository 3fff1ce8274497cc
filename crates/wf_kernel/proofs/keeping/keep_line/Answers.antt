use Rattle.std.proofs.Common.{◌≡◌, ◌+◌, refl, sym, ◌∙◌, arith}
use Rattle.std.specs.Prelude.{Some}
use Rattle.wf_pixel.specs.declared.Format.TheVariants.{Rgba8Pre}
use Rattle.wf_image.specs.Bitmap.{drawn_row}
use Rattle.wf_kernel.specs.Bound.{Bound, layer_at}
use Rattle.wf_kernel.specs.Placed.{source_colour}
use Rattle.wf_kernel.proofs.Kept.{layer_is, line_kept}
use Rattle.wf_kernel.proofs.Placed.{down_is}
use Rattle.wf_kernel.proofs.keeping.keep_line.Goals as goal

pub returns : goal.returns
returns c =
    let layers = c.args.layers.now in
    let b : Bound = layer_at layers c.args.i in
    let same : c.index-layers-i.result ≡ b = layer_is layers c.args.i c.index-layers-i.result c.requires.layer c.index-layers-i.is in
    let whole = c.in-Some.whole in
    let stretch = c.in-Some.ensures.some.stretch in
    let high = stretch.high in
    let other = down_is whole.down (c.layer.view_is ∙ same) c.down.ensures.value in
    record {
      line_len = omega arith;
      line = λ image source i d low e.
          let image_is : c.args.image.now ≡ image = let both : Some c.args.image.now ≡ Some image = sym c.requires.source ∙ source in cc in
          let part = c.fill_line.ensures
          ∙ (λ j. drawn_row whole.len Rgba8Pre (λ i. source_colour (same j) (image_is j) (whole.across + i) whole.down)) in
          line_kept b image whole.len whole.across whole.down _ c.fill_line.new.line _ part refl i d low (e ∙ other);
      block_len = c.requires.kept.block_len;
      block = c.requires.kept.block;
    }
