use Rattle.std.proofs.Common.{◌≡◌, ℕ, ◌+◌, ◌-◌, ◌*◌, ◌<◌, List, length, get_or, refl, sym, ap, subst, ◌∙◌, arith}
use Rattle.std.specs.Prelude.{Some}
use Rattle.std.specs.Simd.Lanes.{chunk}
use Rattle.std.proofs.lemmas.Simd.{length-chunk}
use Rattle.std.proofs.lemmas.List.{get_or_default}
use Rattle.wf_pixel.specs.declared.Size.{Size}
use Rattle.wf_row.specs.Gather.{AreColumns}
use Rattle.wf_image.specs.Bitmap.{Bitmap, pixel}
use Rattle.wf_kernel.specs.Bound.{Bound, layer_at}
use Rattle.wf_kernel.specs.Placed.{across, is_crossed}
use Rattle.wf_kernel.specs.Prepared.{prepared_as}
use Rattle.wf_kernel.proofs.Gathered.{room_for, in_column}
use Rattle.wf_kernel.proofs.Shown.{has_colours}
use Rattle.wf_kernel.proofs.Kept.{layer_is, block_kept, places_are}
use Rattle.wf_kernel.proofs.keeping.keep_block.Goals as goal

pub gather_columns-requires-clause-within : goal.gather_columns-requires-clause-within
gather_columns-requires-clause-within c = λ k d less.
    let layers = c.args.layers.now in
    let image = c.args.image.now in
    let r = c.index-layers-i.result in
    let same : r ≡ layer_at layers c.args.i = layer_is layers c.args.i r c.requires.layer c.index-layers-i.is in
    let prepared = prepared_as c.layer.view_is c.layer.invariant in
    let whole = c.in-Some.whole in
    let stretch = c.in-Some.ensures.some.stretch in
    let high = stretch.high in
    let source = ap (λ (b : Bound). b.source) same ∙ c.requires.source in
    let crossed = ap (λ (b : Bound). is_crossed b.turn b.layer) same ∙ c.requires.crossed in
    let table = prepared.table_is c.in-Table.is in
    let long = table.long in
    let count : whole.x + whole.len - whole.x ≡ whole.len = omega arith in
    let len = length-chunk whole.x (whole.x + whole.len - whole.x) c.layer.inside.table.now (omega arith) in
    let low : k < whole.len = omega arith in
    let places : List ℕ = chunk whole.x (whole.x + whole.len - whole.x) c.layer.inside.table.now in
    let place : get_or places k d ≡ across r.turn r.layer (whole.across + k) =
    get_or_default places k d 0 less
    ∙ places_are r c.layer.inside.table.now whole (whole.x + whole.len - whole.x) table stretch count k low in
    let inner = in_column r image whole k prepared.showable source stretch crossed low in
    let width : c.size-width.result.w ≡ image.size.w = ap (λ (size : Size). size.w) c.size-width.ensures.size in
    let bytes = ap (λ (l : List ℕ). length l) c.bytes.ensures.value in
    let room = room_for image c.min-first.result (across r.turn r.layer (whole.across + k)) 8 (has_colours r image prepared.showable source)
    (sym bytes ∙ c.bytes.ensures.len) (omega arith) inner.1 in
    let same_place : 4 * (c.min-first.result + get_or places k d * c.size-width.result.w)
    ≡ 4 * (c.min-first.result + across r.turn r.layer (whole.across + k) * image.size.w) =
    λ i. 4 * (c.min-first.result + place i * width i) in
    omega arith

pub returns : goal.returns
returns c =
    let layers = c.args.layers.now in
    let r = c.index-layers-i.result in
    let b : Bound = layer_at layers c.args.i in
    let same : r ≡ b = layer_is layers c.args.i r c.requires.layer c.index-layers-i.is in
    let prepared = prepared_as c.layer.view_is c.layer.invariant in
    let whole = c.in-Some.whole in
    let stretch = c.in-Some.ensures.some.stretch in
    let high = stretch.high in
    let source_r = ap (λ (b : Bound). b.source) same ∙ c.requires.source in
    let table = prepared.table_is c.in-Table.is in
    let long = table.long in
    let count : whole.x + whole.len - whole.x ≡ whole.len = omega arith in
    let places : List ℕ = chunk whole.x (whole.x + whole.len - whole.x) c.layer.inside.table.now in
    let len : length places ≡ whole.len =
    length-chunk whole.x (whole.x + whole.len - whole.x) c.layer.inside.table.now (omega arith) ∙ count in
    let width : c.size-width.result.w ≡ c.args.image.now.size.w = ap (λ (size : Size). size.w) c.size-width.ensures.size in
    let columns = subst (λ (n : ℕ). AreColumns c.args.image.now.bytes c.min-first.result n places c.gather_columns.new.out) width
    (subst (λ (l : List ℕ). AreColumns l c.min-first.result c.size-width.result.w places c.gather_columns.new.out) c.bytes.ensures.value
    c.gather_columns.ensures) in
    let bytes = block_kept b c.args.image.now whole.len whole.across c.min-first.result _ c.gather_columns.new.out _ places
    (has_colours r c.args.image.now prepared.showable source_r) columns refl len (omega arith)
    (λ i low. places_are r c.layer.inside.table.now whole (whole.x + whole.len - whole.x) table stretch count i low
    ∙ ap (λ (b : Bound). across b.turn b.layer (whole.across + i)) same) in
    record {
      line_len = c.requires.kept.line_len;
      line = c.requires.kept.line;
      block_len = omega arith;
      block = λ image source i j low eight.
          let image_is : c.args.image.now ≡ image = let both : Some c.args.image.now ≡ Some image = sym c.requires.source ∙ source in cc in
          bytes i j low eight
          ∙ ap (λ (m : Bitmap). pixel m (c.min-first.result + j) (across b.turn b.layer (whole.across + i))) image_is;
    }
