use Rattle.std.proofs.Common.{◌≡◌, ap, refl, sym, ◌∙◌}
use Rattle.wf_image.specs.Bitmap.{Bitmap, pixel_bytes}
use Rattle.wf_damage.proofs.Painted.{copied_is, picture_size, picture_format}
use Rattle.wf_damage.proofs.bench.paint_kept.Goals as goal

pub copy_bytes-requires-clause-size : goal.copy_bytes-requires-clause-size
copy_bytes-requires-clause-size g c =
    c.requires.size
    ∙ sym (ap (λ (b : Bitmap). b.size) c.paint_over-whole.ensures.picture
    ∙ picture_size c.args.scene.now c.args.contents.now c.args.kept.now.picture.format)

pub copy_bytes-requires-clause-four : goal.copy_bytes-requires-clause-four
copy_bytes-requires-clause-four g c =
    ap (λ (b : Bitmap). pixel_bytes b.format) c.paint_over-whole.ensures.picture
    ∙ ap pixel_bytes (picture_format c.args.scene.now c.args.contents.now c.args.kept.now.picture.format) ∙ c.requires.kept.four

pub returns-then-whole-clause-picture : goal.returns-then-whole-clause-picture
returns-then-whole-clause-picture g c =
    c.copy_bytes.ensures
    ∙ copied_is c.args.scene.now c.args.contents.now c.args.kept.now.picture.format c.paint_over-whole.new.kept.picture c.args.target.now
    c.paint_over-whole.ensures.picture c.requires.kept.four c.requires.size c.requires.pixels

pub returns-else-whole-clause-picture : goal.returns-else-whole-clause-picture
returns-else-whole-clause-picture g c =
    c.copy_bytes.ensures
    ∙ copied_is c.args.scene.now c.args.contents.now c.args.kept.now.picture.format c.paint_over-whole.new.kept.picture c.args.target.now
    c.paint_over-whole.ensures.picture c.requires.kept.four c.requires.size c.requires.pixels

pub returns-then-whole-clause-whole : goal.returns-then-whole-clause-whole
returns-then-whole-clause-whole g c same =
    let kept = c.paint_over-whole.new.kept.picture in
    let target = c.copy_bytes.new.target in
    let before = c.args.target.now in
    let bytes : target ≡ record { size = before.size; format = before.format; bytes = kept.bytes } = c.copy_bytes.ensures in
    let size : kept.size ≡ before.size =
    ap (λ (b : Bitmap). b.size) c.paint_over-whole.ensures.picture
    ∙ picture_size c.args.scene.now c.args.contents.now c.args.kept.now.picture.format ∙ sym c.requires.size in
    let format = sym c.format.ensures ∙ c.same_format.ensures same ∙ c.format-then-whole.ensures ∙ ap (λ (b : Bitmap). b.format) bytes in
    let picture_is : kept ≡ target = (λ i. record { size = size i; format = format i; bytes = kept.bytes }) ∙ sym bytes in
    c.if-whole.ensures.whole refl
    ∙ ap (λ (b : Bitmap). record { kind = c.args.kind.now; scene = c.args.scene.now; contents = c.args.contents.now; picture = b })
    picture_is
