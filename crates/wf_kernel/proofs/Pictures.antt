-- An image whose bytes are the pixels of the bound layers is the picture.
use Rattle.std.proofs.Common.{◌≡◌, ℕ, ◌*◌, List, ◌++◌, length, take, drop, refl, ap, ◌∙◌, arith}
use Rattle.std.specs.Prelude.{map}
use Rattle.std.proofs.lemmas.List.{take_at}
use Rattle.wf_pixel.specs.declared.Rgba.{Rgba}
use Rattle.wf_pixel.specs.declared.Format.{Format}
use Rattle.wf_pixel.specs.declared.Format.TheVariants.{Rgba8, Rgba8Pre, Rgbx8, A8}
use Rattle.wf_image.specs.Bitmap.{Bitmap, pixel_bytes, image_bytes, stored, drawn_row, drawn}
use Rattle.wf_image.specs.Lending.{with_bytes}
use Rattle.wf_scene.specs.declared.Scene.{Scene}
use Rattle.wf_model.specs.Picture.{Images, picture_pixel, picture}
use Rattle.wf_kernel.specs.Bound.{Bound, bound, bound_colour, bound_row, bound_rows, bound_picture}
use Rattle.wf_kernel.proofs.Pieces.{length-pieces}
use Rattle.wf_kernel.proofs.Pixels.{pieces_same}
use Rattle.wf_kernel.proofs.Bindings.{bound_colour_is}

-- formats of four bytes store a pixel alike
stored_four : (format : Format) (color : Rgba) → pixel_bytes format ≡ 4 → stored Rgba8Pre color ≡ stored format color
stored_four Rgba8 color four = refl
stored_four Rgba8Pre color four = refl
stored_four Rgbx8 color four = refl
stored_four A8 color four = absurd (omega (arith, four))

-- how many bytes a row has, and all rows
pub length-bound_row : (w : ℕ) (layers : List Bound) (background : Rgba) (y : ℕ) → length (bound_row w layers background y) ≡ 4 * w
length-bound_row w layers background y = length-pieces (λ x. stored Rgba8Pre (bound_colour layers background x y)) 4 0 w (λ x. refl)

pub length-bound_rows : (w : ℕ) (layers : List Bound) (background : Rgba) (first h : ℕ)
    → length (bound_rows w layers background first h) ≡ 4 * w * h
length-bound_rows w layers background first h =
    length-pieces (λ y. bound_row w layers background y) (4 * w) first h (length-bound_row w layers background)

-- the rows are the bytes of the picture in every format of four bytes
picture_bytes : (scene : Scene) (contents : Images) (format : Format) → pixel_bytes format ≡ 4
    → bound_picture scene contents ≡ (picture scene contents format).bytes
unfolding drawn
picture_bytes scene contents format four =
    let layers = map (bound scene contents 0 scene.size.w) scene.layers.items in
    pieces_same (λ y. bound_row scene.size.w layers scene.background y)
    (λ y. drawn_row scene.size.w format (λ x. picture_pixel scene contents x y)) 0 scene.size.h
    (λ y from below. pieces_same (λ x. stored Rgba8Pre (bound_colour layers scene.background x y))
    (λ x. stored format (picture_pixel scene contents x y)) 0 scene.size.w
    (λ x start within. ap (stored Rgba8Pre)
    (bound_colour_is scene contents 0 scene.size.w x y (omega arith) (omega arith) (omega arith) (omega arith))
    ∙ stored_four format (picture_pixel scene contents x y) four))

-- an image that gets these bytes is the picture
pub picture_is : (scene : Scene) (contents : Images) (image : Bitmap) (bytes : List ℕ) → image.size ≡ scene.size
    → pixel_bytes image.format ≡ 4 → length image.bytes ≡ image_bytes image.size image.format
    → bytes ≡ bound_picture scene contents → with_bytes image bytes ≡ picture scene contents image.format
unfolding drawn
picture_is scene contents image bytes size_is four count bytes_are =
    let count_is : length image.bytes ≡ scene.size.w * scene.size.h * 4 = count ∙ rw (size_is, four) refl in
    let len : length bytes ≡ length image.bytes =
    ap length bytes_are
    ∙ length-bound_rows scene.size.w (map (bound scene contents 0 scene.size.w) scene.layers.items) scene.background 0 scene.size.h
    ∙ omega (arith, count_is) in
    let all : take (length image.bytes) (bytes ++ drop (length bytes) image.bytes) ≡ bytes =
    take_at bytes (drop (length bytes) image.bytes) (length image.bytes) len in
    let same : bytes ≡ (picture scene contents image.format).bytes = bytes_are ∙ picture_bytes scene contents image.format four in
    rw (all, same, size_is) refl
