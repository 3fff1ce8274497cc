-- Worked areas: where two frames may differ, and how many pixels a bench asks for.
use Rattle.std.proofs.Common.{◌≡◌, ℕ, Bool, true, false, List, [], ◌∷◌, ℤ, pos, negsuc, refl}
use Rattle.std.specs.Prelude.{map, sum, Option, Some, None}
use Rattle.wf_pixel.specs.declared.Rect.{Rect}
use Rattle.wf_pixel.specs.declared.Rgba.{Rgba}
use Rattle.wf_pixel.specs.declared.Format.TheVariants.{Rgba8, A8}
use Rattle.wf_pixel.specs.declared.Rotation.{Rotation}
use Rattle.wf_pixel.specs.declared.Rotation.TheVariants.{R0, R90, R180}
use Rattle.wf_image.specs.Bitmap.{Bitmap}
use Rattle.wf_scene.specs.declared.Layer.{Layer}
use Rattle.wf_scene.specs.declared.Scene.{Scene}
use Rattle.wf_scene.specs.Layers.{no_layer}
use Rattle.wf_calls.specs.declared.call.JobKind.TheVariants as kind
use Rattle.wf_model.specs.Picture.{Images}
use Rattle.wf_damage.specs.Areas.{areas_of}
use Rattle.wf_damage.specs.Bench.{area, place_of}

abbrev rect : ℤ → ℤ → ℕ → ℕ → Rect
rect x y w h = record { x = x; y = y; w = w; h = h }

abbrev grey : ℕ → Rgba
grey n = record { r = n; g = n; b = n; a = 255 }

-- a layer that shows stream 1, with the mask 2, which applies or not
abbrev layer : Rect → Bool → Layer
layer dest masked =
    record no_layer { stream = 1; mask = 2; dest = dest; transparency = record { alpha = false; source = false; mask = masked } }

-- a scene of 4 by 2 without a turn
abbrev scene : List Layer → Scene
scene layers = record { size = record { w = 4; h = 2 }; turn = R0; background = grey 0; layers = record { items = layers } }

abbrev turned_scene : Rotation → List Layer → Scene
turned_scene turn layers = record { size = record { w = 2; h = 4 }; turn = turn; background = grey 0; layers = record { items = layers } }

-- a stream's image of one pixel, and one of a mask
abbrev image : ℕ → ℕ → ℕ × Bitmap
image stream n = (stream, record { size = record { w = 1; h = 1 }; format = Rgba8; bytes = n ∷ n ∷ n ∷ 255 ∷ [] })

abbrev mask : ℕ → ℕ × Bitmap
mask n = (2, record { size = record { w = 1; h = 1 }; format = A8; bytes = n ∷ [] })

abbrev still : Images
still = image 1 7 ∷ []

abbrev pixels : List Rect → ℕ
pixels areas = sum (map area areas)

abbrev left : Rect
left = rect (pos 0) (pos 0) 2 2

abbrev right : Rect
right = rect (pos 2) (pos 0) 2 2

-- a layer that moves gives where it was, and then where it is
moves : areas_of (scene (layer (rect (pos 0) (pos 0) 1 1) false ∷ [])) still (scene (layer (rect (pos 2) (pos 1) 1 1) false ∷ [])) still
    ≡ rect (pos 0) (pos 0) 1 1 ∷ rect (pos 2) (pos 1) 1 1 ∷ []
moves = refl

nothing_changed : areas_of (scene (layer left false ∷ [])) still (scene (layer left false ∷ [])) still ≡ []
nothing_changed = refl

another_background : areas_of (scene []) still (record (scene []) { background = grey 1 }) still ≡ rect (pos 0) (pos 0) 4 2 ∷ []
another_background = refl

one_layer_more : areas_of (scene (layer left false ∷ [])) still (scene (layer left false ∷ layer (rect (pos 1) (pos 0) 1 1) false ∷ []))
    still
    ≡ rect (pos 1) (pos 0) 1 1 ∷ []
one_layer_more = refl

-- where the lowest layer goes, the others are at other places of the list, so all are painted: 12 pixels of a picture of 8
lowest_goes : pixels (areas_of (scene (layer left false ∷ layer right false ∷ [])) still (scene (layer right false ∷ [])) still) ≡ 12
lowest_goes = refl

-- a layer that stands still and whose image changed gives its destination twice, and both count
image_changes : areas_of (scene (layer left false ∷ [])) still (scene (layer left false ∷ [])) (image 1 8 ∷ []) ≡ left ∷ left ∷ []
image_changes = refl

-- a rectangle of a turned space counts whole, also where it is partly outside
turned_and_partly_outside :
    pixels (areas_of (turned_scene R90 (layer (rect (negsuc 0) (pos 0) 2 1) false ∷ [])) still
    (turned_scene R90 (layer (rect (pos 3) (pos 1) 2 2) false ∷ [])) still)
    ≡ 6
turned_and_partly_outside = refl

mask_that_does_not_apply : areas_of (scene (layer left false ∷ [])) (image 1 7 ∷ mask 0 ∷ []) (scene (layer left false ∷ []))
    (image 1 7 ∷ mask 1 ∷ []) ≡ []
mask_that_does_not_apply = refl

mask_that_applies : areas_of (scene (layer left true ∷ [])) (image 1 7 ∷ mask 0 ∷ []) (scene (layer left true ∷ []))
    (image 1 7 ∷ mask 1 ∷ []) ≡ left ∷ left ∷ []
mask_that_applies = refl

first_image : areas_of (scene (layer left false ∷ [])) [] (scene (layer left false ∷ [])) still ≡ left ∷ left ∷ []
first_image = refl

no_image : areas_of (scene (layer left false ∷ [])) [] (scene (layer left false ∷ [])) [] ≡ []
no_image = refl

another_turn : areas_of (turned_scene R0 []) still (turned_scene R180 []) still ≡ rect (pos 0) (pos 0) 2 4 ∷ []
another_turn = refl

-- contexts whose handles are sixteen apart share a place, and a port beyond the fourth has none
shared_place : place_of (kind.Context 3 1) ≡ place_of (kind.Context 19 2)
shared_place = refl

no_place : place_of (kind.Port 5) ≡ None
no_place = refl
