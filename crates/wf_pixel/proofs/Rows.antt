-- Worked numbers of the arithmetic, and worked places.
use Rattle.std.proofs.Common.{◌≡◌, ℕ, ◌+◌, ◌*◌, Bool, true, false, List, [], ◌∷◌, Option, Some, None, map, pos, refl}
use Rattle.std.specs.Prelude.{flat_map}
use Rattle.std.specs.List.{range_with_len}
use Rattle.wf_pixel.specs.declared.Rect.{Rect}
use Rattle.wf_pixel.specs.declared.Rgba.{Rgba}
use Rattle.wf_pixel.specs.declared.Format.TheVariants.{Rgba8, Rgba8Pre, Rgbx8}
use Rattle.wf_pixel.specs.declared.Rotation.{Rotation}
use Rattle.wf_pixel.specs.declared.Rotation.TheVariants.{R0, R90, R180, R270}
use Rattle.wf_pixel.specs.Arithmetic.{mul, samp, lift, over}
use Rattle.wf_pixel.specs.Place.{place}

abbrev colour : ℕ → ℕ → ℕ → ℕ → Rgba
colour r g b a = record { r = r; g = g; b = b; a = a }

-- products are rounded to the nearest
mul_rounds : mul 200 128 ≡ 100
mul_rounds = refl

mul_whole : mul 77 255 ≡ 77
mul_whole = refl

-- four pixels over one, and one pixel over four
samp_last : samp 3 4 1 ≡ 0
samp_last = refl

samp_middle : samp 0 1 4 ≡ 2
samp_middle = refl

-- a straight pixel with the source's alpha and half of it, over a colour
lifted : lift (colour 200 100 50 128) Rgba8 (record { alpha = true; source = true; mask = false }) 128 0 ≡ colour 50 25 13 64
lifted = refl

laid_over : over (colour 50 25 13 64) (colour 10 20 30 255) ≡ colour 57 40 35 255
laid_over = refl

-- a premultiplied pixel that is brighter than its alpha ends at the brightest
ends_at_255 : over (colour 250 0 0 1) (colour 250 0 0 255) ≡ colour 255 0 0 255
ends_at_255 = refl

-- a format without alpha is opaque, also where the source's alpha is asked for
opaque_format : lift (colour 1 2 3 4) Rgbx8 (record { alpha = false; source = true; mask = false }) 0 0 ≡ colour 1 2 3 255
opaque_format = refl

masked : lift (colour 10 20 30 40) Rgba8Pre (record { alpha = false; source = true; mask = true }) 0 0 ≡ colour 0 0 0 0
masked = refl

opaque_layer : over (lift (colour 0 0 0 7) Rgbx8 (record { alpha = true; source = false; mask = false }) 254 0) (colour 255 255 255 255)
    ≡ colour 1 1 1 255
opaque_layer = refl

premultiplied : over (lift (colour 200 0 0 100) Rgba8Pre (record { alpha = false; source = true; mask = false }) 0 0)
    (colour 255 255 255 255) ≡ colour 255 155 155 255
premultiplied = refl

-- a source of 3 by 2 with the rows 0 1 2 and 3 4 5, as it shows on a destination of this size
abbrev wide : Rect
wide = record { x = pos 0; y = pos 0; w = 3; h = 2 }

abbrev number : Option (ℕ × ℕ) → ℕ
number None = 6
number (Some p) = 3 * p.1 + p.0

abbrev shown : Bool → Rotation → ℕ → ℕ → List ℕ
shown flip turn w h =
    flat_map (λ y. map (λ x. number (place wide flip turn (record { x = pos 0; y = pos 0; w = w; h = h }) (pos x) (pos y)))
    (range_with_len 0 w))
    (range_with_len 0 h)

turn_0 : shown false R0 3 2 ≡ 0 ∷ 1 ∷ 2 ∷ 3 ∷ 4 ∷ 5 ∷ []
turn_0 = refl

turn_90 : shown false R90 2 3 ≡ 3 ∷ 0 ∷ 4 ∷ 1 ∷ 5 ∷ 2 ∷ []
turn_90 = refl

turn_180 : shown false R180 3 2 ≡ 5 ∷ 4 ∷ 3 ∷ 2 ∷ 1 ∷ 0 ∷ []
turn_180 = refl

turn_270 : shown false R270 2 3 ≡ 2 ∷ 5 ∷ 1 ∷ 4 ∷ 0 ∷ 3 ∷ []
turn_270 = refl

flip_0 : shown true R0 3 2 ≡ 3 ∷ 4 ∷ 5 ∷ 0 ∷ 1 ∷ 2 ∷ []
flip_0 = refl

flip_90 : shown true R90 2 3 ≡ 0 ∷ 3 ∷ 1 ∷ 4 ∷ 2 ∷ 5 ∷ []
flip_90 = refl

flip_180 : shown true R180 3 2 ≡ 2 ∷ 1 ∷ 0 ∷ 5 ∷ 4 ∷ 3 ∷ []
flip_180 = refl

flip_270 : shown true R270 2 3 ≡ 5 ∷ 2 ∷ 4 ∷ 1 ∷ 3 ∷ 0 ∷ []
flip_270 = refl

-- outside of the destination nothing shows
outside : place wide false R0 wide (pos 3) (pos 0) ≡ None
outside = refl
