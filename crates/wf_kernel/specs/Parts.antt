-- A part of a picture, written over an older one.
use Rattle.std.specs.Prelude.{ℕ, ◌&&◌, Bool, if◌then◌else◌, ℤ, pos, is_some}
use Rattle.wf_pixel.specs.declared.Rect.{Rect}
use Rattle.wf_pixel.specs.Along.{along}
use Rattle.wf_pixel.specs.Place.{turned, turned_back}
use Rattle.wf_image.specs.Bitmap.{Bitmap, pixel, drawn}
use Rattle.wf_scene.specs.declared.Scene.{Scene}
use Rattle.wf_model.specs.Picture.{Images, picture_pixel}

-- a point of the space is inside a rectangle
abbrev pub covers : Rect → ℤ → ℤ → Bool
covers r x y = is_some (along r.x r.w x) && is_some (along r.y r.h y)

-- the place in the space of a pixel of the target is inside a rectangle
abbrev pub covers_at : Scene → Rect → ℕ → ℕ → Bool
covers_at s r x y = let p : ℕ × ℕ = turned_back s.turn (turned s.turn s.size) x y in covers r (pos p.0) (pos p.1)

-- an image that has the scene's picture inside a rectangle of the space, and its old pixels elsewhere
abbrev pub part_picture : Scene → Images → Rect → Bitmap → Bitmap
part_picture s contents area old =
    drawn old.size old.format (λ x y. if covers_at s area x y then picture_pixel s contents x y else pixel old x y)
