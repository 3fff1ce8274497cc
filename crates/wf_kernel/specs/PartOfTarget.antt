-- The columns and rows of a target that are written, and the others that stay.
use Rattle.std.specs.Prelude.{◌≡◌, ℕ, ◌-◌, ◌<◌, ◌≤◌, ◌&&◌, Bool, nat_le, nat_lt, if◌then◌else◌, List, length, map}
use Rattle.wf_pixel.specs.declared.Rgba.{Rgba}
use Rattle.wf_pixel.specs.declared.Rotation.{Rotation}
use Rattle.wf_pixel.specs.declared.Rotation.TheVariants.{R0, R90, R180, R270}
use Rattle.wf_pixel.specs.declared.Size.{Size}
use Rattle.wf_image.specs.Drawn.{pixel_in}
use Rattle.wf_scene.specs.declared.Scene.{Scene}
use Rattle.wf_model.specs.Picture.{Images}
use Rattle.wf_kernel.specs.declared.parts.Part.{Part}
use Rattle.wf_kernel.specs.Bound.{bound, bound_colour}

-- columns and rows lie inside a target
pub record IsPart (w h : ℕ) (p : Part) : Type 0 where
  pub columns : p.left ≤ p.right
  pub right : p.right ≤ w
  pub rows : p.top ≤ p.bottom
  pub bottom : p.bottom ≤ h

-- columns and rows of a space, turned with it into the target
abbrev pub turned_part : Rotation → Size → Part → Part
turned_part R0 s p = p
turned_part R90 s p = record { left = s.h - p.bottom; right = s.h - p.top; top = p.left; bottom = p.right }
turned_part R180 s p = record { left = s.w - p.right; right = s.w - p.left; top = s.h - p.bottom; bottom = s.h - p.top }
turned_part R270 s p = record { left = p.top; right = p.bottom; top = s.w - p.right; bottom = s.w - p.left }

-- they hold a pixel
abbrev pub holds : Part → ℕ → ℕ → Bool
holds p x y = (nat_le p.left x && nat_lt x p.right) && (nat_le p.top y && nat_lt y p.bottom)

-- the colours of a scene with these images in the columns of a part
abbrev pub part_colour : Scene → Images → Part → ℕ → ℕ → Rgba
part_colour scene contents p = bound_colour (map (bound scene contents p.left p.right) scene.layers.items) scene.background

-- the pixels of the part have these colours, and the others are as they were
pub record IsPartly (w h : ℕ) (colour : ℕ → ℕ → Rgba) (p : Part) (old new : List ℕ) : Type 0 where
  pub len : length new ≡ length old
  pub pixels : (x y : ℕ) → x < w → y < h
      → pixel_in w new x y ≡ (if holds p x y then colour x y else pixel_in w old x y)
