-- Which pixel of a source shows at a point: the point is sampled, turned back, flipped back.
use Rattle.std.specs.Prelude.{ℕ, ◌+◌, ◌-◌, Bool, ℤ, ◌≤ℤ◌, ◌≤◌, nat_abs, option_and_then, option_map, Option, if◌then◌else◌}
use Rattle.wf_pixel.specs.declared.Rect.{Rect}
use Rattle.wf_pixel.specs.declared.Rotation.{Rotation}
use Rattle.wf_pixel.specs.declared.Rotation.TheVariants.{R0, R90, R180, R270}
use Rattle.wf_pixel.specs.declared.Size.{Size}
use Rattle.wf_pixel.specs.declared.TheConstants.{MOST_SIDE}
use Rattle.wf_pixel.specs.Along.{along}
use Rattle.wf_pixel.specs.Arithmetic.{samp}
use Rattle.wf_pixel.specs.Choice.{least_coordinate, most_coordinate}

-- a size after a turn
abbrev pub turned : Rotation → Size → Size
turned R90 s = record { w = s.h; h = s.w }
turned R270 s = record { w = s.h; h = s.w }
turned _ s = s

-- the place in a picture of this size that the turn brings to (x, y)
abbrev pub turned_back : Rotation → Size → ℕ → ℕ → ℕ × ℕ
turned_back R0 s x y = (x, y)
turned_back R90 s x y = (y, s.h - 1 - x)
turned_back R180 s x y = (s.w - 1 - x, s.h - 1 - y)
turned_back R270 s x y = (s.w - 1 - y, x)

abbrev pub flipped_back : Bool → ℕ → ℕ × ℕ → ℕ × ℕ
flipped_back flip h p = (p.0, if flip then h - 1 - p.1 else p.1)

abbrev pub size_of : Rect → Size
size_of r = record { w = r.w; h = r.h }

abbrev pub moved_by : Rect → ℕ × ℕ → ℕ × ℕ
moved_by r p = (nat_abs r.x + p.0, nat_abs r.y + p.1)

-- the source pixel at the distances (dx, dy) from the corner of the destination
abbrev pub source_pixel : Rect → Bool → Rotation → Rect → ℕ → ℕ → ℕ × ℕ
source_pixel src flip turn dest dx dy =
    let shown : Size = turned turn (size_of src) in
    let x : ℕ = samp dx dest.w shown.w in
    let y : ℕ = samp dy dest.h shown.h in
    moved_by src (flipped_back flip src.h (turned_back turn (size_of src) x y))

-- the source pixel at a point, or none outside the destination
abbrev pub place : Rect → Bool → Rotation → Rect → ℤ → ℤ → Option (ℕ × ℕ)
place src flip turn dest x y =
    option_and_then
    (λ dx. option_map (source_pixel src flip turn dest dx) (along dest.y dest.h y))
    (along dest.x dest.w x)

-- a rectangle with sides and coordinates in their ranges
pub record IsDrawn (r : Rect) : Type 0 where
  pub w_low : 1 ≤ r.w
  pub w_high : r.w ≤ MOST_SIDE
  pub h_low : 1 ≤ r.h
  pub h_high : r.h ≤ MOST_SIDE
  pub x_low : least_coordinate ≤ℤ r.x
  pub x_high : r.x ≤ℤ most_coordinate
  pub y_low : least_coordinate ≤ℤ r.y
  pub y_high : r.y ≤ℤ most_coordinate
