-- Where a layer lies on the target, and which pixel of its source shows at a distance from there.
use Rattle.std.specs.Prelude.{ℕ, ◌+◌, ◌-◌, ℤ, ◌+ℤ◌, ◌-ℤ◌, pos, nat_abs, Bool, true, false, if◌then◌else◌, Option}
use Rattle.wf_pixel.specs.declared.Rgba.{Rgba}
use Rattle.wf_pixel.specs.declared.Rect.{Rect}
use Rattle.wf_pixel.specs.declared.Rotation.{Rotation}
use Rattle.wf_pixel.specs.declared.Rotation.TheVariants.{R0, R90, R180, R270}
use Rattle.wf_pixel.specs.declared.Size.{Size}
use Rattle.wf_pixel.specs.Along.{along}
use Rattle.wf_pixel.specs.Arithmetic.{samp}
use Rattle.wf_pixel.specs.Place.{turned, turned_back, size_of}
use Rattle.wf_image.specs.Bitmap.{Bitmap, pixel}
use Rattle.wf_scene.specs.declared.Layer.{Layer}
use Rattle.wf_kernel.specs.Bound.{Bound, cut_to}

-- where a side of w pixels from x on begins, counted from the other end of n pixels
abbrev pub mirrored : ℕ → ℤ → ℕ → ℤ
mirrored n x w = pos n -ℤ (x +ℤ pos w)

-- where a rectangle of a space begins on the target, when the space is turned
abbrev pub left_on : Rotation → Size → Rect → ℤ
left_on R0 s r = r.x
left_on R90 s r = mirrored s.h r.y r.h
left_on R180 s r = mirrored s.w r.x r.w
left_on R270 s r = r.y

abbrev pub top_on : Rotation → Size → Rect → ℤ
top_on R0 s r = r.y
top_on R90 s r = r.x
top_on R180 s r = mirrored s.h r.y r.h
top_on R270 s r = mirrored s.w r.x r.w

-- the rectangle on the target
abbrev pub turned_rect : Rotation → Size → Rect → Rect
turned_rect turn s r =
    record { x = left_on turn s r; y = top_on turn s r; w = (turned turn (size_of r)).w; h = (turned turn (size_of r)).h }

-- the destination on the target
abbrev pub placed : Bound → Rect
placed b = turned_rect b.turn b.space b.layer.dest

-- how far a column that is asked for lies behind the left side of the destination on the target, where it shows there
abbrev pub column_of : Bound → ℕ → Option ℕ
column_of b x = cut_to b.left b.right x (along (placed b).x (placed b).w (pos x))

-- how far a row lies below its top
abbrev pub row_of : Bound → ℕ → Option ℕ
row_of b y = along (placed b).y (placed b).h (pos y)

-- a row of a source of h rows, which may be flipped
abbrev pub flipped : Bool → ℕ → ℕ → ℕ
flipped flip h v = if flip then h - 1 - v else v

-- the coordinate of the source's pixel that the distance from the left side of a destination of w columns determines:
-- its column, or its row where the layer is turned by a quarter
abbrev pub from_left : Rotation → Rect → Bool → ℕ → ℕ → ℕ
from_left R0 src flip w dx = nat_abs src.x + samp dx w src.w
from_left R90 src flip w dx = nat_abs src.y + flipped flip src.h (src.h - 1 - samp dx w src.h)
from_left R180 src flip w dx = nat_abs src.x + (src.w - 1 - samp dx w src.w)
from_left R270 src flip w dx = nat_abs src.y + flipped flip src.h (samp dx w src.h)

-- the other one, which the distance from the top of a destination of h rows determines
abbrev pub from_top : Rotation → Rect → Bool → ℕ → ℕ → ℕ
from_top R0 src flip h dy = nat_abs src.y + flipped flip src.h (samp dy h src.h)
from_top R90 src flip h dy = nat_abs src.x + samp dy h src.w
from_top R180 src flip h dy = nat_abs src.y + flipped flip src.h (src.h - 1 - samp dy h src.h)
from_top R270 src flip h dy = nat_abs src.x + (src.w - 1 - samp dy h src.w)

abbrev pub left_of : Layer → ℕ → ℕ
left_of l dx = from_left l.turn l.src l.flip l.dest.w dx

abbrev pub top_of : Layer → ℕ → ℕ
top_of l dy = from_top l.turn l.src l.flip l.dest.h dy

-- the coordinate that the distance from the left side on the target determines
abbrev pub across : Rotation → Layer → ℕ → ℕ
across R0 l a = left_of l a
across R90 l a = top_of l (l.dest.h - 1 - a)
across R180 l a = left_of l (l.dest.w - 1 - a)
across R270 l a = top_of l a

-- the one that the distance from the top on the target determines
abbrev pub down : Rotation → Layer → ℕ → ℕ
down R0 l d = top_of l d
down R90 l d = left_of l d
down R180 l d = top_of l (l.dest.h - 1 - d)
down R270 l d = left_of l (l.dest.w - 1 - d)

abbrev pub is_quarter : Rotation → Bool
is_quarter R90 = true
is_quarter R270 = true
is_quarter _ = false

-- the columns of the target go along the rows of the source
abbrev pub is_crossed : Rotation → Layer → Bool
is_crossed turn l = if is_quarter turn then (if is_quarter l.turn then false else true) else is_quarter l.turn

-- the source's pixel at these distances
abbrev pub source_place : Bound → ℕ → ℕ → ℕ × ℕ
source_place b a d =
    if is_crossed b.turn b.layer then (down b.turn b.layer d, across b.turn b.layer a)
    else (across b.turn b.layer a, down b.turn b.layer d)

-- the colour of that pixel as it is stored
abbrev pub source_colour : Bound → Bitmap → ℕ → ℕ → Rgba
source_colour b image a d = pixel image (source_place b a d).0 (source_place b a d).1

-- the mask's value at these distances: a mask lies on the destination, and turns with the target alone
abbrev pub mask_value : Bound → Bitmap → ℕ → ℕ → ℕ
mask_value b mask a d =
    let q : ℕ × ℕ = turned_back b.turn (size_of b.layer.dest) a d in
    (pixel mask q.0 q.1).a

abbrev pub same_turn : Rotation → Rotation → Bool
same_turn R0 R0 = true
same_turn R90 R90 = true
same_turn R180 R180 = true
same_turn R270 R270 = true
same_turn _ _ = false

-- a layer that is not crossed shows the columns of its source from the last to the first
abbrev pub is_backward : Rotation → Rotation → Bool
is_backward R0 t = same_turn t R180
is_backward R90 t = same_turn t R90
is_backward R180 t = same_turn t R0
is_backward R270 t = same_turn t R270
