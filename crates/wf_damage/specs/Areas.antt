-- The rectangles in which the pictures of two scenes may differ.
use Rattle.std.specs.Prelude.{ℕ, ◌==◌, ◌&&◌, Bool, true, false, List, [], ◌∷◌, ◌++◌, pos, Option, Some, None, bytes_eq}
use Rattle.std.specs.Prelude.{if◌then◌else◌}
use Rattle.std.specs.Ordering.{int_eq}
use Rattle.wf_pixel.specs.declared.Rgba.{Rgba}
use Rattle.wf_pixel.specs.declared.Rect.{Rect}
use Rattle.wf_pixel.specs.declared.Size.{Size}
use Rattle.wf_pixel.specs.declared.Transparency.{Transparency}
use Rattle.wf_pixel.specs.Choice.{same_size, same_format}
use Rattle.wf_pixel.specs.Place.{turned}
use Rattle.wf_image.specs.Bitmap.{Bitmap}
use Rattle.wf_image.specs.Contents.{image_of}
use Rattle.wf_scene.specs.declared.Layer.{Layer}
use Rattle.wf_scene.specs.declared.Scene.{Scene}
use Rattle.wf_model.specs.Picture.{Images}
use Rattle.wf_kernel.specs.Placed.{same_turn}

-- ---- equal values
abbrev pub same_bool : Bool → Bool → Bool
same_bool true b = b
same_bool false true = false
same_bool false false = true

abbrev pub same_colour : Rgba → Rgba → Bool
same_colour c d = (c.r == d.r) && (c.g == d.g) && (c.b == d.b) && (c.a == d.a)

abbrev pub same_rect : Rect → Rect → Bool
same_rect r s = int_eq r.x s.x && int_eq r.y s.y && (r.w == s.w) && (r.h == s.h)

abbrev pub same_transparency : Transparency → Transparency → Bool
same_transparency t u = same_bool t.alpha u.alpha && same_bool t.source u.source && same_bool t.mask u.mask

abbrev pub same_layer : Layer → Layer → Bool
same_layer l m =
    (l.stream == m.stream) && (l.mask == m.mask) && same_rect l.src m.src && same_rect l.dest m.dest && same_bool l.flip m.flip
    && same_turn l.turn m.turn && same_transparency l.transparency m.transparency && (l.alpha == m.alpha)

abbrev pub same_bitmap : Bitmap → Bitmap → Bool
same_bitmap a b = same_size a.size b.size && same_format a.format b.format && bytes_eq a.bytes b.bytes

-- both images are there and equal, or none is
abbrev pub same_image : Option Bitmap → Option Bitmap → Bool
same_image None None = true
same_image (Some a) (Some b) = same_bitmap a b
same_image _ _ = false

-- ---- the areas
-- a stream has one content before and now, or none
abbrev pub same_content : Images → Images → ℕ → Bool
same_content before now stream = same_image (image_of stream before) (image_of stream now)

-- a layer shows before and now the same
abbrev pub is_still : Images → Images → Layer → Layer → Bool
is_still before now l m =
    same_layer l m && same_content before now l.stream && (if l.transparency.mask then same_content before now l.mask else true)

-- what a place gives where both scenes have a layer
abbrev pub changed : Bool → Rect → Rect → List Rect
changed true r s = []
changed false r s = r ∷ s ∷ []

-- by place from the bottom
abbrev pub areas_between : Images → Images → List Layer → List Layer → List Rect
areas_between before now [] [] = []
areas_between before now (l ∷ ls) [] = l.dest ∷ areas_between before now ls []
areas_between before now [] (m ∷ ms) = m.dest ∷ areas_between before now [] ms
areas_between before now (l ∷ ls) (m ∷ ms) = changed (is_still before now l m) l.dest m.dest ++ areas_between before now ls ms

-- scenes that have size, turn and background in common
abbrev pub same_frame : Scene → Scene → Bool
same_frame old new = same_size old.size new.size && same_turn old.turn new.turn && same_colour old.background new.background

-- the whole space in which a scene is composed
abbrev pub whole_of : Scene → Rect
whole_of s =
    let space : Size = turned s.turn s.size in
    record { x = pos 0; y = pos 0; w = space.w; h = space.h }

-- where the picture of `new` with `now` may differ from that of `old` with `before`
abbrev pub areas_of : Scene → Images → Scene → Images → List Rect
areas_of old before new now =
    if same_frame old new then areas_between before now old.layers.items new.layers.items else whole_of new ∷ []
