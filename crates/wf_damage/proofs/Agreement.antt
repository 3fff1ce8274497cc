-- Outside of the areas the pictures agree.
use Rattle.std.proofs.Common.{◌≡◌, ℕ, ◌<◌, List, [], ◌∷◌, ◌++◌, map, ℤ, pos, Bool, true, false, refl, sym, ap, ◌∙◌, arith}
use Rattle.std.specs.Prelude.{◌&&◌, ◌==◌, All, reverse, Option, Some, None, is_some, option_and_then, option_map, if◌then◌else◌}
use mathlib.Core.List.{reverse_aux}
use Rattle.std.proofs.lemmas.Bool.{and_parts}
use Rattle.std.proofs.lemmas.List.Elements.{All-head, All-tail}
use Rattle.std.proofs.lemmas.Bool.Decides.{Decides-eqb, Decides-int_eq, nat_tests}
use Rattle.std.proofs.lemmas.Int.{ints}
use Rattle.std.proofs.lemmas.Slice.Eq.{bytes_eq-Decides}
use Rattle.wf_words.specs.Options.{◌>>=◌}
use Rattle.wf_pixel.specs.declared.Rgba.{Rgba}
use Rattle.wf_pixel.specs.declared.Rect.{Rect}
use Rattle.wf_pixel.specs.declared.Rotation.{Rotation}
use Rattle.wf_pixel.specs.declared.Rotation.TheVariants.{R0, R90, R180, R270}
use Rattle.wf_pixel.specs.declared.Format.{Format}
use Rattle.wf_pixel.specs.declared.Format.TheVariants.{Rgba8, Rgba8Pre, Rgbx8, A8}
use Rattle.wf_pixel.specs.declared.Size.{Size}
use Rattle.wf_pixel.specs.declared.Transparency.{Transparency}
use Rattle.wf_pixel.specs.Along.{along}
use Rattle.wf_pixel.specs.Choice.{same_size, same_format}
use Rattle.wf_pixel.specs.Equal.{format_is, size_is}
use Rattle.wf_pixel.specs.Place.{source_pixel, turned, turned_back}
use Rattle.wf_pixel.specs.Arithmetic.{lift}
use Rattle.wf_image.specs.Bitmap.{Bitmap, pixel}
use Rattle.wf_image.specs.Contents.{image_of}
use Rattle.wf_scene.specs.declared.Layer.{Layer}
use Rattle.wf_scene.specs.declared.Scene.{Scene}
use Rattle.wf_model.specs.Picture.{Images, mask_of, texel_of, texel, on_top, stacked, colour, picture_pixel}
use Rattle.wf_damage.specs.Areas.{same_bool, same_colour, same_rect, same_transparency, same_layer, same_bitmap, same_image}
use Rattle.wf_damage.specs.Areas.{same_content, is_still, changed, areas_between, same_frame, whole_of, areas_of}
use Rattle.wf_kernel.specs.Parts.{covers, covers_at}
use Rattle.wf_kernel.specs.Placed.{same_turn}

-- ---- equal values
turn_is : (s t : Rotation) → same_turn s t ≡ true → s ≡ t
turn_is R0 R0 same = refl
turn_is R90 R90 same = refl
turn_is R180 R180 same = refl
turn_is R270 R270 same = refl
turn_is R0 R90 same = absurd cc
turn_is R0 R180 same = absurd cc
turn_is R0 R270 same = absurd cc
turn_is R90 R0 same = absurd cc
turn_is R90 R180 same = absurd cc
turn_is R90 R270 same = absurd cc
turn_is R180 R0 same = absurd cc
turn_is R180 R90 same = absurd cc
turn_is R180 R270 same = absurd cc
turn_is R270 R0 same = absurd cc
turn_is R270 R90 same = absurd cc
turn_is R270 R180 same = absurd cc

bool_is : (a b : Bool) → same_bool a b ≡ true → a ≡ b
bool_is true b same = sym same
bool_is false true same = absurd cc
bool_is false false same = refl

nat_is : (a b : ℕ) → (a == b) ≡ true → a ≡ b
nat_is a b same = (Decides-eqb a b).0 same

-- a map before or after a reversal
reverse_aux-map : {X Y : Type 0} (f : X → Y) (xs ys : List X) → reverse_aux (map f xs) (map f ys) ≡ map f (reverse_aux xs ys)
reverse_aux-map f [] ys = refl
reverse_aux-map f (x ∷ xs) ys = reverse_aux-map f xs (x ∷ ys)

-- ---- one texel
-- outside of its destination a layer shows nothing
outside : (f : ℕ → ℕ → ℕ × ℕ) (a b : Option ℕ) → (is_some a && is_some b) ≡ false → option_and_then (λ dx. option_map (f dx) b) a ≡ None
outside f None b out = refl
outside f (Some dx) None out = refl
outside f (Some dx) (Some dy) out = absurd cc

texel_outside : (l : Layer) (contents : Images) (x y : ℤ) → covers l.dest x y ≡ false → texel l contents x y ≡ None
texel_outside l contents x y out =
    ap (λ (p : Option (ℕ × ℕ)). p >>= (λ p. image_of l.stream contents >>= (λ image. mask_of l (image_of l.mask contents) x y
    >>= (λ value. Some (lift (pixel image p.0 p.1) image.format l.transparency l.alpha value)))))
    (outside (source_pixel l.src l.flip l.turn l.dest) (along l.dest.x l.dest.w x) (along l.dest.y l.dest.h y) out)

-- ---- texels from the bottom up
abbrev up : List (Option Rgba) → Rgba → Rgba
up [] c = c
up (t ∷ ts) c = up ts (on_top t c)

stacked_aux : (ts us : List (Option Rgba)) (c : Rgba) → stacked (reverse_aux ts us) c ≡ up ts (stacked us c)
stacked_aux [] us c = refl
stacked_aux (t ∷ ts) us c = stacked_aux ts (t ∷ us) c

-- ---- equal layers
colour_is : (s t : Rgba) → same_colour s t ≡ true → s ≡ t
colour_is s t same =
    let abc = and_parts _ _ same in
    let ab = and_parts _ _ abc.0 in
    let a = and_parts _ _ ab.0 in
    λ i. record { r = nat_is s.r t.r a.0 i; g = nat_is s.g t.g a.1 i; b = nat_is s.b t.b ab.1 i; a = nat_is s.a t.a abc.1 i }

rect_is : (s t : Rect) → same_rect s t ≡ true → s ≡ t
rect_is s t same =
    let abc = and_parts _ _ same in
    let ab = and_parts _ _ abc.0 in
    let a = and_parts _ _ ab.0 in
    λ i. record {
      x = (Decides-int_eq s.x t.x).0 a.0 i;
      y = (Decides-int_eq s.y t.y).0 a.1 i;
      w = nat_is s.w t.w ab.1 i;
      h = nat_is s.h t.h abc.1 i;
    }

transparency_is : (s t : Transparency) → same_transparency s t ≡ true → s ≡ t
transparency_is s t same =
    let ab = and_parts _ _ same in
    let a = and_parts _ _ ab.0 in
    λ i. record { alpha = bool_is s.alpha t.alpha a.0 i; source = bool_is s.source t.source a.1 i; mask = bool_is s.mask t.mask ab.1 i }

layer_is : (s t : Layer) → same_layer s t ≡ true → s ≡ t
layer_is s t same =
    let g = and_parts _ _ same in
    let f = and_parts _ _ g.0 in
    let e = and_parts _ _ f.0 in
    let d = and_parts _ _ e.0 in
    let c = and_parts _ _ d.0 in
    let b = and_parts _ _ c.0 in
    let a = and_parts _ _ b.0 in
    λ i. record {
      stream = nat_is s.stream t.stream a.0 i;
      mask = nat_is s.mask t.mask a.1 i;
      src = rect_is s.src t.src b.1 i;
      dest = rect_is s.dest t.dest c.1 i;
      flip = bool_is s.flip t.flip d.1 i;
      turn = turn_is s.turn t.turn e.1 i;
      transparency = transparency_is s.transparency t.transparency f.1 i;
      alpha = nat_is s.alpha t.alpha g.1 i;
    }

bitmap_is : (a b : Bitmap) → same_bitmap a b ≡ true → a ≡ b
bitmap_is a b same =
    let t = and_parts _ _ same in
    let s = and_parts _ _ t.0 in
    λ i. record {
      size = size_is a.size b.size s.0 i;
      format = format_is a.format b.format s.1 i;
      bytes = (bytes_eq-Decides a.bytes b.bytes).0 t.1 i;
    }

pub image_is : (a b : Option Bitmap) → same_image a b ≡ true → a ≡ b
image_is None None same = refl
image_is (Some a) (Some b) same = ap Some (bitmap_is a b same)
image_is None (Some b) same = absurd cc
image_is (Some a) None same = absurd cc

-- ---- equal texels
mask_still : (l : Layer) (before now : Images) (x y : ℤ)
    → (if l.transparency.mask then same_content before now l.mask else true) ≡ true
    → mask_of l (image_of l.mask before) x y ≡ mask_of l (image_of l.mask now) x y
mask_still l before now x y same = by l.transparency.mask refl
  where
    by : (b : Bool) → l.transparency.mask ≡ b → mask_of l (image_of l.mask before) x y ≡ mask_of l (image_of l.mask now) x y
    by true is =
        let open_same : same_content before now l.mask ≡ true = rw is at same in
        ap (λ (o : Option Bitmap). mask_of l o x y) (image_is (image_of l.mask before) (image_of l.mask now) open_same)
    by false is = rw is refl

texel_still : (l m : Layer) (before now : Images) (x y : ℤ) → is_still before now l m ≡ true → texel l before x y ≡ texel m now x y
texel_still l m before now x y still =
    let b = and_parts _ _ still in
    let a = and_parts _ _ b.0 in
    let source = image_is (image_of l.stream before) (image_of l.stream now) a.1 in
    let value = mask_still l before now x y b.1 in
    (λ i. texel_of l (source i) (value i) x y)
    ∙ ap (λ (k : Layer). texel k now x y) (layer_is l m a.0)

-- ---- the layers from the bottom up
-- one more place, where both scenes have a layer
agree_more : (before now : Images) (l m : Layer) (ls ms : List Layer) (x y : ℤ) (c : Rgba)
    → ((c : Rgba) → All (λ r. covers r x y ≡ false) (areas_between before now ls ms)
    → up (map (λ l. texel l before x y) ls) c ≡ up (map (λ l. texel l now x y) ms) c)
    → (b : Bool) → is_still before now l m ≡ b → All (λ r. covers r x y ≡ false) (changed b l.dest m.dest ++ areas_between before now ls ms)
    → up (map (λ l. texel l before x y) (l ∷ ls)) c ≡ up (map (λ l. texel l now x y) (m ∷ ms)) c
agree_more before now l m ls ms x y c more true still out =
    ap (λ (t : Option Rgba). up (map (λ l. texel l before x y) ls) (on_top t c)) (texel_still l m before now x y still)
    ∙ more (on_top (texel m now x y) c) out
agree_more before now l m ls ms x y c more false moved out =
    let P : Rect → Type 0 = λ r. covers r x y ≡ false in
    let rest = areas_between before now ls ms in
    let tail = All-tail P l.dest (m.dest ∷ rest) out in
    ap (λ (t : Option Rgba). up (map (λ l. texel l before x y) ls) (on_top t c))
    (texel_outside l before x y (All-head P l.dest (m.dest ∷ rest) out))
    ∙ more c (All-tail P m.dest rest tail)
    ∙ sym (ap (λ (t : Option Rgba). up (map (λ l. texel l now x y) ms) (on_top t c))
    (texel_outside m now x y (All-head P m.dest rest tail)))

agree : (before now : Images) (ls ms : List Layer) (x y : ℤ) (c : Rgba) → All (λ r. covers r x y ≡ false) (areas_between before now ls ms)
    → up (map (λ l. texel l before x y) ls) c ≡ up (map (λ l. texel l now x y) ms) c
agree before now [] [] x y c out = refl
agree before now (l ∷ ls) [] x y c out =
    let P : Rect → Type 0 = λ r. covers r x y ≡ false in
    let rest = areas_between before now ls [] in
    ap (λ (t : Option Rgba). up (map (λ l. texel l before x y) ls) (on_top t c)) (texel_outside l before x y (All-head P l.dest rest out))
    ∙ agree before now ls [] x y c (All-tail P l.dest rest out)
agree before now [] (m ∷ ms) x y c out =
    let P : Rect → Type 0 = λ r. covers r x y ≡ false in
    let rest = areas_between before now [] ms in
    agree before now [] ms x y c (All-tail P m.dest rest out)
    ∙ sym (ap (λ (t : Option Rgba). up (map (λ l. texel l now x y) ms) (on_top t c)) (texel_outside m now x y (All-head P m.dest rest out)))
agree before now (l ∷ ls) (m ∷ ms) x y c out =
    agree_more before now l m ls ms x y c (λ c out. agree before now ls ms x y c out) (is_still before now l m) refl out

-- the colours that are asked from the top down
colours : (ls ms : List Layer) (before now : Images) (c : Rgba) (x y : ℤ) → All (λ r. covers r x y ≡ false) (areas_between before now ls ms)
    → colour (reverse ls) before c x y ≡ colour (reverse ms) now c x y
colours ls ms before now c x y out =
    asked ls before c x y ∙ agree before now ls ms x y c out ∙ sym (asked ms now c x y)
  where
    asked : (ls : List Layer) (contents : Images) (c : Rgba) (x y : ℤ)
        → colour (reverse ls) contents c x y ≡ up (map (λ l. texel l contents x y) ls) c
    asked ls contents c x y =
        ap (λ (ts : List (Option Rgba)). stacked ts c) (sym (reverse_aux-map (λ l. texel l contents x y) ls []))
        ∙ stacked_aux (map (λ l. texel l contents x y) ls) [] c

-- ---- scenes
-- a point of the target comes from a point of the whole space
inside_side : (n k : ℕ) → k < n → is_some (along (pos 0) n (pos k)) ≡ true
inside_side n k low = grind (arith, nat_tests, ints)

turned_inside : (t : Rotation) (size : Size) (x y : ℕ) → x < size.w → y < size.h
    → let p : ℕ × ℕ = turned_back t (turned t size) x y in (p.0 < (turned t size).w) × (p.1 < (turned t size).h)
turned_inside R0 size x y a b = (a, b)
turned_inside R90 size x y a b = (b, omega arith)
turned_inside R180 size x y a b = (omega arith, omega arith)
turned_inside R270 size x y a b = (omega arith, a)

pub whole_covers : (s : Scene) (x y : ℕ) → x < s.size.w → y < s.size.h → covers_at s (whole_of s) x y ≡ true
whole_covers s x y a b =
    let p : ℕ × ℕ = turned_back s.turn (turned s.turn s.size) x y in
    let space : Size = turned s.turn s.size in
    let inside = turned_inside s.turn s.size x y a b in
    λ i. inside_side space.w p.0 inside.0 i && inside_side space.h p.1 inside.1 i

-- where every area leaves a pixel out, the pictures agree on it
pub agreement : (old new : Scene) (before now : Images) (x y : ℕ) → x < new.size.w → y < new.size.h
    → All (λ r. covers_at new r x y ≡ false) (areas_of old before new now)
    → picture_pixel old before x y ≡ picture_pixel new now x y
agreement old new before now x y a b out = by (same_frame old new) refl out
  where
    by : (f : Bool) → same_frame old new ≡ f
        → All (λ r. covers_at new r x y ≡ false)
        (if f then areas_between before now old.layers.items new.layers.items else whole_of new ∷ [])
        → picture_pixel old before x y ≡ picture_pixel new now x y
    by true same out =
        let cd = and_parts _ _ same in
        let ab = and_parts _ _ cd.0 in
        let size = size_is old.size new.size ab.0 in
        let turn = turn_is old.turn new.turn ab.1 in
        let background = colour_is old.background new.background cd.1 in
        let p : ℕ × ℕ = turned_back new.turn (turned new.turn new.size) x y in
        (λ i. let q : ℕ × ℕ = turned_back (turn i) (turned (turn i) (size i)) x y in
        colour (reverse old.layers.items) before (background i) (pos q.0) (pos q.1))
        ∙ colours old.layers.items new.layers.items before now new.background (pos p.0) (pos p.1) out
    by false differ out =
        absurd (let none = All-head (λ r. covers_at new r x y ≡ false) (whole_of new) [] out in
        let all = whole_covers new x y a b in cc)
