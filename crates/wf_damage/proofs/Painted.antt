-- Pictures that are painted over older ones, rectangle by rectangle.
use Rattle.std.proofs.Common.{◌≡◌, ℕ, ◌+◌, ◌%◌, ◌<◌, List, [], ◌∷◌, ◌++◌, length, take, get_or, refl, sym, ap, ◌∙◌, arith}
use Rattle.std.proofs.Common.{Bool, true, false, subst, length-set, slice_set, Option, IfSome, None, Some}
use Rattle.wf_calls.specs.declared.call.JobKind.{JobKind}
use Rattle.std.specs.Prelude.{◌||◌, All, if◌then◌else◌}
use Rattle.std.specs.List.{list_any}
use Rattle.std.proofs.lemmas.List.Elements.{All-cons, All-nil, All-set}
use Rattle.wf_pixel.specs.declared.Rgba.{Rgba}
use Rattle.wf_pixel.specs.declared.Rect.{Rect}
use Rattle.wf_pixel.specs.declared.Size.{Size}
use Rattle.wf_pixel.specs.declared.Format.{Format}
use Rattle.wf_image.specs.Bitmap.{Bitmap, image_bytes, stored, drawn_row, drawn, pixel, pixel_bytes}
use Rattle.wf_scene.specs.declared.Scene.{Scene}
use Rattle.wf_model.specs.Picture.{Images, picture, picture_pixel}
use Rattle.wf_damage.specs.Areas.{areas_of, whole_of}
use Rattle.wf_kernel.specs.Parts.{covers_at, part_picture}
use Rattle.wf_damage.proofs.Agreement.{agreement, whole_covers}
use Rattle.wf_damage.specs.declared.bench.Kept.{Kept}
use Rattle.wf_damage.specs.Bench.{over_picture, ArePlaces, IsKept, IsRise, area}
use Rattle.std.proofs.lemmas.List.{take_more, map-append}
use Rattle.std.specs.Prelude.{sum, map, ◌^◌}
use Rattle.std.proofs.Math.Nat.{add-mod-mod}
use Rattle.std.proofs.lemmas.Grind.{common_steps}
use Rattle.wf_image.specs.Pieces.{pieces_same}
use Rattle.wf_image.specs.Drawn.{drawn_of, drawn_same, pixel_drawn, stored_four}

-- ---- rectangle by rectangle
abbrev choice : Scene → Images → Bitmap → List Rect → ℕ → ℕ → Rgba
choice s c old rs x y = if list_any (λ r. covers_at s r x y) rs then picture_pixel s c x y else pixel old x y

-- none yet
pub over_none : (s : Scene) (c : Images) (old : Bitmap) → length old.bytes ≡ image_bytes old.size old.format
    → pixel_bytes old.format ≡ 4 → over_picture s c [] old ≡ old
over_none s c old whole four = drawn_of old whole four

any_more : (p : Rect → Bool) (rs : List Rect) (r : Rect) → list_any p (rs ++ r ∷ []) ≡ (list_any p rs || p r)
any_more p [] r = or_false (p r)
  where
    or_false : (b : Bool) → (b || false) ≡ (false || b)
    or_false true = refl
    or_false false = refl
any_more p (q ∷ rs) r = ap (λ (b : Bool). p q || b) (any_more p rs r) ∙ sym (or_assoc (p q) (list_any p rs) (p r))
  where
    or_assoc : (a b c : Bool) → ((a || b) || c) ≡ (a || (b || c))
    or_assoc true b c = refl
    or_assoc false b c = refl

chosen : (a b : Bool) (new old : Rgba) → (if b then new else (if a then new else old)) ≡ (if (a || b) then new else old)
chosen true true new old = refl
chosen true false new old = refl
chosen false true new old = refl
chosen false false new old = refl

-- one more
pub over_more : (s : Scene) (c : Images) (rs : List Rect) (r : Rect) (old mid : Bitmap) → old.size ≡ s.size → pixel_bytes old.format ≡ 4
    → mid ≡ over_picture s c rs old → part_picture s c r mid ≡ over_picture s c (rs ++ r ∷ []) old
unfolding drawn
over_more s c rs r old mid size four mid_is =
    ap (part_picture s c r) mid_is
    ∙ drawn_same old.size old.format (λ x y. if covers_at s r x y then picture_pixel s c x y else pixel (over_picture s c rs old) x y)
    (choice s c old (rs ++ r ∷ []))
    (λ x y x_low y_low.
    ap (λ (k : Rgba). if covers_at s r x y then picture_pixel s c x y else k)
    (pixel_drawn old.size old.format (choice s c old rs) x y four x_low y_low)
    ∙ chosen (list_any (λ r. covers_at s r x y) rs) (covers_at s r x y) (picture_pixel s c x y) (pixel old x y)
    ∙ ap (λ (b : Bool). if b then picture_pixel s c x y else pixel old x y) (sym (any_more (λ r. covers_at s r x y) rs r)))

-- ---- all of them
none_more : (p : Rect → Bool) (rs : List Rect) (r : Rect) (b : Bool) → p r ≡ b → (b || list_any p rs) ≡ false
    → (list_any p rs ≡ false → All (λ r. p r ≡ false) rs) → All (λ r. p r ≡ false) (r ∷ rs)
none_more p rs r true is none all = absurd cc
none_more p rs r false is none all = All-cons (λ r. p r ≡ false) r rs is (all none)

none_any : (p : Rect → Bool) (rs : List Rect) → list_any p rs ≡ false → All (λ r. p r ≡ false) rs
none_any p [] none = All-nil (λ r. p r ≡ false)
none_any p (r ∷ rs) none = none_more p rs r (p r) refl none (λ out. none_any p rs out)

-- a kept picture, painted over where it may differ, is the picture
pub over_all : (old new : Scene) (before now : Images) (first : Bitmap) (format : Format) → pixel_bytes format ≡ 4
    → new.size ≡ old.size → first ≡ picture old before format
    → over_picture new now (areas_of old before new now) first ≡ picture new now format
unfolding drawn
over_all old new before now first format four size first_is =
    let rs : List Rect = areas_of old before new now in
    let f : ℕ → ℕ → Rgba = λ x y.
    if list_any (λ r. covers_at new r x y) rs then picture_pixel new now x y else pixel (picture old before format) x y in
    ap (λ (image : Bitmap). over_picture new now rs image) first_is
    ∙ ap (λ (s : Size). drawn s format f) (sym size)
    ∙ drawn_same new.size format f (picture_pixel new now)
    (λ x y x_low y_low. at x y x_low y_low (list_any (λ r. covers_at new r x y) rs) refl)
  where
    at : (x y : ℕ) → x < new.size.w → y < new.size.h → (b : Bool) → list_any (λ r. covers_at new r x y) (areas_of old before new now) ≡ b
        → (if b then picture_pixel new now x y else pixel (picture old before format) x y) ≡ picture_pixel new now x y
    at x y x_low y_low true is = refl
    at x y x_low y_low false is =
        let w : x < old.size.w = subst (λ (s : Size). x < s.w) size x_low in
        let h : y < old.size.h = subst (λ (s : Size). y < s.h) size y_low in
        pixel_drawn old.size format (picture_pixel old before) x y four w h
        ∙ agreement old new before now x y x_low y_low (none_any (λ r. covers_at new r x y) (areas_of old before new now) is)

-- the whole space painted anew
pub over_whole : (s : Scene) (c : Images) (old : Bitmap) → old.size ≡ s.size → part_picture s c (whole_of s) old ≡ picture s c old.format
unfolding drawn
over_whole s c old size =
    let f : ℕ → ℕ → Rgba = λ x y. if covers_at s (whole_of s) x y then picture_pixel s c x y else pixel old x y in
    ap (λ (z : Size). drawn z old.format f) size
    ∙ drawn_same s.size old.format f (picture_pixel s c)
    (λ x y x_low y_low. ap (λ (b : Bool). if b then picture_pixel s c x y else pixel old x y) (whole_covers s x y x_low y_low))

-- ---- a kept picture is copied
pub picture_size : (s : Scene) (c : Images) (format : Format) → (picture s c format).size ≡ s.size
unfolding drawn
picture_size s c format = refl

pub picture_format : (s : Scene) (c : Images) (format : Format) → (picture s c format).format ≡ format
unfolding drawn
picture_format s c format = refl

pub part_size : (s : Scene) (c : Images) (r : Rect) (old : Bitmap) → (part_picture s c r old).size ≡ old.size
unfolding drawn
part_size s c r old = refl

pub part_format : (s : Scene) (c : Images) (r : Rect) (old : Bitmap) → (part_picture s c r old).format ≡ old.format
unfolding drawn
part_format s c r old = refl

pub same_bytes : (s : Scene) (c : Images) (f g : Format) → pixel_bytes f ≡ 4 → pixel_bytes g ≡ 4
    → (picture s c f).bytes ≡ (picture s c g).bytes
unfolding drawn
same_bytes s c f g f_four g_four =
    pieces_same (λ y. drawn_row s.size.w f (λ x. picture_pixel s c x y)) (λ y. drawn_row s.size.w g (λ x. picture_pixel s c x y)) 0 s.size.h
    (λ y from below. pieces_same (λ x. stored f (picture_pixel s c x y)) (λ x. stored g (picture_pixel s c x y)) 0 s.size.w
    (λ x start within. sym (stored_four f (picture_pixel s c x y) f_four) ∙ stored_four g (picture_pixel s c x y) g_four))

-- bytes of a picture in an image of its size and of another format
pub copied_is : (s : Scene) (c : Images) (format : Format) (kept target : Bitmap) → kept ≡ picture s c format → pixel_bytes format ≡ 4
    → target.size ≡ s.size → pixel_bytes target.format ≡ 4 → record target { bytes = kept.bytes } ≡ picture s c target.format
unfolding drawn
copied_is s c format kept target kept_is four size target_four =
    let bytes = ap (λ (b : Bitmap). b.bytes) kept_is ∙ same_bytes s c format target.format four target_four in
    λ i. record { size = size i; format = target.format; bytes = bytes i }

-- ---- places
-- a place that is used anew
pub are_places : (old : List (Option Kept)) (i : ℕ) (place : Option Kept) → ArePlaces old → IfSome place IsKept
    → ArePlaces (slice_set old i place)
are_places old i place are kept =
    record {
      count = length-set old i place ∙ are.count;
      kept = All-set (λ place. IfSome place IsKept) old i place kept are.kept;
    }

-- what is kept of a frame that was painted
pub kept_is : (place : Option Kept) (kind : JobKind) (s : Scene) (c : Images) (target : Bitmap) (format : Format) → pixel_bytes format ≡ 4
    → target ≡ picture s c format → IfSome place (λ k. k ≡ record { kind = kind; scene = s; contents = c; picture = target })
    → IfSome place IsKept
kept_is None kind s c target format four is kept = tt
kept_is (Some k) kind s c target format four is kept =
    let same : target.format ≡ format = ap (λ (b : Bitmap). b.format) is ∙ picture_format s c format in
    subst IsKept (sym kept)
    (record {
      four = ap pixel_bytes same ∙ four;
      picture_is = is ∙ ap (λ (f : Format). picture s c f) (sym same);
    })

-- ---- counts
pub rise_none : (n : ℕ) → IsRise n n 0
rise_none n = omega arith

pub rise_more : (a b c m n : ℕ) → IsRise a b m → IsRise b c n → IsRise a c (m + n)
rise_more a b c m n one two =
    two ∙ sym (mod-add n b) ∙ ap (λ (k : ℕ). (n + k) % 2 ^ 64) one ∙ mod-add n (a + m) ∙ ap (λ (k : ℕ). k % 2 ^ 64) (omega arith)
  where
    mod-add : (n k : ℕ) → (n + k % 2 ^ 64) % 2 ^ 64 ≡ (k + n) % 2 ^ 64
    mod-add n k = add-mod-mod n k (2 ^ 64) ∙ ap (λ (j : ℕ). j % 2 ^ 64) (omega arith)

pub sum_more : (rs : List Rect) (i : ℕ) (d : Rect) → i < length rs
    → sum (map area (take (i + 1) rs)) ≡ sum (map area (take i rs)) + area (get_or rs i d)
sum_more rs i d low =
    ap (λ (ns : List ℕ). sum ns) (ap (map area) (take_more rs i d low) ∙ map-append area (take i rs) (get_or rs i d ∷ []))
    ∙ sum-last (map area (take i rs)) (area (get_or rs i d))
  where
    sum-last : (ns : List ℕ) (n : ℕ) → sum (ns ++ n ∷ []) ≡ sum ns + n
    sum-last ns n = grind (arith, common_steps)
