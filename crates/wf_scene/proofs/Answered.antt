-- What a value stands for is answered in the numbers of that value.
use Rattle.std.proofs.Common.{◌≡◌, ℕ, Bool, true, false, cond, List, [], ◌∷◌, refl, sym, ap, ◌∙◌, subst, Option, Some, None}
use Rattle.std.specs.Prelude.{ℤ, pos, negsuc, option_map}
use Rattle.std.proofs.lemmas.Bool.{eqb-true, false≢true}
use Rattle.wf_words.specs.Whole.{count_of}
use Rattle.wf_pixel.specs.declared.Rect.{Rect}
use Rattle.wf_scene.specs.declared.attributes.ElementAttr.{ElementAttr}
use Rattle.wf_scene.specs.declared.attributes.ElementAttr.TheVariants as attr
use Rattle.wf_scene.specs.declared.element.Element.{Element}
use Rattle.wf_words.specs.Options.{◌>>=◌}
use Rattle.wf_scene.specs.Values.{component, word, is_extent, is_channel, is_handle, coordinate_of, extent_of, channel_of, rect_of}
use Rattle.wf_scene.specs.Values.{is_count, with_number, flag_of, turn_of, filter_of, transparency_of, rect_numbers, flag_number, degrees}
use Rattle.wf_scene.specs.Values.{filter_number, transparency_number, flags, turns, filters, transparencies}
use Rattle.wf_pixel.specs.Choice.{is_coordinate}
use Rattle.wf_scene.specs.Elements.{change_of, numbers, may_take, with_dest, with_src, with_flip, with_turn, with_filter, with_transparency}
use Rattle.wf_scene.specs.Elements.{with_alpha, with_source, with_mask}
use Rattle.wf_scene.specs.Told.{four, told}

-- a value that a test lets through
kept : {A : Type 0} (b : Bool) (x y : A) → cond b (Some x) None ≡ Some y → (b ≡ true) × (x ≡ y)
kept true x y e = (refl, cc)
kept false x y e = absurd cc

coordinate_told : (z x : ℤ) → coordinate_of z ≡ Some x → word x ≡ word z
coordinate_told z x e = ap word (sym (kept (is_coordinate z) z x e).1)

-- a number that is not negative is its own count
count_told : (z : ℤ) (n : ℕ) (b : ℤ → Bool) → ((m : ℕ) → b (negsuc m) ≡ false) → cond (b z) (Some (count_of z)) None ≡ Some n → n ≡ word z
count_told (pos m) n b low e = sym (kept (b (pos m)) m n e).1
count_told (negsuc m) n b low e = absurd (false≢true (sym (low m) ∙ (kept (b (negsuc m)) 0 n e).0))

extent_told : (z : ℤ) (n : ℕ) → extent_of z ≡ Some n → n ≡ word z
extent_told z n e = count_told z n is_extent (λ m. refl) e

channel_told : (z : ℤ) (n : ℕ) → channel_of z ≡ Some n → n ≡ word z
channel_told z n e = count_told z n is_channel (λ m. refl) e

handle_told : (z : ℤ) (n : ℕ) → is_handle z ≡ true → Some (count_of z) ≡ Some n → n ≡ word z
handle_told (pos m) n fits e = cc
handle_told (negsuc m) n fits e = absurd (false≢true fits)

-- a value that was found by its number has it
number_told : {A : Type 0} (number : A → ℕ) (values : List A) (z : ℤ) (x : A) → with_number number values z ≡ Some x → number x ≡ word z
number_told number [] z x e = absurd cc
number_told number (y ∷ ys) z x e = go (is_count (number y) z) refl e (number_told number ys z x)
  where
    same : (n : ℕ) (w : ℤ) → is_count n w ≡ true → n ≡ word w
    same n (pos m) t = sym (eqb-true m n t)
    same n (negsuc m) t = absurd (false≢true t)

    go : (b : Bool) → is_count (number y) z ≡ b → cond b (Some y) (with_number number ys z) ≡ Some x
        → (with_number number ys z ≡ Some x → number x ≡ word z) → number x ≡ word z
    go true t found later = let is : y ≡ x = cc in ap number (sym is) ∙ same (number y) z t
    go false t found later = later found

rect_told : (v : List ℤ) (r : Rect) → rect_of v ≡ Some r → rect_numbers r ≡ four v
rect_told v r e =
    go (coordinate_of (component v 0)) (coordinate_of (component v 1)) (extent_of (component v 2)) (extent_of (component v 3)) refl refl
    refl refl e
  where
    go : (a b : Option ℤ) (c d : Option ℕ) → coordinate_of (component v 0) ≡ a → coordinate_of (component v 1) ≡ b
        → extent_of (component v 2) ≡ c → extent_of (component v 3) ≡ d
        → (a >>= (λ x. b >>= (λ y. c >>= (λ w. d >>= (λ h. Some (record { x = x; y = y; w = w; h = h })))))) ≡ Some r
        → rect_numbers r ≡ four v
    go (Some x) (Some y) (Some w) (Some h) ex ey ew eh is =
        let same : ◌≡◌ {A = Rect} (record { x = x; y = y; w = w; h = h }) r = cc in
        let px = coordinate_told (component v 0) x ex in
        let py = coordinate_told (component v 1) y ey in
        let pw = extent_told (component v 2) w ew in
        let ph = extent_told (component v 3) h eh in
        sym (ap rect_numbers same) ∙ cc
    go _ _ _ _ ex ey ew eh is = absurd cc

-- what a changed element tells, by what its change was made of
changed_told : {A : Type 0} (o : Option A) (w : A → Element → Element) (f : Element → Element) (e : Element) (a : ElementAttr) (ns : List ℕ)
    → ((x : A) → o ≡ Some x → numbers a (w x e) ≡ ns) → option_map w o ≡ Some f → numbers a (f e) ≡ ns
changed_told None w f e a ns tells is = absurd cc
changed_told (Some x) w f e a ns tells is = let same : w x ≡ f = cc in
    subst (λ (g : Element → Element). numbers a (g e) ≡ ns) same (tells x refl)

one : (n m : ℕ) → n ≡ m → n ∷ [] ≡ m ∷ []
one n m e = ap (λ k. k ∷ []) e

-- the numbers of an element are those of the value that was set
pub set_told : (a : ElementAttr) (v : List ℤ) (f : Element → Element) (e : Element) → may_take a v ≡ true → change_of a v ≡ Some f
    → numbers a (f e) ≡ told a v
set_told attr.Dest v f e fits is = changed_told (rect_of v) with_dest f e attr.Dest (four v) (rect_told v) is
set_told attr.Source v f e fits is =
    changed_told (Some (count_of (component v 0))) with_source f e attr.Source (told attr.Source v)
    (λ n m. one n _ (handle_told (component v 0) n fits m)) is
set_told attr.SrcRect v f e fits is = changed_told (rect_of v) with_src f e attr.SrcRect (four v) (rect_told v) is
set_told attr.Flip v f e fits is =
    changed_told (flag_of (component v 0)) with_flip f e attr.Flip (told attr.Flip v)
    (λ b m. one _ _ (number_told flag_number flags (component v 0) b m)) is
set_told attr.Rotation v f e fits is =
    changed_told (turn_of (component v 0)) with_turn f e attr.Rotation (told attr.Rotation v)
    (λ t m. one _ _ (number_told degrees turns (component v 0) t m)) is
set_told attr.Filter v f e fits is =
    changed_told (filter_of (component v 0)) with_filter f e attr.Filter (told attr.Filter v)
    (λ t m. one _ _ (number_told filter_number filters (component v 0) t m)) is
set_told attr.Transparency v f e fits is =
    changed_told (transparency_of (component v 0)) with_transparency f e attr.Transparency (told attr.Transparency v)
    (λ t m. one _ _ (number_told transparency_number transparencies (component v 0) t m)) is
set_told attr.Alpha v f e fits is =
    changed_told (channel_of (component v 0)) with_alpha f e attr.Alpha (told attr.Alpha v)
    (λ n m. one n _ (channel_told (component v 0) n m)) is
set_told attr.Mask v f e fits is =
    changed_told (Some (count_of (component v 0))) with_mask f e attr.Mask (told attr.Mask v)
    (λ n m. one n _ (handle_told (component v 0) n fits m)) is
