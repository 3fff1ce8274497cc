-- Places that are copied over others, one by one.
use Rattle.std.proofs.Common.{◌≡◌, ℕ, zero, suc, ◌+◌, ◌-◌, ◌<◌, ◌==◌, List, [], ◌∷◌, ◌++◌, length, take, drop, get_or, refl}
use Rattle.std.proofs.Common.{sym, ap, ◌∙◌, arith}
use Rattle.std.proofs.Common.{Bool, true, false, cond, subst, Some, None, length-take, slice_set, eq-eqb, append_assoc}
use Rattle.std.specs.Prelude.{Option, find, option_map, replicate, All}
use Rattle.std.proofs.lemmas.Bool.{eqb-true}
use Rattle.std.proofs.lemmas.List.{get_or-drop, get_or-append_right, get_or_default, set-append_right, take_more}
use Rattle.std.proofs.lemmas.List.Elements.{filter_map-append}
use Rattle.std.proofs.lemmas.List.Sums.{sum_by-append}
use Rattle.std.proofs.Math.Seq.{drop-cons}
use Rattle.wf_image.specs.Bitmap.{Bitmap}
use Rattle.wf_image.specs.Contents.{AreApart, ArePlaces, AreSomes, bytes_of, image_of, somes}
use Rattle.wf_image.specs.Copies.{AreKnown, IsKnown}
use Rattle.wf_image.specs.Listed.{of_listed}

abbrev pub Place : Type 0
Place = Option (ℕ × Bitmap)

-- an empty place among empty ones
none_at : (k i : ℕ) → get_or (replicate {A = Place} k None) i None ≡ None
none_at zero i = refl
none_at (suc k) zero = refl
none_at (suc k) (suc i) = none_at k i

-- what stands in places that are cut or followed by empty ones stood there before
padded : (places : List Place) (n k i : ℕ) (p : ℕ × Bitmap) → get_or (take n places ++ replicate k None) i None ≡ Some p
    → get_or places i None ≡ Some p
padded places zero k i p is = absurd (let no : None ≡ Some p = sym (none_at k i) ∙ is in cc)
padded [] (suc n) k i p is = absurd (let no : None ≡ Some p = sym (none_at k i) ∙ is in cc)
padded (o ∷ places) (suc n) k zero p is = is
padded (o ∷ places) (suc n) k (suc i) p is = padded places n k i p is

-- the image in a place is its stream's
found_at : (places : List Place) (i : ℕ) (p : ℕ × Bitmap) → AreSomes places → AreApart (somes places) → get_or places i None ≡ Some p
    → image_of p.0 (somes places) ≡ Some p.1
found_at [] i p full apart is = absurd cc
found_at (None ∷ places) i p full apart is = absurd cc
found_at (Some q ∷ places) zero p full apart is =
    ap (λ (o : Place). image_of p.0 (somes (o ∷ places))) is
    ∙ ap (λ (b : Bool). option_map (λ pair. pair.1) (cond b (Some p) (find (λ pair. pair.0 == p.0) (somes places)))) (eq-eqb p.0 p.0 refl)
found_at (Some q ∷ places) (suc i) p full apart is = by (found_at places i p full apart.1 is) (q.0 == p.0) refl
  where
    by : image_of p.0 (somes places) ≡ Some p.1 → (b : Bool) → (q.0 == p.0) ≡ b → image_of p.0 (somes (Some q ∷ places)) ≡ Some p.1
    by later true same =
        absurd (let no : None ≡ Some p.1 = sym apart.0 ∙ ap (λ (n : ℕ). image_of n (somes places)) (eqb-true q.0 p.0 same) ∙ later in cc)
    by later false other =
        ap (λ (b : Bool). option_map (λ pair. pair.1) (cond b (Some q) (find (λ pair. pair.0 == p.0) (somes places)))) other ∙ later

-- what is known of two places is known of places that are equal to them
pub known_as : (same : List ℕ) (a b c d : Place) → a ≡ b → c ≡ d → IsKnown same b d → IsKnown same a c
known_as same a b c d first second known =
    subst (λ (o : Place). IsKnown same o c) (sym first) (subst (λ (o : Place). IsKnown same b o) (sym second) known)

-- what is known of streams is known place by place
pub known_places : (same : List ℕ) (old new cut : List Place) (before now : List (ℕ × Bitmap)) (n k : ℕ) → ArePlaces old → ArePlaces new
    → somes old ≡ before → somes new ≡ now → All (λ stream. image_of stream before ≡ image_of stream now) same
    → cut ≡ take n old ++ replicate k None → AreKnown same cut new
known_places same old new cut before now n k old_are new_are before_is now_is all cut_is i within =
    known_as same (get_or cut i None) (get_or (take n old ++ replicate k None) i None) (get_or new i None) (get_or new i None)
    (ap (λ (l : List Place). get_or l i None) cut_is) refl
    (at (get_or (take n old ++ replicate k None) i None) (get_or new i None) refl refl)
  where
    at : (a b : Place) → get_or (take n old ++ replicate k None) i None ≡ a → get_or new i None ≡ b → IsKnown same a b
    at None b a_is b_is = tt
    at (Some a) None a_is b_is = tt
    at (Some a) (Some b) a_is b_is = λ numbers listed.
        let first : image_of a.0 before ≡ Some a.1 =
        ap (image_of a.0) (sym before_is) ∙ found_at old i a old_are.full old_are.apart (padded old n k i a a_is) in
        let second : image_of b.0 now ≡ Some b.1 =
        ap (image_of b.0) (sym now_is) ∙ found_at new i b new_are.full new_are.apart b_is in
        let one : image_of b.0 before ≡ image_of b.0 now =
        of_listed (λ stream. image_of stream before ≡ image_of stream now) same b.0 all listed in
        let both : Some a.1 ≡ Some b.1 = sym first ∙ ap (λ (s : ℕ). image_of s before) numbers ∙ one ∙ second in
        cc

-- a place that is not copied yet
pub place_left : (old new now : List Place) (i : ℕ) (d : Place) → now ≡ take i new ++ drop i old → length old ≡ length new → i < length new
    → get_or now i d ≡ get_or old i None
place_left old new now i d is count within =
    let len : length (take i new) ≡ i = omega (arith, length-take i new) in
    let here : i + (i - i) ≡ i = omega arith in
    ap (λ (l : List Place). get_or l i d) is
    ∙ get_or-append_right (take i new) (drop i old) i i d len (omega arith)
    ∙ get_or-drop i old (i - i) d
    ∙ ap (λ (n : ℕ). get_or old n d) here
    ∙ get_or_default old i d None (omega (arith, count))

-- one place more is copied
pub place_copied : (old new now : List Place) (i : ℕ) (place d : Place) → now ≡ take i new ++ drop i old → length old ≡ length new
    → i < length new → place ≡ get_or new i d → slice_set now i place ≡ take (i + 1) new ++ drop (i + 1) old
place_copied old new now i place d is count within place_is =
    let len : length (take i new) ≡ i = omega (arith, length-take i new) in
    let none : i - i ≡ 0 = omega arith in
    let next : suc i ≡ i + 1 = omega arith in
    let o : Place = get_or old i None in
    ap (λ (l : List Place). slice_set l i place) is
    ∙ set-append_right (take i new) (drop i old) i i place len (omega arith)
    ∙ ap (λ (n : ℕ). take i new ++ slice_set (drop i old) n place) none
    ∙ ap (λ (l : List Place). take i new ++ slice_set l 0 place) (drop-cons old i None (omega (arith, count)))
    ∙ ap (λ (n : ℕ). take i new ++ place ∷ drop n old) next
    ∙ sym (append_assoc (take i new) (place ∷ []) (drop (i + 1) old))
    ∙ ap (λ (p : Place). (take i new ++ p ∷ []) ++ drop (i + 1) old) place_is
    ∙ ap (λ (l : List Place). l ++ drop (i + 1) old) (sym (take_more new i d within))

-- the bytes of one place more
pub bytes_more : (places : List Place) (i : ℕ) (o : Place) → i < length places → o ≡ get_or places i o
    → bytes_of (somes (take (i + 1) places)) ≡ bytes_of (somes (take i places)) + bytes_of (somes (o ∷ []))
bytes_more places i o within here =
    ap (λ (l : List Place). bytes_of (somes l)) (take_more places i o within)
    ∙ ap (λ (p : Place). bytes_of (somes (take i places ++ p ∷ []))) (sym here)
    ∙ ap (λ (l : List (ℕ × Bitmap)). bytes_of l) (filter_map-append (λ place. place) (take i places) (o ∷ []))
    ∙ sum_by-append (λ (pair : ℕ × Bitmap). length pair.1.bytes) (somes (take i places)) (somes (o ∷ []))
