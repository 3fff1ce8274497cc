-- Layers bound to their images and to the target show the pixels of the picture.
use Rattle.std.proofs.Common.{◌≡◌, ℕ, ◌+◌, ◌-◌, ◌<◌, List, [], ◌∷◌, ◌++◌, length, take, get_or, ℤ, pos, true, false, refl, sym, ap, subst}
use Rattle.std.proofs.Common.{◌∙◌, arith}
use Rattle.std.specs.Prelude.{◌-ℤ◌, ◌≤◌, Bool, cond, map, reverse, Option}
use Rattle.std.specs.List.{count_by}
use Rattle.std.proofs.Common.{⊎_elim}
use Rattle.std.proofs.lemmas.Bool.{cases_lt}
use Rattle.std.proofs.lemmas.List.Sums.{count_by_more_yes, count_by_more_no, count_by-le-length, sum_by-take-le}
use Rattle.std.proofs.lemmas.Int.{ints}
use Rattle.std.proofs.lemmas.Simd.{map-map}
use Rattle.std.proofs.lemmas.List.{take_more, take_all, map-append, length-take, get_or_default}
use mathlib.Core.List.{reverse_aux}
use Rattle.wf_pixel.specs.declared.Rgba.{Rgba}
use Rattle.wf_pixel.specs.declared.Rotation.{Rotation}
use Rattle.wf_pixel.specs.declared.Rotation.TheVariants.{R0, R90, R180, R270}
use Rattle.wf_pixel.specs.declared.Size.{Size}
use Rattle.wf_pixel.specs.Place.{turned, turned_back}
use Rattle.wf_image.specs.Contents.{image_of}
use Rattle.wf_scene.specs.declared.Layer.{Layer}
use Rattle.wf_scene.specs.declared.Scene.{Scene}
use Rattle.wf_model.specs.Picture.{Images, mask_of, texel_of, stacked, picture_pixel}
use Rattle.wf_kernel.specs.Bound.{Bound, bound, point_of, texel_in, bound_texel, bound_colour}
use Rattle.wf_kernel.specs.Prepared.{IsTable, AreTables, needs_table, tables_before, table_count}
use Rattle.wf_kernel.proofs.Reaches.{cut_in}

-- a map before or after a reversal
reverse_aux-map : {X Y : Type 0} (f : X → Y) (xs ys : List X) → reverse_aux (map f xs) (map f ys) ≡ map f (reverse_aux xs ys)
reverse_aux-map f [] ys = refl
reverse_aux-map f (x ∷ xs) ys = reverse_aux-map f xs (x ∷ ys)

-- ---- the point of the space
less : (n x : ℕ) → x < n → pos n -ℤ pos (x + 1) ≡ pos (n - 1 - x)
less n x low = let back : n ≡ n - 1 - x + (x + 1) = omega arith in omega (arith, ints)

point_is : (t : Rotation) (size : Size) (x y : ℕ) → x < size.w → y < size.h
    → let p : ℕ × ℕ = turned_back t (turned t size) x y in point_of t (turned t size) x y ≡ (pos p.0, pos p.1)
point_is R0 size x y a b = refl
point_is R90 size x y a b = λ i. (pos y, less size.w x a i)
point_is R180 size x y a b = λ i. (less size.w x a i, less size.h y b i)
point_is R270 size x y a b = λ i. (less size.h y b i, pos x)

-- ---- the colour of all layers
pub bound_colour_is : (scene : Scene) (contents : Images) (left right x y : ℕ) → left ≤ x → x < right → x < scene.size.w
    → y < scene.size.h
    → bound_colour (map (bound scene contents left right) scene.layers.items) scene.background x y ≡ picture_pixel scene contents x y
bound_colour_is scene contents left right x y low high a b =
    let shown : Bound → Option Rgba = λ b. bound_texel b x y in
    let one : Layer → Bound = bound scene contents left right in
    ap (λ (layers : List Bound). stacked (map shown layers) scene.background) (reverse_aux-map one scene.layers.items [])
    ∙ ap (λ (texels : List (Option Rgba)). stacked texels scene.background) (map-map shown one (reverse scene.layers.items))
    ∙ (λ i. stacked (map (λ l. cut_in left right x (texel_in (one l) (point_of (one l).turn (one l).space x y)) low high i)
    (reverse scene.layers.items)) scene.background)
    ∙ ap (λ (p : ℤ × ℤ). stacked (map (λ l. texel_of l (image_of l.stream contents) (mask_of l (image_of l.mask contents) p.0 p.1) p.0 p.1)
    (reverse scene.layers.items)) scene.background)
    (point_is scene.turn scene.size x y a b)

-- ---- one layer after the other
-- one more layer
pub bound_more : (f : Layer → Bound) (layers all : List Layer) (i : ℕ) (d : Layer) (before after : List Bound) (b : Bound) → layers ≡ all
    → i < length layers
    → before ≡ map f (take i all) → b ≡ f (get_or layers i d) → after ≡ before ++ b ∷ [] → after ≡ map f (take (i + 1) all)
bound_more f layers all i d before after b layers_are low before_is b_is after_is =
    let more : take (i + 1) all ≡ take i all ++ get_or layers i d ∷ [] =
    ap (take (i + 1)) (sym layers_are) ∙ take_more layers i d low
    ∙ ap (λ (ls : List Layer). take i ls ++ get_or layers i d ∷ []) layers_are in
    after_is ∙ (λ j. before_is j ++ b_is j ∷ []) ∙ sym (map-append f (take i all) (get_or layers i d ∷ [])) ∙ ap (map f) (sym more)

-- ---- tables
-- one more element is counted, or none
count_next : (p : Layer → Bool) (xs : List Layer) (i : ℕ) (d : Layer) (b : Bool) → p (get_or xs i d) ≡ b → i < length xs → (place next : ℕ)
    → place ≡ count_by p (take i xs) → (p (get_or xs i d) ≡ true → next ≡ place + 1) → (p (get_or xs i d) ≡ false → next ≡ place)
    → next ≡ count_by p (take (i + 1) xs)
count_next p xs i d true is low place next place_is taken passed =
    taken is ∙ ap (λ (n : ℕ). n + 1) place_is ∙ sym (count_by_more_yes p xs i d low is)
count_next p xs i d false is low place next place_is taken passed = passed is ∙ place_is ∙ sym (count_by_more_no p xs i d low is)

-- the place behind a layer's
pub place_next : (scene : Scene) (layers : List Layer) (i : ℕ) (d : Layer) (place next : ℕ) → layers ≡ scene.layers.items
    → i < length layers → place ≡ tables_before scene i → (needs_table scene.turn (get_or layers i d) ≡ true → next ≡ place + 1)
    → (needs_table scene.turn (get_or layers i d) ≡ false → next ≡ place) → next ≡ tables_before scene (i + 1)
place_next scene layers i d place next layers_are low place_is taken passed =
    let p : Layer → Bool = needs_table scene.turn in
    let Is : List Layer → Type 0 = λ ls. i < length ls → (p (get_or ls i d) ≡ true → next ≡ place + 1)
    → (p (get_or ls i d) ≡ false → next ≡ place) → next ≡ tables_before scene (i + 1) in
    subst Is (sym layers_are)
    (λ inside taken passed.
    count_next p scene.layers.items i d (p (get_or scene.layers.items i d)) refl inside place next place_is taken passed)
    low taken passed

-- a place is not behind that of its layer
pub place_low : (scene : Scene) (n place : ℕ) → place ≡ tables_before scene n → place ≤ n
place_low scene n place place_is =
    let few : count_by (needs_table scene.turn) (take n scene.layers.items) ≤ length (take n scene.layers.items) =
    count_by-le-length (needs_table scene.turn) (take n scene.layers.items) in
    let len = length-take n scene.layers.items in
    omega arith

-- a table has its place among all
pub before_less : (scene : Scene) (i : ℕ) (d : Layer) → i < length scene.layers.items
    → needs_table scene.turn (get_or scene.layers.items i d) ≡ true → tables_before scene i < table_count scene
before_less scene i d low needs =
    let p : Layer → Bool = needs_table scene.turn in
    let one : count_by p (take (i + 1) scene.layers.items) ≡ count_by p (take i scene.layers.items) + 1 =
    count_by_more_yes p scene.layers.items i d low needs in
    let most : count_by p (take (i + 1) scene.layers.items) ≤ count_by p scene.layers.items =
    sum_by-take-le (λ (l : Layer). cond (p l) 1 0) scene.layers.items (i + 1) in
    omega arith

-- there is room for it
pub table_room : (scene : Scene) (layers : List Layer) (i : ℕ) (d : Layer) (place n : ℕ) → layers ≡ scene.layers.items → i < length layers
    → place ≡ tables_before scene i → table_count scene ≤ n → needs_table scene.turn (get_or layers i d) ≡ true → place < n
table_room scene layers i d place n layers_are low place_is room needs =
    let Has : List Layer → Type 0 = λ ls. i < length ls → needs_table scene.turn (get_or ls i d) ≡ true → place < n in
    subst Has (sym layers_are)
    (λ inside need. let before = before_less scene i d inside need in omega (arith, before, place_is, room))
    low needs

-- the table of a layer
pub table_for : (scene : Scene) (left right : ℕ) (tables : List (List ℕ)) (layers : List Layer) (i place : ℕ) (d : Layer)
    (table : List ℕ) → AreTables scene left right tables → layers ≡ scene.layers.items → i < length layers → place ≡ tables_before scene i
    → (place < length tables → (e : List ℕ) → table ≡ get_or tables place e) → needs_table scene.turn (get_or layers i d) ≡ true
    → IsTable scene.turn (turned scene.turn scene.size) left right (get_or layers i d) table
table_for scene left right tables layers i place d table are layers_are low place_is table_is needs =
    let Has : List Layer → Type 0 = λ ls. i < length ls → needs_table scene.turn (get_or ls i d) ≡ true
    → IsTable scene.turn (turned scene.turn scene.size) left right (get_or ls i d) table in
    let At : ℕ → Type 0 = λ n. n < length tables → (e : List ℕ) → table ≡ get_or tables n e in
    let there : At (tables_before scene i) = subst At place_is table_is in
    let none : List ℕ = [] in
    subst Has (sym layers_are)
    (λ inside need.
    let found = are i d none inside need in
    subst (λ (t : List ℕ). IsTable scene.turn (turned scene.turn scene.size) left right (get_or scene.layers.items i d) t)
    (sym (there found.0 none)) found.1)
    low needs

-- no table is needed
pub no_tables : (scene : Scene) (left right : ℕ) → table_count scene ≡ 0 → AreTables scene left right []
no_tables scene left right none i d e low needs = absurd (let before = before_less scene i d low needs in omega (arith, before, none))

-- the tables of the layers so far
abbrev pub AreFilled : Scene → ℕ → ℕ → List Layer → ℕ → ℕ → List (List ℕ) → Type 0
AreFilled scene left right layers i place tables =
    (k : ℕ) (d : Layer) (e : List ℕ) → k < i → needs_table scene.turn (get_or layers k d) ≡ true
    → (tables_before scene k < place)
    × IsTable scene.turn (turned scene.turn scene.size) left right (get_or layers k d) (get_or tables (tables_before scene k) e)

-- one more table
pub filled_more : (scene : Scene) (left right : ℕ) (layers : List Layer) (i place next : ℕ) (d : Layer) (space : Size)
    (old new : List (List ℕ)) → i < length layers → place ≡ tables_before scene i → next ≡ tables_before scene (i + 1) → place ≤ next
    → (needs_table scene.turn (get_or layers i d) ≡ true → next ≡ place + 1)
    → ((k : ℕ) (e : List ℕ) → k < place → get_or new k e ≡ get_or old k e) → space ≡ turned scene.turn scene.size
    → (needs_table scene.turn (get_or layers i d) ≡ true → (e : List ℕ)
    → IsTable scene.turn space left right (get_or layers i d) (get_or new place e))
    → AreFilled scene left right layers i place old → AreFilled scene left right layers (i + 1) next new
filled_more scene left right layers i place next d space old new low place_is next_is up taken same whole table filled k c e behind needs =
    let Is : Size → Layer → List ℕ → Type 0 = λ s l t. IsTable scene.turn s left right l t in
    let full : Size = turned scene.turn scene.size in
    ⊎_elim
    (λ (under : k < i).
    let was = filled k c e under needs in
    (omega (arith, was.0, up), subst (Is full (get_or layers k c)) (sym (same (tables_before scene k) e was.0)) was.1))
    (λ (over : i ≤ k).
    let at : i ≡ k = omega (arith, over, behind) in
    let Goal : ℕ → Type 0 = λ j. needs_table scene.turn (get_or layers j c) ≡ true
    → (tables_before scene j < next) × Is full (get_or layers j c) (get_or new (tables_before scene j) e) in
    let layer : get_or layers i c ≡ get_or layers i d = get_or_default layers i c d low in
    subst Goal at
    (λ need.
    let need' : needs_table scene.turn (get_or layers i d) ≡ true = ap (needs_table scene.turn) (sym layer) ∙ need in
    let one = taken need' in (
      omega (arith, one, place_is),
      subst (λ (n : ℕ). Is full (get_or layers i c) (get_or new n e)) place_is
          (subst (λ (l : Layer). Is full l (get_or new place e)) (sym layer)
          (subst (λ (s : Size). Is s (get_or layers i d) (get_or new place e)) whole (table need' e))),
    ))
    needs)
    (cases_lt k i)

-- all of them
pub filled_all : (scene : Scene) (left right : ℕ) (layers : List Layer) (i place : ℕ) (tables : List (List ℕ))
    → layers ≡ scene.layers.items → length layers ≤ i → place ≡ tables_before scene i → place ≤ length tables
    → AreFilled scene left right layers i place tables → AreTables scene left right tables
filled_all scene left right layers i place tables layers_are end place_is room filled k d e low needs =
    let Has : List Layer → Type 0 = λ ls. k < length ls → needs_table scene.turn (get_or ls k d) ≡ true
    → (tables_before scene k < length tables)
    × IsTable scene.turn (turned scene.turn scene.size) left right (get_or ls k d) (get_or tables (tables_before scene k) e) in
    subst Has layers_are
    (λ inside need.
    let found = filled k d e (omega (arith, inside, end)) need in
    (omega (arith, found.0, room), found.1))
    low needs

-- as many as there are
pub all_counted : (scene : Scene) (layers : List Layer) (i place : ℕ) → layers ≡ scene.layers.items → length layers ≤ i
    → place ≡ tables_before scene i → place ≡ table_count scene
all_counted scene layers i place layers_are end place_is =
    let len : length scene.layers.items ≤ i = subst (λ (ls : List Layer). length ls ≤ i) layers_are end in
    place_is ∙ ap (count_by (needs_table scene.turn)) (take_all i scene.layers.items len)
