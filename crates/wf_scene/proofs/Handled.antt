-- What stays true of a cached scene after each call.
use Rattle.std.proofs.Common.{◌≡◌, ℕ, ◌<◌, ◌≤◌, Bool, true, false, not, cond, ◌==◌, List, [], ◌∷◌, ◌++◌, length, refl, sym, ◌∙◌, arith}
use Rattle.std.specs.List.{list_all}
use Rattle.std.proofs.lemmas.List.{map-append, length-append, length-map}
use Rattle.std.proofs.lemmas.List.Folds.{list_all-append}
use Rattle.std.proofs.lemmas.Bool.{or_parts, and_parts, and_from, ne_eqb}
use Rattle.std.proofs.lemmas.Bool.Decides.{nat_tests}
use Rattle.wf_words.specs.Keyed.{change, is_in}
use Rattle.wf_scene.specs.declared.element.Element.{Element}
use Rattle.wf_scene.specs.Elements.{new_element}
use Rattle.wf_scene.specs.Order.{AreApart, without, inserted, has_no_room}
use Rattle.wf_scene.specs.Cached.{CachedScene, IsOrderly, handle_of, handles, is_live, is_placed, has_element, without_element, add, forget}
use Rattle.wf_scene.specs.Keeping.{KeepsHandle, KeepsPlace}
use Rattle.wf_scene.proofs.Once.{any_key}
use Rattle.wf_scene.proofs.Kept.{apart_without, apart_inserted, absent_less, in_less, all_without, all_inserted, length_without}
use Rattle.wf_scene.proofs.Kept.{length_inserted}
use Rattle.wf_scene.specs.declared.TheConstants.{MOST_ELEMENTS}

-- an element lives where its handle is one of the handles
pub live_handle : (h : ℕ) (es : List Element) → is_live h es ≡ is_in h (handles es)
live_handle h es = sym (any_key handle_of h es)

-- the handles without that of an element
pub handles_without : (h : ℕ) (es : List Element) → handles (without_element h es) ≡ without h (handles es)
handles_without h [] = refl
handles_without h (e ∷ es) = let later = handles_without h es in grind (arith, nat_tests, later)

-- a change that keeps the handle of an element keeps all handles
pub handles_changed : (h : ℕ) (f : Element → Element) (es : List Element) → KeepsHandle f → handles (change handle_of h f es) ≡ handles es
handles_changed h f [] keeps = refl
handles_changed h f (e ∷ es) keeps =
    let later = handles_changed h f es keeps in
    let same = keeps e in
    grind (arith, nat_tests, later, same)

-- one more handle

pub in_more : (z h : ℕ) (xs : List ℕ) → is_in z xs ≡ true → is_in z (xs ++ h ∷ []) ≡ true
in_more z h [] there = cc
in_more z h (x ∷ xs) there = let later = in_more z h xs in grind (arith, nat_tests, later, there)

pub absent_more : (z h : ℕ) (xs : List ℕ) → is_in z xs ≡ false → (h == z) ≡ false → is_in z (xs ++ h ∷ []) ≡ false
absent_more z h [] absent other = grind (arith, nat_tests, other)
absent_more z h (x ∷ xs) absent other = let later = absent_more z h xs in grind (arith, nat_tests, later, absent, other)

pub apart_more : (h : ℕ) (xs : List ℕ) → AreApart xs → is_in h xs ≡ false → AreApart (xs ++ h ∷ [])
apart_more h [] apart absent = (refl, tt)
apart_more h (x ∷ xs) apart absent =
    let parts = or_parts (x == h) (is_in h xs) absent in
    let other : (h == x) ≡ false = grind (arith, nat_tests, parts.0) in
    (absent_more x h xs apart.0 other, apart_more h xs apart.1 parts.1)

all_more : (h : ℕ) (hs xs : List ℕ) → list_all (λ z. is_in z hs) xs ≡ true → list_all (λ z. is_in z (hs ++ h ∷ [])) xs ≡ true
all_more h hs [] all = refl
all_more h hs (x ∷ xs) all =
    let parts = and_parts (is_in x hs) (list_all (λ z. is_in z hs) xs) all in
    and_from (is_in x (hs ++ h ∷ [])) (list_all (λ z. is_in z (hs ++ h ∷ [])) xs) (in_more x h hs parts.0) (all_more h hs xs parts.1)

-- one handle fewer

all_less : (h : ℕ) (hs xs : List ℕ) → list_all (λ z. is_in z hs) xs ≡ true → list_all (λ z. is_in z (without h hs)) (without h xs) ≡ true
all_less h hs [] all = refl
all_less h hs (x ∷ xs) all = go (x == h) refl (all_less h hs xs parts.1)
  where
    parts : (is_in x hs ≡ true) × (list_all (λ z. is_in z hs) xs ≡ true)
    parts = and_parts (is_in x hs) (list_all (λ z. is_in z hs) xs) all

    go : (b : Bool) → (x == h) ≡ b → list_all (λ z. is_in z (without h hs)) (without h xs) ≡ true
        → list_all (λ z. is_in z (without h hs)) (cond (not b) (x ∷ without h xs) (without h xs)) ≡ true
    go true e later = later
    go false e later =
        and_from (is_in x (without h hs)) (list_all (λ z. is_in z (without h hs)) (without h xs)) (in_less x h hs e parts.0) later

length_less : (h : ℕ) (es : List Element) → length (without_element h es) ≤ length es
length_less h [] = omega arith
length_less h (e ∷ es) = let later = length_less h es in grind (arith, nat_tests, later)

-- a test that each element passes
module _ (q : Element → Bool) where
  -- is passed by each without one
  all_left : (h : ℕ) (es : List Element) → list_all q es ≡ true → list_all q (without_element h es) ≡ true
  all_left h [] all = refl
  all_left h (e ∷ es) all = let later = all_left h es in grind (arith, nat_tests, later, all)

  -- and by each after a change that keeps it
  all_changed : (h : ℕ) (f : Element → Element) (es : List Element) → ((e : Element) → q e ≡ true → q (f e) ≡ true) → list_all q es ≡ true
      → list_all q (change handle_of h f es) ≡ true
  all_changed h f [] keeps all = refl
  all_changed h f (e ∷ es) keeps all =
      let later = all_changed h f es keeps in
      let kept = keeps e in
      grind (arith, nat_tests, later, kept, all)

-- each call leaves a cached scene orderly

module _ (c : CachedScene) (orderly : IsOrderly c) where
  pub orderly_inserted : (h b : ℕ) → has_element h c ≡ true → has_no_room h c.order ≡ false
      → IsOrderly (record c { order = inserted h b c.order })
  orderly_inserted h b there room =
      record {
        apart = orderly.apart;
        named = orderly.named;
        few = orderly.few;
        placed = orderly.placed;
        once = apart_inserted h b c.order orderly.once;
        live = all_inserted (λ z. is_in z (handles c.elements)) h b c.order (sym (live_handle h c.elements) ∙ there) orderly.live;
        room = length_inserted h b c.order orderly.once orderly.room room;
      }

  pub orderly_removed : (h : ℕ) → IsOrderly (record c { order = without h c.order })
  orderly_removed h =
      record {
        apart = orderly.apart;
        named = orderly.named;
        few = orderly.few;
        placed = orderly.placed;
        once = apart_without h c.order orderly.once;
        live = all_without (λ z. is_in z (handles c.elements)) h c.order orderly.live;
        room = omega (arith, orderly.room, length_without h c.order);
      }

  pub orderly_added : (h : ℕ) → length c.elements < MOST_ELEMENTS → 0 < h → has_element h c ≡ false → IsOrderly (add h c)
  orderly_added h few named fresh =
      let more = map-append handle_of c.elements (new_element h ∷ []) in
      let absent = sym (live_handle h c.elements) ∙ fresh in
      record {
        apart = rw more (apart_more h (handles c.elements) orderly.apart absent);
        named = rw more (absent_more 0 h (handles c.elements) orderly.named (ne_eqb h 0 (omega arith)));
        few = omega (arith, length-append c.elements (new_element h ∷ []), few);
        placed = list_all-append is_placed c.elements (new_element h ∷ [])
            ∙ and_from (list_all is_placed c.elements) true orderly.placed refl;
        once = orderly.once;
        live = rw more (all_more h (handles c.elements) c.order orderly.live);
        room = orderly.room;
      }

  pub orderly_forgotten : (h : ℕ) → IsOrderly (forget h c)
  orderly_forgotten h =
      let less = handles_without h c.elements in
      record {
        apart = rw less (apart_without h (handles c.elements) orderly.apart);
        named = rw less (absent_less 0 h (handles c.elements) orderly.named);
        few = omega (arith, orderly.few, length_less h c.elements);
        placed = all_left is_placed h c.elements orderly.placed;
        once = apart_without h c.order orderly.once;
        live = rw less (all_less h (handles c.elements) c.order orderly.live);
        room = omega (arith, orderly.room, length_without h c.order);
      }

  pub orderly_changed : (h : ℕ) (f : Element → Element) → KeepsHandle f → KeepsPlace f
      → IsOrderly (record c { elements = change handle_of h f c.elements })
  orderly_changed h f keeps stays =
      let same = handles_changed h f c.elements keeps in
      record {
        apart = rw same orderly.apart;
        named = rw same orderly.named;
        few = omega (arith, orderly.few, length-map c.elements (λ e. cond (e.handle == h) (f e) e));
        placed = all_changed is_placed h f c.elements stays orderly.placed;
        once = orderly.once;
        live = rw same orderly.live;
        room = orderly.room;
      }
