-- What a table holds in slots: elements by their handles, a slot that is written, and slots without one.
use Rattle.std.proofs.Common.{◌≡◌, ℕ, ◌<◌, Bool, true, false, not, cond, ◌==◌, List, [], ◌∷◌, ◌++◌, length, set, is_some, refl, ap}
use Rattle.std.proofs.Common.{◌∙◌, Some, get_or-set_same, get_or-set_other}
use Rattle.std.specs.Prelude.{option_map}
use Rattle.std.proofs.lemmas.Bool.{eq-eqb, eqb-true, eqb-false, or_parts, or_left, or_right}
use Rattle.std.proofs.lemmas.List.{map-append}
use Rattle.wf_words.specs.Found.{passes, any_by, any_found, any_mapped, find_mapped}
use Rattle.wf_words.specs.Keyed.{change, is_in}
use Rattle.wf_scene.specs.declared.element.Element.{Element}
use Rattle.wf_scene.specs.Elements.{new_element}
use Rattle.wf_scene.specs.Order.{without}
use Rattle.wf_scene.specs.Cached.{element_at, handle_of, handles, is_live, without_element}
use Rattle.wf_scene.specs.Consistent.{elements_of}
use Rattle.wf_scene.specs.Slots.{all_held, handle_held, handles_held, held, slot_of}
use Rattle.wf_scene.proofs.BySlot.{Tells, found_by_slot, head, rest}

pub handles_all : (t : List Element) (xs : List ℕ) → handles (all_held t xs) ≡ handles_held t xs
handles_all t [] = refl
handles_all t (x ∷ xs) = ap (λ ys. handle_held t x ∷ ys) (handles_all t xs)

-- the slot that is found holds the handle, and is one of those

pub found_slot : (t : List Element) (h : ℕ) (xs : List ℕ) (s : ℕ) → slot_of t h xs ≡ Some s → (handle_held t s ≡ h) × (is_in s xs ≡ true)
found_slot t h xs s found = (
  eqb-true (handle_held t s) h (passes (λ x. handle_held t x == h) xs s found),
  any_by (λ x. handle_held t x == h) (λ x. x == s) xs s found (eq-eqb s s refl),
)

pub live_found : (t : List Element) (h : ℕ) (xs : List ℕ) → is_live h (all_held t xs) ≡ is_some (slot_of t h xs)
live_found t h xs = any_mapped (λ e. e.handle == h) (held t) xs ∙ any_found (λ x. handle_held t x == h) xs

pub named_found : (t : List Element) (h : ℕ) (xs : List ℕ) → is_in h (handles_held t xs) ≡ is_some (slot_of t h xs)
named_found t h xs = any_mapped (λ n. n == h) (handle_held t) xs ∙ any_found (λ x. handle_held t x == h) xs

pub element_found : (t : List Element) (h : ℕ) (xs : List ℕ) → element_at h (all_held t xs) ≡ option_map (held t) (slot_of t h xs)
element_found t h xs = find_mapped (λ e. handle_of e == h) (held t) xs

-- a slot that is written

pub held_same : (t : List Element) (s : ℕ) (e : Element) → s < length t → held (set t s e) s ≡ e
held_same t s e within = get_or-set_same t s e (new_element 0) within

pub held_other : (t : List Element) (s x : ℕ) (e : Element) → (x == s) ≡ false → held (set t s e) x ≡ held t x
held_other t s x e other = get_or-set_other t s x e (new_element 0) (eqb-false x s other)

-- other slots hold what they held
pub others_held : (t : List Element) (s : ℕ) (e : Element) (xs : List ℕ) → is_in s xs ≡ false → all_held (set t s e) xs ≡ all_held t xs
others_held t s e [] out = refl
others_held t s e (x ∷ xs) out =
    let parts = or_parts (x == s) (is_in s xs) out in
    rw (held_other t s x e parts.0, others_held t s e xs parts.1) refl

-- a slot that is used now, for one more element
pub held_more : (t : List Element) (s : ℕ) (e : Element) (xs : List ℕ) → s < length t → is_in s xs ≡ false
    → all_held (set t s e) (xs ++ s ∷ []) ≡ all_held t xs ++ e ∷ []
held_more t s e xs within out =
    map-append (held (set t s e)) xs (s ∷ [])
    ∙ rw (others_held t s e xs out, held_same t s e within) refl

-- an element that is changed in its slot is changed by its handle
pub held_changed : (t : List Element) (s : ℕ) (f : Element → Element) (xs : List ℕ) → s < length t → Tells (handle_held t) xs s
    → all_held (set t s (f (held t s))) xs ≡ change handle_of (handle_held t s) f (all_held t xs)
held_changed t s f [] within tell = refl
held_changed t s f (x ∷ xs) within tell =
    let later = held_changed t s f xs within (rest (handle_held t) s x xs tell) in
    rw (later, head (handle_held t) s x xs tell)
    (ap (λ e. e ∷ change handle_of (handle_held t s) f (all_held t xs)) (here (x == s) refl))
  where
    here : (b : Bool) → (x == s) ≡ b → held (set t s (f (held t s))) x ≡ cond b (f (held t x)) (held t x)
    here true is =
        let same : x ≡ s = eqb-true x s is in
        rw same (held_same t s (f (held t s)) within)
    here false other = held_other t s x (f (held t s)) other

-- and keeps all handles, where it keeps its own
pub handles_changed : (t : List Element) (s : ℕ) (e : Element) (xs : List ℕ) → s < length t → e.handle ≡ handle_held t s
    → handles_held (set t s e) xs ≡ handles_held t xs
handles_changed t s e [] within same = refl
handles_changed t s e (x ∷ xs) within same =
    rw (handles_changed t s e xs within same) (ap (λ n. n ∷ handles_held t xs) (here (x == s) refl))
  where
    here : (b : Bool) → (x == s) ≡ b → handle_held (set t s e) x ≡ handle_held t x
    here true is =
        let at : x ≡ s = eqb-true x s is in
        rw at (ap handle_of (held_same t s e within) ∙ same)
    here false other = ap handle_of (held_other t s x e other)

-- the elements without that of a slot
pub held_without : (t : List Element) (s : ℕ) (xs : List ℕ) → Tells (handle_held t) xs s
    → all_held t (without s xs) ≡ without_element (handle_held t s) (all_held t xs)
held_without t s [] tell = refl
held_without t s (x ∷ xs) tell =
    let later = held_without t s xs (rest (handle_held t) s x xs tell) in
    rw (head (handle_held t) s x xs tell) (elim (x == s) as (λ b. all_held t (cond (not b) (x ∷ without s xs) (without s xs))
    ≡ cond (not b) (held t x ∷ without_element (handle_held t s) (all_held t xs)) (without_element (handle_held t s) (all_held t xs))) [
      | true ↦ later
      | false ↦ ap (λ es. held t x ∷ es) later
    ])

-- the elements of the handles in slots are those in the slots
pub held_by_handle : (t : List Element) (xs used : List ℕ) → ((x : ℕ) → is_in x xs ≡ true → is_in x used ≡ true)
    → ((x : ℕ) → is_in x used ≡ true → Tells (handle_held t) used x)
    → elements_of (handles_held t xs) (all_held t used) ≡ all_held t xs
held_by_handle t [] used live tell = refl
held_by_handle t (x ∷ xs) used live tell =
    let here = live x (or_left (x == x) (is_in x xs) (eq-eqb x x refl)) in
    let later = held_by_handle t xs used (λ y there. live y (or_right (x == y) (is_in y xs) there)) tell in
    let found : slot_of t (handle_held t x) used ≡ Some x = found_by_slot (handle_held t) x used (tell x here) ∙ rw here refl in
    rw (element_found t (handle_held t x) used, found) (ap (λ es. held t x ∷ es) later)
