-- Going up the inserted elements one by one: what is found behind those that were shown is what is found of all.
use Rattle.std.proofs.Common.{◌≡◌, ℕ, zero, suc, ◌+◌, ◌<◌, true, cond, ◌==◌, List, [], ◌∷◌, ◌++◌, length, map, drop, get_or}
use Rattle.std.proofs.Common.{option_map, slice_get, refl, sym, ap, ◌∙◌, arith, append_assoc, append-nil, Option, Some, None, Ok, Err}
use Rattle.std.proofs.lemmas.List.{get_or_read, length_push}
use Rattle.std.proofs.lemmas.Option.{slice_get-map}
use Rattle.std.proofs.lemmas.Bool.{eq-eqb, both_ways}
use Rattle.wf_words.specs.Found.{any_at}
use Rattle.wf_words.specs.Keyed.{is_in}
use Rattle.wf_words.specs.Once.{NoneTwice, by_number}
use Rattle.wf_links.specs.Lists.{NodeLists, next_after}
use Rattle.wf_scene.specs.declared.element.Element.{Element}
use Rattle.wf_scene.specs.declared.Layer.{Layer}
use Rattle.wf_scene.specs.Elements.{new_element}
use Rattle.wf_scene.specs.Slots.{IsKeptBy, all_held, held, inserted_in}
use Rattle.wf_scene.specs.Sight.{Sight}
use Rattle.wf_scene.specs.Consistent.{broken_rule, fault_from, layer_of, shown, unless}
use Rattle.wf_scene.proofs.TwoLists.{inserted_within}

drop_at : {A : Type 0} (xs : List A) (k : ℕ) (x : A) → slice_get xs k ≡ Some x → drop k xs ≡ x ∷ drop (suc k) xs
drop_at [] k x at = absurd cc
drop_at (y ∷ ys) zero x at = (let same : y ≡ x = cc in ap (λ (z : _). z ∷ ys) same)
drop_at (y ∷ ys) (suc k) x at = drop_at ys k x at

drop_next : {A : Type 0} (xs : List A) (k : ℕ) (x : A) → slice_get xs k ≡ Some x → drop k xs ≡ x ∷ drop (k + 1) xs
drop_next xs k x at = drop_at xs k x at ∙ (let next : suc k ≡ k + 1 = omega arith in ap (λ n. x ∷ drop n xs) next)

drop_past : {A : Type 0} (xs : List A) (k : ℕ) → slice_get xs k ≡ None → drop k xs ≡ []
drop_past [] zero past = refl
drop_past [] (suc k) past = refl
drop_past (y ∷ ys) zero past = absurd cc
drop_past (y ∷ ys) (suc k) past = drop_past ys k past

-- in a list without repeats, what stands at the next place is next
pub next_at : (xs : List ℕ) (k s : ℕ) → NoneTwice xs → slice_get xs k ≡ Some s → next_after s xs ≡ slice_get xs (suc k)
next_at [] k s once at = absurd cc
next_at (x ∷ xs) zero s once at =
    let same : x ≡ s = cc in
    let here : (x == s) ≡ true = eq-eqb x s same in
    rw here refl
next_at (x ∷ xs) (suc k) s once at =
    by_number (cond (x == s) (slice_get xs 0) (next_after s xs) ≡ slice_get xs (suc k)) x s
    (λ is same. absurd (both_ways (is_in x xs) once.0 (any_at (λ z. z == x) xs k s at (eq-eqb s x (sym same)))))
    (λ other. rw other (next_at xs k s once.1 at))

unless_ok : {A E : Type 0} (o : Option E) (x y : A) → unless o x ≡ Ok y → (o ≡ None) × (x ≡ y)
unless_ok None x y is = (refl, cc)
unless_ok (Some e) x y is = absurd cc

unless_err : {A E : Type 0} (o : Option E) (x : A) (e : E) → unless o x ≡ Err e → o ≡ Some e
unless_err None x e is = absurd cc
unless_err (Some d) x e is = (let same : d ≡ e = cc in ap (λ (z : _). Some z) same)

-- what is true of the slot at a place of the order, whose element was read
pub record IsAt (t : List Element) (o : NodeLists) (k s : ℕ) (e : Element) : Type 0 where
  pub there : is_in s (inserted_in o) ≡ true
  pub within : s < length t
  pub at : e ≡ get_or t s e → slice_get (all_held t (inserted_in o)) k ≡ Some e

pub is_at : (t : List Element) (used : List ℕ) (o : NodeLists) (n : ℕ) (k s : ℕ) (e : Element) → IsKeptBy t used o n
    → slice_get (inserted_in o) k ≡ Some s → IsAt t o k s e
is_at t used o n k s e kept at =
    record {
      there = there;
      within = within;
      at = λ read. slice_get-map (held t) (inserted_in o) k ∙ ap (option_map (held t)) at
          ∙ ap (λ x. Some x) (sym (get_or_read t s e within read (new_element 0)));
    }
  where
    there : is_in s (inserted_in o) ≡ true
    there = any_at (λ x. x == s) (inserted_in o) k s at (eq-eqb s s refl)

    within : s < length t
    within = omega (arith, kept.slots, inserted_within o kept.linked s there)

pub past_all : (t : List Element) (xs : List ℕ) (k : ℕ) → slice_get xs k ≡ None → slice_get (all_held t xs) k ≡ None
past_all t xs k past = slice_get-map (held t) xs k ∙ ap (option_map (held t)) past

-- what is found of all elements is what is found behind so many layers
pub record IsFound (sight : Sight) (es : List Element) (made : List Layer) : Type 0 where
  pub fault : fault_from sight 1 es ≡ fault_from sight (length made + 1) (drop (length made) es)
  pub layers : map (layer_of sight) es ≡ made ++ map (layer_of sight) (drop (length made) es)

module _ (sight : Sight) (es : List Element) (made : List Layer) (found : IsFound sight es made) where
  -- behind one more
  pub found_more : (e : Element) (layer : Layer) → slice_get es (length made) ≡ Some e → shown sight e ≡ Ok layer
      → IsFound sight es (made ++ layer ∷ [])
  found_more e layer at is =
      record {
        fault = found.fault ∙ rw (drop_next es (length made) e at, good.0, length_push made layer) refl;
        layers = found.layers
            ∙ rw (drop_next es (length made) e at, good.1, length_push made layer) (sym (append_assoc made (layer ∷ []) _));
      }
    where
      good : (broken_rule sight e ≡ None) × (layer_of sight e ≡ layer)
      good = unless_ok (broken_rule sight e) (layer_of sight e) layer is

  -- at the first that breaks a rule
  pub found_fault : (e : Element) (rule : ℕ) → slice_get es (length made) ≡ Some e → shown sight e ≡ Err rule
      → fault_from sight 1 es ≡ Some (record { place = length made + 1; rule = rule })
  found_fault e rule at is =
      found.fault ∙ rw (drop_next es (length made) e at, unless_err (broken_rule sight e) (layer_of sight e) rule is) refl

  -- at the end
  pub found_all : slice_get es (length made) ≡ None → (fault_from sight 1 es ≡ None) × (map (layer_of sight) es ≡ made)
  found_all past = (
    found.fault ∙ rw (drop_past es (length made) past) refl,
    found.layers ∙ rw (drop_past es (length made) past) (append-nil made),
  )
