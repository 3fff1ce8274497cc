-- The first fault of a cached scene: its place and its rule are small; and where there is none every element keeps all rules.
use Rattle.std.proofs.Common.{◌≡◌, ℕ, ◌+◌, ◌<◌, ◌≤◌, Bool, true, false, not, List, [], ◌∷◌, length, position, slice_get, option_map, Option}
use Rattle.std.proofs.Common.{Some, None, Ok, Err, refl, sym, ap, arith}
use Rattle.std.specs.List.{AllByRecursion, cons_option}
use Rattle.wf_scene.specs.declared.look.Fault.{Fault}
use Rattle.wf_scene.specs.declared.element.Element.{Element}
use Rattle.wf_scene.specs.declared.Scene.{Scene}
use Rattle.wf_scene.specs.Cached.{CachedScene, IsOrderly, element_at}
use Rattle.wf_scene.specs.Consistent.{broken_rule, consistent, elements_of, fault, fault_from, faults_from, has_destination, has_source}
use Rattle.wf_scene.specs.Consistent.{inserted_elements, is_covered, is_inside, scene_of, unless}
use Rattle.wf_scene.specs.Sight.{Sight}
use Rattle.wf_scene.specs.declared.TheConstants.{MOST_INSERTED}

-- of four rules the first that is broken, counted from 1
abbrev first_of : Bool → Bool → Bool → Bool → Option ℕ
first_of a b c d = option_map (λ i. i + 1) (position not (a ∷ b ∷ c ∷ d ∷ []))

few_rules : (a b c d : Bool) (r : ℕ) → first_of a b c d ≡ Some r → r ≤ 4
few_rules false b c d r is = let same : 1 ≡ r = cc in omega (arith, same)
few_rules true false c d r is = let same : 2 ≡ r = cc in omega (arith, same)
few_rules true true false d r is = let same : 3 ≡ r = cc in omega (arith, same)
few_rules true true true false r is = let same : 4 ≡ r = cc in omega (arith, same)
few_rules true true true true r is = absurd cc

all_kept : (a b c d : Bool) → first_of a b c d ≡ None → (a ≡ true) × (b ≡ true) × (c ≡ true) × (d ≡ true)
all_kept false b c d is = absurd cc
all_kept true false c d is = absurd cc
all_kept true true false d is = absurd cc
all_kept true true true false is = absurd cc
all_kept true true true true is = (refl, refl, refl, refl)

module _ (sight : Sight) where
  -- an element that keeps all rules
  pub record Keeps (e : Element) : Type 0 where
    pub source : has_source sight e ≡ true
    pub inside : is_inside sight e ≡ true
    pub destination : has_destination e ≡ true
    pub covered : is_covered sight e ≡ true

  keeps_all : (e : Element) → broken_rule sight e ≡ None → Keeps e
  keeps_all e is =
      let kept = all_kept (has_source sight e) (is_inside sight e) (has_destination e) (is_covered sight e) is in
      record { source = kept.0; inside = kept.1; destination = kept.2; covered = kept.3 }

  -- where no fault is found, all keep all rules
  pub faultless : (place : ℕ) (es : List Element) → fault_from sight place es ≡ None → AllByRecursion Keeps es
  faultless place [] is = tt
  faultless place (e ∷ es) is = by_rule (faultless (place + 1) es) (broken_rule sight e) refl is
    where
      by_rule : (fault_from sight (place + 1) es ≡ None → AllByRecursion Keeps es) → (o : Option ℕ) → broken_rule sight e ≡ o
          → slice_get (cons_option (option_map (λ rule. record { place = place; rule = rule }) o) (faults_from sight (place + 1) es)) 0
          ≡ None → AllByRecursion Keeps (e ∷ es)
      by_rule later None at none = (keeps_all e at, later none)
      by_rule later (Some r) at none = absurd cc

  -- a fault that is found is at one of the places, by one of the rules
  pub bounded : (place : ℕ) (es : List Element) (f : Fault) → fault_from sight place es ≡ Some f → (f.place < place + length es)
      × (f.rule ≤ 4)
  bounded place [] f is = absurd cc
  bounded place (e ∷ es) f is = by_rule (bounded (place + 1) es f) (broken_rule sight e) refl is
    where
      by_rule : (fault_from sight (place + 1) es ≡ Some f → (f.place < place + 1 + length es) × (f.rule ≤ 4)) → (o : Option ℕ)
          → broken_rule sight e ≡ o
          → slice_get (cons_option (option_map (λ rule. record { place = place; rule = rule }) o) (faults_from sight (place + 1) es)) 0
          ≡ Some f → (f.place < place + length (e ∷ es)) × (f.rule ≤ 4)
      by_rule later None at found = (let bounds = later found in (omega (arith, bounds.0), bounds.1))
      by_rule later (Some r) at found =
          let told : Fault = record { place = place; rule = r } in
          let same : told ≡ f = cc in
          let here : place ≡ f.place = ap (λ x. x.place) same in
          let rule : r ≡ f.rule = ap (λ x. x.rule) same in (
            omega (arith, here),
            omega (arith, rule, few_rules (has_source sight e) (is_inside sight e) (has_destination e) (is_covered sight e) r at),
          )

-- at most as many elements as handles
as_many : (order : List ℕ) (elements : List Element) → length (elements_of order elements) ≤ length order
as_many [] elements = omega arith
as_many (h ∷ order) elements = by_element (as_many order elements) (element_at h elements)
  where
    by_element : length (elements_of order elements) ≤ length order → (o : Option Element)
        → length (cons_option o (elements_of order elements)) ≤ length (h ∷ order)
    by_element later None = omega (arith, later)
    by_element later (Some e) = omega (arith, later)

-- the fault of a scene that is not consistent
told_fault : (o : Option Fault) (s : Scene) (f : Fault) → unless o s ≡ Err f → o ≡ Some f
told_fault None s f is = absurd cc
told_fault (Some g) s f is = let same : g ≡ f = cc in ap (λ x. Some x) same

pub small_fault : (sight : Sight) (c : CachedScene) (f : Fault) → IsOrderly c → Err f ≡ consistent sight c
    → (f.place ≤ MOST_INSERTED) × (f.rule ≤ 4)
small_fault sight c f orderly is =
    let bounds = bounded sight 1 (inserted_elements c) f (told_fault (fault sight c) (scene_of sight c) f (sym is)) in
    (omega (arith, bounds.0, as_many c.order c.elements, orderly.room), bounds.1)

-- a consistent scene has no fault, and is that of its elements
pub no_fault : (sight : Sight) (c : CachedScene) (s : Scene) → consistent sight c ≡ Ok s → (fault sight c ≡ None) × (s ≡ scene_of sight c)
no_fault sight c s is = by_fault (fault sight c) is
  where
    by_fault : (o : Option Fault) → unless o (scene_of sight c) ≡ Ok s → (o ≡ None) × (s ≡ scene_of sight c)
    by_fault None same = (refl, (let here : scene_of sight c ≡ s = cc in sym here))
    by_fault (Some f) same = absurd cc
