-- Slots that are kept: which slot a handle leads to, and what the order is without an element, with one put in, and next to one.
use Rattle.std.proofs.Common.{◌≡◌, ◌≢◌, ℕ, ◌<◌, Bool, true, false, cond, ◌==◌, ◌||◌, List, ◌∷◌}
use Rattle.std.proofs.Common.{is_some, refl, sym, ap, ◌∙◌, Option, Some, None}
use Rattle.std.specs.Option.{ForSome}
use Rattle.std.proofs.lemmas.Bool.{ne_eqb, both_ways, false_from_ne_true}
use Rattle.wf_words.specs.Keyed.{is_in}
use Rattle.wf_links.specs.Lists as links
use Rattle.wf_links.specs.Lists.{NodeLists}
use Rattle.wf_scene.specs.declared.element.Element.{Element}
use Rattle.wf_scene.specs.Order as order
use Rattle.wf_scene.specs.Order.{AreApart, without, with_next}
use Rattle.wf_scene.specs.Cached.{handles}
use Rattle.wf_scene.specs.Consistent.{elements_of}
use Rattle.wf_scene.specs.Slots.{IsKeptBy, all_held, free_in, handle_held, handle_or_none, handles_held, inserted_in}
use Rattle.wf_scene.specs.Slots.{slot_of}
use Rattle.wf_scene.proofs.Once.{nowhere}
use Rattle.wf_scene.proofs.Kept.{in_less}
use Rattle.wf_scene.proofs.TwoLists.{above_is, below_is, each_in, inserted_once}
use Rattle.wf_scene.proofs.BySlot.{Tells, above_by_slot, apart_slots, below_by_slot, found_by_slot, in_numbers, put_by_slot, tells}
use Rattle.wf_scene.proofs.BySlot.{without_by_slot}
use Rattle.wf_scene.proofs.Held.{found_slot, handles_all, held_by_handle, named_found}
use Rattle.wf_scene.proofs.OneMore.{in_less_is_in}
use Rattle.wf_scene.specs.declared.TheConstants.{MOST_ELEMENTS}

only_first : (a b : Bool) → b ≡ false → (a || b) ≡ true → a ≡ true
only_first true b out any = refl
only_first false b out any = absurd (both_ways b out any)

module _ (t : List Element) (used : List ℕ) (o : NodeLists) (n : ℕ) (kept : IsKeptBy t used o n) where
  pub used_within : (s : ℕ) → is_in s used ≡ true → s < MOST_ELEMENTS
  used_within s there = each_in (λ x. x < MOST_ELEMENTS) s used kept.within there

  pub used_apart : AreApart used
  used_apart = apart_slots (handle_held t) used (rw handles_all at kept.apart)

  pub not_free_used : (s : ℕ) → is_in s used ≡ true → is_in s (free_in o) ≡ false
  not_free_used s there = false_from_ne_true (is_in s (free_in o)) (λ free. both_ways (is_in s used) (kept.free s free) there)

  pub tells_used : (s : ℕ) → is_in s used ≡ true → Tells (handle_held t) used s
  tells_used s there = tells (handle_held t) s used (rw handles_all at kept.apart) there

  pub tells_inserted : (s : ℕ) → is_in s used ≡ true → Tells (handle_held t) (inserted_in o) s
  tells_inserted s there x inside = tells_used s there x (kept.live x inside)

  -- the slot of an inserted handle

  pub found_inserted : (h s : ℕ) → slot_of t h used ≡ Some s → slot_of t h (inserted_in o) ≡ cond (is_in s (inserted_in o)) (Some s) None
  found_inserted h s found =
      let is = found_slot t h used s found in
      rw is.0 at (found_by_slot (handle_held t) s (inserted_in o) (tells_inserted s is.1))

  pub none_inserted : (h : ℕ) → slot_of t h used ≡ None → slot_of t h (inserted_in o) ≡ None
  none_inserted h none = go (slot_of t h (inserted_in o)) refl
    where
      go : (q : Option ℕ) → slot_of t h (inserted_in o) ≡ q → slot_of t h (inserted_in o) ≡ None
      go None is = is
      go (Some s) is =
          let at = found_slot t h (inserted_in o) s is in
          let there = in_numbers (handle_held t) s used (kept.live s at.1) in
          let named : is_in h (handles_held t used) ≡ true = rw at.0 at there in
          let nowhere : is_in h (handles_held t used) ≡ false = named_found t h used ∙ ap is_some none in
          absurd (both_ways (is_in h (handles_held t used)) nowhere named)

  -- the order without an element
  pub order_without : (h s : ℕ) → slot_of t h used ≡ Some s
      → handles_held t (without s (inserted_in o)) ≡ without h (handles_held t (inserted_in o))
  order_without h s found =
      let is = found_slot t h used s found in
      rw is.0 at (sym (without_by_slot (handle_held t) s (inserted_in o) (tells_inserted s is.1)))

  -- what may stand below an element that is put in
  pub base_stays : (h b s : ℕ) → h ≢ b → slot_of t h used ≡ Some s
      → ForSome (slot_of t b (inserted_in o)) (λ x. is_in x (without s (inserted_in o)) ≡ true)
  base_stays h b s apart found x at =
      let base = found_slot t b (inserted_in o) x at in
      let is = found_slot t h used s found in
      in_less x s (inserted_in o) (ne_eqb x s (λ same. apart (sym is.0 ∙ ap (handle_held t) (sym same) ∙ base.0))) base.1

  -- the order with an element put in or moved
  pub order_inserted : (h b s : ℕ) (q : Option ℕ) → slot_of t h used ≡ Some s → slot_of t b (inserted_in o) ≡ q
      → order.is_base b (handles_held t (inserted_in o)) ≡ true → is_in 0 (handles (all_held t used)) ≡ false → h ≢ b
      → handles_held t (links.put_above q s (without s (inserted_in o))) ≡ order.inserted h b (handles_held t (inserted_in o))
  order_inserted h b s q found at base named apart =
      rw (ne_eqb h b apart, ← order_without h s found) (go q at)
    where
      is : (handle_held t s ≡ h) × (is_in s used ≡ true)
      is = found_slot t h used s found

      go : (q : Option ℕ) → slot_of t b (inserted_in o) ≡ q
          → handles_held t (links.put_above q s (without s (inserted_in o)))
          ≡ order.put_above b h (handles_held t (without s (inserted_in o)))
      go None none =
          let nowhere : is_in b (handles_held t (inserted_in o)) ≡ false = named_found t b (inserted_in o) ∙ ap is_some none in
          let bottom : (b == 0) ≡ true = only_first (b == 0) (is_in b (handles_held t (inserted_in o))) nowhere base in
          rw bottom (ap (λ m. m ∷ handles_held t (without s (inserted_in o))) is.0)
      go (Some x) some =
          let under = found_slot t b (inserted_in o) x some in
          let there = kept.live x under.1 in
          let in_all : is_in b (handles (all_held t used)) ≡ true = rw (handles_all, ← under.0) (in_numbers (handle_held t) x used there) in
          let higher = ne_eqb b 0 (λ zero. both_ways (is_in 0 (handles (all_held t used))) named (rw zero at in_all)) in
          let put = put_by_slot (handle_held t) s x (without s (inserted_in o))
          (λ y inside. tells_inserted x there y (in_less_is_in y s (inserted_in o) inside)) in
          rw higher (sym (rw (under.0, is.0) at put))

  -- the inserted elements are those in the inserted slots
  pub inserted_held : elements_of (handles_held t (inserted_in o)) (all_held t used) ≡ all_held t (inserted_in o)
  inserted_held = held_by_handle t (inserted_in o) used kept.live tells_used

  -- what is next to an inserted element

  pub order_above : (h s : ℕ) → slot_of t h (inserted_in o) ≡ Some s
      → order.above h (handles_held t (inserted_in o)) ≡ Some (handle_or_none t (links.above s o.lists))
  order_above h s found =
      let is = found_slot t h (inserted_in o) s found in
      rw (above_is o kept.linked s is.1)
      (rw is.0 at (above_by_slot (handle_held t) s (inserted_in o) (tells_inserted s (kept.live s is.1)) is.1))

  pub order_below : (h s : ℕ) → slot_of t h (inserted_in o) ≡ Some s
      → order.below h (handles_held t (inserted_in o)) ≡ Some (handle_or_none t (links.below s o.lists))
  order_below h s found =
      let is = found_slot t h (inserted_in o) s found in
      let tell = tells_inserted s (kept.live s is.1) in
      rw (below_is o kept.linked s is.1)
      (rw is.0 at (below_by_slot (handle_held t) s (inserted_in o) tell (inserted_once o kept.linked) is.1))

  pub order_nowhere : (h : ℕ) → slot_of t h (inserted_in o) ≡ None → order.place_of h (handles_held t (inserted_in o)) ≡ None
  order_nowhere h none =
      nowhere (λ m. m == h) (handles_held t (inserted_in o)) (named_found t h (inserted_in o) ∙ ap is_some none)
