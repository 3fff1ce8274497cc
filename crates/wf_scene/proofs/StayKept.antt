-- That slots stay kept where an element is added, changed, inserted, moved or removed, and where it is gone.
use Rattle.std.proofs.Common.{◌≡◌, ℕ, ◌<◌, true, false, not, ◌==◌, List, [], ◌∷◌, ◌++◌, length}
use Rattle.std.proofs.Common.{get_or, set, option_map, refl, sym, ap, ◌∙◌, arith, Option, Some, None}
use Rattle.std.proofs.lemmas.Bool.{eqb-true, both_ways, false_from_ne_true}
use Rattle.std.proofs.lemmas.List.{get_or_read, length_push, length-set, map-append}
use Rattle.wf_words.specs.Each.{each_filtered, each_more}
use Rattle.wf_words.specs.Keyed as keyed
use Rattle.wf_words.specs.Keyed.{is_in}
use Rattle.wf_words.specs.Once.{by_number}
use Rattle.wf_links.specs.Lists.{NodeLists}
use Rattle.wf_scene.specs.declared.element.Element.{Element}
use Rattle.wf_scene.specs.Order.{without}
use Rattle.wf_scene.specs.Cached.{handle_of, handles}
use Rattle.wf_scene.specs.Elements.{new_element}
use Rattle.wf_scene.specs.Keeping.{KeepsHandle}
use Rattle.wf_scene.specs.Slots.{IsKeptBy, IsLinked, all_held, free_in, handle_held, handles_held, held, inserted_in}
use Rattle.wf_scene.specs.Slots.{slot_of, two_lists}
use Rattle.wf_scene.proofs.Kept.{absent_less, absent_out, apart_without, in_less}
use Rattle.wf_scene.proofs.Handled.{absent_more, apart_more, in_more}
use Rattle.wf_scene.proofs.TwoLists.{free_once, free_within}
use Rattle.wf_scene.proofs.BySlot.{without_by_slot}
use Rattle.wf_scene.proofs.Held.{found_slot, handles_all, handles_changed, held_changed, held_more}
use Rattle.wf_scene.proofs.OneMore.{in_less_is_in, one_less}
use Rattle.wf_scene.proofs.UsedSlots.{used_within, used_apart, tells_used}
use Rattle.wf_scene.specs.declared.TheConstants.{MOST_ELEMENTS}

-- what is true of an element that is written back changed into its slot
pub record IsWrittenBack (t : List Element) (used inserted : List ℕ) (h s : ℕ) (changed : Element) (q : Option (Element → Element))
    : Type 0 where
  pub change : Element → Element
  pub changes : q ≡ Some change
  pub there : is_in s used ≡ true
  pub value : changed ≡ change (held t s)
  pub elements : all_held (set t s changed) used ≡ keyed.change handle_of h change (all_held t used)
  pub order : KeepsHandle change → handles_held (set t s changed) inserted ≡ handles_held t inserted

module _ (t : List Element) (used : List ℕ) (o : NodeLists) (n : ℕ) (kept : IsKeptBy t used o n) where
  -- with other links, whose inserted slots are used
  pub kept_linked : (new : NodeLists) (m : ℕ) (xs : List ℕ) → IsLinked new → new ≡ two_lists xs (free_in o)
      → ((x : ℕ) → is_in x xs ≡ true → is_in x used ≡ true) → m ≡ length xs → IsKeptBy t used new m
  kept_linked new m xs linked is live counted =
      record {
        linked = linked;
        slots = kept.slots;
        within = kept.within;
        apart = kept.apart;
        live = λ x there. live x (rw is at there);
        free = λ x there. kept.free x (rw is at there);
        all = rw is kept.all;
        counted = rw is counted;
      }

  -- with one used slot less, which is free now
  pub kept_dropped : (s : ℕ) (left : List ℕ) (new : NodeLists) → is_in s used ≡ true → is_in s (inserted_in o) ≡ false → IsLinked new
      → new ≡ two_lists (inserted_in o) (s ∷ free_in o) → left ≡ without s used → IsKeptBy t left new n
  kept_dropped s left new there out linked is dropped =
      record {
        linked = linked;
        slots = kept.slots;
        within = rw dropped (each_filtered (λ x. x < MOST_ELEMENTS) (λ x. not (x == s)) used kept.within);
        apart = rw (dropped, handles_all, ← without_by_slot (handle_held t) s used (tells_used t used o n kept s there))
            (apart_without (handle_held t s) (handles_held t used) (rw handles_all at kept.apart));
        live = λ x inside. rw dropped (stays x (rw is at inside));
        free = λ x inside. rw dropped (frees x (rw is at inside));
        all = rw (is, dropped) (omega (arith, kept.all, one_less s used (used_apart t used o n kept) there));
        counted = rw is kept.counted;
      }
    where
      stays : (x : ℕ) → is_in x (inserted_in o) ≡ true → is_in x (without s used) ≡ true
      stays x inside =
          in_less x s used (false_from_ne_true (x == s)
          (λ same. both_ways (is_in x (inserted_in o)) (rw (eqb-true x s same) out) inside)) (kept.live x inside)

      frees : (x : ℕ) → is_in x (s ∷ free_in o) ≡ true → is_in x (without s used) ≡ false
      frees x inside =
          by_number (is_in x (without s used) ≡ false) s x
          (λ is same. rw (← same) (absent_out s used))
          (λ other. absent_less x s used (kept.free x (rw other at inside)))

  -- with one used slot more, which was free and holds another element now
  pub kept_added : (s : ℕ) (e : Element) (more : List ℕ) (new : NodeLists) (table : List Element) → is_in s (free_in o) ≡ true
      → IsLinked new → new ≡ two_lists (inserted_in o) (without s (free_in o)) → table ≡ set t s e → more ≡ used ++ s ∷ []
      → is_in e.handle (handles_held t used) ≡ false → IsKeptBy table more new n
  kept_added s e more new table free linked is written used_more fresh =
      record {
        linked = linked;
        slots = rw written (length-set t s e ∙ kept.slots);
        within = rw used_more (each_more (λ x. x < MOST_ELEMENTS) used s kept.within (free_within o kept.linked s free));
        apart = rw (written, used_more, held_more t s e used within (kept.free s free), handles_more)
            (apart_more e.handle (handles_held t used) (rw handles_all at kept.apart) fresh);
        live = λ x inside. rw used_more (in_more x s used (kept.live x (rw is at inside)));
        free = λ x inside. rw used_more (frees x (rw is at inside));
        all = rw (is, used_more) (omega (arith, kept.all, length_push used s, one_less s (free_in o) (free_once o kept.linked) free));
        counted = rw is kept.counted;
      }
    where
      within : s < length t
      within = omega (arith, kept.slots, free_within o kept.linked s free)

      handles_more : handles (all_held t used ++ e ∷ []) ≡ handles_held t used ++ e.handle ∷ []
      handles_more = map-append handle_of (all_held t used) (e ∷ []) ∙ ap (λ hs. hs ++ e.handle ∷ []) (handles_all t used)

      frees : (x : ℕ) → is_in x (without s (free_in o)) ≡ true → is_in x (used ++ s ∷ []) ≡ false
      frees x inside =
          absent_more x s used (kept.free x (in_less_is_in x s (free_in o) inside))
          (false_from_ne_true (s == x) (λ same. both_ways (is_in s (without s (free_in o))) (absent_out s (free_in o))
          (rw (← eqb-true s x same) at inside)))

  -- with an element changed that keeps its handle
  pub kept_changed : (s : ℕ) (e : Element) → is_in s used ≡ true → e.handle ≡ handle_held t s → IsKeptBy (set t s e) used o n
  kept_changed s e there same =
      record {
        linked = kept.linked;
        slots = length-set t s e ∙ kept.slots;
        within = kept.within;
        apart =
            rw (handles_all, handles_changed t s e used (omega (arith, kept.slots, used_within t used o n kept s there)) same)
            (rw handles_all at kept.apart);
        live = kept.live;
        free = kept.free;
        all = kept.all;
        counted = kept.counted;
      }

  -- an element that was read in its slot and is written back changed is changed by its handle, and the order stays
  pub written_back : (h s : ℕ) (e changed : Element) (q : Option (Element → Element)) → slot_of t h used ≡ Some s → e ≡ get_or t s e
      → option_map (λ f. f e) q ≡ Some changed → IsWrittenBack t used (inserted_in o) h s changed q
  written_back h s e changed None found read made = absurd cc
  written_back h s e changed (Some f) found read made =
      let is = found_slot t h used s found in
      let within : s < length t = omega (arith, kept.slots, used_within t used o n kept s is.1) in
      let same : f e ≡ changed = cc in
      let value : changed ≡ f (held t s) = sym same ∙ ap f (get_or_read t s e within read (new_element 0)) in
      record {
        change = f;
        changes = refl;
        there = is.1;
        value = value;
        elements = rw value (rw is.0 at (held_changed t s f used within (tells_used t used o n kept s is.1)));
        order = λ keeps. handles_changed t s changed (inserted_in o) within (ap handle_of value ∙ keeps (held t s));
      }
