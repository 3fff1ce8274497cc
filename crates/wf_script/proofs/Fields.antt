-- Words that were read by their kinds: what they stand for is written as words that are read as it.
use Rattle.std.proofs.Common.{◌≡◌, ◌∙◌, suc, true, ℤ, List, [], ◌∷◌, ◌++◌, length, Option, Some, None, Ok, refl, sym, ap}
use Rattle.std.proofs.Common.{subst}
use Rattle.std.specs.Prelude.{option_map}
use Rattle.std.specs.List.{list_all, slice_get}
use Rattle.wf_pixel.specs.declared.Format.{Format}
use Rattle.wf_scene.specs.declared.attributes.ContextAttr.{ContextAttr}
use Rattle.wf_scene.specs.declared.attributes.ElementAttr.{ElementAttr}
use Rattle.wf_calls.specs.declared.call.StatWord.{StatWord}
use Rattle.wf_calls.specs.declared.display.PipeAttr.{PipeAttr}
use Rattle.wf_calls.specs.declared.display.PortAttr.{PortAttr}
use Rattle.wf_calls.specs.declared.display.Transition.{Transition}
use Rattle.wf_script.specs.declared.field.Field.{Field}
use Rattle.wf_script.specs.declared.field.Field.TheVariants as field
use Rattle.wf_script.specs.declared.name.Name.{Name}
use Rattle.wf_script.specs.Fields.{Item, context_attr, element_attr, filter, format, handle, item_word, number, pipe_attr, port_attr}
use Rattle.wf_script.specs.Fields.{read, read_all, stat, transition, transparency, written}
use Rattle.wf_script.specs.Pick.{first_as}
use Rattle.wf_script.specs.Spelled.{context_attr_word, element_attr_word, format_word, handle_word, integer_word, pipe_attr_word}
use Rattle.wf_script.specs.Spelled.{port_attr_word, stat_word, transition_word, word_of}
use Rattle.wf_script.specs.Words.{Word, context_attrs, element_attrs, filters, formats, handle_of, integer_of, look_up, pipe_attrs}
use Rattle.wf_script.specs.Words.{port_attrs, stat_words, transitions, transparencies}
use Rattle.wf_script.proofs.Clean.{is_clean}
use Rattle.wf_script.proofs.Numerals.{Back, integer_back}
use Rattle.wf_script.proofs.WordBack.{Again, context_attr_again, each_back, element_attr_again, filter_back, format_again, handle_back}
use Rattle.wf_script.proofs.WordBack.{pipe_attr_again, port_attr_again, stat_again, transition_again, transparency_back}
use Rattle.wf_script.proofs.Steps.{bind_ok, first_kind, first_parts}

-- what a word of a kind stands for
abbrev pub Of : Field → Type 0
Of field.Handle = Option Name
Of field.Number = ℤ
Of field.Format = Format
Of field.Stat = StatWord
Of field.ElementAttr = ElementAttr
Of field.ContextAttr = ContextAttr
Of field.PortAttr = PortAttr
Of field.PipeAttr = PipeAttr
Of field.Filter = ℤ
Of field.Transparency = ℤ
Of field.Transition = Transition

abbrev pub item : (k : Field) → Of k → Item
item field.Handle x = handle x
item field.Number x = number x
item field.Format x = format x
item field.Stat x = stat x
item field.ElementAttr x = element_attr x
item field.ContextAttr x = context_attr x
item field.PortAttr x = port_attr x
item field.PipeAttr x = pipe_attr x
item field.Filter x = filter x
item field.Transparency x = transparency x
item field.Transition x = transition x

-- an item of a kind, whose word is read as it
record ItemBack (k : Field) (i : Item) : Type 0 where
  value : Of k
  is : item k value ≡ i
  reads : read k (item_word i) ≡ Some i
  clean : is_clean (item_word i) ≡ true

module _ (k : Field) (kind : Word → Option (Of k)) (word : Of k → Word) where
  made : ((w : Word) (x : Of k) → kind w ≡ Some x → Back kind (word x) x) → ((w : Word) → read k w ≡ option_map (item k) (kind w))
      → ((x : Of k) → item_word (item k x) ≡ word x) → (w : Word) (i : Item) → read k w ≡ Some i → ItemBack k i
  made back reads writes w i h = of_value (kind w) refl (sym (reads w) ∙ h)
    where
      of_value : (o : Option (Of k)) → kind w ≡ o → option_map (item k) o ≡ Some i → ItemBack k i
      of_value None e h = absurd cc
      of_value (Some x) e h =
          let is : item k x ≡ i = cc in
          let b = back w x e in
          subst (ItemBack k) is (record {
            value = x;
            is = refl;
            reads = ap (read k) (writes x) ∙ reads (word x) ∙ ap (option_map (item k)) b.reads;
            clean = ap is_clean (writes x) ∙ b.clean;
          })

-- a kind whose values all have a word
listed : (k : Field) (rows : List (Word × Of k)) (word : Of k → Word) → ((x : Of k) → Again rows word x)
    → ((w : Word) → read k w ≡ option_map (item k) (look_up rows w)) → ((x : Of k) → item_word (item k x) ≡ word x)
    → (w : Word) (i : Item) → read k w ≡ Some i → ItemBack k i
listed k rows word again = made k (look_up rows) word (each_back rows word again)

item_back : (k : Field) (w : Word) (i : Item) → read k w ≡ Some i → ItemBack k i
item_back field.Handle = made field.Handle handle_of handle_word handle_back (λ w. refl) (λ x. refl)
item_back field.Number = made field.Number integer_of integer_word integer_back (λ w. refl) (λ x. refl)
item_back field.Format = listed field.Format formats format_word format_again (λ w. refl) (λ x. refl)
item_back field.Stat = listed field.Stat stat_words stat_word stat_again (λ w. refl) (λ x. refl)
item_back field.ElementAttr = listed field.ElementAttr element_attrs element_attr_word element_attr_again (λ w. refl) (λ x. refl)
item_back field.ContextAttr = listed field.ContextAttr context_attrs context_attr_word context_attr_again (λ w. refl) (λ x. refl)
item_back field.PortAttr = listed field.PortAttr port_attrs port_attr_word port_attr_again (λ w. refl) (λ x. refl)
item_back field.PipeAttr = listed field.PipeAttr pipe_attrs pipe_attr_word pipe_attr_again (λ w. refl) (λ x. refl)
item_back field.Filter = made field.Filter (look_up filters) (word_of filters) filter_back (λ w. refl) (λ x. refl)
item_back field.Transparency =
    made field.Transparency (look_up transparencies) (word_of transparencies) transparency_back (λ w. refl) (λ x. refl)
item_back field.Transition = listed field.Transition transitions transition_word transition_again (λ w. refl) (λ x. refl)

-- several of them
abbrev pub Values : List Field → Type 0
Values [] = Unit {0}
Values (k ∷ ks) = Of k × Values ks

abbrev pub items : (ks : List Field) → Values ks → List Item
items [] vs = []
items (k ∷ ks) vs = item k vs.0 ∷ items ks vs.1

-- items of these kinds, whose words are read as them
pub record ItemsBack (ks : List Field) (is : List Item) : Type 0 where
  pub values : Values ks
  pub are : items ks values ≡ is
  pub reads : read_all ks (written is) ≡ Ok is
  pub clean : list_all is_clean (written is) ≡ true
  pub long : length (written is) ≡ length ks

pub items_back : (ks : List Field) (ws : List Word) (is : List Item) → read_all ks ws ≡ Ok is → ItemsBack ks is
unfolding read_all
items_back [] ws is h =
    let none : [] ≡ is = cc in
    subst (ItemsBack []) none (record { values = tt; are = refl; reads = refl; clean = refl; long = refl })
items_back (k ∷ ks) ws is h =
    let first = bind_ok (first_as (read k) ws) _ is h in
    let others = bind_ok (read_all ks first.0.1) _ is first.2 in
    let all : first.0.0 ∷ others.0 ≡ is = cc in
    let found = first_kind (read k) ws first.0 first.1 in
    let one = item_back k found.0 first.0.0 found.1 in
    let more = items_back ks first.0.1 others.0 others.1 in
    subst (ItemsBack (k ∷ ks)) all (record {
      values = (one.value, more.values);
      are = rw (one.is, more.are) refl;
      reads = rw (one.reads, more.reads) refl;
      clean = rw (one.clean, more.clean) refl;
      long = ap suc more.long;
    })

-- the item of a word that stands behind others
pub item_behind : (front : List Field) (k : Field) (more : List Field) (ws : List Word) (is : List Item) (w : Word)
    → read_all ((front ++ k ∷ []) ++ more) ws ≡ Ok is → slice_get ws (length front) ≡ Some w → slice_get is (length front) ≡ read k w
unfolding read_all
item_behind [] k more [] is w h at = absurd cc
item_behind [] k more (v ∷ ws) is w h at =
    let first = bind_ok (first_as (read k) (v ∷ ws)) _ is h in
    let others = bind_ok (read_all more first.0.1) _ is first.2 in
    let all : first.0.0 ∷ others.0 ≡ is = cc in
    let same : v ≡ w = cc in
    ap (λ (us : List Item). slice_get us 0) (sym all) ∙ sym (first_parts (read k) v ws first.0 first.1).0 ∙ ap (read k) same
item_behind (f ∷ fs) k more [] is w h at = absurd cc
item_behind (f ∷ fs) k more (v ∷ ws) is w h at =
    let first = bind_ok (first_as (read f) (v ∷ ws)) _ is h in
    let others = bind_ok (read_all ((fs ++ k ∷ []) ++ more) first.0.1) _ is first.2 in
    let all : first.0.0 ∷ others.0 ≡ is = cc in
    let rest = (first_parts (read f) v ws first.0 first.1).1 in
    ap (λ (us : List Item). slice_get us (suc (length fs))) (sym all)
    ∙ item_behind fs k more ws others.0 w (ap (read_all ((fs ++ k ∷ []) ++ more)) (sym rest) ∙ others.1) at
