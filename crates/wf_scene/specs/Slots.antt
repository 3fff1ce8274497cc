-- Elements in the slots of a table: which slots are used, in the order in which their elements were added, and which elements
-- are inserted, from the bottom up.
use Rattle.std.specs.Prelude.{◌≡◌, ℕ, ◌+◌, ◌<◌, true, false, ◌==◌, List, [], ◌∷◌, map, find, length, slice_index_or, Option}
use Rattle.std.specs.List.{AllByRecursion}
use Rattle.std.specs.Option.{option_map_or}
use Rattle.wf_words.specs.Keyed.{is_in}
use Rattle.wf_links.specs.Lists as links
use Rattle.wf_links.specs.Lists.{NodeLists, list_at}
use Rattle.wf_scene.specs.declared.element.Element.{Element}
use Rattle.wf_scene.specs.declared.slots.Slots.{Slots}
use Rattle.wf_scene.specs.Elements.{new_element}
use Rattle.wf_scene.specs.Order.{AreApart}
use Rattle.wf_scene.specs.Cached.{handles}
use Rattle.wf_scene.specs.declared.TheConstants.{MOST_ELEMENTS}

-- the links of slots: two lists, of the slots of the inserted elements from the bottom up, and of the free slots
abbrev pub two_lists : List ℕ → List ℕ → NodeLists
two_lists inserted free = record { nodes = MOST_ELEMENTS; lists = inserted ∷ free ∷ [] }

abbrev pub inserted_in : NodeLists → List ℕ
inserted_in links = list_at 0 links.lists

abbrev pub free_in : NodeLists → List ℕ
free_in links = list_at 1 links.lists

-- links are these two lists, in which no slot stands twice
pub record IsLinked (o : NodeLists) : Type 0 where
  pub two : o ≡ two_lists (inserted_in o) (free_in o)
  pub orderly : links.IsOrderly o

-- links in which each slot is free
pub record IsAllFree (o : NodeLists) : Type 0 where
  pub linked : IsLinked o
  pub none : inserted_in o ≡ []
  pub all : length (free_in o) ≡ MOST_ELEMENTS

-- the element in a slot, where the slot is used
abbrev pub held : List Element → ℕ → Element
held table slot = slice_index_or table slot (new_element 0)

abbrev pub handle_held : List Element → ℕ → ℕ
handle_held table slot = (held table slot).handle

-- the elements in slots, and their handles
abbrev pub all_held : List Element → List ℕ → List Element
all_held table slots = map (held table) slots

abbrev pub handles_held : List Element → List ℕ → List ℕ
handles_held table slots = map (handle_held table) slots

-- the first of some slots that holds a handle
abbrev pub slot_of : List Element → ℕ → List ℕ → Option ℕ
slot_of table handle slots = find (λ slot. handle_held table slot == handle) slots

-- the handle in a slot, or 0 where there is none
abbrev pub handle_or_none : List Element → Option ℕ → ℕ
handle_or_none table slot = option_map_or (handle_held table) slot 0

-- the elements in the order in which they were added
abbrev pub elements_in : Slots → List Element
elements_in s = all_held s.table.items s.used.items

-- the handles of the inserted elements from the bottom up
abbrev pub order_in : Slots → List ℕ
order_in s = handles_held s.table.items (inserted_in s.links)

-- each slot is used or free: a used one holds an element of its own, and only used ones are inserted, so many as are counted
pub record IsKeptBy (table : List Element) (used : List ℕ) (o : NodeLists) (count : ℕ) : Type 0 where
  pub linked : IsLinked o
  pub slots : length table ≡ MOST_ELEMENTS
  pub within : AllByRecursion (λ slot. slot < MOST_ELEMENTS) used
  pub apart : AreApart (handles (all_held table used))
  pub live : (slot : ℕ) → is_in slot (inserted_in o) ≡ true → is_in slot used ≡ true
  pub free : (slot : ℕ) → is_in slot (free_in o) ≡ true → is_in slot used ≡ false
  pub all : length used + length (free_in o) ≡ MOST_ELEMENTS
  pub counted : count ≡ length (inserted_in o)

abbrev pub IsKept : Slots → Type 0
IsKept s = IsKeptBy s.table.items s.used.items s.links s.inserted

-- slots of which none is used
pub record IsEmpty (s : Slots) : Type 0 where
  pub kept : IsKept s
  pub elements : elements_in s ≡ []
  pub order : order_in s ≡ []
