-- Several ordered lists over one set of nodes: nodes and lists are numbered from 0, and a list has its nodes from the lowest up.
use Rattle.std.specs.Prelude.{◌≡◌, ℕ, ◌<◌, not, ◌==◌, List, [], ◌∷◌, length, map, filter, flat_map, reverse, position, slice_get, slice_set}
use Rattle.std.specs.Prelude.{Option, Some, None, if◌then◌else◌}
use Rattle.std.specs.List.{AllByRecursion, concat, slice_index_or}
use Rattle.std.specs.Option.{ForSome}
use Rattle.wf_words.specs.Keyed.{is_in}
use Rattle.wf_words.specs.Once.{NoneTwice}
use Rattle.wf_words.specs.Options.{◌>>=◌}

-- how many nodes there are, and the lists
pub record NodeLists : Type 0 where
  pub nodes : ℕ
  pub lists : List (List ℕ)

-- a list by its number
abbrev pub list_at : ℕ → List (List ℕ) → List ℕ
list_at list lists = slice_index_or lists list []

-- the list that has a node
abbrev pub list_of : ℕ → List (List ℕ) → Option ℕ
list_of node lists = position (is_in node) lists

-- the first node of a list
abbrev pub lowest : List ℕ → Option ℕ
lowest xs = slice_get xs 0

-- what stands next after a node
abbrev pub next_after : ℕ → List ℕ → Option ℕ
next_after node [] = None
next_after node (x ∷ xs) = if x == node then lowest xs else next_after node xs

-- the node directly above another in its list
abbrev pub above : ℕ → List (List ℕ) → Option ℕ
above node lists = list_of node lists >>= λ list. next_after node (list_at list lists)

-- the node directly below another: the next in the same list from the top down
abbrev pub below : ℕ → List (List ℕ) → Option ℕ
below node lists = list_of node lists >>= λ list. next_after node (reverse (list_at list lists))

-- a list with a node put directly above another, or to the bottom where none is given
abbrev pub put_above : Option ℕ → ℕ → List ℕ → List ℕ
put_above None node xs = node ∷ xs
put_above (Some base) node xs = flat_map (λ x. if x == base then x ∷ node ∷ [] else x ∷ []) xs

-- the lists with a node put into one of them
abbrev pub inserted : ℕ → ℕ → Option ℕ → List (List ℕ) → List (List ℕ)
inserted list node base lists = slice_set lists list (put_above base node (list_at list lists))

-- a list without a node
abbrev pub without : ℕ → List ℕ → List ℕ
without node xs = filter (λ x. not (x == node)) xs

-- the lists without a node
abbrev pub removed : ℕ → List (List ℕ) → List (List ℕ)
removed node lists = map (without node) lists

-- each node stands in one list at most, and once there, and is one of the nodes that there are
pub record IsOrderly (o : NodeLists) : Type 0 where
  pub once : NoneTwice (concat o.lists)
  pub within : AllByRecursion (λ node. node < o.nodes) (concat o.lists)

-- a node may be put there: it is in no list, and the node below it is in this one
pub record MayInsert (o : NodeLists) (list node : ℕ) (base : Option ℕ) : Type 0 where
  pub is_list : list < length o.lists
  pub is_free : list_of node o.lists ≡ None
  pub is_base : ForSome base (λ b. list_of b o.lists ≡ Some list)
