-- How the lists are kept: each node with its list and its neighbours there, and each list with its lowest node.
use Rattle.std.specs.Prelude.{◌≡◌, ℕ, zero, suc, true, List, [], ◌∷◌, map, length, slice_get, slice_set, Option, Some, None}
use Rattle.std.specs.List.{slice_index_or}
use Rattle.std.specs.Option.{option_and_then}
use Rattle.wf_words.specs.Keyed.{is_in}
use Rattle.wf_words.specs.Once.{NoneTwice}
use Rattle.wf_links.specs.declared.links.Node.{Node}
use Rattle.wf_links.specs.declared.links.Links.TheInside.{Inside}
use Rattle.wf_links.specs.Lists.{NodeLists, list_at, lowest}

-- what a node's links say
abbrev pub list_link : List Node → ℕ → Option ℕ
list_link nodes n = option_and_then (λ node. node.list) (slice_get nodes n)

abbrev pub above_link : List Node → ℕ → Option ℕ
above_link nodes n = option_and_then (λ node. node.above) (slice_get nodes n)

-- so many nodes at most, from one up
abbrev pub upward : ℕ → List Node → Option ℕ → List ℕ
upward zero nodes from = []
upward (suc most) nodes None = []
upward (suc most) nodes (Some n) = n ∷ upward most nodes (above_link nodes n)

-- what the fields stand for: no list is longer than there are nodes
abbrev pub lists_of : Inside → NodeLists
lists_of s =
    record {
      nodes = length s.nodes.items;
      lists = map (upward (length s.nodes.items) s.nodes.items) s.lowest.items;
    }

-- the first node, or else what stands above the list
abbrev pub first_or : Option ℕ → List ℕ → Option ℕ
first_or over [] = over
first_or over (n ∷ ns) = Some n

-- the links chain nodes of a list one above another, from the one above `under` to the one below `over`
abbrev pub IsChain : List Node → ℕ → Option ℕ → List ℕ → Option ℕ → Type 0
IsChain nodes list under [] over = Unit {0}
IsChain nodes list under (n ∷ ns) over =
    (slice_get nodes n ≡ Some (record { list = Some list; below = under; above = first_or over ns })) × IsChain nodes list (Some n) ns over

-- the links, and the lowest node of each list, stand for these lists
pub record Represent (nodes : List Node) (lowests : List (Option ℕ)) (lists : List (List ℕ)) : Type 0 where
  pub lowest : lowests ≡ map lowest lists
  pub chained : (list : ℕ) → IsChain nodes list None (list_at list lists) None
  pub once : (list : ℕ) → NoneTwice (list_at list lists)
  pub listed : (list n : ℕ) → list_link nodes n ≡ Some list → is_in n (list_at list lists) ≡ true

-- what holds of the fields of all links
abbrev pub IsSound : Inside → Type 0
IsSound s = Represent s.nodes.items s.lowest.items (lists_of s).lists

-- a node in no list
abbrev pub free : Node
free = record { list = None; below = None; above = None }

-- what stands directly above a node, or lowest in a list where no node is given
abbrev pub next_up : List Node → List (Option ℕ) → ℕ → Option ℕ → Option ℕ
next_up nodes lowests list None = slice_index_or lowests list None
next_up nodes lowests list (Some n) = (slice_index_or nodes n free).above

-- the nodes, one of which, where it is given, has this above it
abbrev pub with_above : Option ℕ → Option ℕ → List Node → List Node
with_above None over nodes = nodes
with_above (Some n) over nodes = slice_set nodes n (record (slice_index_or nodes n free) { above = over })

-- and this below it
abbrev pub with_below : Option ℕ → Option ℕ → List Node → List Node
with_below None under nodes = nodes
with_below (Some n) under nodes = slice_set nodes n (record (slice_index_or nodes n free) { below = under })

-- the lowest nodes of lists, one of which has another, where that stands above no node
abbrev pub with_lowest : ℕ → Option ℕ → Option ℕ → List (Option ℕ) → List (Option ℕ)
with_lowest list None over lowests = slice_set lowests list over
with_lowest list (Some n) over lowests = lowests
