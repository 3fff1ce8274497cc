-- Which members each owner has. Owners and members are told by their handles, which are never 0.
use Rattle.std.specs.Prelude.{ℕ, Bool, not, ◌&&◌, ◌==◌, List, [], map, length, position, count_by, slice_index, Option}
use Rattle.std.specs.Prelude.{Some, None}
use Rattle.wf_words.specs.Keyed.{is_in}
use Rattle.wf_links.specs.Lists.{NodeLists, list_at}

-- the owner at each place and the member at each node, 0 where there is none; and the nodes of each place in a list, with one
-- more list at the end, of the nodes without a member
pub record Membership : Type 0 where
  pub owners : List ℕ
  pub members : List ℕ
  pub links : NodeLists

-- the members at nodes
abbrev pub named : List ℕ → List ℕ → List ℕ
named members nodes = map (slice_index members) nodes

-- those of a place
abbrev pub members_at : Option ℕ → Membership → List ℕ
members_at None v = []
members_at (Some place) v = named v.members (list_at place v.links.lists)

-- the members of an owner, from the one that was added last
unfoldable pub members_of : ℕ → Membership → List ℕ
members_of owner v = members_at (position (λ x. x == owner) v.owners) v

-- whether an owner is open
unfoldable pub is_open : ℕ → Membership → Bool
is_open owner v = not (owner == 0) && is_in owner v.owners

-- how many handles there are that are not 0
abbrev pub count_named : List ℕ → ℕ
count_named handles = count_by (λ x. not (x == 0)) handles

-- how many owners are open, and may be
unfoldable pub open_count : Membership → ℕ
open_count v = count_named v.owners

unfoldable pub most_owners : Membership → ℕ
most_owners v = length v.owners

-- how many members there are in all, and may be
unfoldable pub member_count : Membership → ℕ
member_count v = count_named v.members

unfoldable pub most_members : Membership → ℕ
most_members v = length v.members

-- both limits
abbrev pub limits : Membership → ℕ × ℕ
limits v = (most_owners v, most_members v)
