-- How members are kept: each node stands in the list of its member's owner, or in that of the free nodes.
use Rattle.std.specs.Prelude.{◌≡◌, ◌≢◌, ℕ, suc, ◌+◌, ◌<◌, ◌^◌, true, ◌==◌, List, [], length, slice_index, None}
use Rattle.wf_words.specs.Keyed.{is_in}
use Rattle.wf_links.specs.Lists.{NodeLists, inserted, list_at, removed}
use Rattle.wf_members.specs.declared.members.Members.TheInside.{Inside}
use Rattle.wf_members.specs.Membership.{Membership}

-- what the fields stand for
abbrev pub membership_of : Inside → Membership
membership_of s = record { owners = s.owners.items; members = s.members.items; links = s.links }

-- the lists with a node moved into one of them, in which it is lowest
abbrev pub moved : ℕ → ℕ → List (List ℕ) → List (List ℕ)
moved node list lists = inserted list node None (removed node lists)

-- no handle stands twice
abbrev pub AreApart : List ℕ → Type 0
AreApart handles = (i j : ℕ) → slice_index handles i ≢ 0 → slice_index handles i ≡ slice_index handles j → i ≡ j

-- each node stands in the list of its own, which is that of the free nodes exactly where it has no member
pub record ArePlaced (members : List ℕ) (lists : List (List ℕ)) (free : ℕ) : Type 0 where
  pub list : ℕ → ℕ
  pub there : (n : ℕ) → n < length members → is_in n (list_at (list n) lists) ≡ true
  pub only : (n i : ℕ) → is_in n (list_at i lists) ≡ true → (n < length members) × (list n ≡ i)
  pub bare : (n : ℕ) → n < length members → (slice_index members n == 0) ≡ (list n == free)

-- what holds of all members
pub record IsSound (v : Membership) : Type 0 where
  pub lists : length v.links.lists ≡ suc (length v.owners)
  pub nodes : v.links.nodes ≡ length v.members
  pub few_owners : length v.owners + 1 < 2 ^ 32
  pub few_members : length v.members < 2 ^ 32
  pub placed : ArePlaced v.members v.links.lists (length v.owners)
  pub members_apart : AreApart v.members
  pub owners_apart : AreApart v.owners
  pub bare : (place : ℕ) → place < length v.owners → slice_index v.owners place ≡ 0 → list_at place v.links.lists ≡ []

abbrev pub IsKept : Inside → Type 0
IsKept s = IsSound (membership_of s)

-- links of so many nodes, with a list for each owner and one more, in which all nodes stand
pub record AreFree (nodes owners : ℕ) (links : NodeLists) : Type 0 where
  pub lists : length links.lists ≡ suc owners
  pub nodes_are : links.nodes ≡ nodes
  pub only : (n i : ℕ) → is_in n (list_at i links.lists) ≡ true → (n < nodes) × (i ≡ owners)
  pub there : (n : ℕ) → n < nodes → is_in n (list_at owners links.lists) ≡ true
