-- Members that are kept: what the places and the nodes tell of an owner and of a member.
use Rattle.std.proofs.Common.{◌≡◌, ◌≢◌, ℕ, ◌<◌, true, false, not, ◌==◌, List, [], ◌∷◌, length, position}
use Rattle.std.proofs.Common.{option_map, is_some, Option, Some, None, refl, sym, ap, ◌∙◌, inl, inr, arith}
use Rattle.std.specs.Prelude.{slice_index}
use Rattle.std.proofs.lemmas.Bool.{and_parts, eq-eqb, eqb-true, eqb-false, ne_eqb, both_ways, cases_eq}
use Rattle.std.proofs.lemmas.Bool.{false_from_ne_true, or_left, or_right}
use Rattle.wf_words.specs.Keyed.{is_in}
use Rattle.wf_words.specs.Once.{by_number}
use Rattle.wf_links.specs.Lists.{list_at, lowest}
use Rattle.wf_members.specs.Membership.{Membership, is_open, member_count, members_at, members_of, most_members, most_owners, named}
use Rattle.wf_members.specs.Membership.{open_count}
use Rattle.wf_members.specs.Inside.{IsSound}
use Rattle.wf_members.proofs.Handles.{StandsAt, at_in, in_at, in_by_place, placed, some_place, only_place, free_place, named_within}
use Rattle.wf_members.proofs.Moved.{list_within}

-- the members at nodes, and the nodes of members

pub named_in : (ms xs : List ℕ) (n : ℕ) → is_in n xs ≡ true → is_in (slice_index ms n) (named ms xs) ≡ true
named_in ms [] n there = absurd cc
named_in ms (x ∷ xs) n there =
    by_number (is_in (slice_index ms n) (named ms (x ∷ xs)) ≡ true) x n
    (λ is same. or_left (slice_index ms x == slice_index ms n) (is_in (slice_index ms n) (named ms xs))
    (eq-eqb (slice_index ms x) (slice_index ms n) (ap (slice_index ms) same)))
    (λ other. or_right (slice_index ms x == slice_index ms n) (is_in (slice_index ms n) (named ms xs))
    (named_in ms xs n (rw other at there)))

-- the node of a member
pub record HasNode (ms xs : List ℕ) (m : ℕ) : Type 0 where
  pub node : ℕ
  pub there : is_in node xs ≡ true
  pub is : slice_index ms node ≡ m

pub node_in : (ms xs : List ℕ) (m : ℕ) → is_in m (named ms xs) ≡ true → HasNode ms xs m
node_in ms [] m there = absurd cc
node_in ms (x ∷ xs) m there =
    by_number (HasNode ms (x ∷ xs) m) (slice_index ms x) m
    (λ is same. record { node = x; there = or_left (x == x) (is_in x xs) (eq-eqb x x refl); is = same })
    (λ other. (let later = node_in ms xs m (rw other at there) in
    record { node = later.node; there = or_right (x == later.node) (is_in later.node xs) later.there; is = later.is }))

-- no members are at no nodes
pub none_named : (ms xs : List ℕ) → named ms xs ≡ [] → xs ≡ []
none_named ms [] is = refl
none_named ms (x ∷ xs) is = absurd cc

pub lowest_named : (ms xs : List ℕ) → lowest (named ms xs) ≡ option_map (slice_index ms) (lowest xs)
lowest_named ms [] = refl
lowest_named ms (x ∷ xs) = refl

-- a list without nodes
pub nothing_in : (xs : List ℕ) → ((n : ℕ) → is_in n xs ≡ true → ⊥) → xs ≡ []
nothing_in [] none = refl
nothing_in (x ∷ xs) none = absurd (none x (or_left (x == x) (is_in x xs) (eq-eqb x x refl)))

-- a list that has a node has a lowest one
pub some_lowest : (n : ℕ) (xs : List ℕ) → is_in n xs ≡ true → (s : ℕ) × (lowest xs ≡ Some s) × (is_in s xs ≡ true)
some_lowest n [] there = absurd cc
some_lowest n (x ∷ xs) there = (x, refl, or_left (x == x) (is_in x xs) (eq-eqb x x refl))

pub lowest_in : (s : ℕ) (xs : List ℕ) → lowest xs ≡ Some s → is_in s xs ≡ true
lowest_in s [] is = absurd cc
lowest_in s (x ∷ xs) is = or_left (x == s) (is_in s xs) (eq-eqb x s cc)

module _ (v : Membership) (sound : IsSound v) where
  -- the members of an owner are those of its place; 0 has none, nor has one that has no place

  pub zero_none : members_of 0 v ≡ []
  unfolding members_of
  zero_none = go (position (λ x. x == 0) v.owners) refl
    where
      go : (o : Option ℕ) → position (λ x. x == 0) v.owners ≡ o → members_of 0 v ≡ []
      go None at = rw at refl
      go (Some p) at = let stands = placed 0 v.owners p at in rw at (rw (sound.bare p stands.within stands.is) refl)

  pub read : (h p : ℕ) → StandsAt h v.owners p → members_of h v ≡ named v.members (list_at p v.links.lists)
  unfolding members_of
  read h p at =
      elim (cases_eq h 0) [
        | inl zero ↦ (let none : list_at p v.links.lists ≡ [] = sound.bare p at.within (at.is ∙ zero) in
            rw (none, zero) zero_none)
        | inr named ↦ (let found = only_place h v.owners p sound.owners_apart named at in rw found refl)
      ]

  pub unread : (h : ℕ) → ((p : ℕ) → StandsAt h v.owners p → ⊥) → members_of h v ≡ []
  unfolding members_of
  unread h none = go (position (λ x. x == h) v.owners) refl
    where
      go : (o : Option ℕ) → position (λ x. x == h) v.owners ≡ o → members_of h v ≡ []
      go None at = rw at refl
      go (Some p) at = absurd (none p (placed h v.owners p at))

  -- an open owner has a place, and one that is not open has none

  pub open_named : (h : ℕ) → is_open h v ≡ true → h ≢ 0
  unfolding is_open
  open_named h is zero = absurd cc

  pub open_place : (h : ℕ) → is_open h v ≡ true → (p : ℕ) × (position (λ x. x == h) v.owners ≡ Some p)
  unfolding is_open
  open_place h is = some_place h v.owners (and_parts (not (h == 0)) (is_in h v.owners) is).1

  pub closed_in : (h : ℕ) → h ≢ 0 → is_open h v ≡ false → is_in h v.owners ≡ false
  unfolding is_open
  closed_in h named closed = rw (ne_eqb h 0 named) at closed

  -- a node in the list of a place has a member
  pub node_named : (p n : ℕ) → p < length v.owners → is_in n (list_at p v.links.lists) ≡ true → slice_index v.members n ≢ 0
  node_named p n within there =
      let stands = sound.placed.only n p there in
      let apart : (p == length v.owners) ≡ false = ne_eqb p (length v.owners) (λ same. absurd (omega (arith, within, same))) in
      eqb-false (slice_index v.members n) 0
      (sound.placed.bare n stands.0 ∙ ap (λ i. i == length v.owners) stands.1 ∙ apart)

  -- what is at a node is somebody's
  pub owner_at : (m : ℕ) → m ≢ 0 → (n : ℕ) → slice_index v.members n ≡ m → (o : ℕ) × (is_in m (members_of o v) ≡ true)
  owner_at m named n at =
      elim (cases_eq (list_of_node n) (length v.owners)) [
        | inl free ↦ (let test : (slice_index v.members n == 0) ≡ true =
            sound.placed.bare n within ∙ eq-eqb (list_of_node n) (length v.owners) free in
            absurd (named (sym at ∙ eqb-true (slice_index v.members n) 0 test)))
        | inr used ↦ (let less : list_of_node n < length v.owners =
            omega (arith, used, sound.lists, list_within n v.links.lists (list_of_node n) there) in
            let owner = slice_index v.owners (list_of_node n) in
            let is = read owner (list_of_node n) (record { within = less; is = refl }) in
            (owner, rw (is, ← at) (named_in v.members (list_at (list_of_node n) v.links.lists) n there)))
      ]
    where
      list_of_node : ℕ → ℕ
      list_of_node k = sound.placed.list k

      within : n < length v.members
      within = named_within v.members n (λ none. named (sym at ∙ none))

      there : is_in n (list_at (sound.placed.list n) v.links.lists) ≡ true
      there = sound.placed.there n within

  pub at_no_node : (m : ℕ) → m ≢ 0 → ((o : ℕ) → is_in m (members_of o v) ≡ false) → (n : ℕ) → slice_index v.members n ≡ m → ⊥
  at_no_node m named nobodys n at =
      let owner = owner_at m named n at in
      both_ways (is_in m (members_of owner.0 v)) (nobodys owner.0) owner.1

  -- a member has a node
  pub some_node : (o m : ℕ) → is_in m (members_of o v) ≡ true → (m ≢ 0) × ((s : ℕ) × (position (λ x. x == m) v.members ≡ Some s))
  unfolding members_of
  some_node o m there = go (position (λ x. x == o) v.owners) refl there
    where
      go : (q : Option ℕ) → position (λ x. x == o) v.owners ≡ q → is_in m (members_at q v) ≡ true
          → (m ≢ 0) × ((s : ℕ) × (position (λ x. x == m) v.members ≡ Some s))
      go None found is = absurd cc
      go (Some q) found is =
          let at = node_in v.members (list_at q v.links.lists) m is in
          let named = node_named q at.node (placed o v.owners q found).within at.there in
          let less = named_within v.members at.node named in (
            λ none. named (at.is ∙ none),
            some_place m v.members (in_at m v.members at.node (record { within = less; is = at.is })),
          )

  -- where there is room, a place is free
  pub free_owner : open_count v < most_owners v → (p : ℕ) × (position (λ x. x == 0) v.owners ≡ Some p)
  unfolding open_count most_owners
  free_owner room = free_place v.owners room

  -- where there is room, a node is free
  pub free_node : member_count v < most_members v → (s : ℕ) × (lowest (list_at (length v.owners) v.links.lists) ≡ Some s)
  unfolding member_count most_members
  free_node room =
      let at = free_place v.members room in
      let stands = placed 0 v.members at.0 at.1 in
      let test : (sound.placed.list at.0 == length v.owners) ≡ true =
      sym (sound.placed.bare at.0 stands.within) ∙ eq-eqb (slice_index v.members at.0) 0 stands.is in
      let free = eqb-true (sound.placed.list at.0) (length v.owners) test in
      let found = some_lowest at.0 (list_at (length v.owners) v.links.lists)
      (rw (← free) (sound.placed.there at.0 stands.within)) in
      (found.0, found.1)

  -- whether a handle has a place or a node tells whether it is an open owner, or somebody's member

  pub open_by_place : (h : ℕ) → h ≢ 0 → is_some (position (λ x. x == h) v.owners) ≡ is_open h v
  unfolding is_open
  open_by_place h named = rw (ne_eqb h 0 named) (sym (in_by_place h v.owners))

  pub zero_shut : is_open 0 v ≡ false
  unfolding is_open
  zero_shut = refl

  pub zero_nobodys : (o : ℕ) → is_in 0 (members_of o v) ≡ false
  zero_nobodys o = false_from_ne_true (is_in 0 (members_of o v)) (λ there. (some_node o 0 there).0 refl)

  pub somebodys : (m : ℕ) → m ≢ 0 → is_some (position (λ x. x == m) v.members) ≡ true → (o : ℕ) × (is_in m (members_of o v) ≡ true)
  somebodys m named some =
      let node = at_in m v.members (in_by_place m v.members ∙ some) in
      owner_at m named node.0 node.1.is

  pub nobodys : (m : ℕ) → is_some (position (λ x. x == m) v.members) ≡ false → (o : ℕ) → is_in m (members_of o v) ≡ false
  nobodys m none o =
      false_from_ne_true (is_in m (members_of o v)) (λ there. (let node = (some_node o m there).1 in
      both_ways (is_some (position (λ x. x == m) v.members)) none (ap is_some node.1)))
