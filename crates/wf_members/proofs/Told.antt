-- A member that is given to an owner or taken from one: what the members of each owner are then.
use Rattle.std.proofs.Common.{◌≡◌, ◌≢◌, ℕ, ◌<◌, true, false, not, cond, ◌==◌, List, [], ◌∷◌, length, set, length-set, position}
use Rattle.std.proofs.Common.{Option, Some, None, IsSome, refl, sym, ap, ◌∙◌, inl, inr, if◌then◌else◌, arith}
use Rattle.std.specs.Prelude.{slice_index}
use Rattle.std.proofs.lemmas.Bool.{eq-eqb, eqb-true, eqb-false, ne_eqb, cases_eq, or_parts, false_from_ne_true}
use Rattle.wf_words.specs.Filtered.{none_out}
use Rattle.wf_words.specs.Found.{none_at}
use Rattle.wf_words.specs.Keyed.{is_in}
use Rattle.wf_words.specs.Once.{by_number, without_itself}
use Rattle.wf_links.specs.Lists.{list_at, list_of, lowest, without}
use Rattle.wf_members.specs.Membership.{Membership, is_open, member_count, members_at, members_of, most_members, most_owners, named}
use Rattle.wf_members.specs.Membership.{open_count}
use Rattle.wf_members.specs.Calls.{Adds, Removes}
use Rattle.wf_members.specs.Inside.{IsSound, moved}
use Rattle.wf_members.proofs.Handles.{StandsAt, placed, only_place, written, unwritten, still_apart, one_more, one_less}
use Rattle.wf_members.proofs.Moved.{length_moved, moved_here, moved_other, somewhere, still_placed}
use Rattle.wf_members.proofs.Kept.{at_no_node, lowest_in, open_named, some_node}

-- members at other nodes are as they were
pub named_kept : (ms : List ℕ) (s m : ℕ) (xs : List ℕ) → s < length ms → is_in s xs ≡ false → named (set ms s m) xs ≡ named ms xs
named_kept ms s m [] within absent = refl
named_kept ms s m (x ∷ xs) within absent =
    let parts = or_parts (x == s) (is_in s xs) absent in
    rw (unwritten ms s m within x (eqb-false x s parts.0), named_kept ms s m xs within parts.1) refl

pub without_absent : (s : ℕ) (xs : List ℕ) → is_in s xs ≡ false → without s xs ≡ xs
without_absent s xs absent = none_out (λ x. x == s) xs (none_at (λ x. x == s) xs absent)

-- the members without one are those at the nodes without its own
named_without : (ms : List ℕ) (s m : ℕ) (xs : List ℕ) → ((n : ℕ) → (slice_index ms n == m) ≡ (n == s))
    → without m (named ms xs) ≡ named ms (without s xs)
named_without ms s m [] tells = refl
named_without ms s m (x ∷ xs) tells =
    let later = named_without ms s m xs tells in
    rw (tells x) (elim (x == s) as (λ b. cond (not b) (slice_index ms x ∷ without m (named ms xs)) (without m (named ms xs))
    ≡ named ms (cond (not b) (x ∷ without s xs) (without s xs))) [
      | true ↦ later
      | false ↦ ap (λ ys. slice_index ms x ∷ ys) later
    ])

module _ (v : Membership) (sound : IsSound v) where
  -- with another member at a node, which is moved into another list
  abbrev pub with_member : ℕ → ℕ → ℕ → Membership
  with_member s m list =
      record v { members = set v.members s m; links = record v.links { lists = moved s list v.links.lists } }

  module _ (s m list : ℕ) (node : s < length v.members) (within : list < length v.links.lists)
      (told : (m == 0) ≡ (list == length v.owners)) (fresh : (j : ℕ) → m ≢ 0 → slice_index v.members j ≡ m → ⊥)
      (used : list < length v.owners → slice_index v.owners list ≢ 0) where
    pub member_sound : IsSound (with_member s m list)
    member_sound =
        record {
          lists = length_moved s list v.links.lists within ∙ sound.lists;
          nodes = sound.nodes ∙ sym (length-set v.members s m);
          few_owners = sound.few_owners;
          few_members = omega (arith, length-set v.members s m, sound.few_members);
          placed = still_placed v.members v.links.lists (length v.owners) sound.placed s list m node within told;
          members_apart = still_apart v.members s m node sound.members_apart fresh;
          owners_apart = sound.owners_apart;
          bare = λ q less zero. (let other : q ≢ list = λ same. used (rw same at less) (rw same at zero) in
              moved_other s list v.links.lists within q other ∙ ap (without s) (sound.bare q less zero));
        }

  -- a free node stands in no list of a place
  absent : (s q : ℕ) → is_in s (list_at (length v.owners) v.links.lists) ≡ true → q < length v.owners
      → is_in s (list_at q v.links.lists) ≡ false
  absent s q free less =
      false_from_ne_true (is_in s (list_at q v.links.lists)) (λ there.
      omega (arith, less, (sound.placed.only s q there).1, (sound.placed.only s (length v.owners) free).1))

  -- and has no member
  pub node_free : (s : ℕ) → is_in s (list_at (length v.owners) v.links.lists) ≡ true → slice_index v.members s ≡ 0
  node_free s free =
      let stands = sound.placed.only s (length v.owners) free in
      eqb-true (slice_index v.members s) 0 (sound.placed.bare s stands.0 ∙ eq-eqb (sound.placed.list s) (length v.owners) stands.1)

  -- a member is given to the owner of a place
  pub given : (s m p : ℕ) → is_in s (list_at (length v.owners) v.links.lists) ≡ true → (owner : ℕ) → StandsAt owner v.owners p
      → owner ≢ 0
      → (o : ℕ) → members_of o (with_member s m p) ≡ (if o == owner then m ∷ members_of o v else members_of o v)
  unfolding members_of
  given s m p free owner at named o = go (position (λ x. x == o) v.owners) refl
    where
      node : s < length v.members
      node = (sound.placed.only s (length v.owners) free).0

      within : p < length v.links.lists
      within = omega (arith, at.within, sound.lists)

      go : (q : Option ℕ) → position (λ x. x == o) v.owners ≡ q
          → members_at q (with_member s m p) ≡ (if o == owner then m ∷ members_at q v else members_at q v)
      go None none =
          let other : (o == owner) ≡ false =
          ne_eqb o owner (λ same. (let found = only_place owner v.owners p sound.owners_apart named at in
          let both : position (λ x. x == o) v.owners ≡ Some p = rw same found in absurd cc)) in
          rw other refl
      go (Some q) found =
          let stands = placed o v.owners q found in
          let out = absent s q free stands.within in
          elim (cases_eq q p) [
            | inl same ↦ (let is : (o == owner) ≡ true =
                eq-eqb o owner (sym stands.is ∙ ap (slice_index v.owners) same ∙ at.is) in
                let first : slice_index (set v.members s m) s ≡ m = written v.members s m node s refl in
                let here = absent s p free at.within in
                rw (
                  is,
                  moved_here s p v.links.lists within q same,
                  without_absent s (list_at p v.links.lists) here,
                  first,
                  named_kept v.members s m (list_at p v.links.lists) node here,
                  same,
                ) refl)
            | inr other ↦ (let apart : (o == owner) ≡ false =
                ne_eqb o owner (λ is. other (sound.owners_apart q p (λ zero. named (sym is ∙ sym stands.is ∙ zero))
                (stands.is ∙ is ∙ sym at.is))) in
                rw (apart, moved_other s p v.links.lists within q other, without_absent s (list_at q v.links.lists) out)
                (named_kept v.members s m (list_at q v.links.lists) node out))
          ]

  -- a member is taken from its owner, whoever that is
  pub taken : (s h : ℕ) → StandsAt h v.members s → h ≢ 0
      → (o : ℕ) → members_of o (with_member s 0 (length v.owners)) ≡ without h (members_of o v)
  unfolding members_of
  taken s h at named o = go (position (λ x. x == o) v.owners) refl
    where
      within : length v.owners < length v.links.lists
      within = omega (arith, sound.lists)

      tells : (n : ℕ) → (slice_index v.members n == h) ≡ (n == s)
      tells n =
          by_number ((slice_index v.members n == h) ≡ (n == s)) n s
          (λ is same. eq-eqb (slice_index v.members n) h (ap (slice_index v.members) same ∙ at.is) ∙ sym is)
          (λ other. ne_eqb (slice_index v.members n) h (λ was. eqb-false n s other
          (sound.members_apart n s (λ zero. named (sym was ∙ zero)) (was ∙ sym at.is))) ∙ sym other)

      go : (q : Option ℕ) → position (λ x. x == o) v.owners ≡ q
          → members_at q (with_member s 0 (length v.owners)) ≡ without h (members_at q v)
      go None none = refl
      go (Some q) found =
          let stands = placed o v.owners q found in
          let other : q ≢ length v.owners = λ same. absurd (omega (arith, same, stands.within)) in
          let xs = list_at q v.links.lists in
          rw (moved_other s (length v.owners) v.links.lists within q other)
          (named_kept v.members s 0 (without s xs) at.within (without_itself s xs) ∙ sym (named_without v.members s h xs tells))

  -- an owner at a place gets a member, which is at a free node

  module _ (owner m p s : ℕ) (found : position (λ x. x == owner) v.owners ≡ Some p) (is : is_open owner v ≡ true) (named : m ≢ 0)
      (nobodys : (o : ℕ) → is_in m (members_of o v) ≡ false) (free : lowest (list_at (length v.owners) v.links.lists) ≡ Some s) where
    at_own : StandsAt owner v.owners p
    at_own = placed owner v.owners p found

    named_own : owner ≢ 0
    named_own = open_named v sound owner is

    free_in : is_in s (list_at (length v.owners) v.links.lists) ≡ true
    free_in = lowest_in s (list_at (length v.owners) v.links.lists) free

    pub free_within : s < length v.members
    free_within = (sound.placed.only s (length v.owners) free_in).0

    pub free_listed : IsSome (list_of s v.links.lists)
    free_listed = somewhere s v.links.lists (length v.owners) free_in

    pub added_sound : IsSound (with_member s m p)
    added_sound =
        member_sound s m p free_within (omega (arith, at_own.within, sound.lists))
        (ne_eqb m 0 named ∙ sym (ne_eqb p (length v.owners) (λ same. absurd (omega (arith, same, at_own.within)))))
        (λ j nonzero at. at_no_node v sound m named nobodys j at)
        (λ less zero. named_own (sym at_own.is ∙ zero))

    pub adds : Adds owner m v (with_member s m p)
    unfolding is_open open_count member_count most_owners most_members
    adds =
        record {
          members = given s m p free_in owner at_own named_own;
          opened = λ o. refl;
          owner_count = refl;
          count = one_more v.members s m free_within (node_free s free_in) named;
          limits_stay = ap (λ n. (length v.owners, n)) (length-set v.members s m);
        }

  -- a member at a node is taken from its owner

  module _ (o m s : ℕ) (there : is_in m (members_of o v) ≡ true) (found : position (λ x. x == m) v.members ≡ Some s) where
    at_node : StandsAt m v.members s
    at_node = placed m v.members s found

    named_node : m ≢ 0
    named_node = (some_node v sound o m there).0

    pub node_listed : IsSome (list_of s v.links.lists)
    node_listed = somewhere s v.links.lists (sound.placed.list s) (sound.placed.there s at_node.within)

    pub removed_sound : IsSound (with_member s 0 (length v.owners))
    removed_sound =
        member_sound s 0 (length v.owners) at_node.within (omega (arith, sound.lists))
        (sym (eq-eqb (length v.owners) (length v.owners) refl)) (λ j nonzero at. nonzero refl)
        (λ less. absurd (omega (arith, less)))

    pub removes : Removes m v (with_member s 0 (length v.owners))
    unfolding is_open open_count member_count most_owners most_members
    removes =
        record {
          members = taken s m at_node named_node;
          opened = λ o. refl;
          owner_count = refl;
          count = one_less v.members s 0 at_node.within (λ zero. named_node (sym at_node.is ∙ zero)) refl;
          limits_stay = ap (λ n. (length v.owners, n)) (length-set v.members s 0);
        }
