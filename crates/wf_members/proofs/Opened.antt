-- An owner at a place that has no nodes: it is opened there, or closed.
use Rattle.std.proofs.Common.{◌≡◌, ◌≢◌, ℕ, suc, ◌<◌, true, false, not, ◌&&◌, ◌||◌, ◌==◌, [], length, set, length-set, refl, sym, ap}
use Rattle.std.proofs.Common.{position, Option, Some, None, ◌∙◌, inl, inr, arith}
use Rattle.std.specs.Prelude.{slice_index}
use Rattle.std.proofs.Math.Bool.{and-false}
use Rattle.std.proofs.lemmas.Bool.{both_ways, eq-eqb, ne_eqb, cases_eq}
use Rattle.wf_words.specs.Keyed.{is_in}
use Rattle.wf_links.specs.Lists.{list_at}
use Rattle.wf_members.specs.Membership.{Membership, is_open, member_count, members_at, members_of, most_members, most_owners, named}
use Rattle.wf_members.specs.Membership.{open_count}
use Rattle.wf_members.specs.Calls.{Closes, Opens}
use Rattle.wf_members.specs.Inside.{IsSound}
use Rattle.wf_members.proofs.Handles.{StandsAt, in_at, in_gone, in_kept, in_written, named_within, one_less, one_more, place_kept, placed}
use Rattle.wf_members.proofs.Handles.{still_apart, unwritten, written}
use Rattle.wf_members.proofs.Kept.{closed_in, none_named, open_named, read, unread, zero_none}

-- with an owner at a place, or 0
abbrev pub with_owner : Membership → ℕ → ℕ → Membership
with_owner v p x = record v { owners = set v.owners p x }

module _ (v : Membership) (sound : IsSound v) (p x : ℕ) (within : p < length v.owners) (bare : list_at p v.links.lists ≡ [])
    (fresh : (j : ℕ) → x ≢ 0 → slice_index v.owners j ≡ x → ⊥) where
  same_length : length (set v.owners p x) ≡ length v.owners
  same_length = length-set v.owners p x

  pub owner_sound : IsSound (with_owner v p x)
  owner_sound =
      record {
        lists = sound.lists ∙ ap suc (sym same_length);
        nodes = sound.nodes;
        few_owners = omega (arith, same_length, sound.few_owners);
        few_members = sound.few_members;
        placed = rw same_length sound.placed;
        members_apart = sound.members_apart;
        owners_apart = still_apart v.owners p x within sound.owners_apart fresh;
        bare = λ q less zero. elim (cases_eq q p) [
          | inl same ↦ rw same bare
          | inr other ↦ sound.bare q (omega (arith, less, same_length)) (sym (unwritten v.owners p x within q other) ∙ zero)
        ];
      }

  -- no owner has other members
  pub owner_members : (o : ℕ) → members_of o (with_owner v p x) ≡ members_of o v
  unfolding members_of
  owner_members o =
      elim (cases_eq o 0) [
        | inl zero ↦ rw zero (zero_none (with_owner v p x) owner_sound ∙ sym (zero_none v sound))
        | inr named ↦ elim (cases_eq x o) [
          | inl new ↦ now_open named new
          | inr not_new ↦ elim (cases_eq (slice_index v.owners p) o) [
            | inl old ↦ now_closed named not_new old
            | inr not_old ↦ rw (place_kept o v.owners p x not_new not_old) (same_at (position (λ y. y == o) v.owners))
          ]
        ]
      ]
    where
      same_at : (q : Option ℕ) → members_at q (with_owner v p x) ≡ members_at q v
      same_at None = refl
      same_at (Some q) = refl

      none_here : named v.members (list_at p v.links.lists) ≡ []
      none_here = rw bare refl

      now_open : o ≢ 0 → x ≡ o → members_of o (with_owner v p x) ≡ members_of o v
      now_open nonzero new =
          read (with_owner v p x) owner_sound o p
          (record { within = omega (arith, within, same_length); is = written v.owners p x within p refl ∙ new })
          ∙ none_here
          ∙ sym (unread v sound o (λ q at. fresh q (λ zero. nonzero (sym new ∙ zero)) (at.is ∙ sym new)))

      now_closed : o ≢ 0 → x ≢ o → slice_index v.owners p ≡ o → members_of o (with_owner v p x) ≡ members_of o v
      now_closed nonzero not_new old =
          unread (with_owner v p x) owner_sound o (λ q at. elim (cases_eq q p) [
            | inl same ↦ not_new (sym (written v.owners p x within q same) ∙ at.is)
            | inr other ↦ (let was = sym (unwritten v.owners p x within q other) ∙ at.is in
                other (sound.owners_apart q p (λ none. nonzero (sym was ∙ none)) (was ∙ sym old)))
          ])
          ∙ sym (read v sound o p (record { within = within; is = old }) ∙ none_here)

  -- which owners are open

  pub opened : slice_index v.owners p ≡ 0 → x ≢ 0 → (o : ℕ) → is_open o (with_owner v p x) ≡ ((o == x) || is_open o v)
  unfolding is_open
  opened free named o =
      elim (cases_eq o x) [
        | inl same ↦ rw (same, ne_eqb x 0 named, eq-eqb x x refl, in_written v.owners p x within) refl
        | inr other ↦ elim (cases_eq o 0) [
          | inl zero ↦ rw (ne_eqb o x other, zero) refl
          | inr nonzero ↦ rw (
            ne_eqb o x other,
            in_kept o v.owners p x (λ same. other (sym same))
                (λ same. nonzero (sym same ∙ free)),
          ) refl
        ]
      ]

  pub closed : (h : ℕ) → slice_index v.owners p ≡ h → h ≢ 0 → x ≡ 0 → (o : ℕ) → is_open o (with_owner v p x) ≡ (not (o == h) && is_open o v)
  unfolding is_open
  closed h was named zero o =
      elim (cases_eq o h) [
        | inl same ↦ rw (same, eq-eqb h h refl, in_gone v.owners p x within h sound.owners_apart named was zero) (and-false (not (h == 0)))
        | inr other ↦ elim (cases_eq o 0) [
          | inl none ↦ rw (ne_eqb o h other, none) refl
          | inr nonzero ↦ rw (
            ne_eqb o h other,
            in_kept o v.owners p x (λ same. nonzero (sym same ∙ zero))
                (λ same. other (sym same ∙ was)),
          ) refl
        ]
      ]

module _ (v : Membership) (sound : IsSound v) (p owner : ℕ) where
  -- an owner is opened at a free place

  module _ (free : position (λ x. x == 0) v.owners ≡ Some p) (named : owner ≢ 0) (shut : is_open owner v ≡ false) where
    at_free : StandsAt 0 v.owners p
    at_free = placed 0 v.owners p free

    bare_free : list_at p v.links.lists ≡ []
    bare_free = sound.bare p at_free.within at_free.is

    new_owner : (j : ℕ) → owner ≢ 0 → slice_index v.owners j ≡ owner → ⊥
    new_owner j nonzero at =
        let less = named_within v.owners j (λ none. named (sym at ∙ none)) in
        both_ways (is_in owner v.owners) (closed_in v sound owner named shut)
        (in_at owner v.owners j (record { within = less; is = at }))

    pub open_sound : IsSound (with_owner v p owner)
    open_sound = owner_sound v sound p owner at_free.within bare_free new_owner

    pub opens : Opens owner v (with_owner v p owner)
    unfolding open_count member_count most_owners most_members
    opens =
        record {
          opened = opened v sound p owner at_free.within bare_free new_owner at_free.is named;
          members = owner_members v sound p owner at_free.within bare_free new_owner;
          owner_count = one_more v.owners p owner at_free.within at_free.is named;
          count = refl;
          limits_stay = ap (λ n. (n, length v.members)) (length-set v.owners p owner);
        }

  -- an owner without members is closed

  module _ (found : position (λ x. x == owner) v.owners ≡ Some p) (is : is_open owner v ≡ true) (none : members_of owner v ≡ []) where
    at_own : StandsAt owner v.owners p
    at_own = placed owner v.owners p found

    bare_own : list_at p v.links.lists ≡ []
    bare_own = none_named v.members (list_at p v.links.lists) (sym (read v sound owner p at_own) ∙ none)

    named_own : owner ≢ 0
    named_own = open_named v sound owner is

    pub closed_sound : IsSound (with_owner v p 0)
    closed_sound = owner_sound v sound p 0 at_own.within bare_own (λ j nonzero at. nonzero refl)

    pub closes : Closes owner v (with_owner v p 0)
    unfolding open_count member_count most_owners most_members
    closes =
        record {
          closed = closed v sound p 0 at_own.within bare_own (λ j nonzero at. nonzero refl) owner at_own.is named_own refl;
          members = owner_members v sound p 0 at_own.within bare_own (λ j nonzero at. nonzero refl);
          owner_count = one_less v.owners p 0 at_own.within (λ zero. named_own (sym at_own.is ∙ zero)) refl;
          count = refl;
          limits_stay = ap (λ n. (n, length v.members)) (length-set v.owners p 0);
        }
