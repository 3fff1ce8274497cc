-- Members that are made: all places and all nodes are free.
use Rattle.std.proofs.Common.{◌≡◌, ℕ, suc, ◌+◌, ◌<◌, ◌^◌, false, not, ◌==◌, List, [], length, replicate, position}
use Rattle.std.proofs.Common.{Option, Some, None, refl, sym, ap, ◌∙◌, inl, inr, arith}
use Rattle.std.specs.Prelude.{slice_index}
use Rattle.std.proofs.Math.Bool.{and-false}
use Rattle.std.proofs.lemmas.Bool.{cases_eq, cases_lt, eq-eqb, false_from_ne_true}
use Rattle.std.proofs.lemmas.List.{get_or_past, get_or-replicate, length-replicate}
use Rattle.wf_words.specs.Keyed.{is_in}
use Rattle.wf_links.specs.Lists.{NodeLists, list_at}
use Rattle.wf_members.specs.Membership.{Membership, is_open, member_count, members_at, members_of, most_members, most_owners, open_count}
use Rattle.wf_members.specs.Calls.{HasNone}
use Rattle.wf_members.specs.Inside.{AreFree, IsSound}
use Rattle.wf_members.proofs.Handles.{at_in, none_counted, placed}
use Rattle.wf_members.proofs.Kept.{nothing_in}

-- so many places or nodes without a handle
abbrev pub zeros : ℕ → List ℕ
zeros n = replicate n 0

zero_at : (n i : ℕ) → slice_index (zeros n) i ≡ 0
zero_at n i =
    elim (cases_lt i n) [
      | inl less ↦ get_or-replicate n i 0 0 less
      | inr past ↦ get_or_past (zeros n) i 0 (omega (arith, past, length-replicate {A = ℕ} n 0))
    ]

module _ (nodes owners : ℕ) (links : NodeLists) (free : AreFree nodes owners links) where
  abbrev pub made : Membership
  made = record { owners = zeros owners; members = zeros nodes; links = links }

  count_owners : length (zeros owners) ≡ owners
  count_owners = length-replicate {A = ℕ} owners 0

  count_nodes : length (zeros nodes) ≡ nodes
  count_nodes = length-replicate {A = ℕ} nodes 0

  bare_place : (p : ℕ) → p < owners → list_at p links.lists ≡ []
  bare_place p less = nothing_in (list_at p links.lists) (λ n there. omega (arith, less, (free.only n p there).1))

  pub made_sound : owners + 1 < 2 ^ 32 → nodes < 2 ^ 32 → IsSound made
  made_sound few few_nodes =
      record {
        lists = free.lists ∙ ap suc (sym count_owners);
        nodes = free.nodes_are ∙ sym count_nodes;
        few_owners = omega (arith, few, count_owners);
        few_members = omega (arith, few_nodes, count_nodes);
        placed = record {
          list = λ n. owners;
          there = λ n less. free.there n (omega (arith, less, count_nodes));
          only = λ n i there. (let stands = free.only n i there in (omega (arith, stands.0, count_nodes), sym stands.1));
          bare = λ n less. eq-eqb (slice_index (zeros nodes) n) 0 (zero_at nodes n)
              ∙ sym (eq-eqb owners (length (zeros owners)) (sym count_owners));
        };
        members_apart = λ i j named same. absurd (named (zero_at nodes i));
        owners_apart = λ i j named same. absurd (named (zero_at owners i));
        bare = λ p less zero. bare_place p (omega (arith, less, count_owners));
      }

  pub made_none : HasNone nodes owners made
  unfolding is_open members_of open_count member_count most_owners most_members
  made_none =
      record {
        closed = λ o. elim (cases_eq o 0) [
          | inl zero ↦ rw zero refl
          | inr named ↦ (let out : is_in o (zeros owners) ≡ false =
              false_from_ne_true (is_in o (zeros owners)) (λ there. (let at = at_in o (zeros owners) there in
              named (sym at.1.is ∙ zero_at owners at.0))) in
              rw out (and-false (not (o == 0))))
        ];
        bare = λ o. at_most_bare o (position (λ x. x == o) (zeros owners)) refl;
        no_owners = none_counted (zeros owners) (zero_at owners);
        no_members = none_counted (zeros nodes) (zero_at nodes);
        limits_are = ap (λ n. (n, length (zeros nodes))) count_owners ∙ ap (λ n. (owners, n)) count_nodes;
      }
    where
      at_most_bare : (o : ℕ) (q : Option ℕ) → position (λ x. x == o) (zeros owners) ≡ q → members_at q made ≡ []
      at_most_bare o None found = refl
      at_most_bare o (Some p) found =
          let stands = placed o (zeros owners) p found in
          rw (bare_place p (omega (arith, stands.within, count_owners))) refl
