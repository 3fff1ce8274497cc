-- A node that is put into a list: the place between the nodes below and above it, and the links with it.
use Rattle.std.proofs.Common.{◌≡◌, ℕ, ◌<◌, true, false, ◌==◌, List, [], ◌∷◌, ◌++◌, length, set, flat_map, slice_get}
use Rattle.std.proofs.Common.{Option, Some, None, if◌then◌else◌, option_and_then, inl, inr, refl, sym, ap, ◌∙◌, append_assoc}
use Rattle.std.specs.Option.{ForSome}
use Rattle.std.proofs.lemmas.Bool.{eq-eqb, both_ways, or_left, or_right, or_parts, or_cases}
use Rattle.std.proofs.lemmas.List.Concat.{flat_map-append}
use Rattle.std.proofs.lemmas.Option.{get_or_from_slice_get}
use Rattle.wf_words.specs.Keyed.{is_in}
use Rattle.wf_words.specs.Once.{NoneTwice}
use Rattle.wf_links.specs.declared.links.Node.{Node}
use Rattle.wf_links.specs.Lists.{list_at, list_of, lowest, put_above, inserted}
use Rattle.wf_links.specs.Inside.{IsChain, Represent, first_or, free, next_up, with_lowest}
use Rattle.wf_links.specs.Together.{is_in-append}
use Rattle.wf_links.proofs.Members.{once_inserted}
use Rattle.wf_links.proofs.Numbered.{in_no_list, in_list_of}
use Rattle.wf_links.proofs.Neighbours.{lowest_is}
use Rattle.wf_links.proofs.Chains.{chain_front, chain_back, chain_joined, last_or, highest_in, lowest_in, relinked, relinked_here}
use Rattle.wf_links.proofs.Chains.{front_kept, back_kept}
use Rattle.wf_links.proofs.Represented.{stands_at, member_within}
use Rattle.wf_links.proofs.Changes.{changed, last_or-append, lowest_written, lowest_read}

-- a list in front of the place above a node and behind it, or at the bottom
pub record IsPlace (lists : List (List ℕ)) (list n : ℕ) (base : Option ℕ) (front behind : List ℕ) : Type 0 where
  pub split : list_at list lists ≡ front ++ behind
  pub below_is : base ≡ last_or None front
  pub put : put_above base n (list_at list lists) ≡ front ++ n ∷ behind

put_elsewhere : (base n : ℕ) (xs : List ℕ) → is_in base xs ≡ false → flat_map (λ x. if x == base then x ∷ n ∷ [] else x ∷ []) xs ≡ xs
put_elsewhere base n [] absent = refl
put_elsewhere base n (x ∷ xs) absent =
    let parts = or_parts (x == base) (is_in base xs) absent in
    rw parts.0 (ap (λ ns. x ∷ ns) (put_elsewhere base n xs parts.1))

put_at : (base n : ℕ) (ys zs : List ℕ) → is_in base ys ≡ false → is_in base zs ≡ false
    → put_above (Some base) n (ys ++ base ∷ zs) ≡ (ys ++ base ∷ []) ++ n ∷ zs
put_at base n ys zs not_ys not_zs =
    let here : (base == base) ≡ true = eq-eqb base base refl in
    flat_map-append (λ x. if x == base then x ∷ n ∷ [] else x ∷ []) ys (base ∷ zs)
    ∙ rw (here, put_elsewhere base n ys not_ys, put_elsewhere base n zs not_zs) (sym (append_assoc ys (base ∷ []) (n ∷ zs)))

pub at_bottom : (lists : List (List ℕ)) (list n : ℕ) → IsPlace lists list n None [] (list_at list lists)
at_bottom lists list n = record { split = refl; below_is = refl; put = refl }

pub above_node : (lists : List (List ℕ)) (list n base : ℕ) (ys zs : List ℕ) → list_at list lists ≡ ys ++ base ∷ zs → is_in base ys ≡ false
    → is_in base zs ≡ false → IsPlace lists list n (Some base) (ys ++ base ∷ []) zs
above_node lists list n base ys zs split not_ys not_zs =
    record {
      split = split ∙ sym (append_assoc ys (base ∷ []) zs);
      below_is = sym (last_or-append None ys base);
      put = ap (put_above (Some base) n) split ∙ put_at base n ys zs not_ys not_zs;
    }

-- the place where a node is put, and the node above it
pub record Place (nodes : List Node) (lowests : List (Option ℕ)) (lists : List (List ℕ)) (list n : ℕ) (base : Option ℕ) : Type 0 where
  pub front : List ℕ
  pub behind : List ℕ
  pub is : IsPlace lists list n base front behind
  pub above_is : next_up nodes lowests list base ≡ first_or None behind

pub place_of : (nodes : List Node) (lowests : List (Option ℕ)) (lists : List (List ℕ)) (list n : ℕ) (base : Option ℕ)
    → Represent nodes lowests lists → list < length lists → ForSome base (λ b. list_of b lists ≡ Some list)
    → Place nodes lowests lists list n base
place_of nodes lowests lists list n None stand within given =
    record {
      front = [];
      behind = list_at list lists;
      is = at_bottom lists list n;
      above_is = lowest_read nodes lowests lists list stand within ∙ lowest_is (list_at list lists);
    }
place_of nodes lowests lists list n (Some base) stand within given =
    let at = stands_at nodes lowests lists base list stand (given base refl) in
    record {
      front = at.front ++ base ∷ [];
      behind = at.behind;
      is = above_node lists list n base at.front at.behind at.split at.not_front at.not_behind;
      above_is = ap (λ (x : Node). x.above) (get_or_from_slice_get nodes base _ free at.links);
    }

-- the neighbours of a place are nodes that there are

pub base_within : (nodes : List Node) (lowests : List (Option ℕ)) (lists : List (List ℕ)) (list : ℕ) (base : Option ℕ)
    → Represent nodes lowests lists → ForSome base (λ b. list_of b lists ≡ Some list) → (m : ℕ) → base ≡ Some m → m < length nodes
base_within nodes lowests lists list base stand given m is =
    member_within nodes lowests lists m list stand (in_list_of m lists list (given m is))

pub next_within : (nodes : List Node) (lowests : List (Option ℕ)) (lists : List (List ℕ)) (list : ℕ) (base over : Option ℕ)
    → Represent nodes lowests lists → list < length lists → ForSome base (λ b. list_of b lists ≡ Some list)
    → over ≡ next_up nodes lowests list base → (m : ℕ) → over ≡ Some m → m < length nodes
next_within nodes lowests lists list base over stand within given above_is m is =
    let place = place_of nodes lowests lists list 0 base stand within given in
    let there = lowest_in place.behind m (sym place.above_is ∙ sym above_is ∙ is) in
    member_within nodes lowests lists m list stand
    (rw place.is.split (is_in-append m place.front place.behind ∙ or_right (is_in m place.front) (is_in m place.behind) there))

-- a member of a list is in it with one more
in_more : (m n : ℕ) (xs ys : List ℕ) → is_in m (xs ++ ys) ≡ true → is_in m (xs ++ n ∷ ys) ≡ true
in_more m n [] ys there = or_right (n == m) (is_in m ys) there
in_more m n (x ∷ xs) ys there =
    elim (or_cases (x == m) (is_in m (xs ++ ys)) there) [
      | inl here ↦ or_left (x == m) (is_in m (xs ++ n ∷ ys)) here
      | inr later ↦ or_right (x == m) (is_in m (xs ++ n ∷ ys)) (in_more m n xs ys later)
    ]

-- the links with a node between those in front of a place and those behind it
inserted_at : (nodes : List Node) (lowests : List (Option ℕ)) (lists : List (List ℕ)) (list n : ℕ) (front behind : List ℕ)
    → Represent nodes lowests lists → list < length lists → n < length nodes → list_of n lists ≡ None
    → list_at list lists ≡ front ++ behind
    → Represent
    (relinked n (record { list = Some list; below = last_or None front; above = first_or None behind })
    (last_or None front) (Some n) (first_or None behind) (Some n) nodes)
    (with_lowest list (last_or None front) (Some n) lowests)
    (set lists list (front ++ n ∷ behind))
inserted_at nodes lowests lists list n front behind stand within in_range absent split =
    changed nodes lowests lists list n linked base (Some n) over (Some n) (front ++ n ∷ behind) stand
    (record {
      within = within;
      elsewhere = λ i other. in_no_list n lists i absent;
      others = λ m other there. in_more m n front behind (rw (← split) there);
      own = λ i is. (
        (let own : Some list ≡ Some i = sym (ap (option_and_then (λ x. x.list)) here) ∙ is in let same : i ≡ list = cc in same),
        is_in-append n front (n ∷ behind)
            ∙ or_right (is_in n front) (is_in n (n ∷ behind)) (or_left (n == n) (is_in n behind) (eq-eqb n n refl)),
      );
      base_in = λ m is. rw split (is_in-append m front behind ∙ or_left (is_in m front) (is_in m behind) (highest_in front m is));
      over_in = λ m is. rw split (is_in-append m front behind ∙ or_right (is_in m front) (is_in m behind) (lowest_in behind m is));
      chain = chain_joined new list None None front (n ∷ behind)
          (front_kept nodes n linked (Some n) (Some n) over list front behind once not_in.0
          (chain_front nodes list None None front behind chain)) (
            here,
            back_kept nodes n linked (Some n) (Some n) base list front behind once not_in.1
                (chain_back nodes list None None front behind chain),
          );
      once = once_inserted n front behind once out;
      lowest = lowest_written lowests list front behind (n ∷ behind)
          (lowest_read nodes lowests lists list stand within ∙ ap lowest split);
    })
  where
    base : Option ℕ
    base = last_or None front

    over : Option ℕ
    over = first_or None behind

    linked : Node
    linked = record { list = Some list; below = base; above = over }

    new : List Node
    new = relinked n linked base (Some n) over (Some n) nodes

    chain : IsChain nodes list None (front ++ behind) None
    chain = rw (← split) (stand.chained list)

    once : NoneTwice (front ++ behind)
    once = rw (← split) (stand.once list)

    out : is_in n (front ++ behind) ≡ false
    out = rw (← split) (in_no_list n lists list absent)

    not_in : (is_in n front ≡ false) × (is_in n behind ≡ false)
    not_in = or_parts (is_in n front) (is_in n behind) (sym (is_in-append n front behind) ∙ out)

    here : slice_get new n ≡ Some linked
    here = relinked_here nodes n linked base (Some n) over (Some n) in_range
        (λ is. both_ways (is_in n front) not_in.0 (highest_in front n is))
        (λ is. both_ways (is_in n behind) not_in.1 (lowest_in behind n is))

-- the links with the node stand for the lists with it
pub inserted_stands : (nodes : List Node) (lowests : List (Option ℕ)) (lists : List (List ℕ)) (list n : ℕ) (base over : Option ℕ)
    → Represent nodes lowests lists → list < length lists → n < length nodes → list_of n lists ≡ None
    → ForSome base (λ b. list_of b lists ≡ Some list) → over ≡ next_up nodes lowests list base
    → Represent (relinked n (record { list = Some list; below = base; above = over }) base (Some n) over (Some n) nodes)
    (with_lowest list base (Some n) lowests) (inserted list n base lists)
inserted_stands nodes lowests lists list n base over stand within in_range absent given above_is =
    let place = place_of nodes lowests lists list n base stand within given in
    by_ends base over place.front place.behind (put_above base n (list_at list lists)) place.is.below_is
    (above_is ∙ place.above_is) place.is.put
    (inserted_at nodes lowests lists list n place.front place.behind stand within in_range absent place.is.split)
  where
    by_ends : (under up : Option ℕ) (front behind to : List ℕ) → under ≡ last_or None front → up ≡ first_or None behind
        → to ≡ front ++ n ∷ behind
        → Represent
        (relinked n (record { list = Some list; below = last_or None front; above = first_or None behind })
        (last_or None front) (Some n) (first_or None behind) (Some n) nodes)
        (with_lowest list (last_or None front) (Some n) lowests)
        (set lists list (front ++ n ∷ behind))
        → Represent (relinked n (record { list = Some list; below = under; above = up }) under (Some n) up (Some n) nodes)
        (with_lowest list under (Some n) lowests) (set lists list to)
    by_ends under up front behind to under_is up_is to_is stands = rw (under_is, up_is, to_is) stands
