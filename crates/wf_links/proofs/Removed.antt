-- A node that is taken out of its list: the lists without it, and the links that are left.
use Rattle.std.proofs.Common.{◌≡◌, ◌≢◌, ℕ, zero, suc, ◌<◌, true, false, ◌==◌, List, [], ◌∷◌, ◌++◌, length, set, slice_get, option_and_then}
use Rattle.std.proofs.Common.{Option, Some, None, inl, inr, refl, sym, ap, ◌∙◌, arith}
use Rattle.std.proofs.lemmas.Bool.{eq-eqb, eqb-true, both_ways, or_left, or_right, or_cases, false_from_ne_true}
use Rattle.std.proofs.lemmas.List.Elements.{filter-append}
use Rattle.std.proofs.lemmas.Option.{slice_get_within, same_Some}
use Rattle.wf_words.specs.Keyed.{is_in}
use Rattle.wf_words.specs.Once.{NoneTwice, none_without}
use Rattle.wf_links.specs.declared.links.Node.{Node}
use Rattle.wf_links.specs.Lists.{list_at, list_of, lowest, without, removed}
use Rattle.wf_links.specs.Inside.{IsChain, Represent, first_or, free, with_lowest}
use Rattle.wf_links.specs.Together.{is_in-append}
use Rattle.wf_links.proofs.Members.{without_absent}
use Rattle.wf_links.proofs.Numbered.{in_list_of, list_of_within}
use Rattle.wf_links.proofs.Chains.{chain_front, chain_back, chain_joined, last_or, highest_in, lowest_in, relinked, relinked_here}
use Rattle.wf_links.proofs.Chains.{front_kept, back_kept}
use Rattle.wf_links.proofs.Represented.{one_list, StandsAt, stands_at, member_within}
use Rattle.wf_links.proofs.Changes.{changed, lowest_written, lowest_read}

-- each list is without the node
pub at_removed : (n : ℕ) (lists : List (List ℕ)) (i : ℕ) → list_at i (removed n lists) ≡ without n (list_at i lists)
at_removed n [] i = refl
at_removed n (xs ∷ lists) zero = refl
at_removed n (xs ∷ lists) (suc i) = at_removed n lists i

-- where a node is in one of the lists alone, only that one is changed
none_removed : (n : ℕ) (lists : List (List ℕ)) → ((i : ℕ) → is_in n (list_at i lists) ≡ false) → removed n lists ≡ lists
none_removed n [] absent = refl
none_removed n (xs ∷ lists) absent =
    rw (without_absent n xs (absent 0)) (ap (λ ls. xs ∷ ls) (none_removed n lists (λ i. absent (suc i))))

pub one_removed : (n : ℕ) (lists : List (List ℕ)) (list : ℕ) → ((i : ℕ) → i ≢ list → is_in n (list_at i lists) ≡ false)
    → removed n lists ≡ set lists list (without n (list_at list lists))
one_removed n [] list elsewhere = refl
one_removed n (xs ∷ lists) zero elsewhere =
    ap (λ ls. without n xs ∷ ls) (none_removed n lists (λ i. elsewhere (suc i) (λ same. omega (arith, same))))
one_removed n (xs ∷ lists) (suc list) elsewhere =
    rw (without_absent n xs (elsewhere 0 (λ same. omega (arith, same))))
    (ap (λ ls. xs ∷ ls) (one_removed n lists list (λ i other. elsewhere (suc i) (λ same. other (omega (arith, same))))))

pub without_at : (n : ℕ) (ys zs : List ℕ) → is_in n ys ≡ false → is_in n zs ≡ false → without n (ys ++ n ∷ zs) ≡ ys ++ zs
without_at n ys zs not_ys not_zs =
    let here : (n == n) ≡ true = eq-eqb n n refl in
    filter-append _ ys (n ∷ zs) ∙ rw (here, without_absent n ys not_ys, without_absent n zs not_zs) refl

-- another member of a list is in it without one
in_less : (m n : ℕ) (xs ys : List ℕ) → n ≢ m → is_in m (xs ++ n ∷ ys) ≡ true → is_in m (xs ++ ys) ≡ true
in_less m n [] ys other there =
    elim (or_cases (n == m) (is_in m ys) there) [ inl same ↦ absurd (other (eqb-true n m same)) | inr later ↦ later ]
in_less m n (x ∷ xs) ys other there =
    elim (or_cases (x == m) (is_in m (xs ++ n ∷ ys)) there) [
      | inl here ↦ or_left (x == m) (is_in m (xs ++ ys)) here
      | inr later ↦ or_right (x == m) (is_in m (xs ++ ys)) (in_less m n xs ys other later)
    ]

-- the links without a node between those in front of it and those behind it
removed_at : (nodes : List Node) (lowests : List (Option ℕ)) (lists : List (List ℕ)) (list n : ℕ) → Represent nodes lowests lists
    → list_of n lists ≡ Some list → (at : StandsAt nodes lists n list)
    → Represent
    (relinked n free (last_or None at.front) (first_or None at.behind) (first_or None at.behind) (last_or None at.front) nodes)
    (with_lowest list (last_or None at.front) (first_or None at.behind) lowests)
    (set lists list (at.front ++ at.behind))
removed_at nodes lowests lists list n stand is at =
    changed nodes lowests lists list n free base over over base (at.front ++ at.behind) stand
    (record {
      within = list_of_within n lists list is;
      elsewhere = λ i other. false_from_ne_true (is_in n (list_at i lists))
          (λ there. other (one_list nodes lowests lists n list i stand (in_list_of n lists list is) there));
      others = λ m other there. in_less m n at.front at.behind other (rw (← at.split) there);
      own = λ i linked. (let none : None ≡ Some i = sym (ap (option_and_then (λ x. x.list)) here) ∙ linked in absurd cc);
      base_in = λ m low. rw at.split (is_in-append m at.front (n ∷ at.behind)
          ∙ or_left (is_in m at.front) (is_in m (n ∷ at.behind)) (highest_in at.front m low));
      over_in = λ m high. rw at.split (is_in-append m at.front (n ∷ at.behind)
          ∙ or_right (is_in m at.front) (is_in m (n ∷ at.behind)) (or_right (n == m) (is_in m at.behind) (lowest_in at.behind m high)));
      chain = chain_joined new list None None at.front at.behind
          (front_kept nodes n free over base (Some n) list at.front at.behind once at.not_front
          (chain_front nodes list None None at.front (n ∷ at.behind) chain))
          (back_kept nodes n free over base (Some n) list at.front at.behind once at.not_behind
          (chain_back nodes list None None at.front (n ∷ at.behind) chain).1);
      once = once;
      lowest = lowest_written lowests list at.front (n ∷ at.behind) at.behind
          (lowest_read nodes lowests lists list stand (list_of_within n lists list is) ∙ ap lowest at.split);
    })
  where
    base : Option ℕ
    base = last_or None at.front

    over : Option ℕ
    over = first_or None at.behind

    new : List Node
    new = relinked n free base over over base nodes

    chain : IsChain nodes list None (at.front ++ n ∷ at.behind) None
    chain = rw (← at.split) (stand.chained list)

    once : NoneTwice (at.front ++ at.behind)
    once =
        let without_is = ap (without n) at.split ∙ without_at n at.front at.behind at.not_front at.not_behind in
        rw (← without_is) (none_without n (list_at list lists) (stand.once list))

    here : slice_get new n ≡ Some free
    here = relinked_here nodes n free base over over base (slice_get_within nodes n _ at.links)
        (λ low. both_ways (is_in n at.front) at.not_front (highest_in at.front n low))
        (λ high. both_ways (is_in n at.behind) at.not_behind (lowest_in at.behind n high))

-- the links without the node stand for the lists without it
pub removed_stands : (nodes : List Node) (lowests : List (Option ℕ)) (lists : List (List ℕ)) (list n : ℕ) (x : Node)
    → Represent nodes lowests lists → list_of n lists ≡ Some list → slice_get nodes n ≡ Some x
    → Represent (relinked n free x.below x.above x.above x.below nodes) (with_lowest list x.below x.above lowests) (removed n lists)
removed_stands nodes lowests lists list n x stand is read =
    let at = stands_at nodes lowests lists n list stand is in
    let links : x ≡ record { list = Some list; below = last_or None at.front; above = first_or None at.behind } =
    same_Some _ _ (sym read ∙ at.links) in
    let elsewhere : (i : ℕ) → i ≢ list → is_in n (list_at i lists) ≡ false = λ i other. false_from_ne_true (is_in n (list_at i lists))
    (λ there. other (one_list nodes lowests lists n list i stand (in_list_of n lists list is) there)) in
    let lists_are : removed n lists ≡ set lists list (at.front ++ at.behind) = one_removed n lists list elsewhere
    ∙ ap (set lists list) (ap (without n) at.split ∙ without_at n at.front at.behind at.not_front at.not_behind) in
    rw (links, lists_are) (removed_at nodes lowests lists list n stand is at)

-- the neighbours of a node in a list are nodes that there are

pub below_within : (nodes : List Node) (lowests : List (Option ℕ)) (lists : List (List ℕ)) (list n : ℕ) (x : Node)
    → Represent nodes lowests lists → list_of n lists ≡ Some list → slice_get nodes n ≡ Some x → (m : ℕ) → x.below ≡ Some m
    → m < length nodes
below_within nodes lowests lists list n x stand is read m below_is =
    let at = stands_at nodes lowests lists n list stand is in
    let links = same_Some _ _ (sym at.links ∙ read) in
    let there = highest_in at.front m (ap (λ (y : Node). y.below) links ∙ below_is) in
    member_within nodes lowests lists m list stand
    (rw at.split (is_in-append m at.front (n ∷ at.behind) ∙ or_left (is_in m at.front) (is_in m (n ∷ at.behind)) there))

pub above_within : (nodes : List Node) (lowests : List (Option ℕ)) (lists : List (List ℕ)) (list n : ℕ) (x : Node)
    → Represent nodes lowests lists → list_of n lists ≡ Some list → slice_get nodes n ≡ Some x → (m : ℕ) → x.above ≡ Some m
    → m < length nodes
above_within nodes lowests lists list n x stand is read m above_is =
    let at = stands_at nodes lowests lists n list stand is in
    let links = same_Some _ _ (sym at.links ∙ read) in
    let there = lowest_in at.behind m (ap (λ (y : Node). y.above) links ∙ above_is) in
    member_within nodes lowests lists m list stand
    (rw at.split (is_in-append m at.front (n ∷ at.behind)
    ∙ or_right (is_in m at.front) (is_in m (n ∷ at.behind)) (or_right (n == m) (is_in m at.behind) there)))
