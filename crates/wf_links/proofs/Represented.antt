-- Links that stand for lists: what they say of a node and of a list, and that the lists are what is found by going along them.
use Rattle.std.proofs.Common.{◌≡◌, ℕ, zero, suc, ◌+◌, ◌<◌, ◌≤◌, true, false, ◌==◌, List, [], ◌∷◌, ◌++◌, length, map}
use Rattle.std.proofs.Common.{slice_get, slice_index_or, option_and_then, IsSome, Option, Some, None, refl, sym, ap, ◌∙◌, zero-add, arith}
use Rattle.std.specs.List.{concat}
use Rattle.std.proofs.lemmas.Bool.{eq-eqb, or_left, false_from_ne_true}
use Rattle.std.proofs.lemmas.Option.{slice_get_within, get_or_from_slice_get, option_and_then_some}
use Rattle.std.proofs.lemmas.List.{length-map}
use Rattle.wf_words.specs.Keyed.{is_in}
use Rattle.wf_words.specs.Once.{NoneTwice}
use Rattle.wf_words.specs.Places.{get_within}
use Rattle.wf_links.specs.declared.links.Node.{Node}
use Rattle.wf_links.specs.Lists.{IsOrderly, list_at, list_of, lowest, above, below}
use Rattle.wf_links.specs.Inside.{IsChain, Represent, first_or, list_link, above_link, upward}
use Rattle.wf_links.specs.Together.{once_back}
use Rattle.wf_links.proofs.Members.{split_at, apart_front, few_below}
use Rattle.wf_links.proofs.Numbered.{list_of_is, list_of_none, list_of_within, in_list_of, in_some, all_once, all_from_in}
use Rattle.wf_links.proofs.Neighbours.{lowest_is, next_at, next_down_at}
use Rattle.wf_links.proofs.Chains.{chain_back, chain_link, last_or}

-- going up along a chain finds its nodes
pub upward_chain : (most : ℕ) (nodes : List Node) (list : ℕ) (under : Option ℕ) (xs : List ℕ) → length xs ≤ most
    → IsChain nodes list under xs None → upward most nodes (first_or None xs) ≡ xs
upward_chain zero nodes list under [] few chain = refl
upward_chain zero nodes list under (x ∷ xs) few chain = absurd (omega (arith, few))
upward_chain (suc most) nodes list under [] few chain = refl
upward_chain (suc most) nodes list under (x ∷ xs) few chain =
    let next : above_link nodes x ≡ first_or None xs = rw chain.0 refl in
    rw next (ap (λ ns. x ∷ ns) (upward_chain most nodes list (Some x) xs (omega (arith, few)) chain.1))

-- a node with a link to a list is one of those that there are
linked_within : (nodes : List Node) (n list : ℕ) → list_link nodes n ≡ Some list → n < length nodes
linked_within nodes n list is =
    option_and_then_some (λ node. node.list) (slice_get nodes n) list is (λ x at _. slice_get_within nodes n x at)

-- a chain has no more nodes than there are
pub chain_fits : (nodes : List Node) (list : ℕ) (xs : List ℕ) → NoneTwice xs → IsChain nodes list None xs None → length xs ≤ length nodes
chain_fits nodes list xs once chain =
    few_below (length nodes) xs once (λ n there. linked_within nodes n list (chain_link nodes list None None xs n chain there))

-- the lists are what is found by going up from the lowest nodes
pub view_is : (nodes : List Node) (lowests : List (Option ℕ)) (lists : List (List ℕ)) → Represent nodes lowests lists
    → map (upward (length nodes) nodes) lowests ≡ lists
view_is nodes lowests lists stand =
    ap (map (upward (length nodes) nodes)) stand.lowest ∙ each lists (λ i. (i, stand.chained i)) stand.once
  where
    each : (ls : List (List ℕ)) → ((i : ℕ) → (list : ℕ) × IsChain nodes list None (list_at i ls) None)
        → ((i : ℕ) → NoneTwice (list_at i ls)) → map (upward (length nodes) nodes) (map lowest ls) ≡ ls
    each [] chained once = refl
    each (xs ∷ ls) chained once =
        let chain = chained 0 in
        let here : upward (length nodes) nodes (lowest xs) ≡ xs =
        ap (upward (length nodes) nodes) (lowest_is xs)
        ∙ upward_chain (length nodes) nodes chain.0 None xs (chain_fits nodes chain.0 xs (once 0) chain.1) chain.1 in
        rw here (ap (λ ks. xs ∷ ks) (each ls (λ i. chained (suc i)) (λ i. once (suc i))))

-- a node in two of the lists is in one
pub one_list : (nodes : List Node) (lowests : List (Option ℕ)) (lists : List (List ℕ)) (n i j : ℕ) → Represent nodes lowests lists
    → is_in n (list_at i lists) ≡ true → is_in n (list_at j lists) ≡ true → j ≡ i
one_list nodes lowests lists n i j stand in_i in_j =
    let by_i = chain_link nodes i None None (list_at i lists) n (stand.chained i) in_i in
    let by_j = chain_link nodes j None None (list_at j lists) n (stand.chained j) in_j in
    let same : Some j ≡ Some i = sym by_j ∙ by_i in
    cc

-- a node's link to its list says which of the lists has it
pub link_is : (nodes : List Node) (lowests : List (Option ℕ)) (lists : List (List ℕ)) (n : ℕ) → Represent nodes lowests lists
    → list_link nodes n ≡ list_of n lists
link_is nodes lowests lists n stand = by_link (list_link nodes n) refl
  where
    by_link : (o : Option ℕ) → list_link nodes n ≡ o → o ≡ list_of n lists
    by_link None is =
        sym (list_of_none n lists (λ j. false_from_ne_true (is_in n (list_at j lists)) (λ there.
        (let linked = chain_link nodes j None None (list_at j lists) n (stand.chained j) there in absurd cc))))
    by_link (Some i) is =
        let there = stand.listed i n is in
        sym (list_of_is n lists i there (λ j h. one_list nodes lowests lists n i j stand there h))

-- the list of a node in front of it and behind it, and the node's links
pub record StandsAt (nodes : List Node) (lists : List (List ℕ)) (n list : ℕ) : Type 0 where
  pub front : List ℕ
  pub behind : List ℕ
  pub split : list_at list lists ≡ front ++ n ∷ behind
  pub links : slice_get nodes n ≡ Some (record { list = Some list; below = last_or None front; above = first_or None behind })
  pub not_front : is_in n front ≡ false
  pub not_behind : is_in n behind ≡ false

pub stands_at : (nodes : List Node) (lowests : List (Option ℕ)) (lists : List (List ℕ)) (n list : ℕ) → Represent nodes lowests lists
    → list_of n lists ≡ Some list → StandsAt nodes lists n list
stands_at nodes lowests lists n list stand is =
    let parts = split_at n (list_at list lists) (in_list_of n lists list is) in
    let chain : IsChain nodes list None (parts.0 ++ n ∷ parts.1) None = rw (← parts.2) (stand.chained list) in
    let once : NoneTwice (parts.0 ++ n ∷ parts.1) = rw (← parts.2) (stand.once list) in
    record {
      front = parts.0;
      behind = parts.1;
      split = parts.2;
      links = (chain_back nodes list None None parts.0 (n ∷ parts.1) chain).0;
      not_front = apart_front n parts.0 (n ∷ parts.1) once (or_left (n == n) (is_in n parts.1) (eq-eqb n n refl));
      not_behind = (once_back parts.0 (n ∷ parts.1) once).0;
    }

-- a node's links say what stands above it and below it
pub links_are : (nodes : List Node) (lowests : List (Option ℕ)) (lists : List (List ℕ)) (n list : ℕ) → Represent nodes lowests lists
    → list_of n lists ≡ Some list
    → slice_get nodes n ≡ Some (record { list = Some list; below = below n lists; above = above n lists })
links_are nodes lowests lists n list stand is =
    let at = stands_at nodes lowests lists n list stand is in
    let up : above n lists ≡ first_or None at.behind = rw (is, at.split) (next_at n at.front at.behind at.not_front) in
    let down : below n lists ≡ last_or None at.front = rw (is, at.split) (next_down_at n at.front at.behind at.not_behind) in
    rw (up, down) at.links

pub member_within : (nodes : List Node) (lowests : List (Option ℕ)) (lists : List (List ℕ)) (n list : ℕ) → Represent nodes lowests lists
    → is_in n (list_at list lists) ≡ true → n < length nodes
member_within nodes lowests lists n list stand there =
    linked_within nodes n list (chain_link nodes list None None (list_at list lists) n (stand.chained list) there)

-- the lists are orderly
pub orderly : (nodes : List Node) (lowests : List (Option ℕ)) (lists : List (List ℕ)) → Represent nodes lowests lists
    → IsOrderly (record { nodes = length nodes; lists = lists })
orderly nodes lowests lists stand =
    record {
      once = all_once (list_link nodes) 0 lists stand.once known;
      within = all_from_in (λ n. n < length nodes) (concat lists)
          (λ n there. (let found = in_some n lists there in member_within nodes lowests lists n found.0 stand found.1));
    }
  where
    known : (i n : ℕ) → is_in n (list_at i lists) ≡ true → list_link nodes n ≡ Some (0 + i)
    known i n there = rw zero-add (chain_link nodes i None None (list_at i lists) n (stand.chained i) there)

-- what is read of a node

in_some_list : (o : Option ℕ) → IsSome o → (list : ℕ) × (o ≡ Some list)
in_some_list None some = absurd cc
in_some_list (Some list) some = (list, refl)

pub node_within : (nodes : List Node) (lowests : List (Option ℕ)) (lists : List (List ℕ)) (n : ℕ) → Represent nodes lowests lists
    → IsSome (list_of n lists) → n < length nodes
node_within nodes lowests lists n stand some =
    let list = in_some_list (list_of n lists) some in
    slice_get_within nodes n _ (links_are nodes lowests lists n list.0 stand list.1)

pub list_within : (nodes : List Node) (lowests : List (Option ℕ)) (lists : List (List ℕ)) (n list : ℕ) → Represent nodes lowests lists
    → list_of n lists ≡ Some list → list < length lowests
list_within nodes lowests lists n list stand is =
    omega (arith, list_of_within n lists list is, ap length stand.lowest, length-map lists lowest)

-- the links of a node in a list, and the list that it is in
pub record IsRead (nodes : List Node) (lists : List (List ℕ)) (n : ℕ) (x : Node) : Type 0 where
  pub stands : slice_get nodes n ≡ Some x
  pub list : x.list ≡ list_of n lists
  pub below : x.below ≡ below n lists
  pub above : x.above ≡ above n lists

pub is_read : (nodes : List Node) (lowests : List (Option ℕ)) (lists : List (List ℕ)) (n : ℕ) (x : Node)
    → Represent nodes lowests lists → IsSome (list_of n lists) → x ≡ slice_index_or nodes n x → IsRead nodes lists n x
is_read nodes lowests lists n x stand some read =
    let list = in_some_list (list_of n lists) some in
    let links = links_are nodes lowests lists n list.0 stand list.1 in
    let is = read ∙ get_or_from_slice_get nodes n _ x links in
    record {
      stands = links ∙ ap (λ (y : Node). Some y) (sym is);
      list = ap (λ (y : Node). y.list) is ∙ sym list.1;
      below = ap (λ (y : Node). y.below) is;
      above = ap (λ (y : Node). y.above) is;
    }

-- the list that any node is in
pub list_read : (nodes : List Node) (lowests : List (Option ℕ)) (lists : List (List ℕ)) (n : ℕ) (x : Node)
    → Represent nodes lowests lists → n < length nodes → x ≡ slice_index_or nodes n x → x.list ≡ list_of n lists
list_read nodes lowests lists n x stand within read =
    sym (ap (option_and_then (λ (y : Node). y.list)) (get_within nodes n x within read)) ∙ link_is nodes lowests lists n stand
