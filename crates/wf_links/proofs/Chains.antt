-- Chains of nodes: what is left of them where links are changed.
use Rattle.std.proofs.Common.{◌≡◌, ◌≢◌, ℕ, zero, suc, ◌<◌, true, false, ◌==◌, List, [], ◌∷◌, ◌++◌, length, set, slice_get}
use Rattle.std.proofs.Common.{slice_index_or, Option, Some, None, refl, ap, ◌∙◌, option_and_then}
use Rattle.std.proofs.lemmas.Bool.{eq-eqb, both_ways, or_left, or_right}
use Rattle.std.proofs.lemmas.Option.{get_or_from_slice_get}
use Rattle.wf_words.specs.Keyed.{is_in}
use Rattle.wf_words.specs.Once.{NoneTwice, by_number}
use Rattle.wf_words.specs.Places.{get_set, within as in_range}
use Rattle.wf_links.specs.declared.links.Node.{Node}
use Rattle.wf_links.specs.Inside.{IsChain, first_or, list_link, free, with_above, with_below}
use Rattle.wf_links.specs.Together.{once_front, once_back, apart_back}
use Rattle.wf_links.proofs.Members.{apart_front}

-- the last node, or else what stands below the list
abbrev pub last_or : Option ℕ → List ℕ → Option ℕ
last_or under [] = under
last_or under (n ∷ ns) = last_or (Some n) ns

pub chain_front : (nodes : List Node) (list : ℕ) (under over : Option ℕ) (ys zs : List ℕ) → IsChain nodes list under (ys ++ zs) over
    → IsChain nodes list under ys (first_or over zs)
chain_front nodes list under over [] zs chain = tt
chain_front nodes list under over (y ∷ []) zs chain = (chain.0, tt)
chain_front nodes list under over (y ∷ x ∷ ys) zs chain = (chain.0, chain_front nodes list (Some y) over (x ∷ ys) zs chain.1)

pub chain_back : (nodes : List Node) (list : ℕ) (under over : Option ℕ) (ys zs : List ℕ) → IsChain nodes list under (ys ++ zs) over
    → IsChain nodes list (last_or under ys) zs over
chain_back nodes list under over [] zs chain = chain
chain_back nodes list under over (y ∷ ys) zs chain = chain_back nodes list (Some y) over ys zs chain.1

pub chain_joined : (nodes : List Node) (list : ℕ) (under over : Option ℕ) (ys zs : List ℕ)
    → IsChain nodes list under ys (first_or over zs) → IsChain nodes list (last_or under ys) zs over
    → IsChain nodes list under (ys ++ zs) over
chain_joined nodes list under over [] zs front back = back
chain_joined nodes list under over (y ∷ []) zs front back = (front.0, back)
chain_joined nodes list under over (y ∷ x ∷ ys) zs front back = (front.0, chain_joined nodes list (Some y) over (x ∷ ys) zs front.1 back)

-- a chain whose nodes have the links that they had
pub chain_kept : (from to : List Node) (list : ℕ) (under over : Option ℕ) (xs : List ℕ)
    → ((n : ℕ) → is_in n xs ≡ true → slice_get to n ≡ slice_get from n) → IsChain from list under xs over → IsChain to list under xs over
chain_kept from to list under over [] same chain = tt
chain_kept from to list under over (x ∷ xs) same chain = (
  same x (or_left (x == x) (is_in x xs) (eq-eqb x x refl)) ∙ chain.0,
  chain_kept from to list (Some x) over xs (λ n there. same n (or_right (x == n) (is_in n xs) there)) chain.1,
)

-- the links of a node of a chain
pub chain_link : (nodes : List Node) (list : ℕ) (under over : Option ℕ) (xs : List ℕ) (n : ℕ) → IsChain nodes list under xs over
    → is_in n xs ≡ true → list_link nodes n ≡ Some list
chain_link nodes list under over [] n chain there = absurd cc
chain_link nodes list under over (x ∷ xs) n chain there =
    by_number (list_link nodes n ≡ Some list) x n
    (λ is same. rw (← same, chain.0) refl)
    (λ apart. chain_link nodes list (Some x) over xs n chain.1 (rw apart at there))

-- what stands elsewhere is as it was
pub get_other : {A : Type 0} (xs : List A) (i j : ℕ) (x : A) → i ≢ j → slice_get (set xs i x) j ≡ slice_get xs j
get_other [] i j x other = refl
get_other (y ∷ ys) zero zero x other = absurd (other refl)
get_other (y ∷ ys) zero (suc j) x other = refl
get_other (y ∷ ys) (suc i) zero x other = refl
get_other (y ∷ ys) (suc i) (suc j) x other = get_other ys i j x (λ same. other (ap suc same))

pub above_other : (nodes : List Node) (node over : Option ℕ) (n : ℕ) → node ≢ Some n
    → slice_get (with_above node over nodes) n ≡ slice_get nodes n
above_other nodes None over n other = refl
above_other nodes (Some m) over n other = get_other nodes m n _ (λ same. other (ap (λ (k : ℕ). Some k) same))

pub below_other : (nodes : List Node) (node under : Option ℕ) (n : ℕ) → node ≢ Some n
    → slice_get (with_below node under nodes) n ≡ slice_get nodes n
below_other nodes None under n other = refl
below_other nodes (Some m) under n other = get_other nodes m n _ (λ same. other (ap (λ (k : ℕ). Some k) same))

pub above_same : (nodes : List Node) (over : Option ℕ) (n : ℕ) (x : Node) → slice_get nodes n ≡ Some x
    → slice_get (with_above (Some n) over nodes) n ≡ Some (record x { above = over })
above_same nodes over n x at =
    get_set nodes n x _ at ∙ ap (λ (y : Node). Some (record y { above = over })) (get_or_from_slice_get nodes n x free at)

pub below_same : (nodes : List Node) (under : Option ℕ) (n : ℕ) (x : Node) → slice_get nodes n ≡ Some x
    → slice_get (with_below (Some n) under nodes) n ≡ Some (record x { below = under })
below_same nodes under n x at =
    get_set nodes n x _ at ∙ ap (λ (y : Node). Some (record y { below = under })) (get_or_from_slice_get nodes n x free at)

-- the ends of a list are in it

pub last_in : (under : Option ℕ) (x : ℕ) (xs : List ℕ) (n : ℕ) → last_or under (x ∷ xs) ≡ Some n → is_in n (x ∷ xs) ≡ true
last_in under x [] n is = or_left (x == n) false (eq-eqb x n cc)
last_in under x (y ∷ ys) n is = or_right (x == n) (is_in n (y ∷ ys)) (last_in (Some x) y ys n is)

pub highest_in : (xs : List ℕ) (n : ℕ) → last_or None xs ≡ Some n → is_in n xs ≡ true
highest_in [] n is = absurd cc
highest_in (x ∷ xs) n is = last_in None x xs n is

pub lowest_in : (xs : List ℕ) (n : ℕ) → first_or None xs ≡ Some n → is_in n xs ≡ true
lowest_in [] n is = absurd cc
lowest_in (x ∷ xs) n is = or_left (x == n) (is_in n xs) (eq-eqb x n cc)

-- a chain whose last node gets another above it
pub chain_over : (nodes : List Node) (list : ℕ) (under over start next : Option ℕ) (xs : List ℕ) → NoneTwice xs
    → IsChain nodes list under xs over → IsChain (with_above (last_or start xs) next nodes) list under xs next
chain_over nodes list under over start next [] once chain = tt
chain_over nodes list under over start next (x ∷ []) once chain = (above_same nodes next x _ chain.0, tt)
chain_over nodes list under over start next (x ∷ y ∷ ys) once chain =
    let apart : last_or (Some x) (y ∷ ys) ≢ Some x = λ is. both_ways (is_in x (y ∷ ys)) once.0 (last_in (Some x) y ys x is) in (
      above_other nodes (last_or (Some x) (y ∷ ys)) next x apart ∙ chain.0,
      chain_over nodes list (Some x) over (Some x) next (y ∷ ys) once.1 chain.1,
    )

-- a chain whose first node gets another below it
pub chain_under : (nodes : List Node) (list : ℕ) (under over next : Option ℕ) (xs : List ℕ) → NoneTwice xs
    → IsChain nodes list under xs over → IsChain (with_below (first_or None xs) next nodes) list next xs over
chain_under nodes list under over next [] once chain = tt
chain_under nodes list under over next (x ∷ xs) once chain = (
  below_same nodes next x _ chain.0,
  chain_kept nodes (with_below (Some x) next nodes) list (Some x) over xs
      (λ n there. below_other nodes (Some x) next n (λ same. both_ways (is_in x xs) once.0 (let is : x ≡ n = cc in rw is there))) chain.1,
)

-- the nodes where one is written anew, the one below it gets another above, and the one above it gets another below
abbrev pub relinked : ℕ → Node → Option ℕ → Option ℕ → Option ℕ → Option ℕ → List Node → List Node
relinked n x base next over last nodes = with_below over last (with_above base next (set nodes n x))

pub relinked_other : (nodes : List Node) (n : ℕ) (x : Node) (base next over last : Option ℕ) (m : ℕ) → n ≢ m → base ≢ Some m
    → over ≢ Some m → slice_get (relinked n x base next over last nodes) m ≡ slice_get nodes m
relinked_other nodes n x base next over last m not_n not_base not_over =
    below_other (with_above base next (set nodes n x)) over last m not_over ∙ above_other (set nodes n x) base next m not_base
    ∙ get_other nodes n m x not_n

pub relinked_here : (nodes : List Node) (n : ℕ) (x : Node) (base next over last : Option ℕ) → n < length nodes → base ≢ Some n
    → over ≢ Some n → slice_get (relinked n x base next over last nodes) n ≡ Some x
relinked_here nodes n x base next over last within not_base not_over =
    below_other (with_above base next (set nodes n x)) over last n not_over ∙ above_other (set nodes n x) base next n not_base
    ∙ (let old = in_range nodes n within in get_set nodes n old.0 x old.1)

-- no node is put into another list by it but the one that is written
pub relinked_list : (nodes : List Node) (n : ℕ) (x : Node) (base next over last : Option ℕ) (m : ℕ) → n ≢ m
    → list_link (relinked n x base next over last nodes) m ≡ list_link nodes m
relinked_list nodes n x base next over last m other =
    below_list (with_above base next (set nodes n x)) over ∙ above_list (set nodes n x) base
    ∙ ap (option_and_then (λ y. y.list)) (get_other nodes n m x other)
  where
    list_kept : (ys : List Node) (i j : ℕ) (y : Node) → y.list ≡ (slice_index_or ys i free).list → list_link (set ys i y) j ≡ list_link ys j
    list_kept [] i j y same = refl
    list_kept (z ∷ ys) zero zero y same = same
    list_kept (z ∷ ys) zero (suc j) y same = refl
    list_kept (z ∷ ys) (suc i) zero y same = refl
    list_kept (z ∷ ys) (suc i) (suc j) y same = list_kept ys i j y same

    above_list : (ys : List Node) (k : Option ℕ) → list_link (with_above k next ys) m ≡ list_link ys m
    above_list ys None = refl
    above_list ys (Some k) = list_kept ys k m _ refl

    below_list : (ys : List Node) (k : Option ℕ) → list_link (with_below k last ys) m ≡ list_link ys m
    below_list ys None = refl
    below_list ys (Some k) = list_kept ys k m _ refl

-- the nodes below the one that is written stay chained, and those above it

pub front_kept : (nodes : List Node) (n : ℕ) (x : Node) (next last over : Option ℕ) (list : ℕ) (ys zs : List ℕ) → NoneTwice (ys ++ zs)
    → is_in n ys ≡ false → IsChain nodes list None ys over
    → IsChain (relinked n x (last_or None ys) next (first_or None zs) last nodes) list None ys next
front_kept nodes n x next last over list ys zs once absent chain =
    let base = last_or None ys in
    let written = chain_kept nodes (set nodes n x) list None over ys
    (λ m there. get_other nodes n m x (λ same. both_ways (is_in n ys) absent (rw same there))) chain in
    let joined = chain_over (set nodes n x) list None over None next ys (once_front ys zs once) written in
    chain_kept (with_above base next (set nodes n x)) (relinked n x base next (first_or None zs) last nodes) list None next ys
    (λ m there. below_other _ (first_or None zs) last m
    (λ is. both_ways (is_in m zs) (apart_back m ys zs once there) (lowest_in zs m is))) joined

pub back_kept : (nodes : List Node) (n : ℕ) (x : Node) (next last under : Option ℕ) (list : ℕ) (ys zs : List ℕ) → NoneTwice (ys ++ zs)
    → is_in n zs ≡ false → IsChain nodes list under zs None
    → IsChain (relinked n x (last_or None ys) next (first_or None zs) last nodes) list last zs None
back_kept nodes n x next last under list ys zs once absent chain =
    let base = last_or None ys in
    let written = chain_kept nodes (set nodes n x) list under None zs
    (λ m there. get_other nodes n m x (λ same. both_ways (is_in n zs) absent (rw same there))) chain in
    let told = chain_kept (set nodes n x) (with_above base next (set nodes n x)) list under None zs
    (λ m there. above_other (set nodes n x) base next m
    (λ is. both_ways (is_in m ys) (apart_front m ys zs once there) (highest_in ys m is))) written in
    chain_under (with_above base next (set nodes n x)) list under None last zs (once_back ys zs once) told
