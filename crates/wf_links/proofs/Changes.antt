-- A list that is changed: the links stand for the lists with it, where its own nodes and its lowest one are linked anew.
use Rattle.std.proofs.Common.{◌≡◌, ◌≢◌, ℕ, ◌<◌, true, false, List, [], ◌∷◌, ◌++◌, length, set}
use Rattle.std.proofs.Common.{slice_index_or, Option, Some, None, refl, sym, ap, ◌∙◌, subst, inl, inr, get_or-set_same}
use Rattle.std.proofs.Common.{get_or-set_other}
use Rattle.std.proofs.lemmas.Bool.{both_ways, cases_eq}
use Rattle.std.proofs.lemmas.List.{map-set, get_or-map, set-get_or}
use Rattle.wf_words.specs.Keyed.{is_in}
use Rattle.wf_words.specs.Once.{NoneTwice}
use Rattle.wf_links.specs.declared.links.Node.{Node}
use Rattle.wf_links.specs.Lists.{list_at, lowest}
use Rattle.wf_links.specs.Inside.{IsChain, Represent, first_or, list_link, with_lowest}
use Rattle.wf_links.proofs.Neighbours.{lowest_is}
use Rattle.wf_links.proofs.Chains.{chain_kept, last_or, relinked, relinked_other}
use Rattle.wf_links.proofs.Chains.{relinked_list}
use Rattle.wf_links.proofs.Represented.{one_list}

-- a list becomes another, in which its nodes but one are as before; that one, and its neighbours in the list, are linked anew
pub record IsChange (nodes : List Node) (lowests : List (Option ℕ)) (lists : List (List ℕ)) (list n : ℕ) (x : Node)
    (base next over last : Option ℕ) (to : List ℕ) : Type 0 where
  pub within : list < length lists
  pub elsewhere : (i : ℕ) → i ≢ list → is_in n (list_at i lists) ≡ false
  pub others : (m : ℕ) → n ≢ m → is_in m (list_at list lists) ≡ true → is_in m to ≡ true
  pub own : (i : ℕ) → list_link (relinked n x base next over last nodes) n ≡ Some i → (i ≡ list) × (is_in n to ≡ true)
  pub base_in : (m : ℕ) → base ≡ Some m → is_in m (list_at list lists) ≡ true
  pub over_in : (m : ℕ) → over ≡ Some m → is_in m (list_at list lists) ≡ true
  pub chain : IsChain (relinked n x base next over last nodes) list None to None
  pub once : NoneTwice to
  pub lowest : with_lowest list base next lowests ≡ set lowests list (lowest to)

pub changed : (nodes : List Node) (lowests : List (Option ℕ)) (lists : List (List ℕ)) (list n : ℕ) (x : Node)
    (base next over last : Option ℕ) (to : List ℕ) → Represent nodes lowests lists
    → IsChange nodes lowests lists list n x base next over last to
    → Represent (relinked n x base next over last nodes) (with_lowest list base next lowests) (set lists list to)
changed nodes lowests lists list n x base next over last to stand change =
    record {
      lowest = change.lowest ∙ ap (λ (ls : List (Option ℕ)). set ls list (lowest to)) stand.lowest ∙ sym (map-set lowest lists list to);
      chained = λ i. by_place i (λ (ns : List ℕ). IsChain new i None ns None) (λ same. rw same change.chain) (λ other. kept i other);
      once = λ i. by_place i NoneTwice (λ same. change.once) (λ other. stand.once i);
      listed = λ i m is. by_place i (λ (ns : List ℕ). is_in m ns ≡ true) (λ same. in_list i m is same) (λ other. in_other i m is other);
    }
  where
    new : List Node
    new = relinked n x base next over last nodes

    by_place : (i : ℕ) (P : List ℕ → Type 0) → (i ≡ list → P to) → (i ≢ list → P (list_at i lists)) → P (list_at i (set lists list to))
    by_place i P here other =
        elim (cases_eq i list) [
          | inl same ↦ (let is = ap (λ k. list_at k (set lists list to)) same ∙ get_or-set_same lists list to [] change.within in
              subst P (sym is) (here same))
          | inr apart ↦ subst P (sym (get_or-set_other lists list i to [] apart)) (other apart)
        ]

    -- no node of another list is linked anew
    kept : (i : ℕ) → i ≢ list → IsChain new i None (list_at i lists) None
    kept i other =
        chain_kept nodes new i None None (list_at i lists) (λ m there. relinked_other nodes n x base next over last m
        (λ same. both_ways (is_in n (list_at i lists)) (change.elsewhere i other) (rw same there))
        (λ is. other (one_list nodes lowests lists m list i stand (change.base_in m is) there))
        (λ is. other (one_list nodes lowests lists m list i stand (change.over_in m is) there))) (stand.chained i)

    in_list : (i m : ℕ) → list_link new m ≡ Some i → i ≡ list → is_in m to ≡ true
    in_list i m is same =
        elim (cases_eq n m) [
          | inl this ↦ rw (← this) (change.own i (ap (list_link new) this ∙ is)).1
          | inr apart ↦ (let linked = sym (relinked_list nodes n x base next over last m apart) ∙ is in
              change.others m apart (rw (← same) (stand.listed i m linked)))
        ]

    in_other : (i m : ℕ) → list_link new m ≡ Some i → i ≢ list → is_in m (list_at i lists) ≡ true
    in_other i m is other =
        elim (cases_eq n m) [
          | inl this ↦ absurd (other (change.own i (ap (list_link new) this ∙ is)).0)
          | inr apart ↦ stand.listed i m (sym (relinked_list nodes n x base next over last m apart) ∙ is)
        ]

-- the ends of a list

pub last_of : (under : Option ℕ) (x : ℕ) (xs : List ℕ) → (n : ℕ) × (last_or under (x ∷ xs) ≡ Some n)
last_of under x [] = (x, refl)
last_of under x (y ∷ ys) = last_of (Some x) y ys

pub last_or-append : (under : Option ℕ) (xs : List ℕ) (y : ℕ) → last_or under (xs ++ y ∷ []) ≡ Some y
last_or-append under [] y = refl
last_or-append under (x ∷ xs) y = last_or-append (Some x) xs y

-- the lowest node of a list whose end is changed: where nothing is in front of the change, it is what is put there
pub lowest_written : (lowests : List (Option ℕ)) (list : ℕ) (front old new : List ℕ)
    → slice_index_or lowests list None ≡ lowest (front ++ old)
    → with_lowest list (last_or None front) (first_or None new) lowests ≡ set lowests list (lowest (front ++ new))
lowest_written lowests list [] old new was = ap (λ (o : Option ℕ). set lowests list o) (sym (lowest_is new))
lowest_written lowests list (x ∷ xs) old new was =
    let last = last_of None x xs in
    rw last.1 (sym (ap (λ (o : Option ℕ). set lowests list o) (sym was) ∙ set-get_or lowests list None))

pub lowest_read : (nodes : List Node) (lowests : List (Option ℕ)) (lists : List (List ℕ)) (list : ℕ) → Represent nodes lowests lists
    → list < length lists → slice_index_or lowests list None ≡ lowest (list_at list lists)
lowest_read nodes lowests lists list stand within =
    ap (λ (ls : List (Option ℕ)). slice_index_or ls list None) stand.lowest ∙ get_or-map lowest lists list [] None within
