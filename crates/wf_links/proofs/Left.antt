-- What a call leaves: the nodes and the lowest nodes after its writes, and what holds of them.
use Rattle.std.proofs.Common.{◌≡◌, ℕ, ◌<◌, List, [], ◌++◌, length, map, set, take, drop, replicate, slice_get}
use Rattle.std.proofs.Common.{Option, Some, None, refl, sym, ap, ◌∙◌, arith}
use Rattle.std.specs.Option.{ForSome}
use Rattle.std.proofs.lemmas.List.{append-nil, drop_all, take_all, length-set, length-replicate}
use Rattle.wf_links.specs.declared.links.Node.{Node}
use Rattle.wf_links.specs.Lists.{NodeLists, IsOrderly, list_of, inserted, removed}
use Rattle.wf_links.specs.Inside.{Represent, upward, free, next_up, with_above, with_below, with_lowest}
use Rattle.wf_links.proofs.Chains.{relinked}
use Rattle.wf_links.proofs.Represented.{view_is, orderly}
use Rattle.wf_links.proofs.Made.{made_stands}
use Rattle.wf_links.proofs.Inserted.{inserted_stands}
use Rattle.wf_links.proofs.Removed.{removed_stands}

-- a list that was written whole
written : {A : Type 0} (len : ℕ) (old new : List A) → length old ≡ len → length new ≡ len → take len (new ++ drop (length new) old) ≡ new
written len old new was is =
    ap (λ (xs : List _). take len (new ++ xs)) (drop_all (length new) old (omega (arith, was, is)))
    ∙ ap (take len) (append-nil new) ∙ take_all len new (omega (arith, is))

length_above : (node over : Option ℕ) (nodes : List Node) → length (with_above node over nodes) ≡ length nodes
length_above None over nodes = refl
length_above (Some n) over nodes = length-set nodes n _

length_below : (node under : Option ℕ) (nodes : List Node) → length (with_below node under nodes) ≡ length nodes
length_below None under nodes = refl
length_below (Some n) under nodes = length-set nodes n _

length_lowest : (list : ℕ) (node over : Option ℕ) (lowests : List (Option ℕ)) → length (with_lowest list node over lowests) ≡ length lowests
length_lowest list None over lowests = length-set lowests list over
length_lowest list (Some n) over lowests = refl

-- the nodes after one was written, and its neighbours were told
pub nodes_left : (len : ℕ) (nodes : List Node) (n : ℕ) (x : Node) (base next over last : Option ℕ) (first told then left : List Node)
    → len ≡ length nodes → first ≡ set nodes n x → told ≡ with_above base next first
    → then ≡ take len (told ++ drop (length told) (set nodes n x)) → left ≡ with_below over last then
    → take len (left ++ drop (length left) (take len (told ++ drop (length told) (set nodes n x)))) ≡ relinked n x base next over last nodes
nodes_left len nodes n x base next over last first told then left is first_is told_is then_is left_is =
    let first_length : length (set nodes n x) ≡ len = length-set nodes n x ∙ sym is in
    let told_is_set : told ≡ with_above base next (set nodes n x) = told_is ∙ ap (with_above base next) first_is in
    let told_length : length told ≡ len = ap length told_is_set ∙ length_above base next (set nodes n x) ∙ first_length in
    let back : take len (told ++ drop (length told) (set nodes n x)) ≡ told = written len (set nodes n x) told first_length told_length in
    let left_is_told : left ≡ with_below over last told = left_is ∙ ap (with_below over last) (then_is ∙ back) in
    let left_length : length left ≡ len = ap length left_is_told ∙ length_below over last told ∙ told_length in
    rw back (written len told left told_length left_length ∙ left_is_told ∙ ap (with_below over last) told_is_set)

pub lowest_left : (len : ℕ) (lowests : List (Option ℕ)) (list : ℕ) (base next : Option ℕ) (first left : List (Option ℕ))
    → len ≡ length lowests → first ≡ lowests → left ≡ with_lowest list base next first
    → take len (left ++ drop (length left) lowests) ≡ with_lowest list base next lowests
lowest_left len lowests list base next first left is first_is left_is =
    let left_is_with : left ≡ with_lowest list base next lowests = left_is ∙ ap (with_lowest list base next) first_is in
    written len lowests left (sym is) (ap length left_is_with ∙ length_lowest list base next lowests ∙ sym is) ∙ left_is_with

-- what holds of nodes and lowest nodes that are those which stand for lists
pub record IsLeft (nodes : List Node) (lowests : List (Option ℕ)) (kept : NodeLists) : Type 0 where
  pub sound : Represent nodes lowests (map (upward (length nodes) nodes) lowests)
  pub view : record { nodes = length nodes; lists = map (upward (length nodes) nodes) lowests } ≡ kept
  pub orderly : IsOrderly (record { nodes = length nodes; lists = map (upward (length nodes) nodes) lowests })

pub is_left : (nodes to : List Node) (lowests to_lowests : List (Option ℕ)) (count : ℕ) (lists : List (List ℕ))
    → nodes ≡ to → lowests ≡ to_lowests
    → length to ≡ count → Represent to to_lowests lists → IsLeft nodes lowests (record { nodes = count; lists = lists })
is_left nodes to lowests to_lowests count lists nodes_are lowests_are counted stand =
    let view = view_is to to_lowests lists stand in
    rw (nodes_are, lowests_are) (record {
      sound = rw view stand;
      view = rw (view, counted) refl;
      orderly = rw view (orderly to to_lowests lists stand);
    })

pub length_relinked : (nodes : List Node) (n : ℕ) (x : Node) (base next over last : Option ℕ)
    → length (relinked n x base next over last nodes) ≡ length nodes
length_relinked nodes n x base next over last =
    length_below over last (with_above base next (set nodes n x)) ∙ length_above base next (set nodes n x) ∙ length-set nodes n x

-- after a node was put into a list
pub insert_left : (nodes : List Node) (lowests : List (Option ℕ)) (lists : List (List ℕ)) (list n : ℕ) (base over : Option ℕ)
    (left : List Node) (left_lowests : List (Option ℕ)) → Represent nodes lowests lists → list < length lists → n < length nodes
    → list_of n lists ≡ None → ForSome base (λ b. list_of b lists ≡ Some list) → over ≡ next_up nodes lowests list base
    → left ≡ relinked n (record { list = Some list; below = base; above = over }) base (Some n) over (Some n) nodes
    → left_lowests ≡ with_lowest list base (Some n) lowests
    → IsLeft left left_lowests (record { nodes = length nodes; lists = inserted list n base lists })
insert_left nodes lowests lists list n base over left left_lowests stand within in_range absent given above_is left_is lowests_are =
    is_left left _ left_lowests _ (length nodes) (inserted list n base lists) left_is lowests_are
    (length_relinked nodes n (record { list = Some list; below = base; above = over }) base (Some n) over (Some n))
    (inserted_stands nodes lowests lists list n base over stand within in_range absent given above_is)

-- after a node was taken out of its list
pub remove_left : (nodes : List Node) (lowests : List (Option ℕ)) (lists : List (List ℕ)) (list n : ℕ) (x : Node)
    (left : List Node) (left_lowests : List (Option ℕ)) → Represent nodes lowests lists → list_of n lists ≡ Some list
    → slice_get nodes n ≡ Some x
    → left ≡ relinked n free x.below x.above x.above x.below nodes → left_lowests ≡ with_lowest list x.below x.above lowests
    → IsLeft left left_lowests (record { nodes = length nodes; lists = removed n lists })
remove_left nodes lowests lists list n x left left_lowests stand is read left_is lowests_are =
    is_left left _ left_lowests _ (length nodes) (removed n lists) left_is lowests_are
    (length_relinked nodes n free x.below x.above x.above x.below) (removed_stands nodes lowests lists list n x stand is read)

-- after nodes and lists were made
pub new_left : (count lists : ℕ) (made : List Node) (lowests : List (Option ℕ)) → made ≡ replicate count free
    → lowests ≡ replicate lists None → IsLeft made lowests (record { nodes = count; lists = replicate lists [] })
new_left count lists made lowests made_is lowests_are =
    is_left made (replicate count free) lowests (replicate lists None) count (replicate lists []) made_is lowests_are
    (length-replicate count free) (made_stands count lists)
