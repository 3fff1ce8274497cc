use Rattle.std.proofs.Common.{◌≡◌, ℕ, Option, Some, None, refl}
use Rattle.wf_links.proofs.Left.{new_left}
use Rattle.wf_links.proofs.links.Links.new.Goals as goal

-- what `None` is a clone of is `None`
none_alone : (P : Option ℕ → Type 0) → ((n : ℕ) → P (Some n) → ⊥) → (o : Option ℕ) → P o → o ≡ None
none_alone P only None clone = refl
none_alone P only (Some n) clone = absurd (only n clone)

pub invariant_of-result : goal.invariant_of-result
invariant_of-result c =
    let nodes = c.in_ok-nodes.ensures.items_if_clones_equal (λ x is. is) in
    let lowest = c.in_ok-lowest.ensures.items_if_clones_equal (none_alone _ (λ n clone. clone)) in
    (new_left c.args.nodes c.args.lists _ _ nodes lowest).sound

pub returns : goal.returns
returns c =
    let nodes = c.in_ok-nodes.ensures.items_if_clones_equal (λ x is. is) in
    let lowest = c.in_ok-lowest.ensures.items_if_clones_equal (none_alone _ (λ n clone. clone)) in
    let left = new_left c.args.nodes c.args.lists _ _ nodes lowest in
    record { made = left.view; orderly = left.orderly }
