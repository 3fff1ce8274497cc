use Rattle.wf_members.proofs.Made.{made_none, made_sound}
use Rattle.wf_members.proofs.members.Members.new.Goals as goal

pub invariant_of-result : goal.invariant_of-result
invariant_of-result c =
    rw (c.in_ok-vec.ensures.items_if_clones_equal (λ x is. is), c.in_ok-vec-2.ensures.items_if_clones_equal (λ x is. is))
    (made_sound c.args.members c.args.owners c.in_ok-all_free.field-0 c.in_ok-all_free.ensures c.requires c.ranges.members.fits)

pub returns : goal.returns
returns c =
    rw (c.in_ok-vec.ensures.items_if_clones_equal (λ x is. is), c.in_ok-vec-2.ensures.items_if_clones_equal (λ x is. is))
    (made_none c.args.members c.args.owners c.in_ok-all_free.field-0 c.in_ok-all_free.ensures)
