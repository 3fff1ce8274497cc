use Rattle.std.proofs.Common.{◌≡◌, ap, sym, ◌∙◌, ◌==◌, arith}
use Rattle.wf_links.specs.Lists.{NodeLists, without}
use Rattle.wf_scene.specs.declared.slots.Slots.{Slots}
use Rattle.wf_scene.specs.Slots.{free_in, inserted_in, two_lists}
use Rattle.wf_scene.proofs.Once.{none_out}
use Rattle.wf_scene.proofs.OneMore.{in_less_is_in, one_less}
use Rattle.wf_scene.proofs.StayKept.{kept_linked}
use Rattle.wf_scene.proofs.UsedSlots.{used_within}
use Rattle.wf_scene.proofs.TwoLists.{inserted_once}
use Rattle.wf_scene.proofs.slots.Slots.take_out.Goals as goal

pub is_inserted-requires-clause-slot : goal.is_inserted-requires-clause-slot
is_inserted-requires-clause-slot c = used_within _ _ _ _ c.requires.kept c.args.slot c.requires.used

pub returns-then-is_inserted-clause-kept : goal.returns-then-is_inserted-clause-kept
returns-then-is_inserted-clause-kept c =
    let o = c.args.self.now.links in
    let there = sym c.is_inserted.ensures ∙ c.if-is_inserted.true in
    let less = one_less c.args.slot (inserted_in o) (inserted_once o c.requires.kept.linked) there in
    kept_linked _ _ _ _ c.requires.kept _ _ (without c.args.slot (inserted_in o)) c.take_out.ensures.linked c.take_out.ensures.left
    (λ x inside. c.requires.kept.live x (in_less_is_in x c.args.slot (inserted_in o) inside)) (omega (arith, c.requires.kept.counted, less))

pub returns-else-is_inserted-clause-left : goal.returns-else-is_inserted-clause-left
returns-else-is_inserted-clause-left c =
    let k = c.args.self.now in
    let out = none_out (λ x. x == c.args.slot) (inserted_in k.links) (sym c.is_inserted.ensures ∙ c.if-is_inserted.false) in
    let same : ◌≡◌ {A = NodeLists} k.links (two_lists (without c.args.slot (inserted_in k.links)) (free_in k.links)) =
    c.requires.kept.linked.two ∙ ap (λ xs. two_lists xs (free_in k.links)) (sym out) in
    ap (λ (o : NodeLists). let left : Slots = record k { links = o } in left) same
