use Rattle.std.proofs.Common.{◌≡◌, true, arith}
use Rattle.wf_words.specs.Keyed.{is_in}
use Rattle.wf_words.specs.Once.{by_number}
use Rattle.wf_links.specs.Lists.{put_above}
use Rattle.wf_scene.specs.Slots.{inserted_in}
use Rattle.wf_scene.proofs.StayKept.{kept_linked}
use Rattle.wf_scene.proofs.OneMore.{one_more, put_is_in}
use Rattle.wf_scene.proofs.UsedSlots.{used_within}
use Rattle.wf_scene.proofs.TwoLists.{inserted_once}
use Rattle.wf_scene.proofs.slots.Slots.put_in.Goals as goal

pub put_in-requires-clause-slot : goal.put_in-requires-clause-slot
put_in-requires-clause-slot c = used_within _ _ _ _ c.requires.kept c.args.slot c.requires.used

pub returns-clause-kept : goal.returns-clause-kept
returns-clause-kept c =
    let k = c.args.self.now in
    let o = k.links in
    let more = one_more c.args.slot c.args.base (inserted_in o) (inserted_once o c.requires.kept.linked) c.requires.base in
    kept_linked _ _ _ _ c.requires.kept _ _ (put_above c.args.base c.args.slot (inserted_in o)) c.put_in.ensures.linked c.put_in.ensures.put
    (λ x inside. by_number (is_in x k.used.items ≡ true) c.args.slot x
    (λ is same. rw same at c.requires.used)
    (λ other. c.requires.kept.live x (put_is_in x c.args.slot c.args.base (inserted_in o) other inside)))
    (omega (arith, c.requires.kept.counted, more))
