use Rattle.std.proofs.Common.{arith}
use Rattle.std.proofs.lemmas.Bool.{false_from_ne_true}
use Rattle.wf_words.specs.Keyed.{is_in}
use Rattle.wf_links.specs.Lists.{list_at}
use Rattle.wf_members.proofs.Moved.{nowhere}
use Rattle.wf_members.proofs.members.all_free.Goals as goal

pub insert_above-requires-clause-free : goal.insert_above-requires-clause-free
insert_above-requires-clause-free c =
    let l = c.loop-free in
    nowhere l.free l.links.lists (λ i. false_from_ne_true (is_in l.free (list_at i l.links.lists))
    (λ there. omega (arith, (l.invariant.only l.free i there).0)))
