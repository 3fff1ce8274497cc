use Rattle.std.proofs.Common.{◌≡◌, false, subst, sym, true}
use Rattle.wf_words.specs.Keyed.{is_in}
use Rattle.wf_members.specs.Membership.{is_open, members_of}
use Rattle.wf_model.specs.Objects.{Source}
use Rattle.wf_objects.proofs.MembersTellTables.{live_context_open, no_context_has, tracked_as}
use Rattle.wf_objects.proofs.objects.Objects.push_link.Goals as goal

pub add-requires-clause-is_open : goal.add-requires-clause-is_open
add-requires-clause-is_open c =
    let s = c.self.inside in
    let core = c.args.self.now in
    subst (λ (x : Source). is_open x.context s.linked ≡ true) (sym c.link.view_is)
    (live_context_open s.members s.linked core (tracked_as s core c.self.invariant c.self.view_is) c.args.link.context c.requires.live)

pub add-requires-clause-nobodys : goal.add-requires-clause-nobodys
add-requires-clause-nobodys c =
    let s = c.self.inside in
    let core = c.args.self.now in
    λ o. subst (λ (x : Source). is_in x.handle (members_of o s.linked) ≡ false) (sym c.link.view_is)
    (no_context_has s.members s.linked core (tracked_as s core c.self.invariant c.self.view_is) c.args.link.handle c.requires.fresh o)
