use Rattle.wf_machine.proofs.Common.{true, refl}
use Rattle.wf_calls.specs.Replies.{told}
use Rattle.wf_calls.specs.Requests.{call_of}
use Rattle.wf_machine.proofs.ActsAreTheModels.{as_bare, as_marked_displayed, sound_marked_displayed}
use Rattle.wf_machine.proofs.parts.Parts.deny_on_display.Goals as goal

pub deny-requires-clause-fits : goal.deny-requires-clause-fits
deny-requires-clause-fits c = c.self.invariant.holds.shows

pub invariant_of-self : goal.invariant_of-self
invariant_of-self c =
    sound_marked_displayed true c.self.inside _ c.self.view_is c.self.invariant _ c.self.inside.store (call_of c.args.call.now)
    (told c.deny.result) (record { numbered = refl; others = refl }) c.deny.ensures.names c.deny.ensures.fits c.deny.ensures.step

pub returns : goal.returns
returns c =
    as_bare true _ _ (call_of c.args.call.now) c.deny.result c.deny.ensures.bare
    (as_marked_displayed true c.self.inside _ c.self.view_is c.self.invariant _ c.self.inside.store (call_of c.args.call.now)
    (told c.deny.result) (record { numbered = refl; others = refl }) c.deny.ensures.names c.deny.ensures.fits c.deny.ensures.step
    c.requires.ours)
