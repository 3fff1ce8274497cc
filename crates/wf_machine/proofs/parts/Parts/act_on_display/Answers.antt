use Rattle.wf_calls.specs.Requests.{call_of}
use Rattle.wf_machine.proofs.ActsAreTheModels.{as_displayed, sound_after_display}
use Rattle.wf_machine.proofs.Counts.{display_fits, room}
use Rattle.wf_machine.proofs.parts.Parts.act_on_display.Goals as goal

pub run-requires-clause-fits : goal.run-requires-clause-fits
run-requires-clause-fits c = c.self.invariant.holds.shows

pub run-requires-clause-names : goal.run-requires-clause-names
run-requires-clause-names c = display_fits c.self.inside c.self.invariant

pub run-requires-clause-room : goal.run-requires-clause-room
run-requires-clause-room c = room c.self.inside c.self.invariant c.prove_few_names.ensures c.prove_few_names-2.ensures

pub invariant_of-self : goal.invariant_of-self
invariant_of-self c =
    sound_after_display c.self.inside _ c.self.view_is c.self.invariant _ _ (call_of c.args.call.now) c.run.result c.run.ensures

pub returns : goal.returns
returns c = as_displayed c.self.inside _ c.self.view_is c.self.invariant _ _ (call_of c.args.call.now) c.run.result c.run.ensures c.requires
