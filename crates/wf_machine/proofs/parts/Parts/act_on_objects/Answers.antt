use Rattle.wf_machine.proofs.Common.{sym, subst, IfSome, IsOfPixels}
use Rattle.wf_calls.specs.Requests.{call_of}
use Rattle.wf_machine.proofs.ScreensArePixels.{asked_pixels}
use Rattle.wf_machine.proofs.ActsAreTheModels.{as_composed}
use Rattle.wf_machine.proofs.Counts.{core_fits, room}
use Rattle.wf_machine.proofs.NamesOfOneSide.{sound_composed}
use Rattle.wf_machine.proofs.parts.Parts.act_on_objects.Goals as goal

pub run-requires-clause-fits : goal.run-requires-clause-fits
run-requires-clause-fits c = c.self.invariant.holds.fits

pub run-requires-clause-names : goal.run-requires-clause-names
run-requires-clause-names c = core_fits c.self.inside c.self.invariant

pub run-requires-clause-room : goal.run-requires-clause-room
run-requires-clause-room c = room c.self.inside c.self.invariant c.prove_few_names.ensures c.prove_few_names-2.ensures

pub run-requires-clause-given : goal.run-requires-clause-given
run-requires-clause-given c =
    let pixels = asked_pixels c.self.inside _ c.self.view_is c.self.invariant.holds _ in (
      c.screen_of-screen.ensures.within,
      subst (λ o. IfSome o (IsOfPixels c.self.inside.store.streams))
          (sym c.screen_of-screen.ensures.screen) pixels,
    )

pub returns : goal.returns
returns c =
    as_composed c.self.inside _ c.self.view_is c.self.invariant _ _ c.run.ensures.kept c.run.ensures.names c.run.ensures.fits
    (call_of c.args.call.now)
    c.screen_of-screen.result _ c.requires c.screen_of-screen.ensures.screen c.run.ensures

pub invariant_of-self : goal.invariant_of-self
invariant_of-self c =
    sound_composed c.self.inside c.self.invariant _ _ c.run.ensures.kept c.run.ensures.names c.run.ensures.fits
