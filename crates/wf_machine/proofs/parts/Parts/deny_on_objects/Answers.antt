use Rattle.wf_machine.proofs.Common.{true, refl, sym, subst, IfSome, IsOfPixels}
use Rattle.wf_calls.specs.Replies.{told}
use Rattle.wf_calls.specs.Requests.{call_of}
use Rattle.wf_machine.proofs.ScreensArePixels.{asked_pixels}
use Rattle.wf_machine.proofs.ActsAreTheModels.{as_bare, as_marked_composed}
use Rattle.wf_machine.proofs.NamesOfOneSide.{sound_composed}
use Rattle.wf_machine.proofs.parts.Parts.deny_on_objects.Goals as goal

pub deny-requires-clause-fits : goal.deny-requires-clause-fits
deny-requires-clause-fits c = c.self.invariant.holds.fits

pub deny-requires-clause-given : goal.deny-requires-clause-given
deny-requires-clause-given c =
    let pixels = asked_pixels c.self.inside _ c.self.view_is c.self.invariant.holds _ in (
      c.screen_of-screen.ensures.within,
      subst (λ o. IfSome o (IsOfPixels c.self.inside.store.streams))
          (sym c.screen_of-screen.ensures.screen) pixels,
    )

pub returns : goal.returns
returns c =
    as_bare true _ _ (call_of c.args.call.now) c.deny.result c.deny.ensures.bare
    (as_marked_composed c.self.inside _ c.self.view_is c.self.invariant _ c.self.inside.store
    (record { numbered = refl; others = refl }) c.deny.ensures.names c.deny.ensures.fits true (call_of c.args.call.now)
    c.screen_of-screen.result (told c.deny.result) c.requires.ours c.screen_of-screen.ensures.screen c.deny.ensures.step)

pub invariant_of-self : goal.invariant_of-self
invariant_of-self c =
    sound_composed c.self.inside c.self.invariant _ c.self.inside.store (record { numbered = refl; others = refl })
    c.deny.ensures.names c.deny.ensures.fits
