use Rattle.wf_machine.proofs.Common.{◌∙◌, refl, sym, subst}
use Rattle.wf_display.specs.Fits.{Fits as Shows}
use Rattle.wf_machine.proofs.MachineOpened.{sound_opened}
use Rattle.wf_machine.proofs.parts.Parts.open.Goals as goal

pub invariant_of-result-2 : goal.invariant_of-result-2
invariant_of-result-2 c =
    sound_opened _ c.args.ports.now (record {
      store = c.store-2.view_is ∙ c.in_ok-display.ensures.screens;
      core = c.core.view_is ∙ c.in_ok-core.ensures;
      display = c.in_ok-display.ensures.display;
      shows = subst (λ v. Shows c.in_ok-display.display v) (sym c.store-2.view_is) c.in_ok-display.ensures.fits;
      images = record { sizes = c.in_ok-images_of.ensures.modes; fit = c.in_ok-images_of.ensures.fit };
      begun = refl;
      free = c.new-3.ensures;
    }) c.requires
