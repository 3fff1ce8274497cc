use Rattle.std.proofs.Common.{◌∙◌, None, Ok, ap, refl, sym, subst}
use Rattle.wf_model.specs.Core.{register_number}
use Rattle.wf_model.specs.Registers.{display_error}
use Rattle.wf_model.specs.DisplaySides.{on_display}
use Rattle.wf_model.specs.State.{DisplayState}
use Rattle.wf_display.specs.Does.{Does}
use Rattle.wf_display.proofs.AttributesSet.{alone}
use Rattle.wf_display.proofs.display.Display.try_display_error.Goals as goal

pub returns : goal.returns
returns c =
    let a = c.args in
    let d = a.self.now in
    let number = c.register_number-number in
    let fits = c.requires in
    subst (λ (k : DisplayState). Does (λ _. on_display display_error) d (record k { register = None }) a.store.now a.store.now
    (Ok number.result)) (sym c.self.view_is)
    (alone display_error d (record d { register = None }) a.store.now number.result
    (ap (λ n. Ok (record d { register = None }, n))
    (sym (number.ensures ∙ ap (λ (k : DisplayState). register_number k.register) c.self.view_is)))
    (λ n. refl) (record {
      handles = record { rising = fits.handles.rising; sources = fits.handles.sources };
      streams = record { screens = fits.streams.screens; sources = fits.streams.sources; pipelines = fits.streams.pipelines };
    }))
