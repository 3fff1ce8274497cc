use Rattle.std.proofs.Common.{◌≡◌, ◌∙◌, ℕ, ◌+◌, ◌++◌, ◌∷◌, [], Ok, ap, sym, subst, arith, rules, Err, refl}
use Rattle.std.proofs.Math.Facts.{to_z-of_z}
use Rattle.wf_words.specs.Places.{within}
use Rattle.wf_words.specs.Whole.{count_of}
use Rattle.wf_model.specs.declared.display.DisplaySource.{DisplaySource}
use Rattle.wf_model.specs.Pipelines.{display_source, pixel_stream}
use Rattle.wf_stream.specs.Names.{Recounts, but_names}
use Rattle.wf_display.specs.Does.{Does}
use Rattle.wf_display.specs.Inside.{display_of}
use Rattle.std.proofs.lemmas.Grind.{common_steps}
use Rattle.wf_display.proofs.SourcesMade.{refuses_handle, source_does}
use Rattle.wf_display.proofs.AttributesSet.{pipeline_is, stays, some_pipeline}
use Rattle.wf_display.proofs.display.Display.try_display_source.Goals as goal

pub returns : goal.returns
returns c =
    let a = c.args in
    let place = c.in_ok-place.place in
    let here = rw (to_z-of_z c.ranges.pipe) at c.in_ok-place.ensures.place in
    let x = within a.self.now.pipelines place here.within in
    let d = a.self.now in
    let made = a.store.now.made in
    let number = c.in_ok-number.number in
    let plain = display_source a.pipe a.stream in
    let handle = c.in_ok-handle.ensures.handle in
    let row : ℕ → ℕ → DisplaySource = λ h l. record { handle = h; pipeline = l; stream = number } in
    let pushed : c.push_reserved.new.self.items ≡ d.sources ++ row (made + 1) (count_of a.pipe) ∷ [] =
    c.push_reserved.ensures.items ∙ ap (λ k. k.sources ++ row c.in_ok-handle.handle (place + 1) ∷ []) c.self.view_is
    ∙ ap (λ h. d.sources ++ row h (place + 1) ∷ []) handle ∙ ap (λ l. d.sources ++ row (made + 1) l ∷ []) (sym here.number_is) in
    let made_is = c.in_ok-handle.ensures.made in
    let named = c.begin_name.new.store in
    let does = source_does d a.store.now c.requires.fits a.pipe a.stream number
    (x.0, pipeline_is d a.store.now c.requires.fits a.pipe place x.0 here x.1) (sym c.in_ok-number.ensures.found)
    c.in_ok-number.ensures.pixels (sym c.all_sources.ensures ∙ c.if-all_sources.false) c.in_ok-handle.ensures.stopped named
    (c.begin_name.ensures.rest ∙ ap but_names made_is) (c.begin_name.ensures.streams ∙ ap (λ v. v.streams) made_is)
    (subst (λ v. Recounts [] (number ∷ []) v named) made_is c.begin_name.ensures.names) in
    let items = c.push_reserved.new.self.items in
    subst (λ h. Does plain d (record (display_of c.self.inside) { sources = items }) a.store.now named (Ok h)) (sym handle)
    (subst (λ k. Does plain d (record k { sources = items }) a.store.now named (Ok (made + 1))) (sym c.self.view_is)
    (subst (λ ss. Does plain d (record d { sources = ss }) a.store.now named (Ok (made + 1))) (sym pushed) does))

pub returns-in_err-place : goal.returns-in_err-place
returns-in_err-place c = stays _ _ _ _ (grind (arith, common_steps)) c.requires.fits

pub returns-in_err-number : goal.returns-in_err-number
returns-in_err-number c =
    let a = c.args in
    let d = a.self.now in
    let x = some_pipeline d a.pipe c.in_ok-place.place (rw (to_z-of_z c.ranges.pipe) at c.in_ok-place.ensures.place) in
    let refused : pixel_stream a.stream a.store.now.streams ≡ Err c.in_err-number.field-0.0 = sym c.in_err-number.ensures.found in
    let same : c.from_residual-in_err-number.result ≡ Err c.in_err-number.field-0.0 = search rules in
    rw same (stays (display_source a.pipe a.stream) d a.store.now (Err c.in_err-number.field-0.0) (rw (x.1, refused) refl) c.requires.fits)

pub returns-then-all_sources : goal.returns-then-all_sources
returns-then-all_sources c =
    let a = c.args in
    let d = a.self.now in
    let x = some_pipeline d a.pipe c.in_ok-place.place (rw (to_z-of_z c.ranges.pipe) at c.in_ok-place.ensures.place) in
    let stream : pixel_stream a.stream a.store.now.streams ≡ Ok c.in_ok-number.number = sym c.in_ok-number.ensures.found in
    let full = sym c.all_sources.ensures ∙ c.if-all_sources.true in
    stays (display_source a.pipe a.stream) d a.store.now (Err c.of.result) (rw (x.1, stream, full) (ap Err (sym c.of.ensures)))
    c.requires.fits

pub returns-in_err-handle : goal.returns-in_err-handle
returns-in_err-handle c =
    let a = c.args in
    let d = a.self.now in
    let x = some_pipeline d a.pipe c.in_ok-place.place (rw (to_z-of_z c.ranges.pipe) at c.in_ok-place.ensures.place) in
    let stream : pixel_stream a.stream a.store.now.streams ≡ Ok c.in_ok-number.number = sym c.in_ok-number.ensures.found in
    let room = sym c.all_sources.ensures ∙ c.if-all_sources.false in
    let r = c.in_err-handle.field-0.0 in
    let same : c.from_residual-in_err-handle.result ≡ Err r = search rules in
    rw same (subst (λ v. Does (display_source a.pipe a.stream) d d a.store.now v (Err r)) (sym c.in_err-handle.ensures.refused)
    (stays (display_source a.pipe a.stream) d a.store.now (Err r)
    (rw (x.1, stream, room) (refuses_handle a.store.now.made _ r _ c.in_err-handle.ensures.stopped)) c.requires.fits))
