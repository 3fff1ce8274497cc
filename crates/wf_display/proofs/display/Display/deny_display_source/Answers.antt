use Rattle.std.proofs.Math.Facts.{to_z-of_z}
use Rattle.wf_life.specs.Handles.{is_full}
use Rattle.wf_model.specs.Pipelines.{all_sources, display_source, pixel_stream}
use Rattle.wf_display.specs.Sides.{display_side_of}
use Rattle.wf_display.proofs.display.Display.deny_display_source.Goals.{then-all_sources-via-else-all_sources+then-full}
use Rattle.wf_display.proofs.display.Display.deny_display_source.Goals.{then-all_sources-via-then-all_sources}
use Rattle.std.proofs.Common.{arith, ◌≡◌, ◌∙◌, ◌||◌, Ok, Err, ap, refl, sym, true, false, rules}
use Rattle.wf_display.proofs.AttributesSet.{stays, some_pipeline, or_true}
use Rattle.std.proofs.lemmas.Grind.{common_steps}
use Rattle.wf_display.proofs.display.Display.deny_display_source.Goals as goal

pub returns-in_err-pipeline_place : goal.returns-in_err-pipeline_place
returns-in_err-pipeline_place c = stays _ _ _ _ (grind (arith, common_steps)) c.requires

pub returns-in_err-pixel_stream : goal.returns-in_err-pixel_stream
returns-in_err-pixel_stream c =
    let a = c.args in
    let d = a.self.now in
    let x = some_pipeline d a.pipe c.in_ok-pipeline_place.field-0 (rw (to_z-of_z c.ranges.pipe) at c.in_ok-pipeline_place.ensures.place) in
    let r = c.in_err-pixel_stream.field-0.0 in
    let refused : pixel_stream a.stream a.store.now.streams ≡ Err r = sym c.in_err-pixel_stream.ensures.found in
    let same : c.from_residual-in_err-pixel_stream.result ≡ Err r = search rules in
    rw same (stays (λ _. display_source a.pipe a.stream true) d a.store.now (Err r) (rw (x.1, refused) refl) c.requires)

pub returns-then-all_sources : goal.returns-then-all_sources
returns-then-all_sources c =
    let a = c.args in
    let d = a.self.now in
    let side = display_side_of d a.store.now in
    let x = some_pipeline d a.pipe c.in_ok-pipeline_place.field-0 (rw (to_z-of_z c.ranges.pipe) at c.in_ok-pipeline_place.ensures.place) in
    let stream : pixel_stream a.stream a.store.now.streams ≡ Ok c.in_ok-pixel_stream.field-0 = sym c.in_ok-pixel_stream.ensures.found in
    let full : (all_sources side || is_full a.store.now.made) ≡ true = elim c.then-all_sources.branch [
      | then-all_sources-via-then-all_sources w ↦ ap (λ b. b || is_full a.store.now.made)
          (sym c.all_sources.ensures ∙ w.if-all_sources.true)
      | then-all_sources-via-else-all_sources+then-full w ↦ or_true (all_sources side) (sym w.full.ensures ∙ w.if-full.true)
    ] in
    stays (λ _. display_source a.pipe a.stream true) d a.store.now (Err c.of.result) (rw (x.1, stream, full) (ap Err (sym c.of.ensures)))
    c.requires

pub returns : goal.returns
returns c =
    let a = c.args in
    let d = a.self.now in
    let x = some_pipeline d a.pipe c.in_ok-pipeline_place.field-0 (rw (to_z-of_z c.ranges.pipe) at c.in_ok-pipeline_place.ensures.place) in
    let stream : pixel_stream a.stream a.store.now.streams ≡ Ok c.in_ok-pixel_stream.field-0 = sym c.in_ok-pixel_stream.ensures.found in
    let room : (all_sources (display_side_of d a.store.now) || is_full a.store.now.made) ≡ false =
    ap (λ b. b || is_full a.store.now.made) (sym c.all_sources.ensures ∙ c.if-all_sources.false) ∙ (sym c.full.ensures ∙ c.if-full.false) in
    stays (λ _. display_source a.pipe a.stream true) d a.store.now (Err c.of-2.result)
    (rw (x.1, stream, room) (ap Err (sym c.of-2.ensures))) c.requires
