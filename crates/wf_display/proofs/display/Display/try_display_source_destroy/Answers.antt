use Rattle.std.proofs.Common.{◌≡◌, ◌∙◌, ℕ, [], ◌∷◌, List, Option, Some, None, Ok, Err, ap, is_some, sym, subst}
use Rattle.wf_stream.specs.Names.{AreCounted, IsReleasable, Recounts, but_names}
use Rattle.wf_stream.specs.Streams.{count_of, stream_of}
use Rattle.wf_model.specs.declared.display.DisplaySource.{DisplaySource}
use Rattle.wf_model.specs.DisplaySides.{on_display, source_at}
use Rattle.wf_model.specs.Pipelines.{display_source_destroy, without_source}
use Rattle.wf_model.specs.State.{DisplayState}
use Rattle.wf_display.specs.Does.{Does}
use Rattle.wf_display.specs.Inside.{display_of}
use Rattle.wf_display.proofs.SourcesMade.{destroy_does, source_lives, stream_released}
use Rattle.wf_display.proofs.AttributesSet.{or_true, refuses}
use Rattle.wf_display.proofs.display.Display.try_display_source_destroy.Goals as goal

-- what is found of the source
found : (h : ℕ) (d e : DisplayState) (ss : List DisplaySource) (o p : Option DisplaySource) → e ≡ d → ss ≡ e.sources → o ≡ source_at h ss
    → o ≡ p → source_at h d.sources ≡ p
found h d e ss o p view read result is =
    ap (λ (k : DisplayState). source_at h k.sources) (sym view) ∙ ap (source_at h) (sym read) ∙ sym result ∙ is

pub kill-requires : goal.kill-requires
kill-requires c =
    let a = c.args in
    let at = found a.source a.self.now (display_of c.self.inside) c.deref.result.now c.source_at.result (Some c.in-Some.found)
    c.self.view_is c.deref.ensures.value c.source_at.ensures c.in-Some.is in
    or_true (is_some (stream_of a.source a.store.now.streams))
    (source_lives a.self.now a.store.now c.requires.fits a.source (ap is_some at))

pub end_name-requires : goal.end_name-requires
end_name-requires c =
    let a = c.args in
    let at = found a.source a.self.now (display_of c.self.inside) c.deref.result.now c.source_at.result (Some c.in-Some.found)
    c.self.view_is c.deref.ensures.value c.source_at.ensures c.in-Some.is in
    let dead = c.kill.ensures.other (source_lives a.self.now a.store.now c.requires.fits a.source (ap is_some at)) in
    record {
      counted = subst AreCounted (sym dead) c.requires.names.counted;
      named = λ some. subst (IsReleasable c.in-Some.found.stream) (sym dead)
          (stream_released a.self.now a.store.now c.requires.fits a.source (ap is_some at) c.in-Some.found at c.requires.names some);
    }

pub returns : goal.returns
returns c =
    let a = c.args in
    let d = a.self.now in
    let s = c.in-Some.found in
    let at = found a.source d (display_of c.self.inside) c.deref.result.now c.source_at.result (Some s) c.self.view_is
    c.deref.ensures.value c.source_at.ensures c.in-Some.is in
    let dead = c.kill.ensures.other (source_lives d a.store.now c.requires.fits a.source (ap is_some at)) in
    let left = c.leave_out.ensures.left ∙ ap (λ (k : DisplayState). (without_source a.source k).sources) c.self.view_is in
    let plain = display_source_destroy a.source in
    let now = c.end_name.new.store in
    subst (λ k. Does (λ _. on_display plain) d (record k { sources = c.leave_out.new.sources.items }) a.store.now now (Ok 0))
    (sym c.self.view_is)
    (subst (λ ss. Does (λ _. on_display plain) d (record d { sources = ss }) a.store.now now (Ok 0)) (sym left)
    (destroy_does d a.store.now c.requires.fits a.source (ap is_some at) s at c.requires.names now
    (c.end_name.ensures.none ∙ ap (count_of 0) dead)
    (c.end_name.ensures.rest ∙ ap but_names dead)
    (subst (λ v. Recounts (s.stream ∷ []) [] v now) dead c.end_name.ensures.names)))

pub returns-in_default : goal.returns-in_default
returns-in_default c =
    let a = c.args in
    let none = found a.source a.self.now (display_of c.self.inside) c.deref.result.now c.source_at.result None c.self.view_is
    c.deref.ensures.value c.source_at.ensures c.in_default.is in
    refuses (display_source_destroy a.source) a.self.now a.store.now c.of.result (rw none (ap Err (sym c.of.ensures))) c.requires.fits
