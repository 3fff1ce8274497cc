use Rattle.std.specs.Vec.{with_items}
use Rattle.std.proofs.lemmas.List.{with_items_is}
use Rattle.std.proofs.Common.{◌≡◌, ◌∙◌, arith, ap, map, refl, sym, subst}
use Rattle.wf_stream.specs.Names.{NamesFit, Recounts}
use Rattle.wf_model.specs.Display.{begun_display, begun_pipeline}
use Rattle.wf_model.specs.Names.{display_names}
use Rattle.wf_display.specs.Display.{IsDisplay}
use Rattle.wf_display.specs.Fits.{Fits}
use Rattle.wf_display.specs.Inside.{display_of}
use Rattle.wf_display.proofs.FramesAndCommitsFit.{begun_fits, begun_holds}
use Rattle.wf_display.proofs.NameCounts.{pipelines_names}
use Rattle.wf_display.proofs.PipelineNames.{objects_renamed, pipelines_fit, renamed_fits}
use Rattle.wf_display.proofs.display.Display.begin.Goals as goal
use Rattle.wf_display.proofs.display.Display.begin.Goals.{After-self-1}

pub begin_pipelines-requires-clause-names : goal.begin_pipelines-requires-clause-names
begin_pipelines-requires-clause-names c =
    let d = display_of c.self.inside in
    subst (λ xs. NamesFit (pipelines_names xs) c.args.store.now) (sym c.deref_mut.ensures.value)
    (pipelines_fit d c.args.store.now
    (subst (λ k. NamesFit (display_names k) c.args.store.now) (sym c.self.view_is) c.requires.names))

begun : (c : After-self-1) → c.begin_pipelines.new.pipelines ≡ map (begun_pipeline c.args.port) c.self.inside.pipelines.items
begun c = c.begin_pipelines.ensures.pipelines ∙ ap (map (begun_pipeline c.args.port)) c.deref_mut.ensures.value

-- what is left
left : (c : After-self-1) → record (display_of c.self.inside) {
  pipelines =
      (with_items c.self.inside.pipelines c.begin_pipelines.new.pipelines).items;
} ≡ begun_display c.args.port (display_of c.self.inside)
left c = ap (λ xs. record (display_of c.self.inside) { pipelines = xs })
    (with_items_is c.self.inside.pipelines c.begin_pipelines.new.pipelines (omega arith) ∙ begun c)

pub invariant_of-self : goal.invariant_of-self
invariant_of-self c =
    record {
      display = subst IsDisplay (sym (left c)) (begun_holds c.args.port (display_of c.self.inside) c.self.invariant.display);
      room = c.self.invariant.room;
    }

-- the names are counted before
fit : (c : After-self-1) → NamesFit (display_names (display_of c.self.inside)) c.args.store.now
fit c = subst (λ k. NamesFit (display_names k) c.args.store.now) (sym c.self.view_is) c.requires.names

-- the names of the pipelines change
changed : (c : After-self-1) → Recounts (pipelines_names c.self.inside.pipelines.items)
    (pipelines_names (begun_display c.args.port (display_of c.self.inside)).pipelines) c.args.store.now c.begin_pipelines.new.store
changed c =
    subst (λ xs. Recounts (pipelines_names c.self.inside.pipelines.items) (pipelines_names xs) c.args.store.now
    c.begin_pipelines.new.store) (begun c)
    (subst (λ xs. Recounts (pipelines_names xs) (pipelines_names c.begin_pipelines.new.pipelines) c.args.store.now
    c.begin_pipelines.new.store) c.deref_mut.ensures.value c.begin_pipelines.ensures.names)

pub returns-clause-names : goal.returns-clause-names
returns-clause-names c =
    let a = c.args in
    let d = display_of c.self.inside in
    let v = c.begin_pipelines.new.store in
    subst (λ k. Recounts (display_names a.self.now) (display_names k) a.store.now v) (sym (left c))
    (subst (λ k. Recounts (display_names k) (display_names (begun_display a.port d)) a.store.now v) c.self.view_is
    (objects_renamed d a.store.now (fit c) (begun_display a.port d) v refl refl (changed c)))

pub returns-clause-fits : goal.returns-clause-fits
returns-clause-fits c =
    let a = c.args in
    let d = display_of c.self.inside in
    let v = c.begin_pipelines.new.store in
    subst (λ k. Fits k v) (sym (left c))
    (renamed_fits d a.store.now (fit c) (begun_display a.port d) v refl refl (changed c) c.begin_pipelines.ensures.none
    c.begin_pipelines.ensures.rest
    (begun_fits a.port d a.store.now (subst (λ k. Fits k a.store.now) (sym c.self.view_is) c.requires.fits)))
