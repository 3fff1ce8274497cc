use Rattle.std.specs.Vec.{with_items}
use Rattle.std.proofs.lemmas.List.{with_items_is}
use Rattle.std.proofs.Common.{◌≡◌, ◌∙◌, ◌++◌, arith, None, ap, refl, sym, subst}
use Rattle.wf_stream.specs.Names.{NamesFit, Recounts}
use Rattle.wf_model.specs.DisplayCommits.{committed, fault_from}
use Rattle.wf_model.specs.Names.{display_names}
use Rattle.wf_model.specs.Numbered.{each_from}
use Rattle.wf_display.specs.Display.{IsDisplay}
use Rattle.wf_display.specs.Fits.{Fits}
use Rattle.wf_display.specs.Inside.{display_of}
use Rattle.wf_display.proofs.FramesAndCommitsFit.{as_many_given, committed_display, committed_fits, pipeline_after, port_after}
use Rattle.wf_display.proofs.NameCounts.{pipelines_names, source_names}
use Rattle.wf_display.proofs.PipelineNames.{objects_renamed, renamed_fits, shown_fit}
use Rattle.wf_display.proofs.display.Display.take.Goals as goal
use Rattle.wf_display.proofs.display.Display.take.Goals.{After-self-2-1}

pub commit_pipelines-requires-clause-names : goal.commit_pipelines-requires-clause-names
commit_pipelines-requires-clause-names c =
    let d = display_of c.self.inside in
    let fit = subst (λ k. NamesFit (display_names k) c.args.store.now) (sym c.self.view_is) c.requires.names in
    subst (λ ss. NamesFit (source_names ss ++ pipelines_names c.deref_mut-2.result.now) c.args.store.now) (sym c.deref.ensures.value)
    (subst (λ xs. NamesFit (source_names d.sources ++ pipelines_names xs) c.args.store.now) (sym c.deref_mut-2.ensures.value)
    (shown_fit d c.args.store.now fit))

ports : (c : After-self-2-1) → (with_items c.self.inside.ports c.commit_ports.new.ports).items
    ≡ each_from (port_after c.args.extent) 1 c.self.inside.ports.items
ports c = with_items_is c.self.inside.ports c.commit_ports.new.ports (omega arith) ∙ c.commit_ports.ensures
    ∙ ap (each_from (port_after c.args.extent) 1) c.deref_mut.ensures.value

taken : (c : After-self-2-1) → c.commit_pipelines.new.pipelines
    ≡ each_from (pipeline_after c.args.extent c.self.inside.sources.items) 1 c.self.inside.pipelines.items
taken c =
    c.commit_pipelines.ensures.pipelines
    ∙ ap (λ ss. each_from (pipeline_after c.args.extent ss) 1 c.deref_mut-2.result.now) c.deref.ensures.value
    ∙ ap (each_from (pipeline_after c.args.extent c.self.inside.sources.items) 1) c.deref_mut-2.ensures.value

-- what is left
left : (c : After-self-2-1) → record (display_of c.self.inside) {
  ports = (with_items c.self.inside.ports c.commit_ports.new.ports).items;
  pipelines =
      (with_items c.self.inside.pipelines c.commit_pipelines.new.pipelines).items;
} ≡ committed c.args.extent (display_of c.self.inside)
left c =
    let d = display_of c.self.inside in
    ap (λ ps. record d { ports = ps; pipelines = (with_items c.self.inside.pipelines c.commit_pipelines.new.pipelines).items }) (ports c)
    ∙ ap (λ xs. record d { ports = (committed c.args.extent d).ports; pipelines = xs })
    (with_items_is c.self.inside.pipelines c.commit_pipelines.new.pipelines (omega arith) ∙ taken c)

pub invariant_of-self : goal.invariant_of-self
invariant_of-self c =
    record {
      display = subst IsDisplay (sym (left c)) (committed_display c.args.extent (display_of c.self.inside) c.self.invariant.display);
      room = c.self.invariant.room;
    }

-- the names are counted before
fit : (c : After-self-2-1) → NamesFit (display_names (display_of c.self.inside)) c.args.store.now
fit c = subst (λ k. NamesFit (display_names k) c.args.store.now) (sym c.self.view_is) c.requires.names

-- the names of the pipelines change
changed : (c : After-self-2-1) → Recounts (pipelines_names c.self.inside.pipelines.items)
    (pipelines_names (committed c.args.extent (display_of c.self.inside)).pipelines) c.args.store.now c.commit_pipelines.new.store
changed c =
    subst (λ xs. Recounts (pipelines_names c.self.inside.pipelines.items) (pipelines_names xs) c.args.store.now
    c.commit_pipelines.new.store) (taken c)
    (subst (λ xs. Recounts (pipelines_names xs) (pipelines_names c.commit_pipelines.new.pipelines) c.args.store.now
    c.commit_pipelines.new.store) c.deref_mut-2.ensures.value c.commit_pipelines.ensures.names)

pub returns-clause-names : goal.returns-clause-names
returns-clause-names c =
    let a = c.args in
    let d = display_of c.self.inside in
    let v = c.commit_pipelines.new.store in
    let ports = as_many_given (port_after a.extent) 1 d.ports in
    subst (λ k. Recounts (display_names a.self.now) (display_names k) a.store.now v) (sym (left c))
    (subst (λ k. Recounts (display_names k) (display_names (committed a.extent d)) a.store.now v) c.self.view_is
    (objects_renamed d a.store.now (fit c) (committed a.extent d) v ports refl (changed c)))

pub returns-clause-fits : goal.returns-clause-fits
returns-clause-fits c =
    let a = c.args in
    let d = display_of c.self.inside in
    let v = c.commit_pipelines.new.store in
    let fits = subst (λ k. Fits k a.store.now) (sym c.self.view_is) c.requires.fits in
    let none = subst (λ k. fault_from a.extent a.store.now.streams k.sources 1 k.pipelines ≡ None) (sym c.self.view_is) c.requires.sound in
    let ports = as_many_given (port_after a.extent) 1 d.ports in
    subst (λ k. Fits k v) (sym (left c))
    (renamed_fits d a.store.now (fit c) (committed a.extent d) v ports refl (changed c) c.commit_pipelines.ensures.none
    c.commit_pipelines.ensures.rest (committed_fits a.extent d a.store.now c.self.invariant.display fits none))
