use Rattle.std.proofs.Common.{find, ℕ, ◌+◌, ◌<◌, [], not, slice_get, Some, ◌≡◌, ◌==◌, true, refl, subst, sym, arith}
use Rattle.std.specs.List.{list_any}
use Rattle.wf_words.specs.Rising.{Rises, found_at}
use Rattle.wf_life.specs.declared.Kind.TheVariants as kind
use Rattle.wf_objects.specs.Inside.{HasFewLayers, tables_of}
use Rattle.wf_objects.proofs.Lookups.{rises_contexts}
use Rattle.wf_objects.proofs.MembersTellTables.{a_device_has, bare_context, context_untracked, live_context_open, tracked_as}
use Rattle.wf_objects.proofs.ObjectsGoneStillFit.{context_dropped, context_under, dead, loses}
use Rattle.wf_life.specs.Living.{lives}
use Rattle.wf_words.specs.Each.{each_filtered}
use Rattle.wf_stream.specs.Counts.{times}
use Rattle.wf_stream.specs.Names.{Recounts}
use Rattle.wf_model.specs.Names.{context_names, core_names}
use Rattle.wf_objects.specs.Fits.{Fits}
use Rattle.wf_objects.specs.Losses.{but_context}
use Rattle.wf_stream.specs.Renames.{Renames}
use Rattle.wf_objects.proofs.NamesOfObjectsGone.{ended_fit, ended_fits, ended_loses, ended_names}
use Rattle.wf_objects.proofs.NameCounts.{context_less}
use Rattle.wf_objects.proofs.Owners.{standing}
use Rattle.wf_objects.proofs.objects.Objects.drop_bare_context.Goals as goal
use Rattle.wf_objects.proofs.objects.Objects.drop_bare_context.Goals.{After-end_context, After-index}

pub drop_handle-requires : goal.drop_handle-requires
drop_handle-requires c =
    let a = c.args in
    lives a.context kind.Context a.store.now.others (context_under a.self.now a.store.now c.requires.fits a.context c.requires.live)

pub remove-requires : goal.remove-requires
remove-requires c =
    let s = c.self.inside in
    let core = c.args.self.now in
    a_device_has s.members s.linked core (tracked_as s core c.self.invariant c.self.view_is) c.args.context c.requires.live

pub close-requires-clause-is_open : goal.close-requires-clause-is_open
close-requires-clause-is_open c =
    let s = c.self.inside in
    let core = c.args.self.now in
    live_context_open s.members s.linked core (tracked_as s core c.self.invariant c.self.view_is) c.args.context c.requires.live

pub close-requires-clause-bare : goal.close-requires-clause-bare
close-requires-clause-bare c =
    let s = c.self.inside in
    let core = c.args.self.now in
    bare_context s.members s.linked core (tracked_as s core c.self.invariant c.self.view_is) c.args.context c.requires.unlinked

pub invariant_of-self : goal.invariant_of-self
invariant_of-self c =
    let s = c.self.inside in
    let a = c.args in
    record {
      devices = c.self.invariant.devices;
      contexts = omega (arith, c.self.invariant.contexts, c.leave_out_context.ensures.capacity);
      sources = c.self.invariant.sources;
      masks = c.self.invariant.masks;
      layers = rw c.leave_out_context.ensures.left
          (each_filtered HasFewLayers (λ x. not (x.handle == a.context)) s.contexts.items c.self.invariant.layers);
      tracked = rw c.leave_out_context.ensures.left
          (context_untracked s.members s.linked (tables_of s) c.self.invariant.tracked _ _ a.context c.remove.ensures c.close.ensures
          (subst (λ k. Rises (λ x. x.handle) 0 k.contexts) (sym c.self.view_is)
          (rises_contexts a.self.now a.store.now c.requires.fits.handles))
          (subst (λ k. list_any (λ x. x.handle == a.context) k.contexts ≡ true) (sym c.self.view_is) c.requires.live));
    }

-- the context, which leaves with its names

at : (c : After-index) → slice_get c.args.self.now.contexts c.live_place-place.result ≡ Some c.index.result.now
at c = standing _ c.args.self.now c.live_place-place.result c.index.result.now c.index.result.now c.self.view_is
    c.live_place-place.ensures.within
    c.index.ensures
    refl

leaves : (c : After-index) (n : ℕ) → 0 < n
    → times n (core_names (but_context c.args.context c.args.self.now)) + times n (context_names c.index.result.now)
    ≡ times n (core_names c.args.self.now)
leaves c n some =
    let a = c.args in
    let x = c.index.result.now in
    let there = at c in
    let handle : x.handle ≡ a.context = rw there at c.live_place-place.ensures.here in
    let rises = rises_contexts a.self.now a.store.now c.requires.fits.handles in
    context_less n a.self.now a.context x rises
    (subst (λ h. find (λ y. y.handle == h) a.self.now.contexts ≡ Some x) handle
    (found_at (λ y. y.handle) 0 a.self.now.contexts c.live_place-place.result x rises there))

ended : (c : After-end_context) → Renames (context_names c.index.result.now) []
    (dead c.args.context c.args.store.now) c.end_context.new.store
ended c = subst (λ v. Renames (context_names c.index.result.now) [] v c.end_context.new.store) c.drop_handle.ensures c.end_context.ensures

pub end_context-requires : goal.end_context-requires
end_context-requires c =
    let a = c.args in
    rw c.drop_handle.ensures (ended_fit a.self.now (but_context a.context a.self.now) a.store.now (dead a.context a.store.now) refl refl
    (context_names c.index.result.now) c.requires.names (leaves (goal.at.end_context-requires c).After-index))

pub returns-clause-loses : goal.returns-clause-loses
returns-clause-loses c =
    let a = c.args in
    let u = context_under a.self.now a.store.now c.requires.fits a.context c.requires.live in
    ended_loses a.self.now (but_context a.context a.self.now) a.store.now (dead a.context a.store.now) refl refl
    (context_names c.index.result.now) c.requires.names (leaves (goal.at.returns-clause-loses c).After-index) c.end_context.new.store
    (ended (goal.at.returns-clause-loses c).After-end_context)
    (loses a.self.now a.store.now c.requires.fits.handles a.context kind.Context u refl refl)

pub returns-clause-names : goal.returns-clause-names
returns-clause-names c =
    let a = c.args in
    rw c.leave_out_context.ensures.left
    (subst (λ k. Recounts (core_names a.self.now) (core_names (but_context a.context k)) a.store.now c.end_context.new.store)
    (sym c.self.view_is) (ended_names a.self.now (but_context a.context a.self.now) a.store.now (dead a.context a.store.now) refl refl
    (context_names c.index.result.now) c.requires.names (leaves (goal.at.returns-clause-names c).After-index) c.end_context.new.store
    (ended (goal.at.returns-clause-names c).After-end_context)))

pub returns-clause-fits : goal.returns-clause-fits
returns-clause-fits c =
    let a = c.args in
    let u = context_under a.self.now a.store.now c.requires.fits a.context c.requires.live in
    rw c.leave_out_context.ensures.left
    (subst (λ k. Fits (but_context a.context k) c.end_context.new.store) (sym c.self.view_is)
    (ended_fits a.self.now (but_context a.context a.self.now) a.store.now (dead a.context a.store.now) refl refl
    (context_names c.index.result.now) c.requires.names (leaves (goal.at.returns-clause-fits c).After-index) c.end_context.new.store
    (ended (goal.at.returns-clause-fits c).After-end_context)
    (context_dropped a.self.now a.store.now c.requires.fits a.context u c.requires.bare)))
