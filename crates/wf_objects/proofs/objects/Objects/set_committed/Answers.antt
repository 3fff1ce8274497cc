use Rattle.std.proofs.Common.{◌≡◌, ◌∙◌, [], flat_map, slice_get, Some, set, subst, sym, Ok, refl}
use Rattle.wf_model.specs.Core.{with_committed}
use Rattle.wf_words.specs.Places.{within}
use Rattle.wf_model.specs.Names.{layer_names}
use Rattle.wf_objects.specs.Fits.{ContextFits}
use Rattle.wf_stream.specs.Renames.{Renames}
use Rattle.wf_objects.specs.Does.{Does, changed, in_place}
use Rattle.wf_objects.specs.Rows.{context_of}
use Rattle.wf_objects.proofs.Owners.{standing}
use Rattle.wf_objects.proofs.Scenes.{committed_fit, commits}
use Rattle.wf_objects.proofs.MembersTellTables.{kept_in}
use Rattle.wf_objects.proofs.objects.Objects.set_committed.Goals as goal
use Rattle.wf_objects.proofs.objects.Objects.set_committed.Goals.{After-as_slice-2, After-begin_layers}

pub begin_layers-requires-clause-fit : goal.begin_layers-requires-clause-fit
begin_layers-requires-clause-fit c =
    let a = c.args in
    let x = within a.self.now.contexts a.place c.requires.within in
    let fit : ContextFits a.store.now.streams (with_committed a.scene x.0) = rw x.1 at c.requires.scene_fits in
    rw c.as_slice.ensures.value fit.layers

-- the names of the new scene began
begun : (c : After-begin_layers) → Renames [] (flat_map layer_names c.args.scene.layers.items) c.args.store.now c.begin_layers.new.store
begun c = rw c.as_slice.ensures.value at c.begin_layers.ensures.begins

-- the context at the place
at : (c : After-as_slice-2) → slice_get c.args.self.now.contexts c.args.place ≡ Some (context_of c.behind-self.inside)
at c = standing _ c.args.self.now c.args.place _ (context_of c.behind-self.inside) c.self.view_is c.requires.within
    c.index.ensures
    c.behind-self.view_is

pub end_layers-requires : goal.end_layers-requires
end_layers-requires c =
    let a = c.args in
    rw c.as_slice-2.ensures.value (committed_fit a.self.now a.store.now c.requires.fits a.place (context_of c.behind-self.inside)
    (at (goal.at.end_layers-requires c).After-as_slice-2) (flat_map layer_names a.scene.layers.items) c.begin_layers.new.store
    c.requires.names (begun (goal.at.end_layers-requires c).After-begin_layers))

pub invariant_of-self : goal.invariant_of-self
invariant_of-self c =
    let a = c.args in
    let x = context_of c.behind-self-2.inside in
    let there = standing _ a.self.now a.place _ x c.self.view_is c.requires.within c.index_mut.ensures.value c.behind-self-2.view_is in
    kept_in c.self.inside a.self.now a.place x _ c.self.invariant c.self.view_is there refl refl
    (λ few. rw c.as_slice.ensures.value at c.as_slice.ensures.fits)

pub returns : goal.returns
returns c =
    let a = c.args in
    let y = context_of c.behind-self.inside in
    let before = at (goal.at.returns c).After-as_slice-2 in
    let x = context_of c.behind-self-2.inside in
    let there = standing _ a.self.now a.place _ x c.self.view_is c.requires.within c.index_mut.ensures.value c.behind-self-2.view_is in
    let same : y ≡ x = let both = sym before ∙ there in cc in
    let ends : Renames (flat_map layer_names y.committed.layers.items) [] c.begin_layers.new.store c.end_layers.new.store =
    rw c.as_slice-2.ensures.value at c.end_layers.ensures in
    subst (λ k. Does (in_place a.place (changed (with_committed a.scene))) a.self.now
    (record k { contexts = set k.contexts a.place (record x { committed = a.scene }) }) a.store.now c.end_layers.new.store (Ok 0))
    (sym c.self.view_is)
    (commits a.self.now a.store.now c.requires.fits a.place x there a.scene c.begin_layers.new.store c.end_layers.new.store
    c.requires.names (rw there at c.requires.scene_fits) (begun (goal.at.returns c).After-begin_layers)
    (subst (λ z. Renames (flat_map layer_names z.committed.layers.items) [] c.begin_layers.new.store c.end_layers.new.store) same ends))
