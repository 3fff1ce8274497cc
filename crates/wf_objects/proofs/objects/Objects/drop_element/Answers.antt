use Rattle.std.proofs.Common.{◌≡◌, ◌∙◌, refl, sym, slice_get, Some, true}
use Rattle.wf_life.specs.declared.Kind.TheVariants as kind
use Rattle.wf_scene.specs.Cached.{forget, has_element}
use Rattle.wf_model.specs.Composition.{with_cached}
use Rattle.std.proofs.Common.{ap, subst}
use Rattle.wf_stream.specs.Counts.{times}
use Rattle.wf_stream.specs.Names.{Recounts}
use Rattle.wf_model.specs.Composition.{change_context}
use Rattle.wf_model.specs.Names.{core_names}
use Rattle.wf_stream.specs.Renames.{names_stay}
use Rattle.wf_objects.proofs.NameCounts.{changed_names}
use Rattle.wf_objects.specs.Rows.{context_of}
use Rattle.wf_objects.proofs.ObjectsGoneStillFit.{InContext, dead, element_dropped, element_under, loses}
use Rattle.wf_life.specs.Living.{lives}
use Rattle.wf_objects.proofs.Owners.{standing}
use Rattle.wf_words.specs.Places.{within}
use Rattle.wf_objects.proofs.Scenes.{placed_is}
use Rattle.wf_objects.proofs.MembersTellTables.{kept_in}
use Rattle.std.proofs.Common.{set}
use Rattle.wf_objects.proofs.objects.Objects.drop_element.Goals as goal
use Rattle.wf_objects.proofs.objects.Objects.drop_element.Goals.{After-forget}

pub drop_handle-requires : goal.drop_handle-requires
drop_handle-requires c =
    let a = c.args in
    let x = within a.self.now.contexts a.place c.requires.within in
    let has = rw x.1 at c.requires.lives in
    lives a.element kind.Element a.store.now.others (element_under a.self.now a.store.now c.requires.fits a.element a.place x.0 x.1 has).0

pub forget-requires : goal.forget-requires
forget-requires c =
    let at = standing _ _ _ _ (context_of c.behind-self.inside) c.self.view_is c.requires.within
    c.index_mut.ensures.value c.behind-self.view_is in
    rw at at c.requires.lives

-- the context at the place
at : (c : After-forget) → slice_get c.args.self.now.contexts c.args.place ≡ Some (context_of c.behind-self.inside)
at c = standing _ _ _ _ (context_of c.behind-self.inside) c.self.view_is c.requires.within
    c.index_mut.ensures.value
    c.behind-self.view_is

under : (c : After-forget)
    → InContext c.args.self.now c.args.store.now c.requires.fits c.args.element c.args.place (context_of c.behind-self.inside) (at c)
under c =
    let a = c.args in
    let has : has_element a.element c.behind-self.inside.cached ≡ true = (let there = at c in rw there at c.requires.lives) in
    element_under a.self.now a.store.now c.requires.fits a.element a.place (context_of c.behind-self.inside) (at c) has

pub invariant_of-self : goal.invariant_of-self
invariant_of-self c =
    let a = c.args in
    let x = context_of c.behind-self.inside in
    let at = standing _ a.self.now a.place _ x c.self.view_is c.requires.within c.index_mut.ensures.value c.behind-self.view_is in
    kept_in c.self.inside a.self.now a.place x _ c.self.invariant c.self.view_is at refl refl (λ few. few)

pub returns-clause-dropped : goal.returns-clause-dropped
returns-clause-dropped c =
    let a = c.args in
    let x = context_of c.behind-self.inside in
    let there = at (goal.at.returns-clause-dropped c).After-forget in
    rw (there, c.forget.ensures.forgotten) (rw (← c.self.view_is) refl
    ∙ sym (placed_is a.self.now a.store.now c.requires.fits a.place x there (with_cached (forget a.element x.cached))))

pub returns-clause-loses : goal.returns-clause-loses
returns-clause-loses c =
    let a = c.args in
    let u = under (goal.at.returns-clause-loses c).After-forget in
    rw c.drop_handle.ensures (loses a.self.now a.store.now c.requires.fits.handles a.element kind.Element u.0 refl refl)

pub returns-clause-fits : goal.returns-clause-fits
returns-clause-fits c =
    let a = c.args in
    let k = (goal.at.returns-clause-fits c).After-forget in
    rw (c.drop_handle.ensures, c.forget.ensures.forgotten)
    (rw (← c.self.view_is) at (element_dropped a.self.now a.store.now c.requires.fits a.element a.place (context_of c.behind-self.inside)
    (at k) (under k)))

pub returns-clause-names : goal.returns-clause-names
returns-clause-names c =
    let a = c.args in
    let x = context_of c.behind-self.inside in
    let core = a.self.now in
    let now = dead a.element a.store.now in
    let change = with_cached (forget a.element x.cached) in
    let named = changed_names x.handle change core (λ y. refl) in
    rw (c.drop_handle.ensures, c.forget.ensures.forgotten)
    (subst (λ k. Recounts (core_names core) (core_names (record k { contexts = set k.contexts a.place (change x) })) a.store.now now)
    (sym c.self.view_is) (subst (λ k. Recounts (core_names core) (core_names k) a.store.now now)
    (placed_is core a.store.now c.requires.fits a.place x (at (goal.at.returns-clause-names c).After-forget) change)
    (names_stay (core_names core) (core_names (change_context x.handle change core)) a.store.now now refl refl
    (λ n some. ap (times n) (sym named)))))
