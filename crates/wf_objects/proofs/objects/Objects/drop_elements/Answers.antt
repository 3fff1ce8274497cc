use Rattle.std.proofs.Common.{◌≡◌, ◌∙◌, ◌==◌, eq-eqb, slice_get, Some, is_some, sym, ap}
use Rattle.wf_scene.specs.Cached.{forget}
use Rattle.wf_model.specs.Composition.{change_context, with_cached}
use Rattle.wf_objects.specs.Rows.{context_of}
use Rattle.wf_objects.proofs.ObjectsGoneStillFit.{then_lost}
use Rattle.wf_words.specs.Found.{any_at, any_found}
use Rattle.wf_objects.proofs.Owners.{standing}
use Rattle.wf_objects.proofs.ObjectsLoseTheirs.{element_first, element_none, emptied, fewer_elements, others_stay, still_stands}
use Rattle.wf_model.specs.Names.{core_names}
use Rattle.wf_stream.specs.Renames.{then_named}
use Rattle.std.proofs.Common.{refl}
use Rattle.wf_objects.specs.Does.{unchanged}
use Rattle.wf_objects.proofs.ObjectsLoseTheirs.{stands}
use Rattle.wf_objects.proofs.objects.Objects.drop_elements.Goals as goal
use Rattle.wf_objects.proofs.objects.Objects.drop_elements.Goals.{After-drop_element, After-first}

-- the context at the place
at : (c : After-first) → slice_get c.loop-element.self.contexts c.args.place ≡ Some (context_of c.behind-self.inside)
at c = standing _ c.loop-element.self _ _ (context_of c.behind-self.inside) c.self.view_is c.loop-element.invariant.here.within
    c.index.ensures c.behind-self.view_is

-- it is the one that loses its elements
handle : (c : After-first) → (context_of c.behind-self.inside).handle ≡ c.args.context
handle c = let s = c.loop-element.invariant.here in
    let same : (context_of c.behind-self.inside) ≡ s.context = let both = sym (at c) ∙ s.at in cc in
    ap (λ x. x.handle) same ∙ s.handle_is

pub drop_element-requires-clause-lives : goal.drop_element-requires-clause-lives
drop_element-requires-clause-lives c =
    let es = (context_of c.behind-self.inside).cached.elements in
    let there = at (goal.at.drop_element-requires-clause-lives c).After-first in
    let x = element_first c.in-Some.element es (sym c.in-Some.is ∙ c.first.ensures.first) in
    rw there (any_found (λ y. y.handle == c.in-Some.element) es ∙ ap is_some x.1)

-- what is left of the objects
left : (c : After-drop_element) (there : slice_get c.loop-element.self.contexts c.args.place ≡ Some (context_of c.behind-self.inside))
    → c.drop_element.new.self ≡ change_context (context_of c.behind-self.inside).handle
    (with_cached (forget c.in-Some.element (context_of c.behind-self.inside).cached))
    c.loop-element.self
left c there = rw there at c.drop_element.ensures.dropped

pub loop-element-smaller : goal.loop-element-smaller
loop-element-smaller c =
    let l = c.loop-element in
    let k = (goal.at.loop-element-smaller c).After-first in
    fewer_elements l.self l.store l.invariant.fits _ _ (context_of c.behind-self.inside) (at k) (handle k)
    c.in-Some.element
    c.drop_element.new.self (left (goal.at.loop-element-smaller c).After-drop_element (at k))
    (sym c.in-Some.is ∙ c.first.ensures.first)

pub loop-element-preserved : goal.loop-element-preserved
loop-element-preserved c =
    let l = c.loop-element in
    let k = (goal.at.loop-element-preserved c).After-first in
    let is = left (goal.at.loop-element-preserved c).After-drop_element (at k) in
    record {
      fits = c.drop_element.ensures.fits;
      names = then_named c.args.store.now l.store c.drop_element.new.store (core_names c.args.self.now) (core_names l.self)
          (core_names c.drop_element.new.self) c.requires.names.counted l.invariant.names c.drop_element.ensures.names;
      loses = then_lost _ l.store _ l.invariant.loses c.drop_element.ensures.loses;
      rest = others_stay l.self l.store l.invariant.fits _ _ (context_of c.behind-self.inside) (at k) (handle k)
          c.in-Some.element
          c.drop_element.new.self is ∙ l.invariant.rest;
      here = still_stands l.self l.store l.invariant.fits _ _ (context_of c.behind-self.inside) (at k) (handle k)
          c.in-Some.element
          c.drop_element.new.self is l.invariant.here.within;
    }

pub returns-clause-live : goal.returns-clause-live
returns-clause-live c =
    let s = c.loop-element.invariant.here in
    any_at (λ x. x.handle == c.args.context) c.loop-element.self.contexts _ s.context s.at
    (eq-eqb s.context.handle _ s.handle_is)

pub returns-clause-bare : goal.returns-clause-bare
returns-clause-bare c =
    let l = c.loop-element in
    let k = (goal.at.returns-clause-bare c).After-first in
    emptied l.self l.store l.invariant.fits _ _ (context_of c.behind-self.inside) (at k) (handle k)
    (element_none (context_of c.behind-self.inside).cached.elements (sym c.in_default.is ∙ c.first.ensures.first))

pub loop-element-init : goal.loop-element-init
loop-element-init c =
    record {
      fits = c.requires.fits;
      loses = record { rest = refl; others = refl; display = refl };
      names = unchanged c.args.self.now c.args.store.now c.args.store.now refl;
      rest = refl;
      here = stands c.args.context c.args.place c.args.self.now.contexts c.requires.within c.requires.here;
    }
