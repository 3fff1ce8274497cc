use Rattle.std.proofs.Common.{rules, true, ◌≡◌, ◌∙◌, ◌+◌, false, length, set, subst, sym, ap, arith, Ok, refl}
use Rattle.std.specs.Prelude.{nat_le}
use Rattle.std.proofs.lemmas.Bool.{le-leb, lt-leb}
use Rattle.wf_words.specs.Each.{each_at}
use Rattle.wf_life.specs.declared.Kind.TheVariants as kind
use Rattle.wf_stream.specs.Streams.{with_other}
use Rattle.wf_scene.specs.Cached as cached
use Rattle.wf_objects.specs.Does.{Does, element_made, in_place, refuses, unchanged}
use Rattle.wf_objects.specs.Fits.{HasElements}
use Rattle.wf_objects.specs.Rows.{context_of}
use Rattle.wf_objects.proofs.CreationsFit.{element_creates, fresh}
use Rattle.wf_objects.proofs.Owners.{standing}
use Rattle.wf_objects.proofs.MembersTellTables.{kept_in}
use Rattle.std.proofs.lemmas.Grind.{common_steps}
use Rattle.wf_objects.proofs.objects.Objects.add_element.Goals as goal
use Rattle.wf_scene.specs.declared.TheConstants.{MOST_ELEMENTS}

pub add-requires-clause-fresh : goal.add-requires-clause-fresh
add-requires-clause-fresh c =
    let a = c.args in
    let x = context_of c.behind-self-3.inside in
    let at = standing _ a.self.now a.place _ x c.self.view_is c.requires.within c.index_mut.ensures.value c.behind-self-3.view_is in
    ap (λ n. cached.has_element n x.cached) c.in_ok-handle.ensures.handle
    ∙ fresh a.self.now a.store.now c.requires.fits x
    (each_at (HasElements a.store.now.others) a.self.now.contexts a.place x c.requires.fits.handles.elements at)

pub invariant_of-self : goal.invariant_of-self
invariant_of-self c =
    let a = c.args in
    let x = context_of c.behind-self-3.inside in
    let at = standing _ a.self.now a.place _ x c.self.view_is c.requires.within c.index_mut.ensures.value c.behind-self-3.view_is in
    kept_in c.self.inside a.self.now a.place x _ c.self.invariant c.self.view_is at refl refl (λ few. few)

pub returns : goal.returns
returns c =
    let a = c.args in
    let core = a.self.now in
    let store = a.store.now in
    let x = context_of c.behind-self-3.inside in
    let at = standing _ core a.place _ x c.self.view_is c.requires.within c.index_mut.ensures.value c.behind-self-3.view_is in
    let y = context_of c.behind-self.inside in
    let z = context_of c.behind-self-2.inside in
    let counted = standing _ core a.place _ y c.self.view_is c.requires.within c.index.ensures c.behind-self.view_is in
    let named = standing _ core a.place _ z c.self.view_is c.requires.within c.index-2.ensures c.behind-self-2.view_is in
    let handle : z.handle ≡ x.handle =
    (let same : z ≡ x = let both = sym named ∙ at in cc in ap (λ y. y.handle) same) in
    let same : y ≡ x = let both = sym counted ∙ at in cc in
    let below : nat_le MOST_ELEMENTS (length x.cached.elements) ≡ false = lt-leb MOST_ELEMENTS (length x.cached.elements)
    (omega (arith, c.if-count-ge-MOST_ELEMENTS.false, c.count.ensures.count, ap (λ y. length y.cached.elements) same)) in
    rw (c.in_ok-handle.ensures.made, handle, c.add.ensures.added, c.in_ok-handle.ensures.handle)
    (subst (λ k. Does (in_place a.place element_made) core
    (record k { contexts = set k.contexts a.place (record x { cached = cached.add (store.made + 1) x.cached }) }) store
    (with_other kind.Element x.handle store) (Ok (store.made + 1))) (sym c.self.view_is)
    (element_creates core store c.requires.fits a.place x at below c.in_ok-handle.ensures.stopped))

pub returns-then-count-ge-MOST_ELEMENTS : goal.returns-then-count-ge-MOST_ELEMENTS
returns-then-count-ge-MOST_ELEMENTS c =
    refuses (in_place c.args.place element_made) c.args.self.now c.args.store.now c.of.result c.requires.fits
    (let x = context_of c.behind-self.inside in
    let at = standing _ c.args.self.now c.args.place _ x c.self.view_is c.requires.within c.index.ensures c.behind-self.view_is in
    let full : nat_le MOST_ELEMENTS (length x.cached.elements) ≡ true = le-leb MOST_ELEMENTS (length x.cached.elements)
    (omega (arith, c.if-count-ge-MOST_ELEMENTS.true, c.count.ensures.count)) in
    rw (at, full, c.of.ensures) refl)

pub returns-in_err-handle : goal.returns-in_err-handle
returns-in_err-handle c =
    let x = context_of c.behind-self.inside in
    let at = standing _ c.args.self.now c.args.place _ x c.self.view_is c.requires.within c.index.ensures c.behind-self.view_is in
    let below : nat_le MOST_ELEMENTS (length x.cached.elements) ≡ false = lt-leb MOST_ELEMENTS (length x.cached.elements)
    (omega (arith, c.if-count-ge-MOST_ELEMENTS.false, c.count.ensures.count)) in
    record {
      case = rw (at, below) (grind (arith, common_steps));
      refused = search rules;
      untouched = search rules;
      kept = search rules;
      names = unchanged c.args.self.now c.args.store.now c.mint.new.store (search rules);
      fits = search rules;
    }
