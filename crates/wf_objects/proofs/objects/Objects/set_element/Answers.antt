use Rattle.std.proofs.Common.{◌≡◌, ◌∙◌, Ok, set, subst, sym, ap, refl}
use Rattle.wf_scene.specs.Cached as cached
use Rattle.wf_scene.specs.Values.{component}
use Rattle.wf_model.specs.Core.{linked}
use Rattle.wf_objects.specs.Does.{Does, unchanged, element_set, in_place}
use Rattle.wf_objects.specs.Sides.{core_side_of}
use Rattle.wf_objects.specs.Rows.{context_of}
use Rattle.wf_objects.proofs.SceneCallsKeep.{set_keeps}
use Rattle.wf_objects.proofs.Owners.{standing}
use Rattle.wf_objects.proofs.Scenes.{edits, linked_first}
use Rattle.wf_objects.proofs.MembersTellTables.{kept_in}
use Rattle.std.proofs.Common.{arith, rules}
use Rattle.std.proofs.lemmas.Grind.{common_steps}
use Rattle.wf_objects.proofs.objects.Objects.set_element.Goals as goal

pub set-requires-clause-live : goal.set-requires-clause-live
set-requires-clause-live c =
    let a = c.args in
    let at = standing _ a.self.now a.place _ (context_of c.behind-self-2.inside) c.self.view_is c.requires.within
    c.index_mut.ensures.value c.behind-self-2.view_is in
    rw at at c.requires.lives

pub invariant_of-self : goal.invariant_of-self
invariant_of-self c =
    let a = c.args in
    let x = context_of c.behind-self-2.inside in
    let at = standing _ a.self.now a.place _ x c.self.view_is c.requires.within c.index_mut.ensures.value c.behind-self-2.view_is in
    kept_in c.self.inside a.self.now a.place x _ c.self.invariant c.self.view_is at refl refl (λ few. few)

pub returns : goal.returns
returns c =
    let a = c.args in
    let core = a.self.now in
    let store = a.store.now in
    let x = context_of c.behind-self-2.inside in
    let at = standing _ core a.place _ x c.self.view_is c.requires.within c.index_mut.ensures.value c.behind-self-2.view_is in
    let y = context_of c.behind-self.inside in
    let before = standing _ core a.place _ y c.self.view_is c.requires.within c.index.ensures c.behind-self.view_is in
    let same : y ≡ x = let both = sym before ∙ at in cc in
    let link : linked a.attr a.device x.handle (component a.value 0) (core_side_of core store) ≡ Ok tt =
    sym (ap (λ y. linked a.attr a.device y.handle (component a.value 0) (core_side_of core store)) same)
    ∙ sym c.in_ok-check_link.ensures.checked in
    let call = cached.set a.element a.attr a.value in
    subst (λ k. Does (in_place a.place (element_set a.device a.element a.attr a.value)) core
    (record k { contexts = set k.contexts a.place (record x { cached = c.set.new.self }) }) store store c.edited.result)
    (sym c.self.view_is)
    (linked_first core store c.requires.fits a.place x at a.device a.element a.attr a.value _ _ link
    (edits core store c.requires.fits a.place x at call _ _ _ c.set.ensures.case
    c.set.ensures.refused (set_keeps a.element a.attr a.value x.cached) c.edited.ensures))

pub returns-in_err-check_link : goal.returns-in_err-check_link
returns-in_err-check_link c =
    let at = standing _ c.args.self.now c.args.place _ (context_of c.behind-self.inside) c.self.view_is c.requires.within c.index.ensures
    c.behind-self.view_is in
    record {
      case = rw at (grind (arith, common_steps));
      refused = search rules;
      untouched = search rules;
      kept = search rules;
      names = unchanged c.args.self.now c.args.store.now c.args.store.now refl;
      fits = search rules;
    }
