use Rattle.std.proofs.Common.{set, subst, sym, refl}
use Rattle.wf_scene.specs.Cached as cached
use Rattle.wf_objects.specs.Does.{Does, in_place, scene_set}
use Rattle.wf_objects.specs.Rows.{context_of}
use Rattle.wf_objects.proofs.SceneCallsKeep.{remove_keeps}
use Rattle.wf_objects.proofs.Owners.{standing}
use Rattle.wf_objects.proofs.Scenes.{edits}
use Rattle.wf_objects.proofs.MembersTellTables.{kept_in}
use Rattle.wf_objects.proofs.objects.Objects.remove_element.Goals as goal

pub remove-requires : goal.remove-requires
remove-requires c =
    let a = c.args in
    let at = standing _ a.self.now a.place _ (context_of c.behind-self.inside) c.self.view_is c.requires.within
    c.index_mut.ensures.value c.behind-self.view_is in
    rw at at c.requires.lives

pub invariant_of-self : goal.invariant_of-self
invariant_of-self c =
    let a = c.args in
    let x = context_of c.behind-self.inside in
    let at = standing _ a.self.now a.place _ x c.self.view_is c.requires.within c.index_mut.ensures.value c.behind-self.view_is in
    kept_in c.self.inside a.self.now a.place x _ c.self.invariant c.self.view_is at refl refl (λ few. few)

pub returns : goal.returns
returns c =
    let a = c.args in
    let x = context_of c.behind-self.inside in
    let at = standing _ a.self.now a.place _ x c.self.view_is c.requires.within c.index_mut.ensures.value c.behind-self.view_is in
    let call = cached.remove a.element in
    subst (λ k. Does (in_place a.place (scene_set call)) a.self.now
    (record k { contexts = set k.contexts a.place (record x { cached = c.remove.new.self }) }) a.store.now a.store.now c.edited.result)
    (sym c.self.view_is)
    (edits a.self.now a.store.now c.requires.fits a.place x at call _ _ _ c.remove.ensures.case
    c.remove.ensures.refused (remove_keeps a.element x.cached) c.edited.ensures)
