use Rattle.std.proofs.Common.{set, subst, sym, Ok, refl}
use Rattle.wf_model.specs.Core.{with_active}
use Rattle.wf_objects.specs.Does.{Does, changed, in_place}
use Rattle.wf_objects.specs.Rows.{context_of}
use Rattle.wf_objects.proofs.Owners.{standing}
use Rattle.wf_objects.proofs.Scenes.{activates}
use Rattle.wf_objects.proofs.MembersTellTables.{kept_in}
use Rattle.wf_objects.proofs.objects.Objects.set_active.Goals as goal

pub invariant_of-self : goal.invariant_of-self
invariant_of-self c =
    let a = c.args in
    let x = context_of c.behind-self.inside in
    let at = standing _ a.self.now a.place _ x c.self.view_is c.requires.within c.index_mut.ensures.value c.behind-self.view_is in
    kept_in c.self.inside a.self.now a.place x _ c.self.invariant c.self.view_is at refl refl (λ few. few)

pub returns : goal.returns
returns c =
    let a = c.args in
    let x = context_of c.behind-self.inside in
    let at = standing _ a.self.now a.place _ x c.self.view_is c.requires.within c.index_mut.ensures.value c.behind-self.view_is in
    subst (λ k. Does (in_place a.place (changed (with_active a.active))) a.self.now
    (record k { contexts = set k.contexts a.place (record x { active = a.active }) }) a.store.now a.store.now (Ok 0)) (sym c.self.view_is)
    (activates a.self.now a.store.now c.requires.fits a.place x at a.active)
