use Rattle.wf_objects.specs.Does.{stays}
use Rattle.std.proofs.Common.{rules}
use Rattle.std.proofs.Common.{◌≡◌, ◌∙◌, Err, false, not, refl, sym}
use Rattle.wf_words.specs.Places.{within}
use Rattle.wf_words.specs.Refusals.{◌>>=◌}
use Rattle.wf_scene.specs.Cached as cached
use Rattle.wf_calls.specs.declared.code.Code.TheVariants as code
use Rattle.wf_model.specs.Core.{is_element_or_0}
use Rattle.wf_model.specs.Outcome.{refuse}
use Rattle.wf_objects.specs.Does.{Step, in_owner, in_place, refuses, scene_set}
use Rattle.wf_objects.specs.Sides.{core_side_of}
use Rattle.wf_core.proofs.elements.try_element_insert.Goals as goal

pub returns-in_err-place : goal.returns-in_err-place
returns-in_err-place c = stays _ c.args.objects.now c.args.store.now _ c.requires (search rules)

pub returns-then-not-is_element_or_0 : goal.returns-then-not-is_element_or_0
returns-then-not-is_element_or_0 c =
    let a = c.args in
    let core = a.objects.now in
    let store = a.store.now in
    let here = c.in_ok-place in
    let x = within core.contexts here.place here.ensures.within in
    let other : is_element_or_0 a.device a.below (core_side_of core store) ≡ false =
    sym c.is_element_or_0.ensures ∙ c.if-not-is_element_or_0.true in
    let inserts : Step =
    λ handle m y w. refuse code.BadHandle (not (is_element_or_0 a.device a.below w)) >>=
    (λ _. scene_set (cached.insert a.element a.below) handle m y w) in
    in_owner here.place inserts core core store store (Err c.of.result)
    (refuses (in_place here.place inserts) core store c.of.result c.requires (rw (x.1, other, c.of.ensures) refl))
    a.device a.element here.ensures.found
