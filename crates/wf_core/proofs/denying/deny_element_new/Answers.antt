use Rattle.std.proofs.Common.{true}
use Rattle.wf_words.specs.Places.{within}
use Rattle.wf_objects.specs.Does.{Step, element_made, in_owned, in_place, refuses}
use Rattle.wf_objects.specs.Sides.{core_side_of}
use Rattle.wf_core.proofs.CreationsRefused.{no_element}
use Rattle.wf_objects.specs.Does.{stays}
use Rattle.std.proofs.Common.{rules}
use Rattle.wf_core.proofs.denying.deny_element_new.Goals as goal

pub returns : goal.returns
returns c =
    let a = c.args in
    let core = a.objects.now in
    let store = a.store.now in
    let here = c.in_ok-place in
    let x = within core.contexts here.place here.ensures.within in
    let denied : Step = λ handle m y w. element_made handle true y w in
    in_owned here.place denied core core store store _
    (refuses (in_place here.place denied) core store _ c.requires
    (rw x.1 (no_element (core_side_of core store) _ x.0.handle x.0 (rw x.1 at c.deny_element.ensures))))
    a.device a.context here.ensures.found here.ensures.here

pub returns-in_err-place : goal.returns-in_err-place
returns-in_err-place c = stays _ c.args.objects.now c.args.store.now _ c.requires (search rules)
