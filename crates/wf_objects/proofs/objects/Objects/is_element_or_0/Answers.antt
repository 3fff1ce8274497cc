use Rattle.std.proofs.Common.{◌∙◌, ne_eqb}
use Rattle.wf_objects.specs.Sides.{core_side_of}
use Rattle.wf_objects.proofs.Owners.{any_element}
use Rattle.wf_objects.proofs.objects.Objects.is_element_or_0.Goals as goal

pub returns-else-handle-eq0 : goal.returns-else-handle-eq0
returns-else-handle-eq0 c =
    let a = c.args in
    c.is_some.ensures ∙ any_element a.device a.handle (core_side_of a.self.now a.store.now) c.element_in_device.result
    (ne_eqb a.handle 0 c.if-handle-eq0.false) c.element_in_device.ensures.found c.element_in_device.ensures.within
