use Rattle.std.proofs.Common.{◌≡◌, of_z, rules, to_z, w64}
use Rattle.wf_objects.proofs.objects.Objects.check_link.Goals as goal

pub returns-in-Source-clause-checked : goal.returns-in-Source-clause-checked
returns-in-Source-clause-checked c =
    let number = c.first-number.result in
    let same : to_z w64 (of_z w64 number) ≡ number = search rules in
    rw (c.in-Source.is, ← c.self.view_is)
    (rw (same, c.first-number.ensures, c.deref.ensures.value, c.deref-in-Source.ensures.value) at c.may_name.ensures.checked)

pub returns-in-Mask-clause-checked : goal.returns-in-Mask-clause-checked
returns-in-Mask-clause-checked c =
    let number = c.first-number.result in
    let same : to_z w64 (of_z w64 number) ≡ number = search rules in
    rw (c.in-Mask.is, ← c.self.view_is)
    (rw (same, c.first-number.ensures, c.deref-in-Mask.ensures.value, c.deref-in-Mask-2.ensures.value) at
    c.may_name-in-Mask.ensures.checked)
