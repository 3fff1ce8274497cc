use Rattle.std.proofs.Common.{◌∙◌, sym, ap, Err}
use Rattle.wf_objects.proofs.Lookups.{dead_device, some_device}
use Rattle.wf_objects.proofs.objects.Objects.check_device.Goals as goal

pub returns-in-Some : goal.returns-in-Some
returns-in-Some c =
    let a = c.args in
    sym (some_device a.self.now a.store.now c.requires.handles a.device c.in-Some.field-0 (sym c.key_of.ensures ∙ c.in-Some.is))

pub returns-in-None : goal.returns-in-None
returns-in-None c =
    let a = c.args in
    ap Err c.of.ensures ∙ sym (dead_device a.self.now a.store.now c.requires.handles a.device (sym c.key_of.ensures ∙ c.in-None.is))
