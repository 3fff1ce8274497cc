use Rattle.std.proofs.Common.{true}
use Rattle.wf_model.specs.Core.{device_new}
use Rattle.wf_objects.specs.Does.{refuses}
use Rattle.wf_objects.specs.Sides.{core_side_of}
use Rattle.wf_core.proofs.CreationsRefused.{no_device}
use Rattle.wf_core.proofs.denying.deny_device_new.Goals as goal

pub returns : goal.returns
returns c =
    let a = c.args in
    refuses (λ _. device_new true) a.objects.now a.store.now c.deny_device.result c.requires
    (no_device (core_side_of a.objects.now a.store.now) c.deny_device.result c.deny_device.ensures)
