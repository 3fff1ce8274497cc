use Rattle.wf_objects.specs.Does.{stays}
use Rattle.std.proofs.Common.{rules}
use Rattle.wf_core.proofs.devices.try_device_destroy.Goals as goal

pub returns-in_err-check_device : goal.returns-in_err-check_device
returns-in_err-check_device c = stays _ c.args.objects.now c.args.store.now _ c.requires.fits (search rules)
