use Rattle.wf_objects.specs.Does.{stays}
use Rattle.std.proofs.Common.{rules}
use Rattle.wf_core.proofs.sources.try_link_destroy.Goals as goal

pub returns-in_err-check_link_owned : goal.returns-in_err-check_link_owned
returns-in_err-check_link_owned c = stays _ c.args.objects.now c.args.store.now _ c.requires.fits (search rules)
