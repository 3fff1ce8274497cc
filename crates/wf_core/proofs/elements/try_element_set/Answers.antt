use Rattle.wf_objects.specs.Does.{stays}
use Rattle.std.proofs.Common.{rules}
use Rattle.wf_core.proofs.elements.try_element_set.Goals as goal

pub returns-in_err-place : goal.returns-in_err-place
returns-in_err-place c = stays _ c.args.objects.now c.args.store.now _ c.requires (search rules)
