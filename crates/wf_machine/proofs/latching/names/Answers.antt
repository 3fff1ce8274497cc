use Rattle.wf_machine.proofs.Common.{◌∙◌, ◌==◌, ◌||◌, ap, list_any}
use Rattle.wf_machine.proofs.NamesInScene.{scene_names}
use Rattle.wf_machine.proofs.latching.names.Goals as goal

pub returns : goal.returns
returns c = c.any_names.ensures ∙ ap (list_any (λ l. (l.stream == c.args.number) || (l.mask == c.args.number)))
    c.as_slice.ensures.value ∙ scene_names _ c.args.scene.now.layers.items
