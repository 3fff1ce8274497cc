use Rattle.std.proofs.Common.{◌∙◌, ap, sym, is_some}
use Rattle.wf_scene.specs.Slots.{inserted_in}
use Rattle.wf_scene.proofs.Held.{named_found}
use Rattle.wf_scene.proofs.slots.Slots.is_inserted.Goals as goal

pub returns : goal.returns
returns c =
    let k = c.args.self.now in
    c.is_some.ensures ∙ ap is_some c.inserted_slot.ensures ∙ sym (named_found k.table.items c.args.handle (inserted_in k.links))
