use Rattle.std.proofs.Common.{◌∙◌, ap, sym, is_some}
use Rattle.wf_scene.proofs.Held.{live_found}
use Rattle.wf_scene.proofs.slots.Slots.has.Goals as goal

pub returns : goal.returns
returns c =
    let k = c.args.self.now in
    c.is_some.ensures ∙ ap is_some c.slot_of.ensures ∙ sym (live_found k.table.items c.args.handle k.used.items)
