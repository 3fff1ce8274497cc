use Rattle.std.proofs.Common.{◌≡◌, drop}
use Rattle.wf_scene.specs.Slots.{slot_of}
use Rattle.wf_scene.proofs.slots.Slots.slot_of.Given as goal

-- it is in none of the slots so far
abbrev pub invariant-loop-slot : goal.invariant-loop-slot
invariant-loop-slot l =
    slot_of l.self.table.items l.handle l.slot-items ≡ slot_of l.self.table.items l.handle (drop l.slot-index l.slot-items)
