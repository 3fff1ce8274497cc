use Rattle.std.proofs.Common.{◌≡◌, ◌<◌, false, length, refl, ◌∙◌, ap, sym, arith, set}
use Rattle.wf_words.specs.Keyed.{is_in}
use Rattle.wf_scene.specs.Elements.{new_element}
use Rattle.wf_scene.specs.Cached.{handles}
use Rattle.wf_scene.specs.Slots.{handles_held, inserted_in}
use Rattle.wf_scene.proofs.Held.{handles_all, held_more, live_found, named_found, others_held}
use Rattle.wf_scene.proofs.StayKept.{kept_added}
use Rattle.wf_scene.proofs.TwoLists.{not_inserted}
use Rattle.wf_scene.proofs.slots.Slots.add.Goals as goal

pub returns-clause-elements : goal.returns-clause-elements
returns-clause-elements c =
    let k = c.args.self.now in
    let slot = c.take_free-slot.result in
    let within : slot < length k.table.items = omega (arith, c.requires.kept.slots, c.take_free-slot.ensures.within) in
    rw (c.push.ensures.items, c.new.ensures)
    (held_more k.table.items slot (new_element c.args.handle) k.used.items within (c.requires.kept.free slot c.take_free-slot.ensures.free))

pub returns-clause-order : goal.returns-clause-order
returns-clause-order c =
    let k = c.args.self.now in
    let slot = c.take_free-slot.result in
    let out = not_inserted k.links c.requires.kept.linked slot c.take_free-slot.ensures.free in
    let same = others_held k.table.items slot c.new.result (inserted_in k.links) out in
    rw c.take_free-slot.ensures.left
    (sym (handles_all (set k.table.items slot c.new.result) (inserted_in k.links))
    ∙ ap handles same ∙ handles_all k.table.items (inserted_in k.links))

pub returns-clause-kept : goal.returns-clause-kept
returns-clause-kept c =
    let k = c.args.self.now in
    let h = c.args.handle in
    let fresh : is_in c.new.result.handle (handles_held k.table.items k.used.items) ≡ false =
    rw c.new.ensures
    (named_found k.table.items h k.used.items ∙ sym (live_found k.table.items h k.used.items) ∙ c.requires.fresh) in
    kept_added _ _ _ _ c.requires.kept c.take_free-slot.result c.new.result _ _ _ c.take_free-slot.ensures.free
    c.take_free-slot.ensures.linked c.take_free-slot.ensures.left refl c.push.ensures.items fresh
