use Rattle.std.proofs.Common.{◌≡◌, length, sym, ap, ◌∙◌, arith, suc, slice_get}
use Rattle.std.proofs.lemmas.List.{length-map, length_push}
use Rattle.std.proofs.lemmas.Option.{slice_get_within}
use Rattle.wf_scene.specs.Elements.{new_element}
use Rattle.wf_scene.specs.Slots.{all_held, handle_held, inserted_in}
use Rattle.wf_scene.proofs.TwoLists.{above_is, inserted_once, inserted_somewhere}
use Rattle.wf_scene.proofs.UsedSlots.{inserted_held}
use Rattle.wf_scene.proofs.Walked.{found_all, found_fault, found_more, is_at, next_at, past_all}
use Rattle.wf_scene.proofs.consistency.layers_of.Goals as goal

pub index-requires : goal.index-requires
index-requires g c =
    let s = c.args.slots.now in
    let stands = sym c.loop-next.invariant.at ∙ c.in-Some.is in
    let slot = is_at _ _ _ _ (length c.loop-next.layers.items) c.in-Some.slot (new_element 0) c.requires.kept stands in
    omega (arith, slot.within, s.table.ok.0)

pub push-requires : goal.push-requires
push-requires g c =
    let s = c.args.slots.now in
    let stands = sym c.loop-next.invariant.at ∙ c.in-Some.is in
    let within = slice_get_within (inserted_in s.links) (length c.loop-next.layers.items) c.in-Some.slot stands in
    let mapped = length-map (inserted_in s.links) (handle_held s.table.items) in
    (omega arith, omega (arith, within, c.requires.room, mapped))

pub returns-in-Err-clause-fault : goal.returns-in-Err-clause-fault
returns-in-Err-clause-fault g c =
    let s = c.args.slots.now in
    let made = c.loop-next.layers.items in
    let stands = sym c.loop-next.invariant.at ∙ c.in-Some.is in
    let slot = is_at _ _ _ _ (length made) c.in-Some.slot c.index.result.now c.requires.kept stands in
    let found = found_fault (g.L.Look.sight c.args.look.now) (all_held s.table.items (inserted_in s.links)) made c.loop-next.invariant.found
    c.index.result.now c.in-Err.rule (slot.at c.index.ensures) (sym c.layer_of.ensures ∙ c.in-Err.is) in
    rw (inserted_held _ _ _ _ c.requires.kept, c.len.ensures.value) (sym found)

pub above-next-requires : goal.above-next-requires
above-next-requires g c =
    let stands = sym c.loop-next.invariant.at ∙ c.in-Some.is in
    let slot = is_at _ _ _ _ (length c.loop-next.layers.items) c.in-Some.slot c.index.result.now c.requires.kept stands in
    inserted_somewhere c.args.slots.now.links c.requires.kept.linked c.in-Some.slot slot.there

pub loop-next-smaller : goal.loop-next-smaller
loop-next-smaller g c =
    let made = c.loop-next.layers.items in
    let stands = sym c.loop-next.invariant.at ∙ c.in-Some.is in
    let within = slice_get_within (inserted_in c.args.slots.now.links) (length made) c.in-Some.slot stands in
    let pushed = ap length c.push.ensures.items ∙ length_push made c.in-Ok.layer in
    omega (arith, within, pushed)

pub loop-next-preserved : goal.loop-next-preserved
loop-next-preserved g c =
    let s = c.args.slots.now in
    let made = c.loop-next.layers.items in
    let linked = c.requires.kept.linked in
    let stands = sym c.loop-next.invariant.at ∙ c.in-Some.is in
    let slot = is_at _ _ _ _ (length made) c.in-Some.slot c.index.result.now c.requires.kept stands in
    let pushed = ap length c.push.ensures.items ∙ length_push made c.in-Ok.layer in
    let next : suc (length made) ≡ length c.push.new.self.items = omega (arith, pushed) in
    record {
      at = c.above-next.ensures.above ∙ above_is s.links linked c.in-Some.slot slot.there
          ∙ next_at (inserted_in s.links) (length made) c.in-Some.slot (inserted_once s.links linked) stands
          ∙ ap (slice_get (inserted_in s.links)) next;
      found = rw c.push.ensures.items
          (found_more (g.L.Look.sight c.args.look.now) (all_held s.table.items (inserted_in s.links)) made c.loop-next.invariant.found
          c.index.result.now c.in-Ok.layer (slot.at c.index.ensures) (sym c.layer_of.ensures ∙ c.in-Ok.is));
    }

pub returns-clause-fault : goal.returns-clause-fault
returns-clause-fault g c =
    let s = c.args.slots.now in
    let made = c.loop-next.layers.items in
    let past = past_all s.table.items (inserted_in s.links) (length made) (sym c.loop-next.invariant.at ∙ c.in_default.is) in
    let es = all_held s.table.items (inserted_in s.links) in
    let all = found_all (g.L.Look.sight c.args.look.now) es made c.loop-next.invariant.found past in
    rw (inserted_held _ _ _ _ c.requires.kept) (sym all.0)

pub returns-clause-layers : goal.returns-clause-layers
returns-clause-layers g c =
    let s = c.args.slots.now in
    let made = c.loop-next.layers.items in
    let past = past_all s.table.items (inserted_in s.links) (length made) (sym c.loop-next.invariant.at ∙ c.in_default.is) in
    let es = all_held s.table.items (inserted_in s.links) in
    let all = found_all (g.L.Look.sight c.args.look.now) es made c.loop-next.invariant.found past in
    rw (inserted_held _ _ _ _ c.requires.kept) (sym all.1)
