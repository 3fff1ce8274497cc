use Rattle.wf_machine.proofs.Common.{Err, refl, ap, ◌∙◌, acquired, bare, refusal, refused}
use Rattle.wf_machine.proofs.Common.{acquirable, acquire_step, canvas_of, has_number, state_of, with_stream}
use Rattle.wf_calls.specs.declared.code.Code.TheVariants as code
use Rattle.wf_calls.specs.Replies.{gives_canvas, with_canvas}
use Rattle.wf_machine.proofs.BufferCalls.{busy, canvas_is, found, given, no_buffer}
use Rattle.wf_machine.proofs.Counts.{room, same_settled, seen_settled, sound_settles}
use Rattle.wf_machine.proofs.StreamNames.{acquired_counted, acquired_kept, acquired_room, acquired_seen, sound_acquired}
use Rattle.wf_machine.proofs.StreamCallsKeepInvariant.{leaves_so, stays}
use Rattle.wf_machine.proofs.parts.Parts.acquire.Goals as goal

pub returns-in_default-clause-settled : goal.returns-in_default-clause-settled
returns-in_default-clause-settled c = seen_settled c.self.inside _ c.self.view_is c.self.invariant

pub acquire-requires : goal.acquire-requires
acquire-requires c =
    let streams = c.self.inside.store.streams in
    let s = found _ c.in-Ok.number c.self.inside.store.numbered streams c.self.invariant.holds.numbered c.in-Ok.ensures.number in
    rw s.2 refl

pub returns-in-Err-Busy-clause-acquired : goal.returns-in-Err-Busy-clause-acquired
returns-in-Err-Busy-clause-acquired c =
    let inside = c.self.inside in
    let s = found _ c.in-Ok.number inside.store.numbered inside.store.streams c.self.invariant.holds.numbered
    c.in-Ok.ensures.number in
    let out = c.in-Err-Busy.ensures.busy (ap (λ e. Err e) c.in-Err-Busy.field-0-is) s.0 s.2 in
    stays inside _ c.self.view_is (λ t r. acquire_step t (acquirable c.args.stream t))
    c.acquire.new.self _ (bare (refused (refusal code.Busy))) c.in-Err-Busy.ensures.refused
    c.refused-in-Err-Busy.ensures (busy _ _ s.0 s.1 out)

pub returns-in-Err-Busy-clause-settled : goal.returns-in-Err-Busy-clause-settled
returns-in-Err-Busy-clause-settled c = same_settled c.self.inside _ c.in-Err-Busy.ensures.refused c.self.invariant

pub returns-in-Err-NoBuffer-clause-acquired : goal.returns-in-Err-NoBuffer-clause-acquired
returns-in-Err-NoBuffer-clause-acquired c =
    let inside = c.self.inside in
    let s = found _ c.in-Ok.number inside.store.numbered inside.store.streams c.self.invariant.holds.numbered
    c.in-Ok.ensures.number in
    let full = c.in-Err-NoBuffer.ensures.no_buffer (ap (λ e. Err e) c.in-Err-NoBuffer.field-0-is) s.0 s.2 in
    stays inside _ c.self.view_is (λ t r. acquire_step t (acquirable c.args.stream t))
    c.acquire.new.self _ (bare (refused (refusal code.NoBuffer))) c.in-Err-NoBuffer.ensures.refused
    c.refused-in-Err-NoBuffer.ensures (no_buffer _ _ s.0 s.1 full.0 full.1)

pub returns-in-Err-NoBuffer-clause-settled : goal.returns-in-Err-NoBuffer-clause-settled
returns-in-Err-NoBuffer-clause-settled c = same_settled c.self.inside _ c.in-Err-NoBuffer.ensures.refused c.self.invariant

pub begin_name-requires-clause-counted : goal.begin_name-requires-clause-counted
begin_name-requires-clause-counted c =
    let m = c.self.inside in
    let s = found _ c.in-Ok.number m.store.numbered m.store.streams c.self.invariant.holds.numbered c.in-Ok.ensures.number in
    acquired_counted m c.self.invariant c.in-Ok.number s.0 s.2 (c.in-Ok-acquire.ensures.free s.0 s.2).0 _
    c.in-Ok-acquire.ensures.acquired

pub begin_name-requires-clause-kept : goal.begin_name-requires-clause-kept
begin_name-requires-clause-kept c some =
    let m = c.self.inside in
    let s = found _ c.in-Ok.number m.store.numbered m.store.streams c.self.invariant.holds.numbered c.in-Ok.ensures.number in
    acquired_kept m c.self.invariant c.in-Ok.number s.0 s.2 (c.in-Ok-acquire.ensures.free s.0 s.2).0 _
    c.in-Ok-acquire.ensures.acquired

pub begin_name-requires-clause-room : goal.begin_name-requires-clause-room
begin_name-requires-clause-room c =
    let m = c.self.inside in
    let s = found _ c.in-Ok.number m.store.numbered m.store.streams c.self.invariant.holds.numbered c.in-Ok.ensures.number in
    acquired_room m c.self.invariant c.in-Ok.number s.0 s.2 (c.in-Ok-acquire.ensures.free s.0 s.2).0 _
    c.in-Ok-acquire.ensures.acquired (room m c.self.invariant c.prove_few_names.ensures c.prove_few_names-2.ensures)

pub invariant_of-self-2 : goal.invariant_of-self-2
invariant_of-self-2 c =
    let m = c.self.inside in
    let s = found _ c.in-Ok.number m.store.numbered m.store.streams c.self.invariant.holds.numbered c.in-Ok.ensures.number in
    let named = c.begin_name.ensures in
    sound_acquired m c.self.invariant c.in-Ok.number s.0 s.2 (c.in-Ok-acquire.ensures.free s.0 s.2).0 _
    c.in-Ok-acquire.ensures.acquired _ named.names named.none named.streams named.rest

pub returns-clause-acquired : goal.returns-clause-acquired
returns-clause-acquired c =
    let m = c.self.inside in
    let number = c.in-Ok.number in
    let s = found _ number m.store.numbered m.store.streams c.self.invariant.holds.numbered c.in-Ok.ensures.number in
    let free = c.in-Ok-acquire.ensures.free s.0 s.2 in
    let named = c.begin_name.ensures in
    leaves_so m _ c.self.view_is (λ t r. acquire_step t (acquirable c.args.stream t))
    (state_of (record m { store = c.begin_name.new.store })) (with_stream number acquired (state_of m)) (with_canvas c.giving_canvas.result)
    (gives_canvas (canvas_of s.0))
    (acquired_seen m c.self.invariant number s.0 s.2 free.0 _ c.in-Ok-acquire.ensures.acquired _
    named.names named.none named.streams named.rest)
    (c.giving_canvas.ensures ∙ ap gives_canvas (c.in-Ok-acquire.ensures.canvas s.0 s.2
    ∙ canvas_is number s.0 m.store.streams s.2))
    (given _ (state_of m) s.0 s.1 free.0 free.1
    ∙ ap (λ n. (with_stream n acquired (state_of m), gives_canvas (canvas_of s.0))) (has_number number m.store.streams s.0 s.2))

pub returns-clause-settled : goal.returns-clause-settled
returns-clause-settled c =
    let m = c.self.inside in
    let s = found _ c.in-Ok.number m.store.numbered m.store.streams c.self.invariant.holds.numbered c.in-Ok.ensures.number in
    let named = c.begin_name.ensures in
    sound_settles (record m { store = c.begin_name.new.store })
    (sound_acquired m c.self.invariant c.in-Ok.number s.0 s.2 (c.in-Ok-acquire.ensures.free s.0 s.2).0 _
    c.in-Ok-acquire.ensures.acquired _ named.names named.none named.streams named.rest)
