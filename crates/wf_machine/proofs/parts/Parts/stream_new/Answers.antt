use Rattle.wf_machine.proofs.Common.{◌+◌, Err, sym, ap, subst, ◌∙◌, with_live_stream, is_out_of_memory, bare, done, refusal}
use Rattle.wf_machine.proofs.Common.{refused, new_buffers, stream_new, stream_step, IsSound, to_z-of_z}
use Rattle.wf_calls.specs.declared.code.Code.TheVariants as code
use Rattle.wf_machine.proofs.StreamCallsKeepInvariant.{leaves, limited, made, made_home, made_sides, made_unread, sound_made}
use Rattle.wf_machine.proofs.StreamCallsKeepInvariant.{stays, unmade}
use Rattle.wf_machine.proofs.Counts.{same_settled, sound_settles}
use Rattle.wf_machine.proofs.StreamNames.{sound_pushed}
use Rattle.wf_machine.proofs.parts.Parts.stream_new.Goals as goal

pub returns-in-Err-Limit-clause-made : goal.returns-in-Err-Limit-clause-made
returns-in-Err-Limit-clause-made c =
    let a = c.args in
    let inside = c.self.inside in
    stays inside a.self.now c.self.view_is (λ t r. stream_step t
    (stream_new a.queue a.width a.height a.format a.number (is_out_of_memory r.code) t))
    c.make.new.store (bare _) (bare (refused (refusal code.Limit))) c.in-Err-Limit.ensures.refused
    (ap bare c.refuse-in-Err-Limit.ensures)
    (limited a.queue a.width a.height a.number a.format _
    (rw (to_z-of_z c.ranges.width, to_z-of_z c.ranges.height, to_z-of_z c.ranges.number) at
    (sym c.may_make.ensures ∙ c.if-not-may_make.false))
    (rw (to_z-of_z c.ranges.width, to_z-of_z c.ranges.height, to_z-of_z c.ranges.number) at
    (c.in-Err-Limit.ensures.limit (ap (λ e. Err e) c.in-Err-Limit.field-0-is))))

pub returns-in-Err-NoMemory-clause-made : goal.returns-in-Err-NoMemory-clause-made
returns-in-Err-NoMemory-clause-made c =
    let a = c.args in
    let inside = c.self.inside in
    stays inside a.self.now c.self.view_is (λ t r. stream_step t
    (stream_new a.queue a.width a.height a.format a.number (is_out_of_memory r.code) t))
    c.make.new.store (bare _) (bare (refused (refusal code.OutOfMemory))) c.in-Err-NoMemory.ensures.refused
    (ap bare c.refuse-in-Err-NoMemory.ensures)
    (unmade a.queue a.width a.height a.number a.format _
    (rw (to_z-of_z c.ranges.width, to_z-of_z c.ranges.height, to_z-of_z c.ranges.number) at
    (sym c.may_make.ensures ∙ c.if-not-may_make.false))
    (rw (to_z-of_z c.ranges.width, to_z-of_z c.ranges.height, to_z-of_z c.ranges.number) at
    (c.in-Err-NoMemory.ensures.memory (ap (λ e. Err e) c.in-Err-NoMemory.field-0-is))))

pub returns-then-not-may_make-clause-settled : goal.returns-then-not-may_make-clause-settled
returns-then-not-may_make-clause-settled c = c.prove_all_named.ensures

pub returns-in-Err-Limit-clause-settled : goal.returns-in-Err-Limit-clause-settled
returns-in-Err-Limit-clause-settled c = same_settled c.self.inside _ c.in-Err-Limit.ensures.refused c.self.invariant

pub returns-in-Err-NoMemory-clause-settled : goal.returns-in-Err-NoMemory-clause-settled
returns-in-Err-NoMemory-clause-settled c = same_settled c.self.inside _ c.in-Err-NoMemory.ensures.refused c.self.invariant

pub invariant_of-self : goal.invariant_of-self
invariant_of-self c = subst (λ v. IsSound (record c.self.inside { store = v })) (sym c.in-Err-Limit.ensures.refused) c.self.invariant

pub invariant_of-self-in-Err-NoMemory : goal.invariant_of-self-in-Err-NoMemory
invariant_of-self-in-Err-NoMemory c =
    subst (λ v. IsSound (record c.self.inside { store = v })) (sym c.in-Err-NoMemory.ensures.refused) c.self.invariant

-- the machine with the new stream
made_sound : (c : goal.After-done) → IsSound (record c.self.inside { store = c.make.new.store })
made_sound c =
    let a = c.args in
    subst (λ store. IsSound (record c.self.inside { store = store }))
    (sym (rw (to_z-of_z c.ranges.width, to_z-of_z c.ranges.height, to_z-of_z c.ranges.number) at c.in-Ok.ensures.made))
    (sound_pushed c.self.inside c.self.invariant (new_buffers a.queue a.width a.height a.format a.number)
    (made_home a.width a.height a.number a.format a.queue) c.in-Ok.ensures.uncounted
    (sound_made c.self.inside (new_buffers a.queue a.width a.height a.format a.number)
    (made_sides a.width a.height a.number a.format a.queue
    (rw (to_z-of_z c.ranges.width, to_z-of_z c.ranges.height, to_z-of_z c.ranges.number) at
    (sym c.may_make.ensures ∙ c.if-not-may_make.false))) (made_unread a.width a.height a.number a.format a.queue)
    (rw (to_z-of_z c.ranges.width, to_z-of_z c.ranges.height, to_z-of_z c.ranges.number) at c.in-Ok.ensures.room) c.self.invariant.holds))

pub invariant_of-self-2 : goal.invariant_of-self-2
invariant_of-self-2 c = made_sound c

pub returns-clause-settled : goal.returns-clause-settled
returns-clause-settled c = sound_settles (record c.self.inside { store = c.make.new.store }) (made_sound c)

pub returns-clause-made : goal.returns-clause-made
returns-clause-made c =
    let a = c.args in
    let inside = c.self.inside in
    let new = new_buffers a.queue a.width a.height a.format a.number in
    leaves inside a.self.now c.self.view_is (λ t r. stream_step t
    (stream_new a.queue a.width a.height a.format a.number (is_out_of_memory r.code) t))
    c.make.new.store (with_live_stream new inside.store) (bare _) (bare (done (inside.store.made + 1)))
    (rw (to_z-of_z c.ranges.width, to_z-of_z c.ranges.height, to_z-of_z c.ranges.number) at c.in-Ok.ensures.made)
    (ap bare c.done.ensures ∙ ap (λ n. bare (done n)) c.in-Ok.ensures.handle)
    (made a.queue a.width a.height a.number a.format _
    (rw (to_z-of_z c.ranges.width, to_z-of_z c.ranges.height, to_z-of_z c.ranges.number) at
    (sym c.may_make.ensures ∙ c.if-not-may_make.false))
    (rw (to_z-of_z c.ranges.width, to_z-of_z c.ranges.height, to_z-of_z c.ranges.number) at c.in-Ok.ensures.room) c.in-Ok.ensures.free)
