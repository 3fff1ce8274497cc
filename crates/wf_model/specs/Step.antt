-- The step of the machine: for each call the state after it and the reply.
use Rattle.std.proofs.Common.{◌≡◌, ap}
use Rattle.std.specs.Prelude.{ℕ, Bool, false}
use Rattle.wf_calls.specs.Codes.{is_ok_code}
use Rattle.wf_calls.specs.Creations.{is_creation}
use Rattle.wf_calls.specs.Parts.{part_of, recorded_by}
use Rattle.wf_calls.specs.declared.call.Call.{Call}
use Rattle.wf_calls.specs.declared.call.Call.TheVariants as call
use Rattle.wf_calls.specs.declared.part.Part.{Part}
use Rattle.wf_calls.specs.declared.part.Part.TheVariants as part
use Rattle.wf_calls.specs.declared.reply.Reply.{Reply}
use Rattle.wf_model.specs.Composing.{composed, displayed, screen_of}
use Rattle.wf_model.specs.Calls.{core_call, display_call, begin_call, end_call, buffer_call, stream_call}
use Rattle.wf_model.specs.Frames.{started}
use Rattle.wf_model.specs.Names.{settle_if}
use Rattle.wf_model.specs.State.{State}

-- what a call that a part answers does and answers, before streams without a name are dropped; memory_refused marks a creation
-- for which there is no memory, and says nothing to any other call
abbrev pub act_of : Part → State → Call → Bool → State × Reply
act_of part.Streams h c memory_refused = stream_call memory_refused c h
act_of part.Buffers h c memory_refused = buffer_call c h
act_of (part.Composition d) h c memory_refused = composed d (core_call (screen_of c h) memory_refused c) h
act_of part.Display h c memory_refused = displayed (display_call memory_refused c) h
act_of (part.Begin d) h c memory_refused = started (recorded_by (part.Begin d)) h (begin_call c h)
act_of part.End h c memory_refused = end_call c h

unfoldable pub act : State → Call → Bool → State × Reply
act h c memory_refused = act_of (part_of c) h c memory_refused

-- the step of a client's call: what it does, and then, where it was carried out, the streams without a name are dropped
unfoldable pub step : State → ℕ → Call → Bool → State × Reply
step h client c memory_refused =
    let done : State × Reply = act h c memory_refused in
    (settle_if (is_ok_code done.1.code) done.0, done.1)

-- the mark of refused memory says nothing to a call that makes nothing

pub unmarked : (h : State) (c : Call) (m n : Bool) → is_creation c ≡ false → act h c m ≡ act h c n
unfolding act
unmarked h call.DeviceNew m n other = absurd cc
unmarked h _ m n other = cc

pub unmarked_step : (h : State) (client : ℕ) (c : Call) (m n : Bool) → is_creation c ≡ false → step h client c m ≡ step h client c n
unfolding step
unmarked_step h client c m n other =
    ap (λ (done : State × Reply). (settle_if (is_ok_code done.1.code) done.0, done.1)) (unmarked h c m n other)
