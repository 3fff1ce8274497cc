-- What each call does, by who answers it; a call of another part does nothing there. tools/calls writes this file.
use Rattle.std.specs.Prelude.{ℕ, Bool, Option, None, Result, Ok}
use Rattle.wf_calls.specs.Replies.{bare, done}
use Rattle.wf_calls.specs.declared.call.Call.{Call}
use Rattle.wf_calls.specs.declared.call.Call.TheVariants as call
use Rattle.wf_calls.specs.declared.reply.Refusal.{Refusal}
use Rattle.wf_calls.specs.declared.reply.Reply.{Reply}
use Rattle.wf_model.specs.Composition.{CoreSide}
use Rattle.wf_model.specs.Core.{activate, commit, context_destroy, context_get, context_set, deactivate, device_destroy, device_new}
use Rattle.wf_model.specs.Core.{element_above, element_below, element_destroy, element_get, element_insert, element_new, element_remove}
use Rattle.wf_model.specs.Core.{element_set, get_error, mask_destroy, mask_new, screen_context, source_destroy, source_new, stream_context}
use Rattle.wf_model.specs.DisplayCommits.{commit_device, commit_pipe, commit_port}
use Rattle.wf_model.specs.DisplaySides.{DisplaySide, on_display}
use Rattle.wf_model.specs.Frames.{Beginning, begin_composed, begin_next, begin_port, end}
use Rattle.wf_model.specs.Outcome.{Outcome}
use Rattle.wf_model.specs.Pipelines.{display_source, display_source_destroy, pipe_bind_port, pipe_bind_source, pipe_get, pipe_set}
use Rattle.wf_model.specs.Ports.{attach, port_get, port_set}
use Rattle.wf_model.specs.Registers.{display_error}
use Rattle.wf_model.specs.State.{State}
use Rattle.wf_model.specs.Streams.{acquire_call, discard_call, post_call, stat_call, stream_destroy_call, stream_new_call}
use Rattle.wf_model.specs.Streams.{stream_queue_call}

-- what a call of composition does; screen is the stream of the screen that a call asks for, where its port was declared,
-- and memory_refused marks a creation for which there is no memory
abbrev pub core_call : Option ℕ → Bool → Call → CoreSide → Outcome CoreSide
core_call screen memory_refused call.DeviceNew = device_new memory_refused
core_call screen memory_refused (call.DeviceDestroy device) = device_destroy device
core_call screen memory_refused (call.GetError device) = get_error device
core_call screen memory_refused (call.ScreenContext device port) = screen_context device port screen memory_refused
core_call screen memory_refused (call.StreamContext device stream) = stream_context device stream memory_refused
core_call screen memory_refused (call.ContextDestroy device context) = context_destroy device context
core_call screen memory_refused (call.ElementNew device context) = element_new device context memory_refused
core_call screen memory_refused (call.ElementDestroy device element) = element_destroy device element
core_call screen memory_refused (call.SourceNew device context stream) = source_new device context stream memory_refused
core_call screen memory_refused (call.SourceDestroy device source) = source_destroy device source
core_call screen memory_refused (call.MaskNew device context stream) = mask_new device context stream memory_refused
core_call screen memory_refused (call.MaskDestroy device mask) = mask_destroy device mask
core_call screen memory_refused (call.ElementSet device element attr value) = element_set device element attr value
core_call screen memory_refused (call.ElementGet device element attr index) = element_get device element attr index
core_call screen memory_refused (call.ElementInsert device element below) = element_insert device element below
core_call screen memory_refused (call.ElementRemove device element) = element_remove device element
core_call screen memory_refused (call.ElementAbove device element) = element_above device element
core_call screen memory_refused (call.ElementBelow device element) = element_below device element
core_call screen memory_refused (call.ContextSet device context attr value) = context_set device context attr value
core_call screen memory_refused (call.ContextGet device context attr index) = context_get device context attr index
core_call screen memory_refused (call.Commit device context) = commit device context
core_call screen memory_refused (call.Activate device context) = activate device context
core_call screen memory_refused (call.Deactivate device context) = deactivate device context
core_call screen memory_refused _ = λ w. Ok (w, 0)

-- what a call of the display does
abbrev pub display_call : Bool → Call → DisplaySide → Outcome DisplaySide
display_call memory_refused (call.PortSet port attr value) = on_display (port_set port attr value)
display_call memory_refused (call.PortGet port attr index) = on_display (port_get port attr index)
display_call memory_refused (call.Attach port on) = on_display (attach port on)
display_call memory_refused (call.PipeSet pipe attr value) = on_display (pipe_set pipe attr value)
display_call memory_refused (call.PipeGet pipe attr index) = on_display (pipe_get pipe attr index)
display_call memory_refused (call.PipeBindPort pipe port) = on_display (pipe_bind_port pipe port)
display_call memory_refused (call.DisplaySource pipe stream) = display_source pipe stream memory_refused
display_call memory_refused (call.DisplaySourceDestroy source) = on_display (display_source_destroy source)
display_call memory_refused (call.PipeBindSource pipe source transition) = on_display (pipe_bind_source pipe source transition)
display_call memory_refused call.CommitDevice = commit_device
display_call memory_refused (call.CommitPort port) = commit_port port
display_call memory_refused (call.CommitPipe pipe) = commit_pipe pipe
display_call memory_refused call.DisplayError = on_display (display_error)
display_call memory_refused _ = λ w. Ok (w, 0)

-- what a call on streams leaves and answers
abbrev pub stream_call : Bool → Call → State → State × Reply
stream_call memory_refused (call.StreamNew width height format buffers) h = stream_new_call width height format buffers memory_refused h
stream_call memory_refused (call.StreamQueue width height format depth) h = stream_queue_call width height format depth memory_refused h
stream_call memory_refused (call.StreamDestroy stream) h = stream_destroy_call stream h
stream_call memory_refused (call.Stat what) h = stat_call what h
stream_call memory_refused _ h = (h, bare (done 0))

-- what a call on a write buffer leaves and answers
abbrev pub buffer_call : Call → State → State × Reply
buffer_call (call.Acquire stream) h = acquire_call stream h
buffer_call (call.Post canvas) h = post_call canvas h
buffer_call (call.Discard canvas) h = discard_call canvas h
buffer_call _ h = (h, bare (done 0))

-- the frame that a call begins, where it begins one, or its refusal
abbrev pub begin_call : Call → State → Result (Option Beginning) Refusal
begin_call (call.BeginNext after) h = begin_next after h
begin_call (call.BeginPort port) h = begin_port port h
begin_call (call.BeginContext device context) h = begin_composed device context h
begin_call _ h = Ok None

-- the end of a frame
abbrev pub end_call : Call → State → State × Reply
end_call (call.End job) h = end job h
end_call _ h = (h, bare (done 0))
