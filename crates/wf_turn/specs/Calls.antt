-- The calls of lines that are one call and wait for nothing. A handle is the value of its name. tools/calls writes this file.
use Rattle.std.specs.Prelude.{ℕ, Option, Some, None}
use Rattle.wf_calls.specs.declared.call.Call.{Call}
use Rattle.wf_calls.specs.declared.call.Call.TheVariants as call
use Rattle.wf_script.specs.declared.line.Verb.{Verb}
use Rattle.wf_script.specs.declared.line.Verb.TheVariants as verb
use Rattle.wf_script.specs.declared.name.Name.{Name}
use Rattle.wf_turn.specs.Puts.{set_to}

-- the call of a line of the subject display
abbrev pub display_call : (Option Name → ℕ) → Verb → Option Call
display_call handle (verb.PortSet port attr value) = Some (call.PortSet port attr (set_to handle value))
display_call handle (verb.PortGet port attr index) = Some (call.PortGet port attr index)
display_call handle (verb.Attach port on) = Some (call.Attach port on)
display_call handle (verb.PipeSet pipe attr value) = Some (call.PipeSet pipe attr (set_to handle value))
display_call handle (verb.PipeGet pipe attr index) = Some (call.PipeGet pipe attr index)
display_call handle (verb.PipeBindPort pipe port) = Some (call.PipeBindPort pipe port)
display_call handle (verb.DisplaySource pipe stream) = Some (call.DisplaySource pipe (handle stream))
display_call handle (verb.DisplaySourceDestroy source) = Some (call.DisplaySourceDestroy (handle source))
display_call handle (verb.PipeBindSource pipe source transition) = Some (call.PipeBindSource pipe (handle source) transition)
display_call handle verb.CommitDevice = Some call.CommitDevice
display_call handle (verb.CommitPort port) = Some (call.CommitPort port)
display_call handle (verb.CommitPipe pipe) = Some (call.CommitPipe pipe)
display_call handle verb.DisplayError = Some call.DisplayError
display_call handle _ = None

-- the call of a line of the subject sources or of a later one
abbrev pub source_call : (Option Name → ℕ) → Verb → Option Call
source_call handle (verb.SourceNew device context stream) = Some (call.SourceNew (handle device) (handle context) (handle stream))
source_call handle (verb.SourceDestroy device source) = Some (call.SourceDestroy (handle device) (handle source))
source_call handle (verb.MaskNew device context stream) = Some (call.MaskNew (handle device) (handle context) (handle stream))
source_call handle (verb.MaskDestroy device mask) = Some (call.MaskDestroy (handle device) (handle mask))
source_call handle v = display_call handle v

-- the call of a line of the subject elements or of a later one
abbrev pub element_call : (Option Name → ℕ) → Verb → Option Call
element_call handle (verb.ElementNew device context) = Some (call.ElementNew (handle device) (handle context))
element_call handle (verb.ElementDestroy device element) = Some (call.ElementDestroy (handle device) (handle element))
element_call handle (verb.ElementSet device element attr value) =
    Some (call.ElementSet (handle device) (handle element) attr (set_to handle value))
element_call handle (verb.ElementGet device element attr index) = Some (call.ElementGet (handle device) (handle element) attr index)
element_call handle (verb.ElementInsert device element below) = Some (call.ElementInsert (handle device) (handle element) (handle below))
element_call handle (verb.ElementRemove device element) = Some (call.ElementRemove (handle device) (handle element))
element_call handle (verb.ElementAbove device element) = Some (call.ElementAbove (handle device) (handle element))
element_call handle (verb.ElementBelow device element) = Some (call.ElementBelow (handle device) (handle element))
element_call handle v = source_call handle v

-- the call of a line of the subject contexts or of a later one
abbrev pub context_call : (Option Name → ℕ) → Verb → Option Call
context_call handle (verb.ScreenContext device port) = Some (call.ScreenContext (handle device) port)
context_call handle (verb.StreamContext device stream) = Some (call.StreamContext (handle device) (handle stream))
context_call handle (verb.ContextDestroy device context) = Some (call.ContextDestroy (handle device) (handle context))
context_call handle (verb.ContextSet device context attr value) =
    Some (call.ContextSet (handle device) (handle context) attr (set_to handle value))
context_call handle (verb.ContextGet device context attr index) = Some (call.ContextGet (handle device) (handle context) attr index)
context_call handle (verb.Commit device context) = Some (call.Commit (handle device) (handle context))
context_call handle (verb.Activate device context) = Some (call.Activate (handle device) (handle context))
context_call handle (verb.Deactivate device context) = Some (call.Deactivate (handle device) (handle context))
context_call handle v = element_call handle v

-- the call of a line that is one call and waits for nothing
abbrev pub plain_call : (Option Name → ℕ) → Verb → Option Call
plain_call handle (verb.StreamNew width height format buffers) = Some (call.StreamNew width height format buffers)
plain_call handle (verb.StreamQueue width height format depth) = Some (call.StreamQueue width height format depth)
plain_call handle (verb.StreamDestroy stream) = Some (call.StreamDestroy (handle stream))
plain_call handle (verb.Stat what) = Some (call.Stat what)
plain_call handle verb.DeviceNew = Some call.DeviceNew
plain_call handle (verb.DeviceDestroy device) = Some (call.DeviceDestroy (handle device))
plain_call handle (verb.GetError device) = Some (call.GetError (handle device))
plain_call handle v = context_call handle v
