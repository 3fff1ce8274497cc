-- A call that brings nothing, as the call that it is. tools/calls writes this file.
use Rattle.std.specs.Prelude.{Bool, true, false}
use Rattle.wf_calls.specs.declared.call.Call.{Call}
use Rattle.wf_calls.specs.declared.call.Call.TheVariants as call
use Rattle.wf_calls.specs.declared.request.Request.{Request}
use Rattle.wf_calls.specs.declared.request.Request.TheVariants as request

abbrev pub call_of : Request → Call
call_of (request.StreamNew width height format buffers) = call.StreamNew width height format buffers
call_of (request.StreamQueue width height format depth) = call.StreamQueue width height format depth
call_of (request.StreamDestroy stream) = call.StreamDestroy stream
call_of (request.Acquire stream) = call.Acquire stream
call_of (request.Stat what) = call.Stat what
call_of request.DeviceNew = call.DeviceNew
call_of (request.DeviceDestroy device) = call.DeviceDestroy device
call_of (request.GetError device) = call.GetError device
call_of (request.ScreenContext device port) = call.ScreenContext device port
call_of (request.StreamContext device stream) = call.StreamContext device stream
call_of (request.ContextDestroy device context) = call.ContextDestroy device context
call_of (request.ElementNew device context) = call.ElementNew device context
call_of (request.ElementDestroy device element) = call.ElementDestroy device element
call_of (request.SourceNew device context stream) = call.SourceNew device context stream
call_of (request.SourceDestroy device source) = call.SourceDestroy device source
call_of (request.MaskNew device context stream) = call.MaskNew device context stream
call_of (request.MaskDestroy device mask) = call.MaskDestroy device mask
call_of (request.ElementSet device element attr value) = call.ElementSet device element attr value
call_of (request.ElementGet device element attr index) = call.ElementGet device element attr index
call_of (request.ElementInsert device element below) = call.ElementInsert device element below
call_of (request.ElementRemove device element) = call.ElementRemove device element
call_of (request.ElementAbove device element) = call.ElementAbove device element
call_of (request.ElementBelow device element) = call.ElementBelow device element
call_of (request.ContextSet device context attr value) = call.ContextSet device context attr value
call_of (request.ContextGet device context attr index) = call.ContextGet device context attr index
call_of (request.Commit device context) = call.Commit device context
call_of (request.Activate device context) = call.Activate device context
call_of (request.Deactivate device context) = call.Deactivate device context
call_of (request.PortSet port attr value) = call.PortSet port attr value
call_of (request.PortGet port attr index) = call.PortGet port attr index
call_of (request.Attach port on) = call.Attach port on
call_of (request.PipeSet pipe attr value) = call.PipeSet pipe attr value
call_of (request.PipeGet pipe attr index) = call.PipeGet pipe attr index
call_of (request.PipeBindPort pipe port) = call.PipeBindPort pipe port
call_of (request.DisplaySource pipe stream) = call.DisplaySource pipe stream
call_of (request.DisplaySourceDestroy source) = call.DisplaySourceDestroy source
call_of (request.PipeBindSource pipe source transition) = call.PipeBindSource pipe source transition
call_of request.CommitDevice = call.CommitDevice
call_of (request.CommitPort port) = call.CommitPort port
call_of (request.CommitPipe pipe) = call.CommitPipe pipe
call_of request.DisplayError = call.DisplayError
call_of (request.BeginNext after) = call.BeginNext after
call_of (request.BeginPort port) = call.BeginPort port
call_of (request.BeginContext device context) = call.BeginContext device context

-- a call that brings a write buffer or a Job
abbrev pub brings : Call → Bool
brings (call.StreamNew width height format buffers) = false
brings (call.StreamQueue width height format depth) = false
brings (call.StreamDestroy stream) = false
brings (call.Acquire stream) = false
brings (call.Post canvas) = true
brings (call.Discard canvas) = true
brings (call.Stat what) = false
brings call.DeviceNew = false
brings (call.DeviceDestroy device) = false
brings (call.GetError device) = false
brings (call.ScreenContext device port) = false
brings (call.StreamContext device stream) = false
brings (call.ContextDestroy device context) = false
brings (call.ElementNew device context) = false
brings (call.ElementDestroy device element) = false
brings (call.SourceNew device context stream) = false
brings (call.SourceDestroy device source) = false
brings (call.MaskNew device context stream) = false
brings (call.MaskDestroy device mask) = false
brings (call.ElementSet device element attr value) = false
brings (call.ElementGet device element attr index) = false
brings (call.ElementInsert device element below) = false
brings (call.ElementRemove device element) = false
brings (call.ElementAbove device element) = false
brings (call.ElementBelow device element) = false
brings (call.ContextSet device context attr value) = false
brings (call.ContextGet device context attr index) = false
brings (call.Commit device context) = false
brings (call.Activate device context) = false
brings (call.Deactivate device context) = false
brings (call.PortSet port attr value) = false
brings (call.PortGet port attr index) = false
brings (call.Attach port on) = false
brings (call.PipeSet pipe attr value) = false
brings (call.PipeGet pipe attr index) = false
brings (call.PipeBindPort pipe port) = false
brings (call.DisplaySource pipe stream) = false
brings (call.DisplaySourceDestroy source) = false
brings (call.PipeBindSource pipe source transition) = false
brings call.CommitDevice = false
brings (call.CommitPort port) = false
brings (call.CommitPipe pipe) = false
brings call.DisplayError = false
brings (call.BeginNext after) = false
brings (call.BeginPort port) = false
brings (call.BeginContext device context) = false
brings (call.End job) = true
