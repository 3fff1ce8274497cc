-- What each message asks for, by the bits of its arguments. tools/calls writes this file.
use Rattle.std.specs.Prelude.{ℕ, List}
use Rattle.wf_calls.specs.declared.request.Request.TheVariants as request
use Rattle.wf_wire.specs.declared.form.Form.{Form}
use Rattle.wf_wire.specs.declared.form.Form.TheVariants as form
use Rattle.wf_wire.specs.declared.message.Message.{Message}
use Rattle.wf_wire.specs.declared.message.Message.TheVariants as message
use Rattle.wf_wire.specs.Bits.{handle_at, number_at, values_at}
use Rattle.wf_wire.specs.Words.{context_at, element_at, format_at, pipe_at, port_at, stat_at, transition_at}
use Rattle.wf_wire.specs.Paints.{checker, fill, ramp, rectangle}

abbrev pub message_of : Form → List ℕ → Message
message_of form.StreamNew bits = message.Ask (request.StreamNew (number_at bits 0) (number_at bits 1) (format_at bits 2) (number_at bits 3))
message_of form.StreamQueue bits =
    message.Ask (request.StreamQueue (number_at bits 0) (number_at bits 1) (format_at bits 2) (number_at bits 3))
message_of form.StreamDestroy bits = message.Ask (request.StreamDestroy (handle_at bits 0))
message_of form.Acquire bits = message.Ask (request.Acquire (handle_at bits 0))
message_of form.Post bits = message.Post
message_of form.Discard bits = message.Discard
message_of form.Stat bits = message.Ask (request.Stat (stat_at bits 0))
message_of form.DeviceNew bits = message.Ask request.DeviceNew
message_of form.DeviceDestroy bits = message.Ask (request.DeviceDestroy (handle_at bits 0))
message_of form.GetError bits = message.Ask (request.GetError (handle_at bits 0))
message_of form.ScreenContext bits = message.Ask (request.ScreenContext (handle_at bits 0) (number_at bits 1))
message_of form.StreamContext bits = message.Ask (request.StreamContext (handle_at bits 0) (handle_at bits 1))
message_of form.ContextDestroy bits = message.Ask (request.ContextDestroy (handle_at bits 0) (handle_at bits 1))
message_of form.ElementNew bits = message.Ask (request.ElementNew (handle_at bits 0) (handle_at bits 1))
message_of form.ElementDestroy bits = message.Ask (request.ElementDestroy (handle_at bits 0) (handle_at bits 1))
message_of form.SourceNew bits = message.Ask (request.SourceNew (handle_at bits 0) (handle_at bits 1) (handle_at bits 2))
message_of form.SourceDestroy bits = message.Ask (request.SourceDestroy (handle_at bits 0) (handle_at bits 1))
message_of form.MaskNew bits = message.Ask (request.MaskNew (handle_at bits 0) (handle_at bits 1) (handle_at bits 2))
message_of form.MaskDestroy bits = message.Ask (request.MaskDestroy (handle_at bits 0) (handle_at bits 1))
message_of form.ElementSet bits =
    message.Ask (request.ElementSet (handle_at bits 0) (handle_at bits 1) (element_at bits 2) (values_at bits 3))
message_of form.ElementGet bits =
    message.Ask (request.ElementGet (handle_at bits 0) (handle_at bits 1) (element_at bits 2) (number_at bits 3))
message_of form.ElementInsert bits = message.Ask (request.ElementInsert (handle_at bits 0) (handle_at bits 1) (handle_at bits 2))
message_of form.ElementRemove bits = message.Ask (request.ElementRemove (handle_at bits 0) (handle_at bits 1))
message_of form.ElementAbove bits = message.Ask (request.ElementAbove (handle_at bits 0) (handle_at bits 1))
message_of form.ElementBelow bits = message.Ask (request.ElementBelow (handle_at bits 0) (handle_at bits 1))
message_of form.ContextSet bits =
    message.Ask (request.ContextSet (handle_at bits 0) (handle_at bits 1) (context_at bits 2) (values_at bits 3))
message_of form.ContextGet bits =
    message.Ask (request.ContextGet (handle_at bits 0) (handle_at bits 1) (context_at bits 2) (number_at bits 3))
message_of form.Commit bits = message.Ask (request.Commit (handle_at bits 0) (handle_at bits 1))
message_of form.Activate bits = message.Ask (request.Activate (handle_at bits 0) (handle_at bits 1))
message_of form.Deactivate bits = message.Ask (request.Deactivate (handle_at bits 0) (handle_at bits 1))
message_of form.BeginContext bits = message.Ask (request.BeginContext (handle_at bits 0) (handle_at bits 1))
message_of form.PortSet bits = message.Ask (request.PortSet (number_at bits 0) (port_at bits 1) (values_at bits 2))
message_of form.PortGet bits = message.Ask (request.PortGet (number_at bits 0) (port_at bits 1) (number_at bits 2))
message_of form.Attach bits = message.Ask (request.Attach (number_at bits 0) (number_at bits 1))
message_of form.PipeSet bits = message.Ask (request.PipeSet (number_at bits 0) (pipe_at bits 1) (values_at bits 2))
message_of form.PipeGet bits = message.Ask (request.PipeGet (number_at bits 0) (pipe_at bits 1) (number_at bits 2))
message_of form.PipeBindPort bits = message.Ask (request.PipeBindPort (number_at bits 0) (number_at bits 1))
message_of form.DisplaySource bits = message.Ask (request.DisplaySource (number_at bits 0) (handle_at bits 1))
message_of form.DisplaySourceDestroy bits = message.Ask (request.DisplaySourceDestroy (handle_at bits 0))
message_of form.PipeBindSource bits = message.Ask (request.PipeBindSource (number_at bits 0) (handle_at bits 1) (transition_at bits 2))
message_of form.CommitDevice bits = message.Ask request.CommitDevice
message_of form.CommitPort bits = message.Ask (request.CommitPort (number_at bits 0))
message_of form.CommitPipe bits = message.Ask (request.CommitPipe (number_at bits 0))
message_of form.DisplayError bits = message.Ask request.DisplayError
message_of form.BeginPort bits = message.Ask (request.BeginPort (number_at bits 0))
message_of form.Fill bits = message.Paint (fill bits)
message_of form.Rectangle bits = message.Paint (rectangle bits)
message_of form.Checker bits = message.Paint (checker bits)
message_of form.Ramp bits = message.Paint (ramp bits)
