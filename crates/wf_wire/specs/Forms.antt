-- The messages by their numbers, and the kinds of the arguments of each. tools/calls writes this file.
use Rattle.std.specs.Prelude.{List, [], ◌∷◌}
use Rattle.wf_wire.specs.declared.form.Form.{Form}
use Rattle.wf_wire.specs.declared.form.Form.TheVariants as form
use Rattle.wf_wire.specs.declared.kind.Kind.{Kind}
use Rattle.wf_wire.specs.declared.kind.Kind.TheVariants as kind

-- all messages, in the order of their numbers, which count from 1
abbrev pub forms : List Form
forms = form.StreamNew ∷ form.StreamQueue ∷ form.StreamDestroy ∷ form.Acquire ∷ form.Post ∷ form.Discard ∷ form.Stat
    ∷ form.DeviceNew ∷ form.DeviceDestroy ∷ form.GetError ∷ form.ScreenContext ∷ form.StreamContext ∷ form.ContextDestroy
    ∷ form.ElementNew ∷ form.ElementDestroy ∷ form.SourceNew ∷ form.SourceDestroy ∷ form.MaskNew ∷ form.MaskDestroy
    ∷ form.ElementSet ∷ form.ElementGet ∷ form.ElementInsert ∷ form.ElementRemove ∷ form.ElementAbove ∷ form.ElementBelow
    ∷ form.ContextSet ∷ form.ContextGet ∷ form.Commit ∷ form.Activate ∷ form.Deactivate ∷ form.BeginContext
    ∷ form.PortSet ∷ form.PortGet ∷ form.Attach ∷ form.PipeSet ∷ form.PipeGet ∷ form.PipeBindPort ∷ form.DisplaySource
    ∷ form.DisplaySourceDestroy ∷ form.PipeBindSource ∷ form.CommitDevice ∷ form.CommitPort ∷ form.CommitPipe
    ∷ form.DisplayError ∷ form.BeginPort ∷ form.Fill ∷ form.Rectangle ∷ form.Checker ∷ form.Ramp ∷ []

-- the kinds of a message's arguments, in order
abbrev pub kinds_of : Form → List Kind
kinds_of form.StreamNew = kind.Number ∷ kind.Number ∷ kind.Format ∷ kind.Number ∷ []
kinds_of form.StreamQueue = kind.Number ∷ kind.Number ∷ kind.Format ∷ kind.Number ∷ []
kinds_of form.StreamDestroy = kind.Handle ∷ []
kinds_of form.Acquire = kind.Handle ∷ []
kinds_of form.Post = []
kinds_of form.Discard = []
kinds_of form.Stat = kind.Stat ∷ []
kinds_of form.DeviceNew = []
kinds_of form.DeviceDestroy = kind.Handle ∷ []
kinds_of form.GetError = kind.Handle ∷ []
kinds_of form.ScreenContext = kind.Handle ∷ kind.Number ∷ []
kinds_of form.StreamContext = kind.Handle ∷ kind.Handle ∷ []
kinds_of form.ContextDestroy = kind.Handle ∷ kind.Handle ∷ []
kinds_of form.ElementNew = kind.Handle ∷ kind.Handle ∷ []
kinds_of form.ElementDestroy = kind.Handle ∷ kind.Handle ∷ []
kinds_of form.SourceNew = kind.Handle ∷ kind.Handle ∷ kind.Handle ∷ []
kinds_of form.SourceDestroy = kind.Handle ∷ kind.Handle ∷ []
kinds_of form.MaskNew = kind.Handle ∷ kind.Handle ∷ kind.Handle ∷ []
kinds_of form.MaskDestroy = kind.Handle ∷ kind.Handle ∷ []
kinds_of form.ElementSet = kind.Handle ∷ kind.Handle ∷ kind.Element ∷ kind.Number ∷ kind.Number ∷ kind.Number ∷ kind.Number ∷ []
kinds_of form.ElementGet = kind.Handle ∷ kind.Handle ∷ kind.Element ∷ kind.Number ∷ []
kinds_of form.ElementInsert = kind.Handle ∷ kind.Handle ∷ kind.Handle ∷ []
kinds_of form.ElementRemove = kind.Handle ∷ kind.Handle ∷ []
kinds_of form.ElementAbove = kind.Handle ∷ kind.Handle ∷ []
kinds_of form.ElementBelow = kind.Handle ∷ kind.Handle ∷ []
kinds_of form.ContextSet = kind.Handle ∷ kind.Handle ∷ kind.Context ∷ kind.Number ∷ kind.Number ∷ kind.Number ∷ kind.Number ∷ []
kinds_of form.ContextGet = kind.Handle ∷ kind.Handle ∷ kind.Context ∷ kind.Number ∷ []
kinds_of form.Commit = kind.Handle ∷ kind.Handle ∷ []
kinds_of form.Activate = kind.Handle ∷ kind.Handle ∷ []
kinds_of form.Deactivate = kind.Handle ∷ kind.Handle ∷ []
kinds_of form.BeginContext = kind.Handle ∷ kind.Handle ∷ []
kinds_of form.PortSet = kind.Number ∷ kind.Port ∷ kind.Number ∷ kind.Number ∷ kind.Number ∷ kind.Number ∷ []
kinds_of form.PortGet = kind.Number ∷ kind.Port ∷ kind.Number ∷ []
kinds_of form.Attach = kind.Number ∷ kind.Number ∷ []
kinds_of form.PipeSet = kind.Number ∷ kind.Pipe ∷ kind.Number ∷ kind.Number ∷ kind.Number ∷ kind.Number ∷ []
kinds_of form.PipeGet = kind.Number ∷ kind.Pipe ∷ kind.Number ∷ []
kinds_of form.PipeBindPort = kind.Number ∷ kind.Number ∷ []
kinds_of form.DisplaySource = kind.Number ∷ kind.Handle ∷ []
kinds_of form.DisplaySourceDestroy = kind.Handle ∷ []
kinds_of form.PipeBindSource = kind.Number ∷ kind.Handle ∷ kind.Transition ∷ []
kinds_of form.CommitDevice = []
kinds_of form.CommitPort = kind.Number ∷ []
kinds_of form.CommitPipe = kind.Number ∷ []
kinds_of form.DisplayError = []
kinds_of form.BeginPort = kind.Number ∷ []
kinds_of form.Fill = kind.Channel ∷ kind.Channel ∷ kind.Channel ∷ kind.Channel ∷ []
kinds_of form.Rectangle =
    kind.Coordinate ∷ kind.Coordinate ∷ kind.Extent ∷ kind.Extent ∷ kind.Channel ∷ kind.Channel ∷ kind.Channel ∷ kind.Channel ∷ []
kinds_of form.Checker =
    kind.Square ∷ kind.Channel ∷ kind.Channel ∷ kind.Channel ∷ kind.Channel ∷ kind.Channel ∷ kind.Channel ∷ kind.Channel ∷ kind.Channel ∷ []
kinds_of form.Ramp =
    kind.Channel ∷ kind.Channel ∷ kind.Channel ∷ kind.Channel ∷ kind.Channel ∷ kind.Channel ∷ kind.Channel ∷ kind.Channel ∷ []
