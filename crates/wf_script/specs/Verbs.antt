-- Which verbs make something, and the verb that a form makes of what its words stand for.
use Rattle.std.specs.Prelude.{Bool, true, false, List}
use Rattle.wf_script.specs.declared.form.Plain.{Plain}
use Rattle.wf_script.specs.declared.form.Plain.TheVariants as plain
use Rattle.wf_script.specs.declared.line.Verb.{Verb}
use Rattle.wf_script.specs.declared.line.Verb.TheVariants as verb
use Rattle.wf_script.specs.Fields.{Item, context_attr_at, element_attr_at, format_at, handle_at, number_at, pipe_attr_at, port_attr_at}
use Rattle.wf_script.specs.Fields.{stat_at, transition_at, value_at}

-- the verbs that make something: their lines have a name, under which the answer's value is kept
abbrev pub creates : Verb → Bool
creates (verb.StreamNew _ _ _ _) = true
creates (verb.StreamQueue _ _ _ _) = true
creates (verb.Acquire _) = false
creates verb.Post = false
creates verb.Discard = false
creates (verb.Stat _) = false
creates (verb.Paint _) = false
creates (verb.Frame _ _) = false
creates verb.Tick = false
creates verb.DeviceNew = true
creates (verb.GetError _) = false
creates (verb.ScreenContext _ _) = true
creates (verb.StreamContext _ _) = true
creates (verb.ElementNew _ _) = true
creates (verb.SourceNew _ _ _) = true
creates (verb.MaskNew _ _ _) = true
creates (verb.ElementSet _ _ _ _) = false
creates (verb.ElementGet _ _ _ _) = false
creates (verb.ElementInsert _ _ _) = false
creates (verb.ElementRemove _ _) = false
creates (verb.ElementAbove _ _) = false
creates (verb.ElementBelow _ _) = false
creates (verb.ContextSet _ _ _ _) = false
creates (verb.ContextGet _ _ _ _) = false
creates (verb.Commit _ _) = false
creates (verb.Activate _ _) = false
creates (verb.Deactivate _ _) = false
creates (verb.Compose _ _) = false
creates (verb.TryCompose _ _) = false
creates (verb.PortSet _ _ _) = false
creates (verb.PortGet _ _ _) = false
creates (verb.Attach _ _) = false
creates (verb.PipeSet _ _ _) = false
creates (verb.PipeGet _ _ _) = false
creates (verb.PipeBindPort _ _) = false
creates (verb.DisplaySource _ _) = true
creates (verb.DisplaySourceDestroy _) = false
creates (verb.PipeBindSource _ _ _) = false
creates verb.CommitDevice = false
creates (verb.CommitPort _) = false
creates (verb.CommitPipe _) = false
creates verb.DisplayError = false
creates (verb.StreamDestroy _) = false
creates (verb.DeviceDestroy _) = false
creates (verb.ContextDestroy _ _) = false
creates (verb.ElementDestroy _ _) = false
creates (verb.SourceDestroy _ _) = false
creates (verb.MaskDestroy _ _) = false

-- the verb of a form, by the items of its words
abbrev pub verb_of : Plain → List Item → Verb
verb_of plain.StreamNew items = verb.StreamNew (number_at items 0) (number_at items 1) (format_at items 2) (number_at items 3)
verb_of plain.StreamQueue items = verb.StreamQueue (number_at items 0) (number_at items 1) (format_at items 2) (number_at items 3)
verb_of plain.Acquire items = verb.Acquire (handle_at items 0)
verb_of plain.Post items = verb.Post
verb_of plain.Discard items = verb.Discard
verb_of plain.Stat items = verb.Stat (stat_at items 0)
verb_of plain.Tick items = verb.Tick
verb_of plain.DeviceNew items = verb.DeviceNew
verb_of plain.GetError items = verb.GetError (handle_at items 0)
verb_of plain.ScreenContext items = verb.ScreenContext (handle_at items 0) (number_at items 1)
verb_of plain.StreamContext items = verb.StreamContext (handle_at items 0) (handle_at items 1)
verb_of plain.ElementNew items = verb.ElementNew (handle_at items 0) (handle_at items 1)
verb_of plain.SourceNew items = verb.SourceNew (handle_at items 0) (handle_at items 1) (handle_at items 2)
verb_of plain.MaskNew items = verb.MaskNew (handle_at items 0) (handle_at items 1) (handle_at items 2)
verb_of plain.ElementSet items = verb.ElementSet (handle_at items 0) (handle_at items 1) (element_attr_at items 2) (value_at items 3)
verb_of plain.ElementGet items = verb.ElementGet (handle_at items 0) (handle_at items 1) (element_attr_at items 2) (number_at items 3)
verb_of plain.ElementInsert items = verb.ElementInsert (handle_at items 0) (handle_at items 1) (handle_at items 2)
verb_of plain.ElementRemove items = verb.ElementRemove (handle_at items 0) (handle_at items 1)
verb_of plain.ElementAbove items = verb.ElementAbove (handle_at items 0) (handle_at items 1)
verb_of plain.ElementBelow items = verb.ElementBelow (handle_at items 0) (handle_at items 1)
verb_of plain.ContextSet items = verb.ContextSet (handle_at items 0) (handle_at items 1) (context_attr_at items 2) (value_at items 3)
verb_of plain.ContextGet items = verb.ContextGet (handle_at items 0) (handle_at items 1) (context_attr_at items 2) (number_at items 3)
verb_of plain.Commit items = verb.Commit (handle_at items 0) (handle_at items 1)
verb_of plain.Activate items = verb.Activate (handle_at items 0) (handle_at items 1)
verb_of plain.Deactivate items = verb.Deactivate (handle_at items 0) (handle_at items 1)
verb_of plain.Compose items = verb.Compose (handle_at items 0) (handle_at items 1)
verb_of plain.TryCompose items = verb.TryCompose (handle_at items 0) (handle_at items 1)
verb_of plain.StreamDestroy items = verb.StreamDestroy (handle_at items 0)
verb_of plain.DeviceDestroy items = verb.DeviceDestroy (handle_at items 0)
verb_of plain.ContextDestroy items = verb.ContextDestroy (handle_at items 0) (handle_at items 1)
verb_of plain.ElementDestroy items = verb.ElementDestroy (handle_at items 0) (handle_at items 1)
verb_of plain.SourceDestroy items = verb.SourceDestroy (handle_at items 0) (handle_at items 1)
verb_of plain.MaskDestroy items = verb.MaskDestroy (handle_at items 0) (handle_at items 1)
verb_of plain.PortSet items = verb.PortSet (number_at items 0) (port_attr_at items 1) (value_at items 2)
verb_of plain.PortGet items = verb.PortGet (number_at items 0) (port_attr_at items 1) (number_at items 2)
verb_of plain.Attach items = verb.Attach (number_at items 0) (number_at items 1)
verb_of plain.PipeSet items = verb.PipeSet (number_at items 0) (pipe_attr_at items 1) (value_at items 2)
verb_of plain.PipeGet items = verb.PipeGet (number_at items 0) (pipe_attr_at items 1) (number_at items 2)
verb_of plain.PipeBindPort items = verb.PipeBindPort (number_at items 0) (number_at items 1)
verb_of plain.DisplaySource items = verb.DisplaySource (number_at items 0) (handle_at items 1)
verb_of plain.DisplaySourceDestroy items = verb.DisplaySourceDestroy (handle_at items 0)
verb_of plain.PipeBindSource items = verb.PipeBindSource (number_at items 0) (handle_at items 1) (transition_at items 2)
verb_of plain.CommitDevice items = verb.CommitDevice
verb_of plain.CommitPort items = verb.CommitPort (number_at items 0)
verb_of plain.CommitPipe items = verb.CommitPipe (number_at items 0)
verb_of plain.DisplayError items = verb.DisplayError
