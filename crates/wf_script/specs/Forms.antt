-- The forms of event lines: for each verb its word, the kinds of the words behind it, and whether its line binds a name.
use Rattle.std.specs.Prelude.{Bool, false, List, [], ◌∷◌, ◌++◌, codes, Ok}
use Rattle.std.specs.List.{slice_get}
use Rattle.wf_words.specs.Refusals.{◌>>=◌}
use Rattle.wf_script.specs.declared.field.Field.{Field}
use Rattle.wf_script.specs.declared.field.Field.TheVariants.{ContextAttr, ElementAttr, Format, Handle, Number, PipeAttr, PortAttr, Stat}
use Rattle.wf_script.specs.declared.field.Field.TheVariants.{Transition}
use Rattle.wf_script.specs.declared.form.Form.{Form}
use Rattle.wf_script.specs.declared.form.Form.TheVariants.{Paint, Frame, Plain}
use Rattle.wf_script.specs.declared.form.Plain as plain_form
use Rattle.wf_script.specs.declared.form.Plain.TheVariants as plain
use Rattle.wf_script.specs.Fields.{Shape, context_fields, decided, element_fields, names_in, pipe_fields, port_fields, read_shape, words}
use Rattle.wf_script.specs.Given.{Given}
use Rattle.wf_script.specs.Streams.{frame_words, paint_words}
use Rattle.wf_script.specs.Verbs.{creates, verb_of}
use Rattle.wf_script.specs.Words.{Word, context_attrs, element_attrs, look_up, pipe_attrs, port_attrs}

-- the verbs
abbrev pub forms : List (Word × Form)
forms =
    (codes "stream", Plain plain.StreamNew)
    ∷ (codes "queue", Plain plain.StreamQueue)
    ∷ (codes "acquire", Plain plain.Acquire)
    ∷ (codes "post", Plain plain.Post)
    ∷ (codes "discard", Plain plain.Discard)
    ∷ (codes "stat", Plain plain.Stat)
    ∷ (codes "paint", Paint)
    ∷ (codes "frame", Frame)
    ∷ (codes "tick", Plain plain.Tick)
    ∷ (codes "device", Plain plain.DeviceNew)
    ∷ (codes "error", Plain plain.GetError)
    ∷ (codes "screen", Plain plain.ScreenContext)
    ∷ (codes "offscreen", Plain plain.StreamContext)
    ∷ (codes "element", Plain plain.ElementNew)
    ∷ (codes "source", Plain plain.SourceNew)
    ∷ (codes "mask", Plain plain.MaskNew)
    ∷ (codes "set", Plain plain.ElementSet)
    ∷ (codes "get", Plain plain.ElementGet)
    ∷ (codes "insert", Plain plain.ElementInsert)
    ∷ (codes "remove", Plain plain.ElementRemove)
    ∷ (codes "above", Plain plain.ElementAbove)
    ∷ (codes "below", Plain plain.ElementBelow)
    ∷ (codes "cset", Plain plain.ContextSet)
    ∷ (codes "cget", Plain plain.ContextGet)
    ∷ (codes "commit", Plain plain.Commit)
    ∷ (codes "activate", Plain plain.Activate)
    ∷ (codes "deactivate", Plain plain.Deactivate)
    ∷ (codes "compose", Plain plain.Compose)
    ∷ (codes "trycompose", Plain plain.TryCompose)
    ∷ (codes "del_stream", Plain plain.StreamDestroy)
    ∷ (codes "del_device", Plain plain.DeviceDestroy)
    ∷ (codes "del_context", Plain plain.ContextDestroy)
    ∷ (codes "del_element", Plain plain.ElementDestroy)
    ∷ (codes "del_source", Plain plain.SourceDestroy)
    ∷ (codes "del_mask", Plain plain.MaskDestroy)
    ∷ (codes "pset", Plain plain.PortSet)
    ∷ (codes "pget", Plain plain.PortGet)
    ∷ (codes "attach", Plain plain.Attach)
    ∷ (codes "lset", Plain plain.PipeSet)
    ∷ (codes "lget", Plain plain.PipeGet)
    ∷ (codes "lport", Plain plain.PipeBindPort)
    ∷ (codes "wsource", Plain plain.DisplaySource)
    ∷ (codes "del_wsource", Plain plain.DisplaySourceDestroy)
    ∷ (codes "lsource", Plain plain.PipeBindSource)
    ∷ (codes "commit_device", Plain plain.CommitDevice)
    ∷ (codes "commit_port", Plain plain.CommitPort)
    ∷ (codes "commit_pipe", Plain plain.CommitPipe)
    ∷ (codes "derror", Plain plain.DisplayError)
    ∷ []

-- the kinds of the words behind a verb; where the last one decides what follows it, up to that
abbrev pub fields : plain_form.Plain → List Field
fields plain.StreamNew = Number ∷ Number ∷ Format ∷ Number ∷ []
fields plain.StreamQueue = Number ∷ Number ∷ Format ∷ Number ∷ []
fields plain.Acquire = Handle ∷ []
fields plain.Post = []
fields plain.Discard = []
fields plain.Stat = Stat ∷ []
fields plain.Tick = []
fields plain.DeviceNew = []
fields plain.GetError = Handle ∷ []
fields plain.ScreenContext = Handle ∷ Number ∷ []
fields plain.StreamContext = Handle ∷ Handle ∷ []
fields plain.ElementNew = Handle ∷ Handle ∷ []
fields plain.SourceNew = Handle ∷ Handle ∷ Handle ∷ []
fields plain.MaskNew = Handle ∷ Handle ∷ Handle ∷ []
fields plain.ElementSet = Handle ∷ Handle ∷ ElementAttr ∷ []
fields plain.ElementGet = Handle ∷ Handle ∷ ElementAttr ∷ Number ∷ []
fields plain.ElementInsert = Handle ∷ Handle ∷ Handle ∷ []
fields plain.ElementRemove = Handle ∷ Handle ∷ []
fields plain.ElementAbove = Handle ∷ Handle ∷ []
fields plain.ElementBelow = Handle ∷ Handle ∷ []
fields plain.ContextSet = Handle ∷ Handle ∷ ContextAttr ∷ []
fields plain.ContextGet = Handle ∷ Handle ∷ ContextAttr ∷ Number ∷ []
fields plain.Commit = Handle ∷ Handle ∷ []
fields plain.Activate = Handle ∷ Handle ∷ []
fields plain.Deactivate = Handle ∷ Handle ∷ []
fields plain.Compose = Handle ∷ Handle ∷ []
fields plain.TryCompose = Handle ∷ Handle ∷ []
fields plain.StreamDestroy = Handle ∷ []
fields plain.DeviceDestroy = Handle ∷ []
fields plain.ContextDestroy = Handle ∷ Handle ∷ []
fields plain.ElementDestroy = Handle ∷ Handle ∷ []
fields plain.SourceDestroy = Handle ∷ Handle ∷ []
fields plain.MaskDestroy = Handle ∷ Handle ∷ []
fields plain.PortSet = Number ∷ PortAttr ∷ []
fields plain.PortGet = Number ∷ PortAttr ∷ Number ∷ []
fields plain.Attach = Number ∷ Number ∷ []
fields plain.PipeSet = Number ∷ PipeAttr ∷ []
fields plain.PipeGet = Number ∷ PipeAttr ∷ Number ∷ []
fields plain.PipeBindPort = Number ∷ Number ∷ []
fields plain.DisplaySource = Number ∷ Handle ∷ []
fields plain.DisplaySourceDestroy = Handle ∷ []
fields plain.PipeBindSource = Number ∷ Handle ∷ Transition ∷ []
fields plain.CommitDevice = []
fields plain.CommitPort = Number ∷ []
fields plain.CommitPipe = Number ∷ []
fields plain.DisplayError = []

-- all of them: the word of an attribute that is set decides what follows it
abbrev pub shape : plain_form.Plain → List Word → Shape Field
shape plain.ElementSet ws =
    decided (look_up element_attrs) (λ a. fields plain.ElementSet ++ element_fields a) (slice_get ws 2)
shape plain.ContextSet ws =
    decided (look_up context_attrs) (λ a. fields plain.ContextSet ++ context_fields a) (slice_get ws 2)
shape plain.PortSet ws = decided (look_up port_attrs) (λ a. fields plain.PortSet ++ port_fields a) (slice_get ws 1)
shape plain.PipeSet ws = decided (look_up pipe_attrs) (λ a. fields plain.PipeSet ++ pipe_fields a) (slice_get ws 1)
shape p ws = words (fields p)

-- the forms whose line makes something that a name then stands for: a verb makes it whatever its words are
abbrev pub binds : Form → Bool
binds (Plain p) = creates (verb_of p [])
binds Paint = false
binds Frame = false

-- what the words behind a verb that does not paint give
unfoldable pub plain_words : plain_form.Plain → List Word → Given
plain_words p ws = do
  items ← read_shape (shape p ws) ws
  Ok (verb_of p items, names_in items)

-- what the words behind a verb give
abbrev pub arguments : Form → List Word → Given
arguments (Plain p) = plain_words p
arguments Paint = paint_words
arguments Frame = frame_words
