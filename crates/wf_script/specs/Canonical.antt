-- The canonical text of a script: the one way to write it with words apart by one space, numbers without leading zeros,
-- no comment, no blank line, and a line feed at the end of each line.
use Rattle.std.specs.Prelude.{ℕ, ◌/◌, ◌%◌, ◌==◌, List, [], ◌∷◌, ◌++◌, map, flat_map, codes}
use Rattle.std.specs.Prelude.{decimal, slice_index, Option, Some, None, if◌then◌else◌}
use Rattle.std.specs.List.{join_by}
use Rattle.wf_pixel.specs.declared.Size.{Size}
use Rattle.wf_pixel.specs.declared.Rgba.{Rgba}
use Rattle.wf_image.specs.declared.paint.Paint.{Paint}
use Rattle.wf_image.specs.declared.paint.Paint.TheVariants as paint
use Rattle.wf_calls.specs.declared.ports.Modes.{Modes}
use Rattle.wf_script.specs.declared.line.Line.{Line}
use Rattle.wf_script.specs.declared.line.Verb.{Verb}
use Rattle.wf_script.specs.declared.line.Verb.TheVariants as verb
use Rattle.wf_script.specs.declared.name.Name.{Name}
use Rattle.wf_script.specs.Fields.{context_attr, context_fields, element_attr, element_fields, format, handle, number}
use Rattle.wf_script.specs.Fields.{pipe_attr, pipe_fields}
use Rattle.wf_script.specs.Fields.{port_attr, port_fields, stat, transition, value_items, written}
use Rattle.wf_script.specs.Script.{PlainScript}
use Rattle.wf_script.specs.Spelled.{handle_word, integer_word}
use Rattle.wf_script.specs.Words.{Word}

abbrev pub color_words : Rgba → List Word
color_words c = decimal c.r ∷ decimal c.g ∷ decimal c.b ∷ decimal c.a ∷ []

abbrev pub hex_digits : List ℕ
hex_digits = codes "0123456789abcdef"

abbrev pub hex_byte_word : ℕ → Word
hex_byte_word n = slice_index hex_digits (n / 16) ∷ slice_index hex_digits (n % 16) ∷ []

abbrev pub hex_pixel_word : Rgba → Word
hex_pixel_word c = hex_byte_word c.r ++ hex_byte_word c.g ++ hex_byte_word c.b ++ hex_byte_word c.a

abbrev pub paint_words : Paint → List Word
paint_words (paint.Fill c) = codes "fill" ∷ color_words c
paint_words (paint.Rectangle r c) = codes "box" ∷ integer_word r.x ∷ integer_word r.y ∷ decimal r.w ∷ decimal r.h ∷ color_words c
paint_words (paint.Checker n a b) = codes "checker" ∷ decimal n ∷ color_words a ++ color_words b
paint_words (paint.Ramp a b) = codes "ramp" ∷ color_words a ++ color_words b
paint_words (paint.Row y pixels) = codes "row" ∷ decimal y ∷ flat_map hex_pixel_word pixels ∷ []

-- the words of a verb
abbrev pub verb_words : Verb → List Word
verb_words (verb.StreamNew w h f b) = codes "stream" ∷ written (number w ∷ number h ∷ format f ∷ number b ∷ [])
verb_words (verb.StreamQueue w h f d) = codes "queue" ∷ written (number w ∷ number h ∷ format f ∷ number d ∷ [])
verb_words (verb.Acquire s) = codes "acquire" ∷ written (handle s ∷ [])
verb_words verb.Post = codes "post" ∷ []
verb_words verb.Discard = codes "discard" ∷ []
verb_words (verb.Stat what) = codes "stat" ∷ written (stat what ∷ [])
verb_words (verb.Paint p) = codes "paint" ∷ paint_words p
verb_words (verb.Frame s p) = codes "frame" ∷ handle_word s ∷ paint_words p
verb_words verb.Tick = codes "tick" ∷ []
verb_words verb.DeviceNew = codes "device" ∷ []
verb_words (verb.GetError d) = codes "error" ∷ written (handle d ∷ [])
verb_words (verb.ScreenContext d p) = codes "screen" ∷ written (handle d ∷ number p ∷ [])
verb_words (verb.StreamContext d s) = codes "offscreen" ∷ written (handle d ∷ handle s ∷ [])
verb_words (verb.ElementNew d c) = codes "element" ∷ written (handle d ∷ handle c ∷ [])
verb_words (verb.SourceNew d c s) = codes "source" ∷ written (handle d ∷ handle c ∷ handle s ∷ [])
verb_words (verb.MaskNew d c s) = codes "mask" ∷ written (handle d ∷ handle c ∷ handle s ∷ [])
verb_words (verb.ElementSet d e a v) =
    codes "set" ∷ written (handle d ∷ handle e ∷ element_attr a ∷ value_items (element_fields a) v)
verb_words (verb.ElementGet d e a i) = codes "get" ∷ written (handle d ∷ handle e ∷ element_attr a ∷ number i ∷ [])
verb_words (verb.ElementInsert d e b) = codes "insert" ∷ written (handle d ∷ handle e ∷ handle b ∷ [])
verb_words (verb.ElementRemove d e) = codes "remove" ∷ written (handle d ∷ handle e ∷ [])
verb_words (verb.ElementAbove d e) = codes "above" ∷ written (handle d ∷ handle e ∷ [])
verb_words (verb.ElementBelow d e) = codes "below" ∷ written (handle d ∷ handle e ∷ [])
verb_words (verb.ContextSet d c a v) =
    codes "cset" ∷ written (handle d ∷ handle c ∷ context_attr a ∷ value_items (context_fields a) v)
verb_words (verb.ContextGet d c a i) = codes "cget" ∷ written (handle d ∷ handle c ∷ context_attr a ∷ number i ∷ [])
verb_words (verb.Commit d c) = codes "commit" ∷ written (handle d ∷ handle c ∷ [])
verb_words (verb.Activate d c) = codes "activate" ∷ written (handle d ∷ handle c ∷ [])
verb_words (verb.Deactivate d c) = codes "deactivate" ∷ written (handle d ∷ handle c ∷ [])
verb_words (verb.Compose d c) = codes "compose" ∷ written (handle d ∷ handle c ∷ [])
verb_words (verb.TryCompose d c) = codes "trycompose" ∷ written (handle d ∷ handle c ∷ [])
verb_words (verb.StreamDestroy s) = codes "del_stream" ∷ written (handle s ∷ [])
verb_words (verb.DeviceDestroy d) = codes "del_device" ∷ written (handle d ∷ [])
verb_words (verb.ContextDestroy d c) = codes "del_context" ∷ written (handle d ∷ handle c ∷ [])
verb_words (verb.ElementDestroy d e) = codes "del_element" ∷ written (handle d ∷ handle e ∷ [])
verb_words (verb.SourceDestroy d x) = codes "del_source" ∷ written (handle d ∷ handle x ∷ [])
verb_words (verb.MaskDestroy d m) = codes "del_mask" ∷ written (handle d ∷ handle m ∷ [])
verb_words (verb.PortSet p a v) =
    codes "pset" ∷ written (number p ∷ port_attr a ∷ value_items (port_fields a) v)
verb_words (verb.PortGet p a i) = codes "pget" ∷ written (number p ∷ port_attr a ∷ number i ∷ [])
verb_words (verb.Attach p on) = codes "attach" ∷ written (number p ∷ number on ∷ [])
verb_words (verb.PipeSet l a v) =
    codes "lset" ∷ written (number l ∷ pipe_attr a ∷ value_items (pipe_fields a) v)
verb_words (verb.PipeGet l a i) = codes "lget" ∷ written (number l ∷ pipe_attr a ∷ number i ∷ [])
verb_words (verb.PipeBindPort l p) = codes "lport" ∷ written (number l ∷ number p ∷ [])
verb_words (verb.DisplaySource l s) = codes "wsource" ∷ written (number l ∷ handle s ∷ [])
verb_words (verb.DisplaySourceDestroy x) = codes "del_wsource" ∷ written (handle x ∷ [])
verb_words (verb.PipeBindSource l x t) = codes "lsource" ∷ written (number l ∷ handle x ∷ transition t ∷ [])
verb_words verb.CommitDevice = codes "commit_device" ∷ []
verb_words (verb.CommitPort p) = codes "commit_port" ∷ written (number p ∷ [])
verb_words (verb.CommitPipe l) = codes "commit_pipe" ∷ written (number l ∷ [])
verb_words verb.DisplayError = codes "derror" ∷ []

-- words apart by one space, with a line feed behind them
abbrev pub text_line : List Word → List ℕ
text_line words = join_by (λ w. w) (codes " ") words ++ codes "\n"

-- the name that a line binds
abbrev pub binding_words : Option Name → List Word
binding_words None = []
binding_words (Some name) = name ∷ codes "=" ∷ []

abbrev pub event_text : Line → List ℕ
event_text l = text_line (decimal l.client ∷ binding_words l.name ++ verb_words l.verb)

abbrev pub size_word : Size → Word
size_word s = decimal s.w ++ codes "x" ++ decimal s.h

abbrev pub port_text : Modes → List ℕ
port_text m = text_line (codes "port" ∷ map size_word m.sizes.items)

abbrev pub pipes_text : ℕ → List ℕ
pipes_text n = if n == 0 then [] else text_line (codes "pipes" ∷ decimal n ∷ [])

-- the header, the ports, the pipelines where there are any, the event lines and the end
unfoldable pub canonical : PlainScript → List ℕ
canonical script =
    text_line (codes "WFS1" ∷ []) ++ flat_map port_text script.ports.modes.items ++ pipes_text script.ports.pipes
    ++ flat_map event_text script.lines ++ text_line (codes "end" ∷ [])
