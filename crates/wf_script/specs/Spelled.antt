-- How the words of each kind are spelled.
use Rattle.std.specs.Prelude.{◌+◌, ◌&&◌, int_le, ℤ, pos, negsuc, List, [], ◌++◌, find, codes, decimal, unwrap_or, option_map, Option}
use Rattle.std.specs.Prelude.{Some, None}
use Rattle.wf_pixel.specs.declared.Format.{Format}
use Rattle.wf_pixel.specs.declared.Format.TheVariants.{Rgba8, Rgba8Pre, Rgbx8, A8}
use Rattle.wf_scene.specs.declared.attributes.ElementAttr.{ElementAttr}
use Rattle.wf_scene.specs.declared.attributes.ElementAttr.TheVariants as element
use Rattle.wf_scene.specs.declared.attributes.ContextAttr.{ContextAttr}
use Rattle.wf_scene.specs.declared.attributes.ContextAttr.TheVariants as context
use Rattle.wf_calls.specs.declared.call.StatWord.{StatWord}
use Rattle.wf_calls.specs.declared.call.StatWord.TheVariants.{Streams, Bytes}
use Rattle.wf_calls.specs.declared.display.PipeAttr.{PipeAttr}
use Rattle.wf_calls.specs.declared.display.PipeAttr.TheVariants as pipe
use Rattle.wf_calls.specs.declared.display.PortAttr.{PortAttr}
use Rattle.wf_calls.specs.declared.display.PortAttr.TheVariants as port
use Rattle.wf_calls.specs.declared.display.Transition.{Transition}
use Rattle.wf_calls.specs.declared.display.Transition.TheVariants.{Now, Vsync}
use Rattle.wf_script.specs.declared.name.Name.{Name}
use Rattle.wf_script.specs.Words.{Word, none_word}

abbrev pub integer_word : ℤ → Word
integer_word (pos n) = decimal n
integer_word (negsuc n) = codes "-" ++ decimal (n + 1)

abbrev pub handle_word : Option Name → Word
handle_word None = none_word
handle_word (Some name) = name

abbrev pub format_word : Format → Word
format_word Rgba8 = codes "rgba"
format_word Rgba8Pre = codes "pre"
format_word Rgbx8 = codes "rgbx"
format_word A8 = codes "a8"

abbrev pub stat_word : StatWord → Word
stat_word Streams = codes "streams"
stat_word Bytes = codes "bytes"

abbrev pub element_attr_word : ElementAttr → Word
element_attr_word element.Dest = codes "dest"
element_attr_word element.Source = codes "source"
element_attr_word element.SrcRect = codes "srcrect"
element_attr_word element.Flip = codes "flip"
element_attr_word element.Rotation = codes "rotation"
element_attr_word element.Filter = codes "filter"
element_attr_word element.Transparency = codes "transparency"
element_attr_word element.Alpha = codes "alpha"
element_attr_word element.Mask = codes "mask"

abbrev pub context_attr_word : ContextAttr → Word
context_attr_word context.Rotation = codes "rotation"
context_attr_word context.Background = codes "background"
context_attr_word context.Width = codes "width"
context_attr_word context.Height = codes "height"
context_attr_word context.Lowest = codes "lowest"

abbrev pub port_attr_word : PortAttr → Word
port_attr_word port.Mode = codes "mode"
port_attr_word port.Background = codes "background"
port_attr_word port.Power = codes "power"
port_attr_word port.Width = codes "width"
port_attr_word port.Height = codes "height"
port_attr_word port.Attached = codes "attached"

abbrev pub pipe_attr_word : PipeAttr → Word
pipe_attr_word pipe.Dest = codes "dest"
pipe_attr_word pipe.SrcRect = codes "srcrect"
pipe_attr_word pipe.Flip = codes "flip"
pipe_attr_word pipe.Rotation = codes "rotation"
pipe_attr_word pipe.Filter = codes "filter"
pipe_attr_word pipe.Transparency = codes "transparency"
pipe_attr_word pipe.Alpha = codes "alpha"
pipe_attr_word pipe.Port = codes "port"
pipe_attr_word pipe.Pending = codes "pending"
pipe_attr_word pipe.Showing = codes "showing"

abbrev pub transition_word : Transition → Word
transition_word Now = codes "now"
transition_word Vsync = codes "vsync"

-- the first word of a table beside which a number stands
abbrev pub word_of : List (Word × ℤ) → ℤ → Word
word_of rows z = unwrap_or (option_map (λ row. row.0) (find (λ row. int_le row.1 z && int_le z row.1) rows)) []
