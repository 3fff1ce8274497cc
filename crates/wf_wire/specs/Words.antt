-- The words and the attributes by their numbers, which count from 0, and the one of an argument. tools/calls writes this file.
use Rattle.std.specs.Prelude.{ℕ, List, [], ◌∷◌, slice_get, unwrap_or}
use Rattle.wf_wire.specs.Bits.{bit_at}
use Rattle.wf_pixel.specs.declared.Format.{Format}
use Rattle.wf_pixel.specs.declared.Format.TheVariants as format
use Rattle.wf_calls.specs.declared.call.StatWord.{StatWord}
use Rattle.wf_calls.specs.declared.call.StatWord.TheVariants as stat
use Rattle.wf_calls.specs.declared.display.Transition.{Transition}
use Rattle.wf_calls.specs.declared.display.Transition.TheVariants as transition
use Rattle.wf_scene.specs.declared.attributes.ElementAttr.{ElementAttr}
use Rattle.wf_scene.specs.declared.attributes.ElementAttr.TheVariants as element
use Rattle.wf_scene.specs.declared.attributes.ContextAttr.{ContextAttr}
use Rattle.wf_scene.specs.declared.attributes.ContextAttr.TheVariants as context
use Rattle.wf_calls.specs.declared.display.PortAttr.{PortAttr}
use Rattle.wf_calls.specs.declared.display.PortAttr.TheVariants as port
use Rattle.wf_calls.specs.declared.display.PipeAttr.{PipeAttr}
use Rattle.wf_calls.specs.declared.display.PipeAttr.TheVariants as pipe

abbrev pub format_words : List Format
format_words = format.Rgba8 ∷ format.Rgba8Pre ∷ format.Rgbx8 ∷ format.A8 ∷ []

abbrev pub format_at : List ℕ → ℕ → Format
format_at bits place = unwrap_or (slice_get format_words (bit_at bits place)) format.Rgba8

abbrev pub stat_words : List StatWord
stat_words = stat.Streams ∷ stat.Bytes ∷ []

abbrev pub stat_at : List ℕ → ℕ → StatWord
stat_at bits place = unwrap_or (slice_get stat_words (bit_at bits place)) stat.Streams

abbrev pub transition_words : List Transition
transition_words = transition.Now ∷ transition.Vsync ∷ []

abbrev pub transition_at : List ℕ → ℕ → Transition
transition_at bits place = unwrap_or (slice_get transition_words (bit_at bits place)) transition.Now

abbrev pub element_words : List ElementAttr
element_words = element.Dest ∷ element.Source ∷ element.SrcRect ∷ element.Flip ∷ element.Rotation ∷ element.Filter
    ∷ element.Transparency ∷ element.Alpha ∷ element.Mask ∷ []

abbrev pub element_at : List ℕ → ℕ → ElementAttr
element_at bits place = unwrap_or (slice_get element_words (bit_at bits place)) element.Dest

abbrev pub context_words : List ContextAttr
context_words = context.Rotation ∷ context.Background ∷ context.Width ∷ context.Height ∷ context.Lowest ∷ []

abbrev pub context_at : List ℕ → ℕ → ContextAttr
context_at bits place = unwrap_or (slice_get context_words (bit_at bits place)) context.Rotation

abbrev pub port_words : List PortAttr
port_words = port.Mode ∷ port.Background ∷ port.Power ∷ port.Width ∷ port.Height ∷ port.Attached ∷ []

abbrev pub port_at : List ℕ → ℕ → PortAttr
port_at bits place = unwrap_or (slice_get port_words (bit_at bits place)) port.Mode

abbrev pub pipe_words : List PipeAttr
pipe_words = pipe.Dest ∷ pipe.SrcRect ∷ pipe.Flip ∷ pipe.Rotation ∷ pipe.Filter ∷ pipe.Alpha ∷ pipe.Transparency ∷ pipe.Port
    ∷ pipe.Pending ∷ pipe.Showing ∷ []

abbrev pub pipe_at : List ℕ → ℕ → PipeAttr
pipe_at bits place = unwrap_or (slice_get pipe_words (bit_at bits place)) pipe.Dest
