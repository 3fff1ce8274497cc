-- The attributes of ports.
use Rattle.std.specs.Prelude.{ℕ, Bool, ℤ, pos, List, [], ◌∷◌, length, Option, Some, None, option_map, Result, Ok, Err}
use Rattle.std.specs.Prelude.{if◌then◌else◌}
use Rattle.wf_words.specs.Refusals.{◌>>=◌}
use Rattle.wf_words.specs.Whole.{count_of}
use Rattle.wf_pixel.specs.declared.Rgba.{Rgba}
use Rattle.wf_pixel.specs.declared.Size.{Size}
use Rattle.wf_pixel.specs.Choice.{is_between}
use Rattle.wf_scene.specs.Values.{at_index, component, colour_of, flag_number, flag_of}
use Rattle.wf_calls.specs.declared.code.Code.TheVariants as code
use Rattle.wf_calls.specs.declared.display.PortAttr.{PortAttr}
use Rattle.wf_calls.specs.declared.display.PortAttr.TheVariants as attr
use Rattle.wf_calls.specs.declared.reply.Refusal.{Refusal}
use Rattle.wf_calls.specs.Replies.{refusal}
use Rattle.wf_model.specs.DisplaySides.{port, with_port}
use Rattle.wf_model.specs.Outcome.{Outcome, found}
use Rattle.wf_model.specs.State.{DisplayState, Port, PortStyle, mode_size}

-- a mode of the port
abbrev pub mode_of : ℤ → List Size → Option ℕ
mode_of z modes = if is_between (pos 1) (pos (length modes)) z then Some (count_of z) else None

-- the opaque colour of red, green and blue
abbrev pub opaque_of : List ℤ → Option Rgba
opaque_of v = colour_of (component v 0 ∷ component v 1 ∷ component v 2 ∷ pos 255 ∷ [])

abbrev pub with_mode : PortStyle → ℕ → PortStyle
with_mode style mode = record style { mode = mode }

-- what a value of an attribute makes of what is cached
abbrev pub port_styled : PortAttr → List ℤ → Port → Result PortStyle Refusal
port_styled attr.Mode v p = found code.IllegalArgument (option_map (with_mode p.cached) (mode_of (component v 0) p.modes.items))
port_styled attr.Background v p =
    found code.IllegalArgument (option_map (λ c. record p.cached { background = c }) (opaque_of v))
port_styled attr.Power v p =
    found code.IllegalArgument (option_map (λ on. record p.cached { power = on }) (flag_of (component v 0)))
port_styled attr.Width v p = Err (refusal code.BadAttribute)
port_styled attr.Height v p = Err (refusal code.BadAttribute)
port_styled attr.Attached v p = Err (refusal code.BadAttribute)

-- the size that a port shows
abbrev pub shown_size : Port → Size
shown_size p = mode_size p.committed.mode p.modes.items

-- the numbers of an attribute
abbrev pub port_numbers : PortAttr → Port → List ℕ
port_numbers attr.Mode p = p.cached.mode ∷ []
port_numbers attr.Background p = p.cached.background.r ∷ p.cached.background.g ∷ p.cached.background.b ∷ []
port_numbers attr.Power p = flag_number p.cached.power ∷ []
port_numbers attr.Width p = (shown_size p).w ∷ []
port_numbers attr.Height p = (shown_size p).h ∷ []
port_numbers attr.Attached p = flag_number p.attached ∷ []

abbrev pub with_style : PortStyle → Port → Port
with_style style p = record p { cached = style }

abbrev pub with_attached : Bool → Port → Port
with_attached on p = record p { attached = on }

-- the calls

abbrev pub port_set : ℤ → PortAttr → List ℤ → DisplayState → Outcome DisplayState
port_set p attr value d = do
  x ← port p d
  style ← port_styled attr value x
  Ok (with_port p (with_style style x) d, 0)

abbrev pub port_get : ℤ → PortAttr → ℤ → DisplayState → Outcome DisplayState
port_get p attr index d = do
  x ← port p d
  n ← found code.IllegalArgument (at_index index (port_numbers attr x))
  Ok (d, n)

-- a display is attached or detached at once
abbrev pub attach : ℤ → ℤ → DisplayState → Outcome DisplayState
attach p on d = do
  x ← port p d
  attached ← found code.IllegalArgument (flag_of on)
  Ok (with_port p (with_attached attached x) d, 0)
