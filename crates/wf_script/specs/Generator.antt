-- The script of the generator. Each of its rounds is of one of the clients 1 to 7 in turn: it makes a stream, shows it in an element
-- at a place of its own, fills it with a colour of its own, and destroys all three behind the tick.
use Rattle.std.specs.Prelude.{ℕ, zero, suc, ◌+◌, ◌*◌, ◌%◌, pos, List, [], ◌∷◌, ◌++◌, codes, decimal, Option, Some, None}
use Rattle.wf_pixel.specs.declared.Format.TheVariants.{Rgbx8}
use Rattle.wf_pixel.specs.declared.Rgba.{Rgba}
use Rattle.wf_image.specs.declared.paint.Paint.TheVariants.{Fill}
use Rattle.wf_scene.specs.declared.attributes.ElementAttr.{ElementAttr}
use Rattle.wf_scene.specs.declared.attributes.ElementAttr.TheVariants as element
use Rattle.wf_calls.specs.declared.ports.Ports.{Ports}
use Rattle.wf_script.specs.declared.line.Line.{Line}
use Rattle.wf_script.specs.declared.line.Value.{Value}
use Rattle.wf_script.specs.declared.line.Value.TheVariants.{Handle, Numbers}
use Rattle.wf_script.specs.declared.line.Verb.{Verb}
use Rattle.wf_script.specs.declared.line.Verb.TheVariants as verb
use Rattle.wf_script.specs.declared.name.Name.{Name}
use Rattle.wf_script.specs.Script.{PlainScript}

-- a letter and a number
abbrev pub numbered : List ℕ → ℕ → Name
numbered letter i = letter ++ decimal i

-- a line without a name, and one with a name
abbrev pub plain_line : ℕ → Verb → Line
plain_line client v = record { client = client; name = None; verb = v }

abbrev pub named_line : ℕ → Name → Verb → Line
named_line client name v = record { client = client; name = Some name; verb = v }

abbrev pub rectangle_value : ℕ → ℕ → ℕ → ℕ → Value
rectangle_value x y w h = Numbers (pos x ∷ pos y ∷ pos w ∷ pos h ∷ [])

-- the device and its context
abbrev pub device : Option Name
device = Some (codes "d")

abbrev pub context : Option Name
context = Some (codes "c")

-- the lines before the first round
abbrev pub setup : List Line
setup =
    named_line 0 (codes "d") verb.DeviceNew
    ∷ named_line 0 (codes "c") (verb.ScreenContext device (pos 1))
    ∷ plain_line 0 (verb.Activate device context)
    ∷ []

-- round i
module _ (i : ℕ) where
  -- its client
  abbrev pub client_of_round : ℕ
  client_of_round = 1 + i % 7

  abbrev pub stream : Name
  stream = numbered (codes "s") i

  abbrev pub source : Name
  source = numbered (codes "x") i

  abbrev pub element_of_round : Name
  element_of_round = numbered (codes "e") i

  -- an attribute of its element
  abbrev pub set_line : ElementAttr → Value → Line
  set_line attr value = plain_line client_of_round (verb.ElementSet device (Some element_of_round) attr value)

  abbrev pub color_of_round : Rgba
  color_of_round = record { r = i % 256; g = 7 * i % 256; b = 13 * i % 256; a = 255 }

  abbrev pub round : List Line
  round =
      named_line client_of_round stream (verb.StreamNew (pos 8) (pos 8) Rgbx8 (pos 2))
      ∷ named_line client_of_round source (verb.SourceNew device context (Some stream))
      ∷ named_line client_of_round element_of_round (verb.ElementNew device context)
      ∷ set_line element.Source (Handle (Some source))
      ∷ set_line element.SrcRect (rectangle_value 0 0 8 8)
      ∷ set_line element.Dest (rectangle_value (5 * i % 56) (3 * i % 40) 8 8)
      ∷ plain_line client_of_round (verb.ElementInsert device (Some element_of_round) None)
      ∷ plain_line client_of_round (verb.Frame (Some stream) (Fill color_of_round))
      ∷ plain_line client_of_round (verb.Commit device context)
      ∷ plain_line 0 verb.Tick
      ∷ plain_line client_of_round (verb.ElementDestroy device (Some element_of_round))
      ∷ plain_line client_of_round (verb.SourceDestroy device (Some source))
      ∷ plain_line client_of_round (verb.StreamDestroy (Some stream))
      ∷ []

-- the rounds from 0 to n - 1
unfoldable pub rounds : ℕ → List Line
rounds zero = []
rounds (suc n) = rounds n ++ round n

-- one port of 64 by 48 pixels, and one pipeline
abbrev pub made_ports : Ports
made_ports = record {
  modes = record { items = record { sizes = record { items = record { w = 64; h = 48 } ∷ [] } } ∷ [] };
  pipes = 1;
}

-- the script of n rounds
abbrev pub made : ℕ → PlainScript
made n = record { ports = made_ports; lines = setup ++ rounds n }
