-- The header of a session: `WFW1`, the number of ports, the size of each, and the number of pipelines.
use Rattle.std.specs.Prelude.{ℕ, List, [], ◌∷◌, replicate, codes}
use Rattle.byteorder.specs.Endian.{big_number}
use Rattle.wf_pixel.specs.declared.TheConstants.{MOST_SIDE}
use Rattle.wf_calls.specs.declared.ports.Modes.{Modes}
use Rattle.wf_calls.specs.declared.ports.Ports.{Ports}
use Rattle.wf_calls.specs.declared.TheConstants.{MOST_PIPELINES}
use Rattle.wf_wire.specs.Reading.{Reader, ◌>>=◌, done, each, number_within}

-- the four bytes that a session begins with, as one number
abbrev pub magic : ℕ
magic = big_number 4 (codes "WFW1")

-- the one mode of a port
abbrev pub mode_of : ℕ → ℕ → Modes
mode_of w h = record { sizes = record { items = record { w = w; h = h } ∷ [] } }

-- a port's width and height
unfoldable pub port : Reader Modes
port = do
  w ← number_within 1 MOST_SIDE 2
  h ← number_within 1 MOST_SIDE 2
  done (mode_of w h)

-- those of n ports
abbrev pub ports_of : ℕ → Reader (List Modes)
ports_of n = each (λ (_ : Unit {0}). port) (replicate n tt)

abbrev pub declared : List Modes → ℕ → Ports
declared modes pipes = record { modes = record { items = modes }; pipes = pipes }

unfoldable pub header : Reader Ports
header = do
  _ ← number_within magic magic 4
  count ← number_within 1 4 1
  modes ← ports_of count
  pipes ← number_within 0 MOST_PIPELINES 1
  done (declared modes pipes)
