-- The commits of the display: what they take, the rules that they test, and what they leave.
use Rattle.std.specs.Prelude.{ℕ, ◌+◌, Bool, true, false, not, ◌==◌, ◌||◌, ◌&&◌, ℤ, List, [], ◌∷◌, position, Option}
use Rattle.std.specs.Prelude.{Some}
use Rattle.std.specs.Prelude.{None, is_some, option_map, unwrap_or, Ok, if◌then◌else◌}
use Rattle.std.specs.Option.{option_map_or}
use Rattle.wf_model.specs.Numbered.{each_from}
use Rattle.wf_words.specs.Refusals.{◌>>=◌}
use Rattle.wf_words.specs.Whole.{count_of}
use Rattle.wf_pixel.specs.Choice.{has_sides}
use Rattle.wf_pixel.specs.Place.{size_of}
use Rattle.wf_stream.specs.Streams.{KeptStream, buffers_at}
use Rattle.wf_scene.specs.declared.look.Fault.{Fault}
use Rattle.wf_scene.specs.declared.style.Style.{Style}
use Rattle.wf_scene.specs.Consistent.{unless}
use Rattle.wf_scene.specs.Layers.{holds_rect}
use Rattle.wf_calls.specs.declared.display.Transition.{Transition}
use Rattle.wf_calls.specs.declared.display.Transition.TheVariants.{Now, Vsync}
use Rattle.wf_model.specs.declared.display.Extent.{Extent}
use Rattle.wf_model.specs.declared.display.Extent.TheVariants as extent
use Rattle.wf_model.specs.declared.display.Request.{Request}
use Rattle.wf_model.specs.Core.{fault_as_refusal}
use Rattle.wf_model.specs.DisplaySides.{DisplaySide, pipeline, port, source_at}
use Rattle.wf_model.specs.Outcome.{Outcome}
use Rattle.wf_model.specs.State.{DisplaySource, DisplayState, Pipeline, Port}

-- what is taken

abbrev pub takes_port : Extent → ℕ → Bool
takes_port extent.Device p = true
takes_port (extent.Port q) p = p == q
takes_port (extent.Pipeline m) p = false

-- a port takes the pipelines whose cached or committed port it is
abbrev pub takes_pipeline : Extent → ℕ → Pipeline → Bool
takes_pipeline extent.Device l x = true
takes_pipeline (extent.Port q) l x = (x.cached_port == q) || (x.committed_port == q)
takes_pipeline (extent.Pipeline m) l x = l == m

-- what a pipeline would show

abbrev pub stream_of : Option DisplaySource → ℕ
stream_of None = 0
stream_of (Some s) = s.stream

-- the stream of a requested source, or 0
abbrev pub requested_stream : ℕ → List DisplaySource → ℕ
requested_stream handle sources = stream_of (source_at handle sources)

-- the stream that is shown at the next frame: the one that waits, or else the current one
abbrev pub bound_stream : Pipeline → ℕ
bound_stream x = unwrap_or x.pending x.current

-- the stream that would be shown at the next frame after a commit: the requested one, or else the bound one
abbrev pub wanted_stream : Pipeline → List DisplaySource → ℕ
wanted_stream x sources = of_request x.request
  where
    of_request : Option Request → ℕ
    of_request None = bound_stream x
    of_request (Some r) = requested_stream r.source sources

-- the rules that a pipeline has to keep, each for itself

-- a requested source is none, or live
abbrev pub has_source : Pipeline → List DisplaySource → Bool
has_source x sources = option_map_or (λ r. (r.source == 0) || is_some (source_at r.source sources)) x.request true

-- where it would show a stream, its source rectangle has sides of at least 1 and lies inside the stream
abbrev pub is_inside : ℕ → Style → List KeptStream → Bool
is_inside n style streams = (n == 0) || option_map_or (λ b. holds_rect b.size style.src) (buffers_at n streams) false

-- and its destination has sides that an image may have
abbrev pub has_destination : ℕ → Style → Bool
has_destination n style = (n == 0) || has_sides (size_of style.dest)

-- alone it stays with its port; with a port it stays there or moves between the port and none
abbrev pub keeps_port : Extent → Pipeline → Bool
keeps_port extent.Device x = true
keeps_port (extent.Port q) x =
    ((x.cached_port == q) || (x.cached_port == 0)) && ((x.committed_port == q) || (x.committed_port == 0))
keeps_port (extent.Pipeline m) x = x.cached_port == x.committed_port

-- which of the four it keeps
abbrev pub kept_rules : Extent → List KeptStream → List DisplaySource → Pipeline → List Bool
kept_rules e streams sources x =
    let shown : ℕ = wanted_stream x sources in
    has_source x sources ∷ is_inside shown x.cached streams ∷ has_destination shown x.cached ∷ keeps_port e x ∷ []

-- the first rule that it breaks, from 1
abbrev pub broken_rule : Extent → List KeptStream → List DisplaySource → Pipeline → Option ℕ
broken_rule e streams sources x = option_map (λ i. i + 1) (position not (kept_rules e streams sources x))

abbrev pub fault_of : ℕ → ℕ → Fault
fault_of l rule = record { place = l; rule = rule }

-- the fault of a pipeline of a number, where it is taken and breaks a rule
abbrev pub fault_at : Extent → List KeptStream → List DisplaySource → ℕ → Pipeline → Option Fault
fault_at e streams sources l x = if takes_pipeline e l x then option_map (fault_of l) (broken_rule e streams sources x) else None

abbrev pub or_later : Option Fault → Option Fault → Option Fault
or_later (Some f) later = Some f
or_later None later = later

-- the first fault of the pipelines from a number on
abbrev pub fault_from : Extent → List KeptStream → List DisplaySource → ℕ → List Pipeline → Option Fault
fault_from e streams sources l [] = None
fault_from e streams sources l (x ∷ xs) = or_later (fault_at e streams sources l x) (fault_from e streams sources (l + 1) xs)

-- what is left

-- a request becomes the current binding, or the one that waits
abbrev pub bound : Transition → ℕ → Pipeline → Pipeline
bound Now n x = record x { request = None; current = n; pending = None }
bound Vsync n x = record x { request = None; pending = Some n }

-- a pipeline after its commit
abbrev pub committed_pipeline : List DisplaySource → Pipeline → Pipeline
committed_pipeline sources x = with_binding x.request (record x { committed = x.cached; committed_port = x.cached_port })
  where
    with_binding : Option Request → Pipeline → Pipeline
    with_binding None y = y
    with_binding (Some r) y = bound r.transition (requested_stream r.source sources) y

abbrev pub committed_port : Port → Port
committed_port p = record p { committed = p.cached }

-- the objects with what is cached of all that is taken committed
abbrev pub committed : Extent → DisplayState → DisplayState
committed e d =
    record d {
      ports = each_from (λ p x. if takes_port e p then committed_port x else x) 1 d.ports;
      pipelines = each_from (λ l x. if takes_pipeline e l x then committed_pipeline d.sources x else x) 1 d.pipelines;
    }

-- all that is named is taken, or nothing
abbrev pub commit_display : Extent → DisplaySide → Outcome DisplaySide
commit_display e w = do
  display ← fault_as_refusal (unless (fault_from e w.streams w.display.sources 1 w.display.pipelines) (committed e w.display))
  Ok (record w { display = display }, 0)

abbrev pub commit_device : DisplaySide → Outcome DisplaySide
commit_device w = commit_display extent.Device w

abbrev pub commit_port : ℤ → DisplaySide → Outcome DisplaySide
commit_port p w = do
  _ ← port p w.display
  commit_display (extent.Port (count_of p)) w

abbrev pub commit_pipe : ℤ → DisplaySide → Outcome DisplaySide
commit_pipe l w = do
  _ ← pipeline l w.display
  commit_display (extent.Pipeline (count_of l)) w
