-- The attributes of pipelines, their sources, and what they ask to be bound to.
use Rattle.std.specs.Prelude.{ℕ, ◌+◌, Bool, not, ◌==◌, ◌||◌, ℤ, pos, List, [], ◌∷◌, ◌++◌, length, filter, nat_le, Option, Some, None}
use Rattle.std.specs.Prelude.{is_some, option_map, Result, Ok, Err, if◌then◌else◌}
use Rattle.wf_words.specs.Keyed.{nth}
use Rattle.wf_words.specs.Refusals.{◌>>=◌}
use Rattle.wf_words.specs.Whole.{count_of}
use Rattle.wf_pixel.specs.declared.Transparency.{Transparency}
use Rattle.wf_pixel.specs.Choice.{is_a8, is_between}
use Rattle.wf_life.specs.Handles.{is_full}
use Rattle.wf_stream.specs.Streams.{KeptStream}
use Rattle.wf_scene.specs.declared.style.Style.{Style}
use Rattle.wf_scene.specs.Values.{at_index, channel_of, component, degrees, filter_number, filter_of, flag_number, flag_of, is_count}
use Rattle.wf_scene.specs.Values.{rect_numbers, rect_of, transparency_number, transparency_of, turn_of}
use Rattle.wf_calls.specs.declared.code.Code.TheVariants as code
use Rattle.wf_calls.specs.declared.display.PipeAttr.{PipeAttr}
use Rattle.wf_calls.specs.declared.display.PipeAttr.TheVariants as attr
use Rattle.wf_calls.specs.declared.display.Transition.{Transition}
use Rattle.wf_calls.specs.declared.reply.Refusal.{Refusal}
use Rattle.wf_calls.specs.Replies.{refusal}
use Rattle.wf_model.specs.declared.display.Request.{Request}
use Rattle.wf_model.specs.Composition.{live_stream}
use Rattle.wf_model.specs.DisplaySides.{DisplaySide, pipeline, source_at, with_pipeline}
use Rattle.wf_model.specs.Outcome.{Outcome, found, refuse}
use Rattle.wf_model.specs.State.{DisplaySource, DisplayState, Pipeline}
use Rattle.wf_model.specs.declared.TheConstants.{MOST_SOURCES}

-- attributes

-- a pipeline has no mask
abbrev pub unmasked_of : ℤ → Option Transparency
unmasked_of z = if is_between (pos 0) (pos 3) z then transparency_of z else None

abbrev pub with_transparency : Style → Transparency → Style
with_transparency style t = record style { transparency = t }

-- what a value of an attribute makes of what is cached
abbrev pub pipeline_styled : PipeAttr → List ℤ → Style → Result Style Refusal
pipeline_styled attr.Dest v s = found code.IllegalArgument (option_map (λ r. record s { dest = r }) (rect_of v))
pipeline_styled attr.SrcRect v s = found code.IllegalArgument (option_map (λ r. record s { src = r }) (rect_of v))
pipeline_styled attr.Flip v s = found code.IllegalArgument (option_map (λ f. record s { flip = f }) (flag_of (component v 0)))
pipeline_styled attr.Rotation v s = found code.IllegalArgument (option_map (λ t. record s { turn = t }) (turn_of (component v 0)))
pipeline_styled attr.Filter v s = found code.IllegalArgument (option_map (λ f. record s { filter = f }) (filter_of (component v 0)))
pipeline_styled attr.Transparency v s = do
  _ ← refuse code.IllegalArgument (not (is_between (pos 0) (pos 7) (component v 0)))
  found code.NotSupported (option_map (with_transparency s) (unmasked_of (component v 0)))
pipeline_styled attr.Alpha v s = found code.IllegalArgument (option_map (λ a. record s { alpha = a }) (channel_of (component v 0)))
pipeline_styled attr.Port v s = Err (refusal code.BadAttribute)
pipeline_styled attr.Pending v s = Err (refusal code.BadAttribute)
pipeline_styled attr.Showing v s = Err (refusal code.BadAttribute)

-- the numbers of an attribute
abbrev pub pipeline_numbers : PipeAttr → Pipeline → List ℕ
pipeline_numbers attr.Dest x = rect_numbers x.cached.dest
pipeline_numbers attr.SrcRect x = rect_numbers x.cached.src
pipeline_numbers attr.Flip x = flag_number x.cached.flip ∷ []
pipeline_numbers attr.Rotation x = degrees x.cached.turn ∷ []
pipeline_numbers attr.Filter x = filter_number x.cached.filter ∷ []
pipeline_numbers attr.Transparency x = transparency_number x.cached.transparency ∷ []
pipeline_numbers attr.Alpha x = x.cached.alpha ∷ []
pipeline_numbers attr.Port x = x.cached_port ∷ []
pipeline_numbers attr.Pending x = flag_number (is_some x.pending) ∷ []
pipeline_numbers attr.Showing x = flag_number (not (x.current == 0)) ∷ []

abbrev pub with_cached : Style → Pipeline → Pipeline
with_cached style x = record x { cached = style }

abbrev pub pipe_set : ℤ → PipeAttr → List ℤ → DisplayState → Outcome DisplayState
pipe_set l attr value d = do
  x ← pipeline l d
  style ← pipeline_styled attr value x.cached
  Ok (with_pipeline l (with_cached style x) d, 0)

abbrev pub pipe_get : ℤ → PipeAttr → ℤ → DisplayState → Outcome DisplayState
pipe_get l attr index d = do
  x ← pipeline l d
  n ← found code.IllegalArgument (at_index index (pipeline_numbers attr x))
  Ok (d, n)

-- ports

-- a number is that of a port, or 0
abbrev pub is_port_or_0 : ℤ → DisplayState → Bool
is_port_or_0 p d = is_count 0 p || is_some (nth (count_of p) d.ports)

abbrev pub with_port_of : ℕ → Pipeline → Pipeline
with_port_of p x = record x { cached_port = p }

-- the port of a number, or none by 0
abbrev pub named_port : ℤ → DisplayState → Result ℕ Refusal
named_port p d = do
  _ ← refuse code.BadHandle (not (is_port_or_0 p d))
  Ok (count_of p)

abbrev pub pipe_bind_port : ℤ → ℤ → DisplayState → Outcome DisplayState
pipe_bind_port l p d = do
  x ← pipeline l d
  port ← named_port p d
  Ok (with_pipeline l (with_port_of port x) d, 0)

-- sources

-- 256 sources and masks are live, of both interfaces
abbrev pub all_sources : DisplaySide → Bool
all_sources w = nat_le MOST_SOURCES (length w.display.sources + w.composition_sources)

-- the number of the stream of a live handle, which is one of pixels
abbrev pub pixel_stream : ℕ → List KeptStream → Result ℕ Refusal
pixel_stream handle streams = do
  s ← live_stream handle streams
  _ ← refuse code.NotSupported (is_a8 s.buffers.format)
  Ok s.number

-- one more source of a pipeline, whose handle is answered
abbrev pub source_made : ℤ → ℕ → DisplaySide → DisplaySide × ℕ
source_made l stream w =
    let new : DisplaySource = record { handle = w.made + 1; pipeline = count_of l; stream = stream } in
    (record w { made = w.made + 1; display = record w.display { sources = w.display.sources ++ new ∷ [] } }, w.made + 1)

abbrev pub display_source : ℤ → ℕ → Bool → DisplaySide → Outcome DisplaySide
display_source l handle memory_refused w = do
  _ ← pipeline l w.display
  stream ← pixel_stream handle w.streams
  _ ← refuse code.Limit (all_sources w || is_full w.made)
  _ ← refuse code.OutOfMemory memory_refused
  Ok (source_made l stream w)

abbrev pub without_source : ℕ → DisplayState → DisplayState
without_source handle d = record d { sources = filter (λ s. not (s.handle == handle)) d.sources }

-- what is bound stays bound
abbrev pub display_source_destroy : ℕ → DisplayState → Outcome DisplayState
display_source_destroy handle d = do
  _ ← found code.BadHandle (source_at handle d.sources)
  Ok (without_source handle d, 0)

-- a pipeline may be asked to show no source, by 0, or a live one that was made for it
abbrev pub may_bind : ℤ → ℕ → DisplayState → Result (Unit {0}) Refusal
may_bind l handle d =
    if handle == 0 then Ok tt
    else (do
      s ← found code.BadHandle (source_at handle d.sources)
      refuse code.IllegalArgument (not (is_count s.pipeline l)))

abbrev pub with_request : ℕ → Transition → Pipeline → Pipeline
with_request handle transition x =
    let request : Request = record { source = handle; transition = transition } in
    record x { request = Some request }

abbrev pub pipe_bind_source : ℤ → ℕ → Transition → DisplayState → Outcome DisplayState
pipe_bind_source l handle transition d = do
  x ← pipeline l d
  _ ← may_bind l handle d
  Ok (with_pipeline l (with_request handle transition x) d, 0)
