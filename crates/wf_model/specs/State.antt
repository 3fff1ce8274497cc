-- The state of the machine, in plain lists and numbers.
use Rattle.std.specs.Prelude.{ℕ, true, List, [], length, map, replicate, zip, Option, None, unwrap_or}
use Rattle.std.specs.List.{range_with_len}
use Rattle.wf_words.specs.Keyed.{nth}
use Rattle.wf_pixel.specs.declared.Size.{Size}
use Rattle.wf_pixel.specs.declared.Format.{Format}
use Rattle.wf_pixel.specs.declared.Format.TheVariants.{Rgbx8}
use Rattle.wf_pixel.specs.Choice.{black}
use Rattle.wf_stream.specs.Buffers.{fresh}
use Rattle.wf_stream.specs.Streams.{KeptStream}
use Rattle.wf_scene.specs.Elements.{plain}
use Rattle.wf_calls.specs.declared.call.JobKind.{JobKind}
use Rattle.wf_calls.specs.declared.code.Code.{Code}
use Rattle.wf_calls.specs.declared.ports.Modes.{Modes}
use Rattle.wf_calls.specs.declared.ports.Ports.{Ports}
pub use Rattle.wf_model.specs.declared.Content.{Content}
pub use Rattle.wf_model.specs.declared.display.DisplaySource.{DisplaySource}
pub use Rattle.wf_model.specs.declared.display.Pipeline.{Pipeline}
pub use Rattle.wf_model.specs.declared.display.Port.{Port}
pub use Rattle.wf_model.specs.declared.display.PortStyle.{PortStyle}
use Rattle.wf_model.specs.Objects.{CoreState, no_objects}

-- the objects of the display: its ports and its pipelines, each counted from 1; its sources by rising handle; and the code
-- that its register holds, if there is one
pub record DisplayState : Type 0 where
  pub ports : List Port
  pub pipelines : List Pipeline
  pub sources : List DisplaySource
  pub register : Option Code

-- the running frame: its number and kind, and the shapes of its image and of its contents
pub record Running : Type 0 where
  pub number : ℕ
  pub kind : JobKind
  pub size : Size
  pub format : Format
  pub contents : List Content

-- how many objects were made, streams were numbered and frames were begun; the streams by rising number; the objects of
-- composition; the display; and the running frame
pub record State : Type 0 where
  pub made : ℕ
  pub numbered : ℕ
  pub begun : ℕ
  pub streams : List KeptStream
  pub core : CoreState
  pub display : DisplayState
  pub frame : Option Running

-- the size of a mode, counted from 1
abbrev pub mode_size : ℕ → List Size → Size
mode_size mode modes = unwrap_or (nth mode modes) (record { w = 1; h = 1 })

-- a port that shows its first mode, on and attached, over black
abbrev pub initial_style : PortStyle
initial_style = record { mode = 1; background = black; power = true }

abbrev pub initial_port : Modes → Port
initial_port m = record { modes = m.sizes; cached = initial_style; committed = initial_style; attached = true }

-- a pipeline that shows nothing, by no port
abbrev pub initial_pipeline : Pipeline
initial_pipeline =
    record {
      cached = plain;
      committed = plain;
      cached_port = 0;
      committed_port = 0;
      request = None;
      current = 0;
      pending = None;
    }

-- the display before the first call
abbrev pub opened_display : Ports → DisplayState
opened_display ports =
    record {
      ports = map initial_port ports.modes.items;
      pipelines = replicate ports.pipes initial_pipeline;
      sources = [];
      register = None;
    }

-- the screen of a port: of the size of its first mode, with three buffers
abbrev pub screen : ℕ × Modes → KeptStream
screen p = record { number = p.0; handle = 0; buffers = fresh (mode_size 1 p.1.sizes.items) Rgbx8 3 }

-- those of ports that are counted from 1
abbrev pub screens : List Modes → List KeptStream
screens modes = map screen (zip (range_with_len 1 (length modes)) modes)

-- the state before the first call
abbrev pub opening : Ports → State
opening ports =
    record {
      made = 0;
      numbered = length ports.modes.items;
      begun = 0;
      streams = screens ports.modes.items;
      core = no_objects;
      display = opened_display ports;
      frame = None;
    }
