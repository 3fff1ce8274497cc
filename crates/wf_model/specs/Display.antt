-- What a port shows.
use Rattle.std.specs.Prelude.{ℕ, Bool, ◌==◌, ◌&&◌, not, pos, List, ◌∷◌, filter_map, map, Option, Some, None, if◌then◌else◌}
use Rattle.wf_words.specs.Keyed.{nth}
use Rattle.wf_pixel.specs.declared.Rect.{Rect}
use Rattle.wf_pixel.specs.declared.Rotation.TheVariants.{R0}
use Rattle.wf_pixel.specs.declared.Size.{Size}
use Rattle.wf_scene.specs.Elements.{layer_in, plain}
use Rattle.wf_scene.specs.declared.Layer.{Layer}
use Rattle.wf_scene.specs.declared.Scene.{Scene}
use Rattle.wf_model.specs.DisplayCommits.{bound_stream}
use Rattle.wf_model.specs.Ports.{shown_size}
use Rattle.wf_model.specs.State.{DisplayState, Pipeline, Port, mode_size}

-- all of a size
abbrev pub whole_of : Size → Rect
whole_of size = record { x = pos 0; y = pos 0; w = size.w; h = size.h }

-- a port's screen, whole, scaled to a mode, without transparency
abbrev pub screen_layer : ℕ → Size → Size → Layer
screen_layer p screen mode = layer_in (record plain { src = whole_of screen; dest = whole_of mode }) p 0

-- the layer of a pipeline that is committed to a port and shows a stream
abbrev pub pipeline_layer : ℕ → Pipeline → Option Layer
pipeline_layer p x = if (x.committed_port == p) && not (x.current == 0) then Some (layer_in x.committed x.current 0) else None

-- the scene of a port: its background, its screen, and its pipelines by rising number
abbrev pub scene_of_port : ℕ → List Pipeline → Port → Scene
scene_of_port p pipelines x =
    record {
      size = shown_size x;
      turn = R0;
      background = x.committed.background;
      layers = record { items = screen_layer p (mode_size 1 x.modes.items) (shown_size x) ∷ filter_map (pipeline_layer p) pipelines };
    }

-- a port gives frames where a display is attached and it is on
abbrev pub is_lit : Port → Bool
is_lit x = x.attached && x.committed.power

-- the scene of a port, which is counted from 1, or none where it was not declared or gives no frames
abbrev pub port_scene : ℕ → DisplayState → Option Scene
port_scene p d = shown_by (nth p d.ports)
  where
    shown_by : Option Port → Option Scene
    shown_by None = None
    shown_by (Some x) = if is_lit x then Some (scene_of_port p d.pipelines x) else None

-- at a port's frame the streams that wait at its pipelines become current

abbrev pub begun_pipeline : ℕ → Pipeline → Pipeline
begun_pipeline p x = if x.committed_port == p then record x { current = bound_stream x; pending = None } else x

abbrev pub begun_display : ℕ → DisplayState → DisplayState
begun_display p d = record d { pipelines = map (begun_pipeline p) d.pipelines }
