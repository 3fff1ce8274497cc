-- What names a stream. A stream without a name is dropped. The number 0 names none.
use Rattle.std.specs.Prelude.{ℕ, Bool, ◌==◌, List, [], ◌∷◌, ◌++◌, length, map, flat_map, filter, option_to_list, Option, Some}
use Rattle.std.specs.Prelude.{None, if◌then◌else◌}
use Rattle.std.specs.List.{range_with_len}
use Rattle.wf_words.specs.Keyed.{is_in}
use Rattle.wf_stream.specs.Streams.{KeptStream}
use Rattle.wf_scene.specs.declared.Layer.{Layer}
use Rattle.wf_calls.specs.declared.call.JobKind.{JobKind}
use Rattle.wf_calls.specs.declared.call.JobKind.TheVariants as kind
use Rattle.wf_model.specs.Objects.{Context, CoreState}
use Rattle.wf_model.specs.State.{DisplayState, Pipeline, Running, State}

-- a stream's live handle, and its write buffer that is out
abbrev pub own_names : KeptStream → List ℕ
own_names s = (if s.handle == 0 then [] else s.number ∷ []) ++ (if s.buffers.out then s.number ∷ [] else [])

-- a layer's stream and its mask
abbrev pub layer_names : Layer → List ℕ
layer_names l = l.stream ∷ l.mask ∷ []

-- a live context's target, and the layers of its committed scene
abbrev pub context_names : Context → List ℕ
context_names c = c.target ∷ flat_map layer_names c.committed.layers.items

-- the live sources, masks and contexts
abbrev pub core_names : CoreState → List ℕ
core_names core = map (λ s. s.stream) core.sources ++ map (λ m. m.stream) core.masks ++ flat_map context_names core.contexts

-- what a pipeline shows, and what waits there
abbrev pub pipeline_names : Pipeline → List ℕ
pipeline_names x = x.current ∷ option_to_list x.pending

-- the screens of the ports, the live sources of the display, and what the pipelines are bound to
abbrev pub display_names : DisplayState → List ℕ
display_names d =
    range_with_len 1 (length d.ports) ++ map (λ s. s.stream) d.sources ++ flat_map pipeline_names d.pipelines

-- the target of a context's frame
abbrev pub target_names : JobKind → List ℕ
target_names (kind.Context handle target) = target ∷ []
target_names (kind.Port port) = []

-- the running frame's contents, and its target
abbrev pub frame_names : Option Running → List ℕ
frame_names None = []
frame_names (Some f) = map (λ c. c.stream) f.contents ++ target_names f.kind

-- the stream of every name, one entry for each name
abbrev pub all_names : State → List ℕ
all_names h = flat_map own_names h.streams ++ core_names h.core ++ display_names h.display ++ frame_names h.frame

-- what names a stream, one entry for each name
abbrev pub names : State → ℕ → List ℕ
names h s = filter (λ n. n == s) (all_names h)

-- the streams that something names
abbrev pub kept : State → List KeptStream
kept h = filter (λ s. is_in s.number (all_names h)) h.streams

-- the state without the other streams
abbrev pub settle : State → State
settle h = record h { streams = kept h }

-- the state, which is settled where a call was carried out
abbrev pub settle_if : Bool → State → State
settle_if done h = record h { streams = if done then kept h else h.streams }
