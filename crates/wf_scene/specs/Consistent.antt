-- The scene that a commit takes, and the first rule that a cached scene breaks.
use Rattle.std.specs.Prelude.{ℕ, ◌+◌, Bool, not, ◌||◌, List, [], ◌∷◌, map, filter_map, slice_get, position, option_map, is_some, false}
use Rattle.std.specs.Prelude.{Option, None, Some, Result, Ok, Err, if◌then◌else◌}
use Rattle.std.specs.List.{enumerate_from, list_all}
use Rattle.std.specs.Option.{option_map_or}
use Rattle.wf_pixel.specs.declared.Rgba.{Rgba}
use Rattle.wf_pixel.specs.Choice.{has_sides, same_size}
use Rattle.wf_pixel.specs.Place.{size_of}
use Rattle.wf_pixel.specs.Arithmetic.{opaque}
use Rattle.wf_scene.specs.declared.Layer.{Layer}
use Rattle.wf_scene.specs.declared.Scene.{Scene}
use Rattle.wf_scene.specs.declared.look.Seen.{Seen}
use Rattle.wf_scene.specs.declared.look.Fault.{Fault}
use Rattle.wf_scene.specs.declared.element.Element.{Element}
use Rattle.wf_scene.specs.Layers.{holds_rect}
use Rattle.wf_scene.specs.Elements.{layer_in}
use Rattle.wf_scene.specs.Cached.{CachedScene, element_at}
use Rattle.wf_scene.specs.Sight.{Sight}

-- the rules that an inserted element has to keep, each for itself

-- its source is live
abbrev pub has_source : Sight → Element → Bool
has_source sight e = is_some (sight.source e.source)

-- its source rectangle has sides of at least 1 and lies inside the source
abbrev pub is_inside : Sight → Element → Bool
is_inside sight e = option_map_or (λ s. holds_rect s.size e.style.src) (sight.source e.source) false

-- its destination has sides that an image may have
abbrev pub has_destination : Element → Bool
has_destination e = has_sides (size_of e.style.dest)

-- where a mask applies, its mask is live and has the size of the destination
abbrev pub is_covered : Sight → Element → Bool
is_covered sight e =
    not e.style.transparency.mask
    || option_map_or (λ m. same_size m.size (size_of e.style.dest)) (sight.mask e.mask) false

-- which of the four it keeps
abbrev pub kept_rules : Sight → Element → List Bool
kept_rules sight e = has_source sight e ∷ is_inside sight e ∷ has_destination e ∷ is_covered sight e ∷ []

-- it keeps all of them
abbrev pub keeps_rules : Sight → Element → Bool
keeps_rules sight e = list_all (λ kept. kept) (kept_rules sight e)

-- the first rule that it breaks, from 1
abbrev pub broken_rule : Sight → Element → Option ℕ
broken_rule sight e = option_map (λ i. i + 1) (position not (kept_rules sight e))

-- the elements of handles
abbrev pub elements_of : List ℕ → List Element → List Element
elements_of order elements = filter_map (λ handle. element_at handle elements) order

-- the inserted elements from the bottom up
abbrev pub inserted_elements : CachedScene → List Element
inserted_elements c = elements_of c.order c.elements

-- the fault of an element at a place, if it breaks a rule
abbrev pub fault_at : Sight → ℕ × Element → Option Fault
fault_at sight row = option_map (λ rule. record { place = row.0; rule = rule }) (broken_rule sight row.1)

-- the faults of elements that stand from a place on
abbrev pub faults_from : Sight → ℕ → List Element → List Fault
faults_from sight place es = filter_map (fault_at sight) (enumerate_from place es)

-- the first of them
abbrev pub fault_from : Sight → ℕ → List Element → Option Fault
fault_from sight place es = slice_get (faults_from sight place es) 0

-- the first fault from the bottom up, or none; places count from 1
abbrev pub fault : Sight → CachedScene → Option Fault
fault sight c = fault_from sight 1 (inserted_elements c)

-- the stream of what is seen, or 0
abbrev pub stream_of : Option Seen → ℕ
stream_of None = 0
stream_of (Some s) = s.stream

-- the mask's stream where a mask applies, else 0
abbrev pub mask_stream : Sight → Element → ℕ
mask_stream sight e = if e.style.transparency.mask then stream_of (sight.mask e.mask) else 0

-- the layer that shows an element
abbrev pub layer_of : Sight → Element → Layer
layer_of sight e = layer_in e.style (stream_of (sight.source e.source)) (mask_stream sight e)

abbrev pub shown_background : Bool → Rgba → Rgba
shown_background on_screen c = if on_screen then opaque c else c

-- the target's size, the turn, the background, which is opaque on a screen, and a layer for each inserted element from
-- the bottom up
abbrev pub scene_of : Sight → CachedScene → Scene
scene_of sight c =
    record {
      size = c.size;
      turn = c.turn;
      background = shown_background c.on_screen c.background;
      layers = record { items = map (layer_of sight) (inserted_elements c) };
    }

-- a value, or the refusal where there is one
abbrev pub unless : {A E : Type 0} → Option E → A → Result A E
unless None x = Ok x
unless (Some e) x = Err e

-- the layer of an element, or the first rule that it breaks
abbrev pub shown : Sight → Element → Result Layer ℕ
shown sight e = unless (broken_rule sight e) (layer_of sight e)

-- the scene where no rule is broken, else the first fault
abbrev pub consistent : Sight → CachedScene → Result Scene Fault
consistent sight c = unless (fault sight c) (scene_of sight c)
