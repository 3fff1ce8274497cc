-- An element of a cached scene: how it is shown, its attributes, and what a value makes of it.
use Rattle.std.specs.Prelude.{ℕ, Bool, true, false, ℤ, List, [], ◌∷◌, option_map, Option, Some}
use Rattle.wf_words.specs.Whole.{count_of}
use Rattle.wf_pixel.specs.declared.Rect.{Rect}
use Rattle.wf_pixel.specs.declared.Rotation.{Rotation}
use Rattle.wf_pixel.specs.declared.Rotation.TheVariants.{R0}
use Rattle.wf_pixel.specs.declared.Transparency.{Transparency}
use Rattle.wf_scene.specs.declared.Layer.{Layer}
use Rattle.wf_scene.specs.declared.attributes.ElementAttr.{ElementAttr}
use Rattle.wf_scene.specs.declared.attributes.ElementAttr.TheVariants as attr
use Rattle.wf_scene.specs.declared.style.Filter.{Filter}
use Rattle.wf_scene.specs.declared.style.Filter.TheVariants as filter
use Rattle.wf_scene.specs.declared.style.Style.{Style}
use Rattle.wf_scene.specs.declared.element.Element.{Element}
use Rattle.wf_scene.specs.Layers.{nowhere}
use Rattle.wf_scene.specs.Values.{component, is_handle, rect_of, flag_of, turn_of, filter_of, transparency_of, channel_of, rect_numbers}
use Rattle.wf_scene.specs.Values.{flag_number, degrees, filter_number, transparency_number}

-- how something is shown before an attribute is set
abbrev pub plain : Style
plain =
    record {
      dest = nowhere;
      src = nowhere;
      flip = false;
      turn = R0;
      filter = filter.None;
      transparency = record { alpha = false; source = false; mask = false };
      alpha = 255;
    }

-- the layer that shows a stream in a style, through the mask of a stream or 0
abbrev pub layer_in : Style → ℕ → ℕ → Layer
layer_in style stream mask =
    record {
      stream = stream;
      mask = mask;
      src = style.src;
      dest = style.dest;
      flip = style.flip;
      turn = style.turn;
      transparency = style.transparency;
      alpha = style.alpha;
    }

abbrev pub new_element : ℕ → Element
new_element handle = record { handle = handle; style = plain; source = 0; mask = 0 }

-- an element with one attribute changed
abbrev pub with_dest : Rect → Element → Element
with_dest dest e = record e { style = record e.style { dest = dest } }

abbrev pub with_source : ℕ → Element → Element
with_source source e = record e { source = source }

abbrev pub with_src : Rect → Element → Element
with_src src e = record e { style = record e.style { src = src } }

abbrev pub with_flip : Bool → Element → Element
with_flip flip e = record e { style = record e.style { flip = flip } }

abbrev pub with_turn : Rotation → Element → Element
with_turn turn e = record e { style = record e.style { turn = turn } }

abbrev pub with_filter : Filter → Element → Element
with_filter filter e = record e { style = record e.style { filter = filter } }

abbrev pub with_transparency : Transparency → Element → Element
with_transparency transparency e = record e { style = record e.style { transparency = transparency } }

abbrev pub with_alpha : ℕ → Element → Element
with_alpha alpha e = record e { style = record e.style { alpha = alpha } }

abbrev pub with_mask : ℕ → Element → Element
with_mask mask e = record e { mask = mask }

-- what a value of an attribute changes of an element, or none where it is outside the attribute's range
abbrev pub change_of : ElementAttr → List ℤ → Option (Element → Element)
change_of attr.Dest v = option_map with_dest (rect_of v)
change_of attr.Source v = Some (with_source (count_of (component v 0)))
change_of attr.SrcRect v = option_map with_src (rect_of v)
change_of attr.Flip v = option_map with_flip (flag_of (component v 0))
change_of attr.Rotation v = option_map with_turn (turn_of (component v 0))
change_of attr.Filter v = option_map with_filter (filter_of (component v 0))
change_of attr.Transparency v = option_map with_transparency (transparency_of (component v 0))
change_of attr.Alpha v = option_map with_alpha (channel_of (component v 0))
change_of attr.Mask v = Some (with_mask (count_of (component v 0)))

-- the numbers of an attribute
abbrev pub numbers : ElementAttr → Element → List ℕ
numbers attr.Dest e = rect_numbers e.style.dest
numbers attr.Source e = e.source ∷ []
numbers attr.SrcRect e = rect_numbers e.style.src
numbers attr.Flip e = flag_number e.style.flip ∷ []
numbers attr.Rotation e = degrees e.style.turn ∷ []
numbers attr.Filter e = filter_number e.style.filter ∷ []
numbers attr.Transparency e = transparency_number e.style.transparency ∷ []
numbers attr.Alpha e = e.style.alpha ∷ []
numbers attr.Mask e = e.mask ∷ []

-- a source or a mask takes a number that a handle can be, or 0; any other attribute takes any value, and may refuse it
abbrev pub may_take : ElementAttr → List ℤ → Bool
may_take attr.Source v = is_handle (component v 0)
may_take attr.Mask v = is_handle (component v 0)
may_take _ v = true
