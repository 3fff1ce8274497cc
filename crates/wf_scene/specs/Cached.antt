-- The cached scene of a context, and what each call makes of it.
use Rattle.std.specs.Prelude.{◌≡◌, ℕ, ◌≤◌, Bool, false, not, ◌&&◌, ◌==◌, ℤ, List, [], ◌∷◌, ◌++◌, map, filter, length, option_and_then}
use Rattle.std.specs.Prelude.{Option, Result, Ok, Err, IsTrue}
use Rattle.std.specs.List.{list_any, list_all, position_or_len}
use Rattle.wf_words.specs.Refusals.{◌>>=◌, refuse_if, found_or}
use Rattle.wf_words.specs.Keyed.{at_key, change, is_in}
use Rattle.wf_pixel.specs.declared.Size.{Size}
use Rattle.wf_pixel.specs.declared.Rgba.{Rgba}
use Rattle.wf_pixel.specs.declared.Rotation.{Rotation}
use Rattle.wf_pixel.specs.declared.Rotation.TheVariants.{R0}
use Rattle.wf_scene.specs.declared.attributes.ElementAttr.{ElementAttr}
use Rattle.wf_scene.specs.declared.attributes.ContextAttr.{ContextAttr}
use Rattle.wf_scene.specs.declared.attributes.ContextAttr.TheVariants as context
use Rattle.wf_scene.specs.declared.attributes.Refused.{Refused}
use Rattle.wf_scene.specs.declared.attributes.Refused.TheVariants as refused
use Rattle.wf_scene.specs.declared.element.Element.{Element}
use Rattle.wf_scene.specs.Values.{component, turn_of, colour_of, degrees, colour_numbers, at_index}
use Rattle.wf_pixel.specs.Choice.{black, is_coordinate}
use Rattle.wf_scene.specs.Elements.{new_element, change_of, numbers}
use Rattle.wf_scene.specs.Order as order
use Rattle.wf_scene.specs.Order.{AreApart}
use Rattle.wf_scene.specs.declared.TheConstants.{MOST_ELEMENTS, MOST_INSERTED}

-- the target's size, whether it is a screen, the turn, the background, the live elements in the order in which they
-- were added, and the handles of the inserted ones from the bottom up
pub record CachedScene : Type 0 where
  pub size : Size
  pub on_screen : Bool
  pub turn : Rotation
  pub background : Rgba
  pub elements : List Element
  pub order : List ℕ

-- without elements
abbrev pub empty : Size → Bool → CachedScene
empty size on_screen =
    record { size = size; on_screen = on_screen; turn = R0; background = black; elements = []; order = [] }

abbrev pub handle_of : Element → ℕ
handle_of e = e.handle

abbrev pub element_at : ℕ → List Element → Option Element
element_at handle elements = at_key handle_of handle elements

abbrev pub is_live : ℕ → List Element → Bool
is_live handle elements = list_any (λ e. e.handle == handle) elements

-- the place of an element, or the length where it is not there
abbrev pub place_in : ℕ → List Element → ℕ
place_in handle elements = position_or_len (λ e. e.handle == handle) elements

-- an element lives here
abbrev pub has_element : ℕ → CachedScene → Bool
has_element handle c = is_live handle c.elements

abbrev pub add : ℕ → CachedScene → CachedScene
add handle c = record c { elements = c.elements ++ new_element handle ∷ [] }

abbrev pub without_element : ℕ → List Element → List Element
without_element handle elements = filter (λ e. not (e.handle == handle)) elements

-- without an element, in the order too
abbrev pub forget : ℕ → CachedScene → CachedScene
forget handle c =
    record c { elements = without_element handle c.elements; order = order.without handle c.order }

-- an attribute of an element is set
abbrev pub set : ℕ → ElementAttr → List ℤ → CachedScene → Result CachedScene Refused
set handle attr value c = do
  changed ← found_or refused.IllegalArgument (change_of attr value)
  Ok (record c { elements = change handle_of handle changed c.elements })

-- one number of an attribute of an element
abbrev pub get : ℕ → ElementAttr → ℤ → CachedScene → Result ℕ Refused
get handle attr index c =
    found_or refused.IllegalArgument (option_and_then (λ e. at_index index (numbers attr e)) (element_at handle c.elements))

-- an element is inserted directly above another, or at the bottom
abbrev pub insert : ℕ → ℕ → CachedScene → Result CachedScene Refused
insert handle base c = do
  _ ← refuse_if refused.IllegalArgument (not (order.is_base base c.order))
  _ ← refuse_if refused.Limit (order.has_no_room handle c.order)
  Ok (record c { order = order.inserted handle base c.order })

abbrev pub remove : ℕ → CachedScene → Result CachedScene Refused
remove handle c = do
  _ ← refuse_if refused.IllegalArgument (not (is_in handle c.order))
  Ok (record c { order = order.without handle c.order })

-- the neighbours of an inserted element, or 0
abbrev pub above : ℕ → CachedScene → Result ℕ Refused
above handle c = found_or refused.IllegalArgument (order.above handle c.order)

abbrev pub below : ℕ → CachedScene → Result ℕ Refused
below handle c = found_or refused.IllegalArgument (order.below handle c.order)

-- an attribute of the context is set
abbrev pub set_context : ContextAttr → List ℤ → CachedScene → Result CachedScene Refused
set_context context.Rotation value c = do
  turn ← found_or refused.IllegalArgument (turn_of (component value 0))
  Ok (record c { turn = turn })
set_context context.Background value c = do
  colour ← found_or refused.IllegalArgument (colour_of value)
  Ok (record c { background = colour })
set_context _ value c = Err refused.BadAttribute

-- the numbers of an attribute of the context
abbrev pub context_numbers : ContextAttr → CachedScene → List ℕ
context_numbers context.Rotation c = degrees c.turn ∷ []
context_numbers context.Background c = colour_numbers c.background
context_numbers context.Width c = c.size.w ∷ []
context_numbers context.Height c = c.size.h ∷ []
context_numbers context.Lowest c = order.lowest c.order ∷ []

abbrev pub get_context : ContextAttr → ℤ → CachedScene → Result ℕ Refused
get_context attr index c = found_or refused.IllegalArgument (at_index index (context_numbers attr c))

abbrev pub handles : List Element → List ℕ
handles elements = map handle_of elements

-- the place of an element's destination is in the range of coordinates
abbrev pub is_placed : Element → Bool
is_placed e = is_coordinate e.style.dest.x && is_coordinate e.style.dest.y

-- what holds of every cached scene: no two elements have one handle, and none has 0; each destination is in the range of
-- coordinates; no handle is inserted twice, or without a live element
pub record IsOrderly (c : CachedScene) : Type 0 where
  pub apart : AreApart (handles c.elements)
  pub named : is_in 0 (handles c.elements) ≡ false
  pub few : length c.elements ≤ MOST_ELEMENTS
  pub placed : IsTrue (list_all is_placed c.elements)
  pub once : AreApart c.order
  pub live : IsTrue (list_all (λ handle. is_in handle (handles c.elements)) c.order)
  pub room : length c.order ≤ MOST_INSERTED
