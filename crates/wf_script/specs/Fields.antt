-- Kinds of words: what a word of each stands for, how it is read, how it is written, and which names it uses.
use Rattle.std.specs.Prelude.{ℕ, ◌+◌, Bool, true, false, ℤ, pos, List, [], ◌∷◌, map, flat_map, length, take, slice_index_or, Option}
use Rattle.std.specs.Prelude.{Some, None, option_map, option_to_list, Result, Ok, Err, if◌then◌else◌}
use Rattle.std.specs.List.{slice_get}
use Rattle.wf_words.specs.Refusals.{◌>>=◌}
use Rattle.wf_pixel.specs.declared.Format.{Format}
use Rattle.wf_pixel.specs.declared.Format.TheVariants.{A8}
use Rattle.wf_scene.specs.declared.attributes.ContextAttr.{ContextAttr}
use Rattle.wf_scene.specs.declared.attributes.ContextAttr.TheVariants as context
use Rattle.wf_scene.specs.declared.attributes.ElementAttr.{ElementAttr}
use Rattle.wf_scene.specs.declared.attributes.ElementAttr.TheVariants as element
use Rattle.wf_calls.specs.declared.call.StatWord.{StatWord}
use Rattle.wf_calls.specs.declared.call.StatWord.TheVariants.{Streams}
use Rattle.wf_calls.specs.declared.display.PipeAttr.{PipeAttr}
use Rattle.wf_calls.specs.declared.display.PipeAttr.TheVariants as pipe
use Rattle.wf_calls.specs.declared.display.PortAttr.{PortAttr}
use Rattle.wf_calls.specs.declared.display.PortAttr.TheVariants as port
use Rattle.wf_calls.specs.declared.display.Transition.{Transition}
use Rattle.wf_calls.specs.declared.display.Transition.TheVariants.{Now}
use Rattle.wf_script.specs.declared.field.Field.{Field}
use Rattle.wf_script.specs.declared.field.Field.TheVariants as field
use Rattle.wf_script.specs.declared.line.Value.{Value}
use Rattle.wf_script.specs.declared.line.Value.TheVariants.{Handle, Numbers}
use Rattle.wf_script.specs.declared.name.Name.{Name}
use Rattle.wf_script.specs.declared.rule.Rule.{Rule}
use Rattle.wf_script.specs.declared.rule.Rule.TheVariants as rule
use Rattle.wf_script.specs.Pick.{counted, first_as}
use Rattle.wf_script.specs.Spelled.{context_attr_word, element_attr_word, format_word, handle_word, integer_word, pipe_attr_word}
use Rattle.wf_script.specs.Spelled.{port_attr_word, stat_word, transition_word, word_of}
use Rattle.wf_script.specs.Words.{Word, context_attrs, element_attrs, filters, formats, handle_of, integer_of, look_up, pipe_attrs}
use Rattle.wf_script.specs.Words.{port_attrs, stat_words, transitions, transparencies}

-- what a word stands for
pub data Item : Type 0 where
  handle : Option Name → Item
  number : ℤ → Item
  format : Format → Item
  stat : StatWord → Item
  element_attr : ElementAttr → Item
  context_attr : ContextAttr → Item
  port_attr : PortAttr → Item
  pipe_attr : PipeAttr → Item
  filter : ℤ → Item
  transparency : ℤ → Item
  transition : Transition → Item

-- how a word of a kind is read
abbrev pub read : Field → Word → Option Item
read field.Handle w = option_map (λ x. handle x) (handle_of w)
read field.Number w = option_map (λ x. number x) (integer_of w)
read field.Format w = option_map (λ x. format x) (look_up formats w)
read field.Stat w = option_map (λ x. stat x) (look_up stat_words w)
read field.ElementAttr w = option_map (λ x. element_attr x) (look_up element_attrs w)
read field.ContextAttr w = option_map (λ x. context_attr x) (look_up context_attrs w)
read field.PortAttr w = option_map (λ x. port_attr x) (look_up port_attrs w)
read field.PipeAttr w = option_map (λ x. pipe_attr x) (look_up pipe_attrs w)
read field.Filter w = option_map (λ x. filter x) (look_up filters w)
read field.Transparency w = option_map (λ x. transparency x) (look_up transparencies w)
read field.Transition w = option_map (λ x. transition x) (look_up transitions w)

-- how it is written
abbrev pub item_word : Item → Word
item_word (handle x) = handle_word x
item_word (number x) = integer_word x
item_word (format x) = format_word x
item_word (stat x) = stat_word x
item_word (element_attr x) = element_attr_word x
item_word (context_attr x) = context_attr_word x
item_word (port_attr x) = port_attr_word x
item_word (pipe_attr x) = pipe_attr_word x
item_word (filter x) = word_of filters x
item_word (transparency x) = word_of transparencies x
item_word (transition x) = transition_word x

abbrev pub written : List Item → List Word
written items = map item_word items

-- the name that it uses: that of an object, but not `none`
abbrev pub name_in : Item → List Name
name_in (handle x) = option_to_list x
name_in _ = []

abbrev pub names_in : List Item → List Name
names_in items = flat_map name_in items

-- words of these kinds, each read as its own
unfoldable pub read_all : List Field → List Word → Result (List Item) Rule
read_all [] ws = Ok []
read_all (k ∷ ks) ws = do
  item ← first_as (read k) ws
  items ← read_all ks item.1
  Ok (item.0 ∷ items)

-- which words stand behind a verb: those of some kinds; or the word that decides which they are is missing, or is not known
pub data Shape (K : Type 0) : Type 0 where
  words : List K → Shape K
  missing : Shape K
  unknown : Shape K

-- a word decides
abbrev pub by_word : {A K : Type 0} → (A → List K) → Option A → Shape K
by_word kinds None = unknown
by_word kinds (Some x) = words (kinds x)

abbrev pub decided : {A K : Type 0} → (Word → Option A) → (A → List K) → Option Word → Shape K
decided read kinds None = missing
decided read kinds (Some w) = by_word kinds (read w)

-- the words of a shape are read: their number before what they are
abbrev pub read_shape : Shape Field → List Word → Result (List Item) Rule
read_shape (words ks) ws = counted (length ks) ws >>= (λ _. read_all ks ws)
read_shape missing ws = Err rule.Count
read_shape unknown ws = Err rule.Word

-- what an attribute is set to; one that cannot be set is written with one number too

abbrev pub four_numbers : List Field
four_numbers = field.Number ∷ field.Number ∷ field.Number ∷ field.Number ∷ []

abbrev pub element_fields : ElementAttr → List Field
element_fields element.Dest = four_numbers
element_fields element.Source = field.Handle ∷ []
element_fields element.SrcRect = four_numbers
element_fields element.Filter = field.Filter ∷ []
element_fields element.Transparency = field.Transparency ∷ []
element_fields element.Mask = field.Handle ∷ []
element_fields _ = field.Number ∷ []

abbrev pub context_fields : ContextAttr → List Field
context_fields context.Background = four_numbers
context_fields _ = field.Number ∷ []

abbrev pub port_fields : PortAttr → List Field
port_fields port.Background = field.Number ∷ field.Number ∷ field.Number ∷ []
port_fields _ = field.Number ∷ []

abbrev pub pipe_fields : PipeAttr → List Field
pipe_fields pipe.Dest = four_numbers
pipe_fields pipe.SrcRect = four_numbers
pipe_fields pipe.Filter = field.Filter ∷ []
pipe_fields pipe.Transparency = field.Transparency ∷ []
pipe_fields _ = field.Number ∷ []

-- the items of a value: its handle, or its first numbers
abbrev pub value_items : List Field → Value → List Item
value_items ks (Handle name) = handle name ∷ []
value_items (field.Filter ∷ ks) (Numbers numbers) = filter (slice_index_or numbers 0 (pos 0)) ∷ []
value_items (field.Transparency ∷ ks) (Numbers numbers) = transparency (slice_index_or numbers 0 (pos 0)) ∷ []
value_items ks (Numbers numbers) = map (λ x. number x) (take (length ks) numbers)

-- what stands at a place among items; behind their end, and where another kind stands, it counts for nothing

abbrev pub handle_in : Option Item → Option Name
handle_in (Some (handle x)) = x
handle_in _ = None

abbrev pub handle_at : List Item → ℕ → Option Name
handle_at items n = handle_in (slice_get items n)

abbrev pub number_in : Option Item → ℤ
number_in (Some (number x)) = x
number_in (Some (filter x)) = x
number_in (Some (transparency x)) = x
number_in _ = pos 0

abbrev pub number_at : List Item → ℕ → ℤ
number_at items n = number_in (slice_get items n)

abbrev pub format_in : Option Item → Format
format_in (Some (format x)) = x
format_in _ = A8

abbrev pub format_at : List Item → ℕ → Format
format_at items n = format_in (slice_get items n)

abbrev pub stat_in : Option Item → StatWord
stat_in (Some (stat x)) = x
stat_in _ = Streams

abbrev pub stat_at : List Item → ℕ → StatWord
stat_at items n = stat_in (slice_get items n)

abbrev pub element_attr_in : Option Item → ElementAttr
element_attr_in (Some (element_attr x)) = x
element_attr_in _ = element.Dest

abbrev pub element_attr_at : List Item → ℕ → ElementAttr
element_attr_at items n = element_attr_in (slice_get items n)

abbrev pub context_attr_in : Option Item → ContextAttr
context_attr_in (Some (context_attr x)) = x
context_attr_in _ = context.Rotation

abbrev pub context_attr_at : List Item → ℕ → ContextAttr
context_attr_at items n = context_attr_in (slice_get items n)

abbrev pub port_attr_in : Option Item → PortAttr
port_attr_in (Some (port_attr x)) = x
port_attr_in _ = port.Mode

abbrev pub port_attr_at : List Item → ℕ → PortAttr
port_attr_at items n = port_attr_in (slice_get items n)

abbrev pub pipe_attr_in : Option Item → PipeAttr
pipe_attr_in (Some (pipe_attr x)) = x
pipe_attr_in _ = pipe.Dest

abbrev pub pipe_attr_at : List Item → ℕ → PipeAttr
pipe_attr_at items n = pipe_attr_in (slice_get items n)

abbrev pub transition_in : Option Item → Transition
transition_in (Some (transition x)) = x
transition_in _ = Now

abbrev pub transition_at : List Item → ℕ → Transition
transition_at items n = transition_in (slice_get items n)

abbrev pub is_handle : Option Item → Bool
is_handle (Some (handle x)) = true
is_handle _ = false

-- the value that begins at a place
abbrev pub value_at : List Item → ℕ → Value
value_at items n =
    if is_handle (slice_get items n) then Handle (handle_at items n)
    else Numbers (number_at items n ∷ number_at items (n + 1) ∷ number_at items (n + 2) ∷ number_at items (n + 3) ∷ [])
