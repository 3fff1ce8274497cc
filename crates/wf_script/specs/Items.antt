-- What was read of words, as the code has it.
use Rattle.std.specs.Prelude.{◌≡◌, ℕ, List, ◌++◌, map, option_map, Option, Some, None, Result, Ok, Err}
use Rattle.std.specs.Borrow.{Bor}
use Rattle.wf_script.specs.declared.field.Item as declared
use Rattle.wf_script.specs.declared.field.Item.TheVariants as item
use Rattle.wf_script.specs.Fields.{Item, context_attr, element_attr, filter, format, handle, number, pipe_attr, port_attr, stat}
use Rattle.wf_script.specs.Fields.{transition, transparency}
use Rattle.wf_script.specs.Fields.{Shape, read_all, read_shape, words}
use Rattle.wf_script.specs.Words.{Word, words_in}
use Rattle.wf_script.specs.declared.field.Field.{Field}
use Rattle.wf_script.specs.declared.rule.Rule.{Rule}
use Rattle.wf_script.specs.declared.rule.Rule.TheVariants as rule

abbrev pub item_of : declared.Item → Item
item_of (item.Handle letters) = handle (option_map (λ l. l.word.now) letters)
item_of (item.Number x) = number x
item_of (item.Format x) = format x
item_of (item.Stat x) = stat x
item_of (item.ElementAttr x) = element_attr x
item_of (item.ContextAttr x) = context_attr x
item_of (item.PortAttr x) = port_attr x
item_of (item.PipeAttr x) = pipe_attr x
item_of (item.Filter x) = filter x
item_of (item.Transparency x) = transparency x
item_of (item.Transition x) = transition x

abbrev pub items_of : List declared.Item → List Item
items_of items = map item_of items

-- a list before that which is read
abbrev pub behind : {A : Type 0} → List A → Result (List A) Rule → Result (List A) Rule
behind done (Ok others) = Ok (done ++ others)
behind done (Err broken) = Err broken

-- the word at a place was found, or the words end before it
abbrev pub IsWordAt : Result (Bor (List ℕ)) Rule → Option Word → Type 0
IsWordAt (Ok w) o = o ≡ Some w.now
IsWordAt (Err broken) o = (o ≡ None) × (broken ≡ rule.Count)

-- a shape has these kinds and then those that were found, or its words break the rule
abbrev pub IsShape : List Field → Result (Bor (List Field)) Rule → Shape Field → Type 0
IsShape front (Ok more) s = s ≡ words (front ++ more.now)
IsShape front (Err broken) s = (ws : List Word) → read_shape s ws ≡ Err broken

-- words of these kinds were read behind some items, whatever kinds come then
abbrev pub ReadsOn : List Item → List Field → List Word → List Item → Result (Bor (List ℕ)) Rule → Type 0
ReadsOn old ks ws new (Ok rest) =
    (others : List Field) → behind old (read_all (ks ++ others) ws) ≡ behind new (read_all others (words_in rest.now))
ReadsOn old ks ws new (Err broken) = (others : List Field) → read_all (ks ++ others) ws ≡ Err broken
