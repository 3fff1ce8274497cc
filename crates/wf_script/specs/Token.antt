-- The words that are printed, and the bytes of words that stand behind another one.
use Rattle.std.specs.Prelude.{ℕ, Bool, true, nat_le, List, ◌++◌, codes, decimal, flat_map, length}
use Rattle.wf_script.specs.declared.token.Shown.{Shown}
use Rattle.wf_script.specs.declared.token.Shown.TheVariants as shown
use Rattle.wf_script.specs.declared.token.Token.{Token}
use Rattle.wf_script.specs.declared.token.Token.TheVariants as token
use Rattle.wf_script.specs.Canonical.{hex_pixel_word, size_word}
use Rattle.wf_script.specs.Fields.{Item, context_attr, element_attr, filter, format, handle, item_word, number, pipe_attr, port_attr}
use Rattle.wf_script.specs.Fields.{stat, transition, transparency}
use Rattle.wf_script.specs.Spelled.{integer_word}
use Rattle.wf_script.specs.Words.{Word}
use Rattle.wf_pixel.specs.declared.TheConstants.{MOST_SIDE}

-- the item of a word whose kind forms have
abbrev pub shown_item : Shown → Item
shown_item (shown.Handle x) = handle x.now
shown_item (shown.Number x) = number x.now
shown_item (shown.Format x) = format x
shown_item (shown.Stat x) = stat x
shown_item (shown.ElementAttr x) = element_attr x
shown_item (shown.ContextAttr x) = context_attr x
shown_item (shown.PortAttr x) = port_attr x
shown_item (shown.PipeAttr x) = pipe_attr x
shown_item (shown.Filter x) = filter x
shown_item (shown.Transparency x) = transparency x
shown_item (shown.Transition x) = transition x

abbrev pub shown_word : Shown → Word
shown_word x = item_word (shown_item x)

abbrev pub token_word : Token → Word
token_word (token.Letters letters) = letters.now
token_word (token.Shown x) = shown_word x
token_word (token.Count count) = decimal count
token_word (token.Place place) = integer_word place
token_word (token.Size size) = size_word size
token_word (token.Pixels pixels) = flat_map hex_pixel_word pixels.now

-- the longest words are the letters of a verb, and a row of pixels
abbrev pub is_short : Token → Bool
is_short (token.Letters letters) = nat_le (length letters.now) 64
is_short (token.Pixels pixels) = nat_le (length pixels.now) MOST_SIDE
is_short _ = true

-- words, each behind a space
unfoldable pub spaced : List Word → List ℕ
spaced words = flat_map (λ word. codes " " ++ word) words
