-- The lines of a script and their words: numbers, names, and the words of the tables.
use Rattle.std.specs.Prelude.{ℕ, ◌+◌, ◌-◌, ◌*◌, Bool, true, false, not, ◌&&◌, ◌||◌, ◌==◌, nat_lt, nat_le, ℤ, pos, neg_ℤ, List, [], ◌∷◌}
use Rattle.std.specs.Prelude.{length, fold, filter, find, codes, Option, Some, None, option_map, option_and_then, if◌then◌else◌}
use Rattle.std.specs.List.{list_all, slice_split, before_first, after_first}
use Rattle.std.specs.Str.{bytes_eq, byte}
use Rattle.wf_pixel.specs.Choice.{is_between}
use Rattle.wf_pixel.specs.declared.Format.{Format}
use Rattle.wf_pixel.specs.declared.Format.TheVariants.{Rgba8, Rgba8Pre, Rgbx8, A8}
use Rattle.wf_pixel.specs.declared.Size.{Size}
use Rattle.wf_scene.specs.declared.attributes.ElementAttr.{ElementAttr}
use Rattle.wf_scene.specs.declared.attributes.ElementAttr.TheVariants as element
use Rattle.wf_scene.specs.declared.attributes.ContextAttr.{ContextAttr}
use Rattle.wf_scene.specs.declared.attributes.ContextAttr.TheVariants as context
use Rattle.wf_calls.specs.declared.call.StatWord.{StatWord}
use Rattle.wf_calls.specs.declared.call.StatWord.TheVariants.{Streams, Bytes}
use Rattle.wf_calls.specs.declared.display.PipeAttr.{PipeAttr}
use Rattle.wf_calls.specs.declared.display.PipeAttr.TheVariants as pipe
use Rattle.wf_calls.specs.declared.display.PortAttr.{PortAttr}
use Rattle.wf_calls.specs.declared.display.PortAttr.TheVariants as port
use Rattle.wf_calls.specs.declared.display.Transition.{Transition}
use Rattle.wf_calls.specs.declared.display.Transition.TheVariants.{Now, Vsync}
use Rattle.wf_script.specs.declared.name.Name.{Name}
use Rattle.wf_pixel.specs.declared.TheConstants.{MOST_SIDE}

-- a word is its bytes
abbrev pub Word : Type 0
Word = List ℕ

-- the value beside a word in a table
abbrev pub look_up : {A : Type 0} → List (Word × A) → Word → Option A
look_up rows w = option_map (λ row. row.1) (find (λ row. bytes_eq w row.0) rows)

-- lines

-- a line without the carriage return that ends it
abbrev pub without_return : List ℕ → List ℕ
without_return [] = []
without_return (x ∷ []) = if x == 13 then [] else x ∷ []
without_return (x ∷ y ∷ ys) = x ∷ without_return (y ∷ ys)

-- tabs, and what is printed in ASCII
abbrev pub is_allowed : ℕ → Bool
is_allowed b = (b == 9) || (nat_le 32 b && nat_le b 126)

abbrev pub is_blank : ℕ → Bool
is_blank b = (b == 9) || (b == 32)

abbrev pub is_word : Word → Bool
is_word [] = false
is_word (b ∷ bs) = true

-- the words of a text
unfoldable pub words_in : List ℕ → List Word
words_in text = filter is_word (slice_split is_blank text)

-- a line without its comment
abbrev pub without_comment : List ℕ → List ℕ
without_comment line = before_first (λ b. b == byte "#") line

-- the pieces of a text between line feeds, of which the last is a line only where it is not empty
abbrev pub without_empty_end : List Word → List Word
without_empty_end [] = []
without_empty_end (x ∷ []) = filter is_word (x ∷ [])
without_empty_end (x ∷ y ∷ ys) = x ∷ without_empty_end (y ∷ ys)

unfoldable pub lines_of : List ℕ → List (List ℕ)
lines_of bytes = without_empty_end (slice_split (λ b. b == 10) bytes)

-- names

abbrev pub is_letter : ℕ → Bool
is_letter b = nat_le (byte "a") b && nat_le b (byte "z")

abbrev pub is_digit : ℕ → Bool
is_digit b = nat_le (byte "0") b && nat_le b (byte "9")

abbrev pub is_name_byte : ℕ → Bool
is_name_byte b = is_letter b || (is_digit b || (b == byte "_"))

abbrev pub starts_as_name : Word → Bool
starts_as_name [] = false
starts_as_name (b ∷ bs) = is_letter b && list_all is_name_byte bs

abbrev pub none_word : Word
none_word = codes "none"

-- a lower-case letter and at most 15 lower-case letters, digits or `_`, but not `none`
abbrev pub is_name : Word → Bool
is_name w = starts_as_name w && (nat_le (length w) 16 && not (bytes_eq w none_word))

unfoldable pub name_of : Word → Option Name
name_of w = if is_name w then Some w else None

-- a name, or none
unfoldable pub handle_of : Word → Option (Option Name)
handle_of w = if bytes_eq w none_word then Some None else option_map (λ name. Some name) (name_of w)

-- numbers

abbrev pub digits_value : Word → ℕ
digits_value w = fold (λ n b. n * 10 + (b - byte "0")) 0 w

-- 1 to 10 decimal digits
unfoldable pub digits_of : Word → Option ℕ
digits_of w = if nat_lt 0 (length w) && (nat_le (length w) 10 && list_all is_digit w) then Some (digits_value w) else None

-- a number without a sign, in a range
unfoldable pub count_in : ℕ → ℕ → Word → Option ℕ
count_in low high w = option_and_then (λ n. if nat_le low n && nat_le n high then Some n else None) (digits_of w)

-- a number of at most 32 bits with an optional minus
unfoldable pub integer_of : Word → Option ℤ
integer_of [] = None
integer_of (b ∷ bs) =
    if b == byte "-" then option_map (λ n. neg_ℤ (pos n)) (count_in 0 4294967295 bs)
    else option_map (λ n. pos n) (count_in 0 4294967295 (b ∷ bs))

-- a number with an optional minus, in a range
unfoldable pub integer_in : ℤ → ℤ → Word → Option ℤ
integer_in low high w = option_and_then (λ z. if is_between low high z then Some z else None) (integer_of w)

abbrev pub sides : Option ℕ → Option ℕ → Option Size
sides (Some w) (Some h) = Some (record { w = w; h = h })
sides _ _ = None

-- two sides with an `x` between
unfoldable pub size_of : Word → Option Size
size_of w = sides (count_in 1 MOST_SIDE (before_first (λ b. b == byte "x") w)) (count_in 1 MOST_SIDE (after_first (λ b. b == byte "x") w))

-- a digit from 0 to 7
abbrev pub client_of : Word → Option ℕ
client_of (b ∷ []) = if nat_le (byte "0") b && nat_le b (byte "7") then Some (b - byte "0") else None
client_of _ = None

-- tables of words

abbrev pub formats : List (Word × Format)
formats = (codes "rgba", Rgba8) ∷ (codes "pre", Rgba8Pre) ∷ (codes "rgbx", Rgbx8) ∷ (codes "a8", A8) ∷ []

abbrev pub stat_words : List (Word × StatWord)
stat_words = (codes "streams", Streams) ∷ (codes "bytes", Bytes) ∷ []

abbrev pub element_attrs : List (Word × ElementAttr)
element_attrs =
    (codes "dest", element.Dest) ∷ (codes "source", element.Source) ∷ (codes "srcrect", element.SrcRect) ∷ (codes "flip", element.Flip)
    ∷ (codes "rotation", element.Rotation) ∷ (codes "filter", element.Filter) ∷ (codes "transparency", element.Transparency)
    ∷ (codes "alpha", element.Alpha) ∷ (codes "mask", element.Mask) ∷ []

abbrev pub context_attrs : List (Word × ContextAttr)
context_attrs =
    (codes "rotation", context.Rotation) ∷ (codes "background", context.Background) ∷ (codes "width", context.Width)
    ∷ (codes "height", context.Height) ∷ (codes "lowest", context.Lowest) ∷ []

abbrev pub port_attrs : List (Word × PortAttr)
port_attrs =
    (codes "mode", port.Mode) ∷ (codes "background", port.Background) ∷ (codes "power", port.Power) ∷ (codes "width", port.Width)
    ∷ (codes "height", port.Height) ∷ (codes "attached", port.Attached) ∷ []

abbrev pub pipe_attrs : List (Word × PipeAttr)
pipe_attrs =
    (codes "dest", pipe.Dest) ∷ (codes "srcrect", pipe.SrcRect) ∷ (codes "flip", pipe.Flip) ∷ (codes "rotation", pipe.Rotation)
    ∷ (codes "filter", pipe.Filter) ∷ (codes "transparency", pipe.Transparency) ∷ (codes "alpha", pipe.Alpha) ∷ (codes "port", pipe.Port)
    ∷ (codes "pending", pipe.Pending) ∷ (codes "showing", pipe.Showing) ∷ []

abbrev pub transitions : List (Word × Transition)
transitions = (codes "now", Now) ∷ (codes "vsync", Vsync) ∷ []

-- how a source is scaled
abbrev pub filters : List (Word × ℤ)
filters = (codes "none", pos 0) ∷ (codes "faster", pos 1) ∷ (codes "better", pos 2) ∷ []

-- the sum of 1 for `alpha`, 2 for `source` and 4 for `mask`
abbrev pub transparencies : List (Word × ℤ)
transparencies =
    (codes "none", pos 0) ∷ (codes "alpha", pos 1) ∷ (codes "source", pos 2) ∷ (codes "alpha+source", pos 3) ∷ (codes "mask", pos 4)
    ∷ (codes "alpha+mask", pos 5) ∷ (codes "source+mask", pos 6) ∷ (codes "alpha+source+mask", pos 7) ∷ []
