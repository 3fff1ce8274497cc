-- The rules of a line as a table: which lines break which rule. A rule is looked at only where those before it hold, so what a test
-- says of a line that breaks an earlier rule counts for nothing.
use Rattle.std.specs.Prelude.{ℕ, ◌+◌, Bool, true, false, not, ◌&&◌, ◌||◌, ◌==◌, nat_lt, pos, negsuc, List, [], ◌∷◌, ◌++◌, length}
use Rattle.std.specs.Prelude.{codes, find, is_some, map, Option, Some, None, Result, Ok, Err, if◌then◌else◌}
use Rattle.std.specs.List.{list_all, list_any, slice_get}
use Rattle.std.specs.Str.{bytes_eq}
use Rattle.wf_script.specs.declared.fault.ScriptFault.{ScriptFault}
use Rattle.wf_script.specs.declared.fault.ScriptFault.TheVariants as fault
use Rattle.wf_script.specs.declared.field.Field.{Field}
use Rattle.wf_script.specs.declared.field.Field.TheVariants as field
use Rattle.wf_script.specs.declared.form.Form.{Form}
use Rattle.wf_script.specs.declared.form.Form.TheVariants.{Frame, Paint, Plain}
use Rattle.wf_script.specs.declared.name.Name.{Name}
use Rattle.wf_script.specs.declared.paint_form.PaintForm.{PaintForm}
use Rattle.wf_script.specs.declared.paint_form.PaintForm.TheVariants as paint
use Rattle.wf_script.specs.declared.rule.Rule.{Rule}
use Rattle.wf_script.specs.declared.rule.Rule.TheVariants as rule
use Rattle.wf_script.specs.Fields.{Shape, decided, missing, read, unknown, words}
use Rattle.wf_script.specs.Forms.{forms, shape}
use Rattle.wf_script.specs.Grammar.{Reading, has_its_name, is_header, is_its_client, is_mode_count, line_words, no_event_here}
use Rattle.wf_script.specs.Grammar.{no_pipes_here}
use Rattle.wf_script.specs.Grammar.{no_port_here, nothing_read, read_line}
use Rattle.wf_script.specs.PaintWords.{hex_digit, paint_forms, row_number}
use Rattle.wf_script.specs.Rules.{rule_number}
use Rattle.wf_script.specs.Visible.{is_visible}
use Rattle.wf_script.specs.Words.{Word, client_of, count_in, handle_of, integer_in}
use Rattle.wf_script.specs.Words.{is_allowed, lines_of, look_up, name_of, none_word, size_of}
use Rattle.wf_script.specs.Words.{without_return}
use Rattle.wf_pixel.specs.declared.TheConstants.{MOST_SIDE}
use Rattle.wf_script.specs.declared.TheConstants.{ROW_DIGITS, MOST_LINES}
use Rattle.wf_pixel.specs.Choice.{least_coordinate, most_coordinate, most_extent}
use Rattle.wf_calls.specs.declared.TheConstants.{MOST_PIPELINES}

-- kinds of words

-- which words are of the kind, and whether they stand for objects
pub record Kind : Type 0 where
  pub is : Word → Bool
  pub names : Bool

-- the words that a reader of words takes
abbrev pub read_by : {A : Type 0} → (Word → Option A) → Kind
read_by read = record { is = λ w. is_some (read w); names = false }

-- a name or `none`
abbrev pub handle : Kind
handle = record { is = λ w. is_some (handle_of w); names = true }

abbrev pub names_object : Field → Bool
names_object field.Handle = true
names_object _ = false

-- numbers of paints
abbrev pub channel : Kind
channel = read_by (count_in 0 255)

abbrev pub place : Kind
place = read_by (integer_in least_coordinate most_coordinate)

abbrev pub extent : Kind
extent = read_by (count_in 0 most_extent)

-- 8 hexadecimal digits a pixel
unfoldable pub in_eights : Word → Bool
in_eights [] = true
in_eights (a ∷ b ∷ c ∷ d ∷ e ∷ f ∷ g ∷ h ∷ rest) =
    list_all (λ x. is_some (hex_digit x)) (a ∷ b ∷ c ∷ d ∷ e ∷ f ∷ g ∷ h ∷ []) && in_eights rest
in_eights _ = false

-- up to those of a whole row
abbrev pub pixels : Kind
pixels = record { is = λ w. not (nat_lt ROW_DIGITS (length w)) && in_eights w; names = false }

abbrev pub four : Kind → List Kind
four k = k ∷ k ∷ k ∷ k ∷ []

-- the words behind a paint's own
abbrev pub paint_kinds : PaintForm → List Kind
paint_kinds paint.Fill = four channel
paint_kinds paint.Rectangle = place ∷ place ∷ extent ∷ extent ∷ four channel
paint_kinds paint.Checker = read_by (count_in 1 MOST_SIDE) ∷ four channel ++ four channel
paint_kinds paint.Ramp = four channel ++ four channel
paint_kinds paint.Row = read_by row_number ∷ pixels ∷ []

-- the words behind a verb

-- a kind that a loop reads
abbrev pub kind : Field → Kind
kind k = record { is = λ w. is_some (read k w); names = names_object k }

abbrev pub kinds : Shape Field → Shape Kind
kinds (words ks) = words (map kind ks)
kinds missing = missing
kinds unknown = unknown

-- the table of forms
abbrev pub shape_of : Form → List Word → Shape Kind
shape_of (Plain p) ws = kinds (shape p ws)
shape_of Paint ws = decided (look_up paint_forms) (λ p. read_by (look_up paint_forms) ∷ paint_kinds p) (slice_get ws 0)
shape_of Frame ws = decided (look_up paint_forms) (λ p. handle ∷ read_by (look_up paint_forms) ∷ paint_kinds p) (slice_get ws 1)

-- the number of words is not the form's
abbrev pub off_count : Shape Kind → List Word → Bool
off_count (words kinds) ws = not (length ws == length kinds)
off_count missing ws = true
off_count unknown ws = false

-- a word is not of its kind
abbrev pub off_kinds : List Kind → List Word → Bool
off_kinds [] ws = false
off_kinds (k ∷ ks) [] = false
off_kinds (k ∷ ks) (w ∷ ws) = not (k.is w) || off_kinds ks ws

abbrev pub off_kind : Shape Kind → List Word → Bool
off_kind (words kinds) ws = off_kinds kinds ws
off_kind missing ws = false
off_kind unknown ws = true

-- the names that words use: those that stand for objects, but for `none`
abbrev pub used_name : Kind → Word → List Name
used_name k w = if k.names && not (bytes_eq w none_word) then w ∷ [] else []

abbrev pub used_names : List Kind → List Word → List Name
used_names [] ws = []
used_names (k ∷ ks) [] = []
used_names (k ∷ ks) (w ∷ ws) = used_name k w ++ used_names ks ws

abbrev pub used_by : Shape Kind → List Word → List Name
used_by (words kinds) ws = used_names kinds ws
used_by missing ws = []
used_by unknown ws = []

-- lines

-- what a line is by its first word, with the words behind that
pub data LineKind : Type 0 where
  blank : LineKind
  of_port : List Word → LineKind
  of_pipes : List Word → LineKind
  of_end : List Word → LineKind
  of_event : ℕ → List Word → LineKind
  of_nobody : LineKind

abbrev pub of_client : Option ℕ → List Word → LineKind
of_client None ws = of_nobody
of_client (Some client) ws = of_event client ws

abbrev pub kind_of : List Word → LineKind
kind_of [] = blank
kind_of (w ∷ ws) =
    if bytes_eq w (codes "port") then of_port ws
    else (if bytes_eq w (codes "pipes") then of_pipes ws
    else (if bytes_eq w (codes "end") then of_end ws
    else of_client (client_of w) ws))

-- the words of an event line behind its client: the word before `=`, where the next one is that
abbrev pub bound_word : List Word → Option Word
bound_word [] = None
bound_word (a ∷ []) = None
bound_word (a ∷ b ∷ ws) = if bytes_eq b (codes "=") then Some a else None

-- the verb, and what is behind it
abbrev pub verb_and_words : List Word → List Word
verb_and_words [] = []
verb_and_words (a ∷ []) = a ∷ []
verb_and_words (a ∷ b ∷ ws) = if bytes_eq b (codes "=") then ws else a ∷ b ∷ ws

-- its form, where there is a verb and it is known, and the words behind the verb
abbrev pub form_in : List Word → Option Form
form_in [] = None
form_in (v ∷ ws) = look_up forms v

abbrev pub words_behind : List Word → List Word
words_behind [] = []
words_behind (v ∷ ws) = ws

-- the rules

-- 2: the first word says what line it is
abbrev pub breaks_client : LineKind → Bool
breaks_client of_nobody = true
breaks_client _ = false

-- 3: the verb is missing or unknown; one that makes something has no name in front, or another has one
abbrev pub form_breaks_verb : Option Form → Option Word → Bool
form_breaks_verb None bound = true
form_breaks_verb (Some f) bound = not (has_its_name f bound)

abbrev pub breaks_verb : LineKind → Bool
breaks_verb (of_event client ws) = form_breaks_verb (form_in (verb_and_words ws)) (bound_word ws)
breaks_verb _ = false

-- 4: no line of its kind stands here, or it is the tick of another client than 0
abbrev pub form_breaks_place : Option Form → ℕ → Bool
form_breaks_place None client = false
form_breaks_place (Some f) client = not (is_its_client f client)

abbrev pub breaks_place : Reading → LineKind → Bool
breaks_place r (of_port ws) = no_port_here r
breaks_place r (of_pipes ws) = no_pipes_here r
breaks_place r (of_end ws) = no_event_here r
breaks_place r (of_event client ws) = no_event_here r || form_breaks_place (form_in (verb_and_words ws)) client
breaks_place r _ = false

-- 5: the number of words is not the form's
abbrev pub form_breaks_count : Option Form → List Word → Bool
form_breaks_count None ws = false
form_breaks_count (Some f) ws = off_count (shape_of f ws) ws

abbrev pub breaks_count : LineKind → Bool
breaks_count (of_port ws) = not (is_mode_count (length ws))
breaks_count (of_pipes ws) = not (length ws == 1)
breaks_count (of_end ws) = nat_lt 0 (length ws)
breaks_count (of_event client ws) = form_breaks_count (form_in (verb_and_words ws)) (words_behind (verb_and_words ws))
breaks_count _ = false

-- 6: a word is not of its kind, or the word before `=` is no name
abbrev pub form_breaks_word : Option Form → List Word → Bool
form_breaks_word None ws = false
form_breaks_word (Some f) ws = off_kind (shape_of f ws) ws

abbrev pub is_no_name : Option Word → Bool
is_no_name None = false
is_no_name (Some w) = not (is_some (name_of w))

abbrev pub breaks_word : LineKind → Bool
breaks_word (of_port ws) = list_any (λ w. not (is_some (size_of w))) ws
breaks_word (of_pipes ws) = list_any (λ w. not (is_some (count_in 0 MOST_PIPELINES w))) ws
breaks_word (of_event client ws) =
    form_breaks_word (form_in (verb_and_words ws)) (words_behind (verb_and_words ws)) || is_no_name (bound_word ws)
breaks_word _ = false

-- 7: a name that is used is not visible, or the bound one is visible already
abbrev pub form_names : Option Form → List Word → List Name
form_names None ws = []
form_names (Some f) ws = used_by (shape_of f ws) ws

abbrev pub is_bound_again : Reading → ℕ → Option Word → Bool
is_bound_again r client None = false
is_bound_again r client (Some w) = is_visible r.lines client w

abbrev pub breaks_name : Reading → LineKind → Bool
breaks_name r (of_event client ws) =
    not (list_all (is_visible r.lines client) (form_names (form_in (verb_and_words ws)) (words_behind (verb_and_words ws))))
    || is_bound_again r client (bound_word ws)
breaks_name r _ = false

-- a line breaks a rule, behind what was read
abbrev pub breaks : Rule → Reading → List ℕ → Bool
breaks rule.Byte r line = not (list_all is_allowed (without_return line))
breaks rule.Client r line = breaks_client (kind_of (line_words line))
breaks rule.Verb r line = breaks_verb (kind_of (line_words line))
breaks rule.Place r line = breaks_place r (kind_of (line_words line))
breaks rule.Count r line = breaks_count (kind_of (line_words line))
breaks rule.Word r line = breaks_word (kind_of (line_words line))
breaks rule.Name r line = breaks_name r (kind_of (line_words line))

-- the rules in their order
abbrev pub all_rules : List Rule
all_rules = rule.Byte ∷ rule.Client ∷ rule.Verb ∷ rule.Place ∷ rule.Count ∷ rule.Word ∷ rule.Name ∷ []

-- the least rule that a line breaks
abbrev pub least_broken : Reading → List ℕ → Option Rule
least_broken r line = find (λ broken. breaks broken r line) all_rules

-- what refuses, if anything does
abbrev pub refusal : {A E : Type 0} → Result A E → Option E
refusal (Ok x) = None
refusal (Err e) = Some e

-- whole scripts

-- what was read, with what a line adds that breaks no rule
abbrev pub taken : Reading → Result Reading Rule → Reading
taken r (Ok left) = left
taken r (Err broken) = r

-- the fault of line n, or that of the lines behind it
abbrev pub first_fault : ℕ → Option Rule → Option ScriptFault → Option ScriptFault
first_fault n (Some broken) behind = Some (fault.Line n (rule_number broken))
first_fault n None behind = behind

-- the lines from number n on: the first that breaks a rule, the line 16,385, or the end that is missing
unfoldable pub lines_fault : ℕ → Reading → List (List ℕ) → Option ScriptFault
lines_fault n r [] = if r.ended then None else Some (fault.NoEnd n)
lines_fault n r (l ∷ ls) =
    if nat_lt MOST_LINES n then Some fault.TooManyLines
    else first_fault n (least_broken r l) (lines_fault (n + 1) (taken r (read_line r l)) ls)

-- a script's fault: the header's, or the first of the lines behind it
unfoldable pub script_fault : List ℕ → Option ScriptFault
script_fault bytes = of_lines (lines_of bytes)
  where
    of_lines : List (List ℕ) → Option ScriptFault
    of_lines [] = Some fault.Header
    of_lines (l ∷ ls) = if is_header l then lines_fault 2 nothing_read ls else Some fault.Header
