-- The grammar of scripts: the script that bytes stand for, or the first line that breaks a rule.
use Rattle.std.specs.Prelude.{◌≡◌, ℕ, ◌+◌, Bool, true, false, not, ◌&&◌, ◌||◌, ◌==◌, nat_lt, nat_le, List, [], ◌∷◌, ◌++◌, length, codes}
use Rattle.std.specs.Prelude.{Option, Some, None, is_some, unwrap_or, Result, Ok, Err, if◌then◌else◌}
use Rattle.std.specs.List.{list_all}
use Rattle.std.specs.Str.{bytes_eq}
use Rattle.wf_words.specs.Refusals.{◌>>=◌, refuse_if, found_or}
use Rattle.wf_pixel.specs.declared.Size.{Size}
use Rattle.wf_calls.specs.declared.ports.Modes.{Modes}
use Rattle.wf_script.specs.declared.fault.ScriptFault.{ScriptFault}
use Rattle.wf_script.specs.declared.fault.ScriptFault.TheVariants as fault
use Rattle.wf_script.specs.declared.form.Form.{Form}
use Rattle.wf_script.specs.declared.form.Form.TheVariants.{Plain}
use Rattle.wf_script.specs.declared.form.Plain.TheVariants as plain
use Rattle.wf_script.specs.declared.line.Line.{Line}
use Rattle.wf_script.specs.declared.name.Name.{Name}
use Rattle.wf_script.specs.declared.rule.Rule.{Rule}
use Rattle.wf_script.specs.declared.rule.Rule.TheVariants as rule
use Rattle.wf_script.specs.Forms.{arguments, binds, forms}
use Rattle.wf_script.specs.Rules.{rule_number}
use Rattle.wf_script.specs.Script.{PlainScript}
use Rattle.wf_script.specs.Visible.{is_visible}
use Rattle.wf_script.specs.Words.{Word, client_of, count_in, is_allowed, lines_of, look_up, name_of, size_of, without_comment}
use Rattle.wf_script.specs.Words.{without_return, words_in}
use Rattle.wf_script.specs.declared.TheConstants.{MOST_LINES}
use Rattle.wf_calls.specs.declared.TheConstants.{MOST_PIPELINES}

-- what was read so far: the ports' modes, the number of pipelines where it was declared, the event lines, and whether
-- the end stood
pub record Reading : Type 0 where
  pub modes : List Modes
  pub pipes : Option ℕ
  pub lines : List Line
  pub ended : Bool

abbrev pub nothing_read : Reading
nothing_read = record { modes = []; pipes = None; lines = []; ended = false }

abbrev pub has_ports : Reading → Bool
has_ports r = nat_lt 0 (length r.modes)

abbrev pub has_lines : Reading → Bool
has_lines r = nat_lt 0 (length r.lines)

-- ports, pipelines and the end

unfoldable pub sizes : List Word → Result (List Size) Rule
sizes [] = Ok []
sizes (w ∷ ws) = do
  size ← found_or rule.Word (size_of w)
  others ← sizes ws
  Ok (size ∷ others)

-- no port stands here
abbrev pub no_port_here : Reading → Bool
no_port_here r = r.ended || (is_some r.pipes || (has_lines r || not (nat_lt (length r.modes) 4)))

-- 1 to 4
abbrev pub is_mode_count : ℕ → Bool
is_mode_count n = nat_le 1 n && nat_le n 4

unfoldable pub port_line : Reading → List Word → Result Reading Rule
port_line r ws = do
  _ ← refuse_if rule.Place (no_port_here r)
  _ ← refuse_if rule.Count (not (is_mode_count (length ws)))
  modes ← sizes ws
  Ok (record r { modes = r.modes ++ record { sizes = record { items = modes } } ∷ [] })

-- no number of pipelines stands here
abbrev pub no_pipes_here : Reading → Bool
no_pipes_here r = r.ended || (not (has_ports r) || (is_some r.pipes || has_lines r))

-- one word alone
abbrev pub alone : List Word → Result Word Rule
alone (w ∷ []) = Ok w
alone _ = Err rule.Count

unfoldable pub pipes_line : Reading → List Word → Result Reading Rule
pipes_line r ws = do
  _ ← refuse_if rule.Place (no_pipes_here r)
  w ← alone ws
  count ← found_or rule.Word (count_in 0 MOST_PIPELINES w)
  Ok (record r { pipes = Some count })

-- no event line and no end stands here
abbrev pub no_event_here : Reading → Bool
no_event_here r = r.ended || not (has_ports r)

unfoldable pub end_line : Reading → List Word → Result Reading Rule
end_line r ws = do
  _ ← refuse_if rule.Place (no_event_here r)
  _ ← refuse_if rule.Count (nat_lt 0 (length ws))
  Ok (record r { ended = true })

-- event lines

-- the words of an event line behind its client: the word before `=`, where there is one, the verb, and what is
-- behind it
pub record Parts : Type 0 where
  pub name : Option Word
  pub verb : Word
  pub arguments : List Word

unfoldable pub parts_of : List Word → Result Parts Rule
parts_of [] = Err rule.Verb
parts_of (v ∷ []) = Ok (record { name = None; verb = v; arguments = [] })
parts_of (v ∷ w ∷ ws) = if bytes_eq w (codes "=") then named v ws else Ok (record { name = None; verb = v; arguments = w ∷ ws })
  where
    named : Word → List Word → Result Parts Rule
    named name [] = Err rule.Verb
    named name (v ∷ arguments) = Ok (record { name = Some name; verb = v; arguments = arguments })

-- a verb that makes something has a name in front, and no other has
abbrev pub has_its_name : Form → Option Word → Bool
has_its_name form None = not (binds form)
has_its_name form (Some name) = binds form

-- the clock is client 0's
abbrev pub is_its_client : Form → ℕ → Bool
is_its_client (Plain plain.Tick) client = client == 0
is_its_client _ client = true

-- the name that a line binds, if it binds one
abbrev pub bound_name : Option Word → Result (Option Name) Rule
bound_name None = Ok None
bound_name (Some w) = do
  name ← found_or rule.Word (name_of w)
  Ok (Some name)

abbrev pub is_taken : Reading → ℕ → Option Name → Bool
is_taken r client None = false
is_taken r client (Some name) = is_visible r.lines client name

unfoldable pub event_line : Reading → ℕ → List Word → Result Reading Rule
event_line r client ws = do
  parts ← parts_of ws
  form ← found_or rule.Verb (look_up forms parts.verb)
  _ ← refuse_if rule.Verb (not (has_its_name form parts.name))
  _ ← refuse_if rule.Place (no_event_here r || not (is_its_client form client))
  given ← arguments form parts.arguments
  name ← bound_name parts.name
  _ ← refuse_if rule.Name (not (list_all (is_visible r.lines client) given.1))
  _ ← refuse_if rule.Name (is_taken r client name)
  Ok (record r { lines = r.lines ++ record { client = client; name = name; verb = given.0 } ∷ [] })

-- lines

-- a line by its first word
unfoldable pub line_of : Reading → List Word → Result Reading Rule
line_of r [] = Ok r
line_of r (w ∷ ws) =
    if bytes_eq w (codes "port") then port_line r ws
    else (if bytes_eq w (codes "pipes") then pipes_line r ws
    else (if bytes_eq w (codes "end") then end_line r ws
    else (do
      client ← found_or rule.Client (client_of w)
      event_line r client ws)))

-- the words of a line
abbrev pub line_words : List ℕ → List Word
line_words line = words_in (without_comment (without_return line))

unfoldable pub read_line : Reading → List ℕ → Result Reading Rule
read_line r line = do
  _ ← refuse_if rule.Byte (not (list_all is_allowed (without_return line)))
  line_of r (line_words line)

-- a line's answer, with the number of the line at a fault
abbrev pub at_line : ℕ → Result Reading Rule → Result Reading ScriptFault
at_line n (Ok r) = Ok r
at_line n (Err broken) = Err (fault.Line n (rule_number broken))

-- the lines from number n on
unfoldable pub read_lines : ℕ → Reading → List (List ℕ) → Result Reading ScriptFault
read_lines n r [] = if r.ended then Ok r else Err (fault.NoEnd n)
read_lines n r (l ∷ ls) = do
  _ ← refuse_if fault.TooManyLines (nat_lt MOST_LINES n)
  left ← at_line n (read_line r l)
  read_lines (n + 1) left ls

abbrev pub is_header_word : List Word → Bool
is_header_word (w ∷ []) = bytes_eq w (codes "WFS1")
is_header_word _ = false

-- the one word WFS1, in a line of bytes that may stand in a line
abbrev pub is_header : List ℕ → Bool
is_header line = list_all is_allowed (without_return line) && is_header_word (line_words line)

abbrev pub script_of : Reading → PlainScript
script_of r = record { ports = record { modes = record { items = r.modes }; pipes = unwrap_or r.pipes 0 }; lines = r.lines }

-- the script that bytes stand for, or the first line that breaks a rule, with its least rule
unfoldable pub read_script : List ℕ → Result PlainScript ScriptFault
read_script bytes = of_lines (lines_of bytes)
  where
    of_lines : List (List ℕ) → Result PlainScript ScriptFault
    of_lines [] = Err fault.Header
    of_lines (l ∷ ls) = do
      _ ← refuse_if fault.Header (not (is_header l))
      r ← read_lines 2 nothing_read ls
      Ok (script_of r)

-- the bytes stand for the script
abbrev pub Stands : List ℕ → PlainScript → Type 0
Stands bytes script = read_script bytes ≡ Ok script

-- this was answered, seen so: what reading gives, unless memory ran out
abbrev pub Answers : {A B : Type 0} → (A → B) → Result A ScriptFault → Result B ScriptFault → Type 0
Answers view (Err fault.NoMemory) read = Unit {0}
Answers view (Err broken) read = read ≡ Err broken
Answers view (Ok x) read = read ≡ Ok (view x)
