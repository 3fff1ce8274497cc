-- The words of the command line, which stand without the program's name.
use Rattle.std.specs.Prelude.{◌≡◌, ℕ, ◌≤◌, ◌⊎◌, Bool, true, false, List, [], ◌∷◌, codes, map, Option, Some, None, pos, String, string_bytes}
use Rattle.std.specs.Global.{Global}
use Rattle.std.specs.Str.Parse.{IsNumeral, digits_value, without_leading_plus}
use Rattle.clap.specs.Words.{App, Row, Rule, Text, fault_of, first_of, first_value, matches_of, new_app, new_rule, one_of, one_text}
use Rattle.clap.specs.Words.{with_rule}
use Rattle.clap.specs.declared.builder.action.ArgAction.TheVariants.{SetTrue}
use Rattle.clap.specs.declared.parser.matches.Found.{Found}
use Rattle.clap.specs.declared.builder.value_parser.ValueParser.TheVariants as parser
use Rattle.wf_film.specs.declared.form.FilmForm.{FilmForm}
use Rattle.wf_film.specs.declared.form.FilmForm.TheVariants as forms
use Rattle.wf_command.specs.declared.asked.Asked.{Asked}
use Rattle.wf_command.specs.declared.asked.Mode.{Mode}
use Rattle.wf_command.specs.declared.asked.Mode.TheVariants as mode

-- the bytes of each word
abbrev pub texts : List (String Global) → List (List ℕ)
texts words = map string_bytes words

-- the word of a mode
abbrev pub mode_word : Mode → List ℕ
mode_word mode.Film = codes "film"
mode_word mode.Check = codes "check"
mode_word mode.Print = codes "print"
mode_word mode.Big = codes "big"
mode_word mode.Events = codes "events"
mode_word mode.Session = codes "session"

-- the command

-- the mode, which is required
abbrev pub mode_rule : Rule
mode_rule = record (new_rule (codes "mode")) { required = true }

-- an option of this name with a number from 1 to a last one, and a default
abbrev pub number_rule : Text → ℕ → Text → Rule
number_rule name last default = record (new_rule name) {
  long = Some name;
  parser = Some (parser.Signed (pos 1) (pos last));
  defaults = default ∷ [];
}

-- a flag of this name
abbrev pub flag_rule : Text → Rule
flag_rule name = record (new_rule name) { long = Some name; action = Some SetTrue }

abbrev pub threads_rule : Rule
threads_rule = flag_rule (codes "threads")

abbrev pub rows_rule : Rule
rows_rule = number_rule (codes "rows") 16 (codes "1")

abbrev pub film_rule : Rule
film_rule = number_rule (codes "film") 2 (codes "2")

abbrev pub size_rule : Rule
size_rule = number_rule (codes "size") 1000 (codes "1")

abbrev pub depth_rule : Rule
depth_rule = number_rule (codes "depth") 64 (codes "64")

abbrev pub repaint_rule : Rule
repaint_rule = flag_rule (codes "repaint")

-- the words stand without the program's name, and none asks for help
abbrev pub bare : App
bare =
    let plain = new_app (codes "wfplay") in
    record plain { top = record plain.top { no_binary_name = true; disable_help_flag = true } }

abbrev pub command : App
command =
    with_rule
    (with_rule (with_rule (with_rule (with_rule (with_rule (with_rule bare mode_rule) threads_rule) rows_rule) film_rule) size_rule)
    depth_rule) repaint_rule

-- what the words ask for

-- the matches of the words
abbrev pub rows : List (String Global) → List Row
rows words = matches_of command (texts words)

-- the text is a number, and this one
abbrev pub Writes : Text → ℕ → Type 0
Writes text n = IsNumeral 10 (without_leading_plus text) × (digits_value 10 (without_leading_plus text) ≡ n)

-- the form that the text of `--film` asks for: its number is 1 or 2
abbrev pub IsForm : Option Text → FilmForm → Type 0
IsForm None form = form ≡ forms.Two
IsForm (Some text) forms.One = Writes text 1
IsForm (Some text) forms.Two = ¬ (Writes text 1)

-- the flag stands among the words
abbrev pub IsSet : Option Text → Bool → Type 0
IsSet text true = text ≡ Some (codes "true")
IsSet text false = ¬ (text ≡ Some (codes "true"))

-- a number from 1 to another
pub record IsUpTo (last n : ℕ) : Type 0 where
  pub some : 1 ≤ n
  pub most : n ≤ last

-- the number, from 1 to a last one, that the text of an option asks for, or else its default
abbrev pub IsCount : (last default : ℕ) → Option Text → ℕ → Type 0
IsCount last default None n = n ≡ default
IsCount last default (Some text) n =
    (IsUpTo last n × Writes text n) ⊎ ((n ≡ default) × ((k : ℕ) → IsUpTo last k → ¬ (Writes text k)))

-- the texts of the arguments
pub record Texts : Type 0 where
  pub mode : Option Text
  pub threads : Option Text
  pub rows : Option Text
  pub film : Option Text
  pub size : Option Text
  pub depth : Option Text
  pub repaint : Option Text

-- what matches hold of them
abbrev pub texts_in : Found → Texts
texts_in found =
    record {
      mode = first_value found (codes "mode");
      threads = first_value found (codes "threads");
      rows = one_text found (codes "rows");
      film = one_text found (codes "film");
      size = one_text found (codes "size");
      depth = one_text found (codes "depth");
      repaint = first_value found (codes "repaint");
    }

-- what the words hold of them
abbrev pub texts_of : List (String Global) → Texts
texts_of words =
    let found = rows words in
    record {
      mode = first_of (codes "mode") found;
      threads = first_of (codes "threads") found;
      rows = one_of (codes "rows") found;
      film = one_of (codes "film") found;
      size = one_of (codes "size") found;
      depth = one_of (codes "depth") found;
      repaint = first_of (codes "repaint") found;
    }

-- the mode with its options that the texts of the arguments ask for
pub record IsMeant (t : Texts) (a : Asked) : Type 0 where
  pub mode_is : t.mode ≡ Some (mode_word a.mode)
  pub threads_is : IsSet t.threads a.threads
  pub rows_is : IsCount 16 1 t.rows a.rows
  pub form_is : IsForm t.film a.form
  pub size_is : IsCount 1000 1 t.size a.size
  pub depth_is : IsCount 64 64 t.depth a.depth
  pub repaint_is : IsSet t.repaint a.repaint

-- the words are a command, and this is its mode with its options
pub record AskFor (a : Asked) (words : List (String Global)) : Type 0 where
  pub taken : fault_of command (texts words) ≡ []
  pub meant : IsMeant (texts_of words) a

-- the words that are accepted
abbrev pub AreAccepted : List (String Global) → Type 0
AreAccepted words = (a : Asked) × AskFor a words
