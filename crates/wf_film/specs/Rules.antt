-- The rules of a film, and what the functions that read one say of what they give.
use Rattle.std.specs.Prelude.{◌≡◌, ℕ, List, length, Result, Ok, Err}
use Rattle.wf_film.specs.declared.rule.Breach.{Breach}
use Rattle.wf_film.specs.declared.rule.ReadStop.{ReadStop}
use Rattle.wf_film.specs.declared.rule.ReadStop.TheVariants as stop
use Rattle.wf_film.specs.declared.rule.Rule.{Rule}
use Rattle.wf_film.specs.declared.rule.Rule.TheVariants as rule

-- the number of a rule in a fault
abbrev pub rule_number : Rule → ℕ
rule_number rule.Magic = 1
rule_number rule.Tag = 2
rule_number rule.Whole = 3
rule_number rule.Range = 4
rule_number rule.Last = 5

-- the rule is broken where these bytes are left
abbrev pub breach : Rule → List ℕ → Breach
breach rule left = record { rule = rule; left = length left }

-- the film ends where it has to go on
abbrev pub ends_here : Breach
ends_here = record { rule = rule.Whole; left = 0 }

-- a function has read so
abbrev pub Finds : {A B : Type 0} → (A → B) → Result A Breach → Result B Breach → Type 0
Finds view (Ok x) read = read ≡ Ok (view x)
Finds view (Err broken) read = read ≡ Err broken

-- a function that may want memory has read so, unless there was none
abbrev pub Gives : {A B : Type 0} → (A → B) → Result A ReadStop → Result B Breach → Type 0
Gives view (Ok x) read = read ≡ Ok (view x)
Gives view (Err (stop.Breaks broken)) read = read ≡ Err broken
Gives view (Err stop.NoMemory) read = Unit {0}
