-- The rules of a line, and what the functions that read a line say of what they give.
use Rattle.std.specs.Prelude.{◌≡◌, ℕ, List, Result, Ok, Err}
use Rattle.std.specs.Borrow.{Bor}
use Rattle.wf_script.specs.declared.rule.Rule.{Rule}
use Rattle.wf_script.specs.declared.rule.Rule.TheVariants as rule
use Rattle.wf_script.specs.declared.rule.LineFault.{LineFault}
use Rattle.wf_script.specs.declared.rule.LineFault.TheVariants as fault
use Rattle.wf_script.specs.Words.{Word, words_in}

-- the number of a rule in a fault
abbrev pub rule_number : Rule → ℕ
rule_number rule.Byte = 1
rule_number rule.Client = 2
rule_number rule.Verb = 3
rule_number rule.Place = 4
rule_number rule.Count = 5
rule_number rule.Word = 6
rule_number rule.Name = 7

-- a function that takes the first word of a text has taken that
abbrev pub FirstWord : Result (Bor (List ℕ) × Bor (List ℕ)) Rule → Result (Word × List Word) Rule → Type 0
FirstWord (Ok x) read = read ≡ Ok (x.0.now, words_in x.1.now)
FirstWord (Err broken) read = read ≡ Err broken

-- a function that reads from the front of the words of a text has read so, and left the words of the rest
abbrev pub Reads : {A : Type 0} → Result (A × Bor (List ℕ)) Rule → Result (A × List Word) Rule → Type 0
Reads (Ok x) read = read ≡ Ok (x.0, words_in x.1.now)
Reads (Err broken) read = read ≡ Err broken

-- a function has read so
abbrev pub Finds : {A B : Type 0} → (A → B) → Result A Rule → Result B Rule → Type 0
Finds view (Ok x) read = read ≡ Ok (view x)
Finds view (Err broken) read = read ≡ Err broken

-- a function that may want memory has read so, unless there was none
abbrev pub Gives : {A B : Type 0} → (A → B) → Result A LineFault → Result B Rule → Type 0
Gives view (Ok x) read = read ≡ Ok (view x)
Gives view (Err (fault.Breaks broken)) read = read ≡ Err broken
Gives view (Err fault.NoMemory) read = Unit {0}
