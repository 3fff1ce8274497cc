-- What the reader of lines has read.
use Rattle.std.specs.Prelude.{◌≡◌, List, ℕ, Result, Ok, Err, option_map}
use Rattle.std.specs.Borrow.{Bor}
use Rattle.arrayvec.specs.ArrayVec.{ArrayVec}
use Rattle.wf_pixel.specs.declared.Size.{Size}
use Rattle.wf_script.specs.declared.reader.Reader as declared
use Rattle.wf_script.specs.declared.rule.Rule.{Rule}
use Rattle.wf_script.specs.declared.parts.Parts as parts
use Rattle.wf_script.specs.declared.fault.ScriptFault.{ScriptFault}
use Rattle.wf_script.specs.declared.fault.ScriptFault.TheVariants as fault
use Rattle.wf_script.specs.declared.rule.LineFault.{LineFault}
use Rattle.wf_script.specs.declared.rule.LineFault.TheVariants as line_fault
use Rattle.wf_script.specs.Rules.{rule_number}
use Rattle.wf_script.specs.Grammar.{Parts, Reading, alone}
use Rattle.wf_script.specs.Words.{Word, words_in}

abbrev pub reading : declared.Reader → Reading
reading r = record { modes = r.modes.items; pipes = r.pipes; lines = r.lines.items; ended = r.ended }

-- one word was taken alone
abbrev pub alone_is : Result (Bor (List ℕ)) Rule → List Word → Type 0
alone_is (Ok w) ws = alone ws ≡ Ok w.now
alone_is (Err broken) ws = alone ws ≡ Err broken

-- these sizes were read
abbrev pub SizesAre : Result (ArrayVec Size) Rule → Result (List Size) Rule → Type 0
SizesAre (Ok sizes) read = read ≡ Ok sizes.items
SizesAre (Err broken) read = read ≡ Err broken

-- these parts of a line were found
abbrev pub FindsParts : Result parts.Parts Rule → Result Parts Rule → Type 0
FindsParts (Ok p) read =
    read ≡ Ok (record { name = option_map (λ w. w.now) p.name; verb = p.verb.now; arguments = words_in p.arguments.now })
FindsParts (Err broken) read = read ≡ Err broken

-- the fault of a line with a number
abbrev pub fault_at : ℕ → LineFault → ScriptFault
fault_at n (line_fault.Breaks broken) = fault.Line n (rule_number broken)
fault_at n line_fault.NoMemory = fault.NoMemory
