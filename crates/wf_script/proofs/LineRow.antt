-- The lines of a script, read one by one.
use Rattle.std.proofs.Common.{◌≡◌, ℕ, ◌+◌, ◌<◌, ◌≤◌, true, false, Result, Ok, Err, List, [], ◌∷◌, refl, sym, ◌∙◌}
use Rattle.std.proofs.lemmas.Bool.{le-ltb, lt-ltb}
use Rattle.wf_script.specs.declared.fault.ScriptFault.{ScriptFault}
use Rattle.wf_script.specs.declared.fault.ScriptFault.TheVariants as fault
use Rattle.wf_script.specs.declared.rule.Rule.{Rule}
use Rattle.wf_script.specs.declared.rule.LineFault.{LineFault}
use Rattle.wf_script.specs.declared.rule.LineFault.TheVariants as line_fault
use Rattle.wf_script.specs.Grammar.{Answers, Reading, read_line, read_lines}
use Rattle.wf_script.specs.Reader.{fault_at, reading}
use Rattle.wf_script.specs.Rules.{Gives, rule_number}
use Rattle.wf_script.specs.declared.TheConstants.{MOST_LINES}

pub line_taken : (n : ℕ) (r left : Reading) (l : List ℕ) (ls : List (List ℕ)) → n ≤ MOST_LINES → read_line r l ≡ Ok left
    → read_lines n r (l ∷ ls) ≡ read_lines (n + 1) left ls
unfolding read_lines
line_taken n r left l ls few taken = rw (le-ltb MOST_LINES n few, taken) refl

pub line_refused : (n : ℕ) (r : Reading) (broken : Rule) (l : List ℕ) (ls : List (List ℕ)) → n ≤ MOST_LINES → read_line r l ≡ Err broken
    → read_lines n r (l ∷ ls) ≡ Err (fault.Line n (rule_number broken))
unfolding read_lines
line_refused n r broken l ls few refused = rw (le-ltb MOST_LINES n few, refused) refl

-- the fault of a line is that of the script
pub line_fault_is : (n : ℕ) (r left : Reading) (found : LineFault) (l : List ℕ) (ls : List (List ℕ)) (read : Result Reading ScriptFault)
    → n ≤ MOST_LINES → Gives {A = Unit {0}} (λ _. left) (Err found) (read_line r l) → read_lines n r (l ∷ ls) ≡ read
    → Answers reading (Err (fault_at n found)) read
line_fault_is n r left (line_fault.Breaks broken) l ls read few refused is = sym is ∙ line_refused n r broken l ls few refused
line_fault_is n r left line_fault.NoMemory l ls read few refused is = tt

pub too_many : (n : ℕ) (r : Reading) (l : List ℕ) (ls : List (List ℕ)) → MOST_LINES < n → read_lines n r (l ∷ ls) ≡ Err fault.TooManyLines
unfolding read_lines
too_many n r l ls many = rw (lt-ltb MOST_LINES n many) refl

pub ended : (n : ℕ) (r : Reading) → r.ended ≡ true → read_lines n r [] ≡ Ok r
unfolding read_lines
ended n r h = rw h refl

pub no_end : (n : ℕ) (r : Reading) → r.ended ≡ false → read_lines n r [] ≡ Err (fault.NoEnd n)
unfolding read_lines
no_end n r h = rw h refl
