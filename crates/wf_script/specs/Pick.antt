-- Words by their kinds, from the front.
use Rattle.std.specs.Prelude.{ℕ, not, ◌==◌, List, [], ◌∷◌, length, Option, Result, Ok, Err}
use Rattle.wf_words.specs.Refusals.{◌>>=◌, refuse_if, found_or}
use Rattle.wf_script.specs.declared.rule.Rule.{Rule}
use Rattle.wf_script.specs.declared.rule.Rule.TheVariants as rule
use Rattle.wf_script.specs.Words.{Word}

-- so many words
abbrev pub counted : ℕ → List Word → Result (Unit {0}) Rule
counted count ws = refuse_if rule.Count (not (length ws == count))

-- the first word, and those behind it
abbrev pub first : List Word → Result (Word × List Word) Rule
first [] = Err rule.Count
first (w ∷ ws) = Ok (w, ws)

-- the first word by its kind, and the words behind it
abbrev pub first_as : {A : Type 0} → (Word → Option A) → List Word → Result (A × List Word) Rule
first_as kind ws = do
  w ← first ws
  x ← found_or rule.Word (kind w.0)
  Ok (x, w.1)
