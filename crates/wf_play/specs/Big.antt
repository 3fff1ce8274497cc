-- The line of the mode `big`, which plays a script that is made.
use Rattle.std.specs.Prelude.{◌≡◌, ℕ, ◌+◌, ◌*◌, List, [], ◌++◌, length, codes, decimal}
use Rattle.wf_calls.specs.declared.order.Turn.{Turn}
use Rattle.wf_film.specs.declared.form.FilmForm.{FilmForm}
use Rattle.wf_io.specs.Bytes.{Puts, PutsPart}
use Rattle.wf_io.specs.Tally.{Count, count_of}
use Rattle.wf_script.specs.Generator.{made}
use Rattle.wf_turn.specs.MadePlay.{IsMadePlay}
use Rattle.wf_turn.specs.Play.{IsComplete, film, marks, serial_order}
use Rattle.wf_play.specs.declared.report.Status.{Status}
use Rattle.wf_play.specs.declared.report.Status.TheVariants as status

-- the line of so many rounds and events, whose film has this count
abbrev pub line_of_count : ℕ → ℕ → Count → List ℕ
line_of_count size events count =
    codes "big " ++ decimal size ++ codes ": lines " ++ decimal (7 + 13 * size) ++ codes " events " ++ decimal events
    ++ codes " frames " ++ decimal size ++ codes " bytes " ++ decimal count.bytes ++ codes " sum " ++ decimal count.total
    ++ codes "\n"

-- the line over the film, in a form, of the script of so many rounds under an order
abbrev pub big_line : FilmForm → ℕ → List Turn → List ℕ
big_line form size order = line_of_count size (length order) (count_of (film form (made size) order))

-- the order is legal and complete, and the serial one; where no creation was refused for want of memory, it has three events and
-- eighteen for each round, and its film a frame for each and so many bytes
pub record IsMadeOrder (size : ℕ) (order : List Turn) : Type 0 where
  pub complete : IsComplete (made size) order
  pub serial : order ≡ serial_order (made size) (marks order)
  pub counted : marks order ≡ [] → IsMadePlay size order

module _ {O : Type 0} (took : O → List ℕ → Type 0) (old new : O) (form : FilmForm) (size : ℕ) (order : List Turn) where
  -- the line was put, over the film of the serial order
  pub record IsTallied : Type 0 where
    pub put : Puts took old new (big_line form size order)
    pub played : IsMadeOrder size order

  -- the first `written` bytes of that line were put
  pub record IsCutTally (written : ℕ) : Type 0 where
    pub cut : PutsPart took old new 0 (big_line form size order) written
    pub played : IsMadeOrder size order

  -- what each status says: others than these do not come
  abbrev pub SaysOfBig : Status → Type 0
  SaysOfBig status.Done = IsTallied
  SaysOfBig (status.WriteFault written) = IsCutTally written
  SaysOfBig status.NoMemory = Unit {0}
  SaysOfBig _ = ⊥
