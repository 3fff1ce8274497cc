-- The clients of a script beside one another: the clock's setup first, and then all.
use Rattle.std.specs.Prelude.{◌≡◌, ℕ, zero, suc, ◌<◌, ◌==◌, true, false, IsTrue, List, [], ◌∷◌, ◌++◌, None}
use Rattle.std.specs.List.{list_all}
use Rattle.wf_desk.specs.History.{IsLegal}
use Rattle.wf_machine.specs.Object.{MayAnswer, after}
use Rattle.wf_model.specs.State.{opening}
use Rattle.wf_script.specs.Script.{PlainScript, may_tick}
use Rattle.wf_turn.specs.Play.{IsComplete, IsLegal as IsLegalOrder, frames_after, replay}
use Rattle.wf_turn.specs.Program.{Program, in_setup, place_of, program, taught}
use Rattle.wf_show.specs.Played.{IsPlayed, after_event, gone_on, program_after}
use Rattle.wf_machine.specs.Histories.{Happening}
use Rattle.wf_show.specs.Shown.{frames_by, order_of}

-- each event is of the setup: it is client 0's, and a line of the setup is not through before it
abbrev pub IsSetup : Program → List Happening → Type 0
IsSetup p [] = Unit {0}
IsSetup p (e ∷ es) = (e.client ≡ 0) × (in_setup p ≡ true) × IsSetup (gone_on p e.reply) es

-- before each event of client 0 a line of the setup is not through
abbrev pub IsSettingUp : Program → List Happening → Type 0
IsSettingUp p [] = Unit {0}
IsSettingUp p (e ∷ es) = ((e.client == 0) ≡ true → in_setup p ≡ true) × IsSettingUp (after_event 0 p e) es

-- each event is of a client below a number
abbrev pub AllBelow : ℕ → List Happening → Type 0
AllBelow n [] = Unit {0}
AllBelow n (e ∷ es) = (e.client < n) × AllBelow n es

-- the program of a client before its first call; all but the clock's know the names that the setup bound
abbrev pub program_in : PlainScript → List Happening → ℕ → Program
program_in script setup zero = program script 0
program_in script setup (suc n) = taught (program_after 0 (program script 0) setup) (program script (suc n))

-- The clients of a script make a legal history of its machine: first the setup, and then all beside one another, where the events of
-- each are its program's calls, one after another.
pub record IsTogether (script : PlainScript) (setup rest : List Happening) : Type 0 where
  pub ticks : IsTrue (list_all may_tick script.lines)
  pub legal : IsLegal after MayAnswer (opening script.ports) (setup ++ rest)
  pub eight : AllBelow 8 (setup ++ rest)
  pub setting : IsSetup (program script 0) setup
  pub over : in_setup (program_after 0 (program script 0) setup) ≡ false
  pub played : (client : ℕ) → client < 8 → IsPlayed client (opening script.ports) (program_in script setup client) (setup ++ rest)

-- every program is through
abbrev pub AreThrough : PlainScript → List Happening → List Happening → Type 0
AreThrough script setup history =
    (client : ℕ) → client < 8 → place_of (program_after client (program_in script setup client) history) ≡ None

-- the order of a history is one of the script: it is legal, its frames are those that the clock shows, and where every program is
-- through it is complete
pub record IsOrderOf (script : PlainScript) (setup history : List Happening) : Type 0 where
  pub legal : IsLegalOrder script (order_of history)
  pub frames : frames_after (replay script (order_of history)) ≡ frames_by 0 0 (program script 0) history
  pub complete : AreThrough script setup history → IsComplete script (order_of history)
