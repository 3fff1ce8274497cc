-- What holds of programs between two turns.
use Rattle.std.specs.Prelude.{◌≡◌, ℕ, ◌+◌, ◌<◌, ◌≤◌, false, List, [], ◌∷◌, is_some, IfSome, IsSome, IsTrue, Option, Some, None}
use Rattle.wf_machine.specs.Object.{IsPaintable}
use Rattle.wf_script.specs.declared.line.Line.{Line}
use Rattle.wf_script.specs.Script.{PlainScript}
use Rattle.wf_turn.specs.declared.stage.Phase.{Phase}
use Rattle.wf_turn.specs.declared.stage.Phase.TheVariants as phase
use Rattle.wf_turn.specs.declared.stage.Stage.{Stage}
use Rattle.wf_turn.specs.declared.stage.Stage.TheVariants as stage
use Rattle.wf_turn.specs.Program.{Program, first_line, is_event, port_count}
use Rattle.wf_model.specs.declared.TheConstants.{MOST_CONTEXTS}

-- the numbers of a tick before a question, and before the end of a frame
abbrev pub IsAsking : ℕ → Phase → Type 0
IsAsking ports (phase.Contexts asked last) = asked < MOST_CONTEXTS
IsAsking ports (phase.Ports port) = port ≤ ports

abbrev pub IsAnswered : ℕ → Option Phase → Type 0
IsAnswered ports None = Unit {0}
IsAnswered ports (Some (phase.Contexts asked last)) = asked ≤ MOST_CONTEXTS
IsAnswered ports (Some (phase.Ports port)) = port ≤ ports + 1

-- a Job that is not painted yet can be painted
abbrev pub IsWork : Program → Type 0
IsWork p = IsTrue p.unpainted → IfSome p.job IsPaintable

-- what a program holds at a stage of its first line
abbrev pub IsAt : Program → Line → Stage → Type 0
IsAt p l stage.Fresh = IsTrue (is_event (is_some p.canvas) l.verb)
IsAt p l stage.Posting = IsSome p.canvas
IsAt p l (stage.Ticking m) = IsAsking (port_count p) m
IsAt p l (stage.Ending m) = IsSome p.job × IsAnswered (port_count p) m

-- a program that can make its next call: no line before it is left, and what it carries is there
pub record IsFit (p : Program) : Type 0 where
  pub at : IfSome (first_line p) (λ l. IsAt p l p.stage)
  pub painted : p.unpainted ≡ false
  pub ports : port_count p ≤ 4

-- the programs of the clients of a script, from one client on
abbrev pub AreOf : PlainScript → ℕ → List Program → Type 0
AreOf script client [] = Unit {0}
AreOf script client (p ∷ ps) = (p.script ≡ script) × (p.client ≡ client) × IsFit p × AreOf script (client + 1) ps
