-- How a program is kept, and what holds of it.
use Rattle.std.specs.Prelude.{◌≡◌, ℕ, ◌+◌, ◌≤◌, take, length}
use Rattle.wf_calls.specs.Places.{job_in}
use Rattle.wf_turn.specs.declared.program.Program.TheInside.{Inside}
use Rattle.wf_turn.specs.declared.stage.Stage.{Stage}
use Rattle.wf_turn.specs.declared.stage.Stage.TheVariants as stage
use Rattle.wf_turn.specs.Names.{bound_names, known}
use Rattle.wf_turn.specs.Passing.{IsPlace}
use Rattle.wf_turn.specs.Ready.{IsAnswered, IsAsking}
use Rattle.wf_turn.specs.Program.{Program, lines_from, setup_lines, setup_names}
use Rattle.wf_script.specs.declared.TheConstants.{MOST_LINES}

-- a program, as it is seen
abbrev pub program_of : Inside → Program
program_of p =
    record {
      script = p.script.now;
      client = p.client;
      lines = lines_from p.client p.at p.script.now.lines;
      own = known p.own;
      learned = known p.learned;
      canvas = p.canvas;
      job = job_in p.job;
      unpainted = p.unpainted;
      stage = p.stage;
      tick = p.tick;
    }

-- a stage within its bounds: beside the first line a tick may have begun in it
abbrev pub IsStage : ℕ → ℕ → ℕ → Stage → Type 0
IsStage ports at tick stage.Fresh = tick ≤ at
IsStage ports at tick stage.Posting = tick ≤ at + 1
IsStage ports at tick (stage.Ticking l) = (tick ≤ at + 1) × IsAsking ports l
IsStage ports at tick (stage.Ending l) = (tick ≤ at + 1) × IsAnswered ports l

pub record IsProgram (p : Inside) : Type 0 where
  pub place : IsPlace p.client p.at p.script.now.lines
  pub names : p.own.names ≡ bound_names p.client p.script.now.lines
  pub values : length p.own.values ≡ length (bound_names p.client (take p.at p.script.now.lines))
  pub setup : p.learned.names ≡ setup_names p.script.now.lines
  pub end_of_setup : p.setup ≡ setup_lines p.script.now.lines
  pub ports : p.port_count ≡ length p.script.now.ports.modes.items
  pub few_ports : p.port_count ≤ 4
  pub few : length p.script.now.lines ≤ MOST_LINES
  pub stage : IsStage (length p.script.now.ports.modes.items) p.at p.tick p.stage
