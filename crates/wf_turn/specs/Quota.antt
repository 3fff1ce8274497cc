-- How many events a script makes at most, and how many a program still makes.
use Rattle.std.specs.Prelude.{ℕ, ◌+◌, ◌-◌, ◌*◌, ◌==◌, List, [], ◌∷◌, sum_by, Option, Some, None, if◌then◌else◌}
use Rattle.std.specs.List.{range_with_len}
use Rattle.wf_script.specs.declared.line.Line.{Line}
use Rattle.wf_script.specs.declared.line.Verb.{Verb}
use Rattle.wf_script.specs.declared.line.Verb.TheVariants as verb
use Rattle.wf_turn.specs.declared.stage.Phase.{Phase}
use Rattle.wf_turn.specs.declared.stage.Phase.TheVariants as phase
use Rattle.wf_turn.specs.declared.stage.Stage.{Stage}
use Rattle.wf_turn.specs.declared.stage.Stage.TheVariants as stage
use Rattle.wf_turn.specs.Program.{Program, port_count}
use Rattle.wf_model.specs.declared.TheConstants.{MOST_CONTEXTS}

-- how many events a line makes at most
abbrev pub line_quota : Verb → ℕ
line_quota verb.Tick = 40
line_quota (verb.Frame stream paint) = 2
line_quota (verb.Compose d c) = 2
line_quota (verb.TryCompose d c) = 2
line_quota (verb.Paint paint) = 0
line_quota _ = 1

-- how many events a line makes at most, if it is a client's
abbrev pub quota_of : ℕ → Line → ℕ
quota_of client l = if l.client == client then line_quota l.verb else 0

-- how many events the lines of a client make at most
abbrev pub quota : List Line → ℕ → ℕ
quota lines client = sum_by (quota_of client) lines

-- how many events these lines make at most, of whatever client
abbrev pub quota_of_all : List Line → ℕ
quota_of_all lines = sum_by (λ l. line_quota l.verb) lines

-- how many events the lines of all clients make at most
abbrev pub most_turns : List Line → ℕ
most_turns lines = sum_by (quota lines) (range_with_len 0 8)

-- how many events a tick still makes at most
abbrev pub phase_left : ℕ → Phase → ℕ
phase_left ports (phase.Contexts asked last) = 2 * (MOST_CONTEXTS - asked) + 2 * ports
phase_left ports (phase.Ports port) = 2 * (ports + 1 - port)

-- how many events a line still makes at most once its frame ended
abbrev pub next_left : ℕ → Option Phase → ℕ
next_left ports None = 0
next_left ports (Some l) = phase_left ports l

-- how many events a line still makes at most
abbrev pub stage_left : ℕ → Verb → Stage → ℕ
stage_left ports v stage.Fresh = line_quota v
stage_left ports v stage.Posting = 1
stage_left ports v (stage.Ticking l) = phase_left ports l
stage_left ports v (stage.Ending l) = next_left ports l + 1

abbrev pub lines_left : List (ℕ × Line) → ℕ
lines_left ls = sum_by (λ l. line_quota l.1.verb) ls

-- how many events a program still makes at most
abbrev pub left : Program → ℕ
left p = of_lines p.lines
  where
    of_lines : List (ℕ × Line) → ℕ
    of_lines [] = 0
    of_lines (l ∷ ls) = stage_left (port_count p) l.1.verb p.stage + lines_left ls

abbrev pub all_left : List Program → ℕ
all_left programs = sum_by left programs
