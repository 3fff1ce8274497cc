-- A script, without where it lies in memory, and what holds of every script.
use Rattle.std.specs.Prelude.{ℕ, ◌≤◌, Bool, true, false, not, ◌&&◌, ◌||◌, ◌==◌, nat_lt, List, length, IsTrue}
use Rattle.std.specs.List.{list_all}
use Rattle.wf_image.specs.Paints.{is_paint}
use Rattle.wf_calls.specs.declared.ports.Ports.{Ports}
use Rattle.wf_calls.specs.PortRules.{may_declare}
use Rattle.wf_script.specs.declared.line.Line.{Line}
use Rattle.wf_script.specs.declared.line.Verb.{Verb}
use Rattle.wf_script.specs.declared.line.Verb.TheVariants as verb
use Rattle.wf_script.specs.declared.TheConstants.{MOST_LINES}

-- the ports that it declares, and its event lines in file order
pub record PlainScript : Type 0 where
  pub ports : Ports
  pub lines : List Line

-- the numbers of the paint, if there is one, are in their ranges
abbrev pub may_paint : Verb → Bool
may_paint (verb.Paint paint) = is_paint paint
may_paint (verb.Frame stream paint) = is_paint paint
may_paint _ = true

-- a line of one of the eight clients, with a paint in its ranges
abbrev pub is_line : Line → Bool
is_line l = nat_lt l.client 8 && may_paint l.verb

abbrev pub is_tick : Verb → Bool
is_tick verb.Tick = true
is_tick _ = false

-- a tick is client 0's
abbrev pub may_tick : Line → Bool
may_tick l = (l.client == 0) || not (is_tick l.verb)

-- a verb that a client may have: a tick is client 0's, and a paint is in its ranges
abbrev pub may_have_verb : ℕ → Verb → Bool
may_have_verb client verb.Tick = client == 0
may_have_verb client v = may_paint v

-- what holds of every script: its ports may be declared, and it has such lines, and not too many
pub record IsScript (script : PlainScript) : Type 0 where
  pub ports : IsTrue (may_declare script.ports)
  pub lines : IsTrue (list_all is_line script.lines)
  pub ticks : IsTrue (list_all may_tick script.lines)
  pub few : length script.lines ≤ MOST_LINES
