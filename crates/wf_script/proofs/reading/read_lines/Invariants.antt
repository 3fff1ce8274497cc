use Rattle.std.proofs.Common.{◌≡◌, ◌≤◌, length}
use Rattle.wf_script.specs.Grammar.{nothing_read, read_lines}
use Rattle.wf_script.specs.Reader.{reading}
use Rattle.wf_script.specs.Seen.{SeesAll}
use Rattle.wf_script.specs.Words.{lines_of}
use Rattle.wf_script.proofs.reading.read_lines.Given as goal

-- reading goes on from here as from the start
abbrev pub invariant-loop-line : goal.invariant-loop-line
invariant-loop-line l = record {
  same : read_lines l.number (reading l.reader) (lines_of l.rest) ≡ read_lines 2 nothing_read (lines_of l.bytes);
  right : SeesAll l.reader.names l.reader.lines.items;
  few : l.number ≤ 16385;
}

abbrev pub decreases-loop-line : goal.decreases-loop-line
decreases-loop-line l = length l.rest
