use Rattle.std.proofs.Common.{◌≡◌, ◌≤◌, ◌+◌, ◌-◌, drop, take}
use Rattle.wf_play.specs.Parts.{length_behind, script_length}
use Rattle.wf_play.proofs.parts.script_length.Given as goal

-- of the line at which the loop stands, these bytes were passed
abbrev pub invariant-loop-place : goal.invariant-loop-place
invariant-loop-place l = record {
  within : l.start ≤ l.place;
  same : l.place + length_behind (take (l.place - l.start) (drop l.start l.bytes)) (drop l.place l.bytes) ≡ script_length l.bytes;
}
