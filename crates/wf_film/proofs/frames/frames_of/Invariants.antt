use Rattle.std.proofs.Common.{◌≡◌, ◌+◌, ◌-◌, ◌≤◌, length}
use Rattle.wf_film.specs.Reading.{counted, frames_at}
use Rattle.wf_film.proofs.FrameSteps.{more_frames}
use Rattle.wf_film.proofs.Steps.{AreBytes}
use Rattle.wf_film.proofs.frames.frames_of.Given as goal

-- reading goes on from here as from the start, with the frames that were counted
abbrev pub invariant-loop-tag : goal.invariant-loop-tag
invariant-loop-tag l = record {
  same : more_frames l.count (frames_at l.form (length l.bytes - l.count) l.rest) ≡ counted (frames_at l.form (length l.bytes) l.bytes);
  few : l.count + length l.rest ≤ length l.bytes;
  fits : AreBytes l.rest;
}

abbrev pub decreases-loop-tag : goal.decreases-loop-tag
decreases-loop-tag l = length l.rest
