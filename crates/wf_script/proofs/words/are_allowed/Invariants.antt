use Rattle.std.proofs.Common.{◌≡◌, take}
use Rattle.std.specs.List.{list_all}
use Rattle.wf_script.specs.Words.{is_allowed}
use Rattle.wf_script.proofs.words.are_allowed.Given as goal

-- what was passed may stand in a line
abbrev pub invariant-loop-byte : goal.invariant-loop-byte
invariant-loop-byte l = l.allowed ≡ list_all is_allowed (take l.byte-index l.line)
