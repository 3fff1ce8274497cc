use Rattle.std.proofs.Common.{[], map, take, drop}
use Rattle.wf_stream.specs.Names.{NamesFit}
use Rattle.wf_stream.specs.Renames.{Renames}
use Rattle.wf_machine.proofs.naming.end_contents.Given as goal

-- the contents so far name their streams no more, and the others do
abbrev pub invariant-loop-content : goal.invariant-loop-content
invariant-loop-content l = record {
  ends : Renames (map (λ c. c.stream) (take l.content-index l.contents)) [] l.initial.store l.store;
  left : NamesFit (map (λ c. c.stream) (drop l.content-index l.contents)) l.store;
}
