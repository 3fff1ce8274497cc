use Rattle.std.proofs.Common.{◌≡◌, [], map, take}
use Rattle.wf_stream.specs.Renames.{Renames}
use Rattle.wf_machine.proofs.naming.begin_contents.Given as goal

-- the contents so far name their streams
abbrev pub invariant-loop-content : goal.invariant-loop-content
invariant-loop-content l = record {
  begins : Renames [] (map (λ c. c.stream) (take l.content-index l.contents)) l.initial.store l.store;
  streams : l.store.streams ≡ l.initial.store.streams;
}
