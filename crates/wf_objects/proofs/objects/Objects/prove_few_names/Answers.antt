use Rattle.std.proofs.Common.{arith}
use Rattle.wf_objects.specs.Inside.{tables_of}
use Rattle.wf_objects.proofs.NameCounts.{few}
use Rattle.wf_objects.proofs.objects.Objects.prove_few_names.Goals as goal

pub returns : goal.returns
returns c =
    let s = c.self.inside in
    rw (← c.self.view_is) (few (tables_of s) (omega (arith, c.self.invariant.sources, s.sources.ok.0, s.sources.ok.1))
    (omega (arith, c.self.invariant.masks, s.masks.ok.0, s.masks.ok.1))
    (omega (arith, c.self.invariant.contexts, s.contexts.ok.0, s.contexts.ok.1)) c.self.invariant.layers)
