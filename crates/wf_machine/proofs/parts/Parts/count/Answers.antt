use Rattle.wf_machine.proofs.Common.{ap, sym, ◌∙◌, ◌==◌, State, all_names}
use Rattle.std.proofs.lemmas.List.Sums.{length-filter}
use Rattle.wf_stream.specs.Counts.{times}
use Rattle.wf_machine.proofs.parts.Parts.count.Goals as goal

pub returns : goal.returns
returns c =
    c.count.ensures ∙ c.self.invariant.counts c.args.stream c.requires
    ∙ ap (λ (h : State). times c.args.stream (all_names h)) c.self.view_is
    ∙ sym (length-filter (λ n. n == c.args.stream) (all_names c.args.self.now))
