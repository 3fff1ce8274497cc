use Rattle.std.proofs.Common.{◌∙◌, ◌++◌, ap, append_assoc}
use Rattle.wf_serve.proofs.answers.Answers.put.Goals as goal

pub returns-clause-put : goal.returns-clause-put
returns-clause-put c =
    c.append-2.ensures.items ∙ ap (λ l. l ++ c.args.payload.now) c.append.ensures.items
    ∙ append_assoc c.self.inside.bytes.items c.head_of.result c.args.payload.now
    ∙ (λ i. c.self.view_is i ++ (c.head_of.ensures i ++ c.args.payload.now))
