use Rattle.wf_core.proofs.answers.reply.Goals as goal

pub returns-clause-steps : goal.returns-clause-steps
returns-clause-steps c = rw c.bare.ensures c.answer.ensures.steps

pub returns-clause-stays : goal.returns-clause-stays
returns-clause-stays c = rw c.bare.ensures c.answer.ensures.stays
