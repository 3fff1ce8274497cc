use Rattle.wf_turn.proofs.Common.{◌∙◌, ap, sym, option_copied}
use Rattle.wf_turn.proofs.FirstLine.{own_at, place_at}
use Rattle.wf_turn.proofs.program.Program.place.Goals as goal

pub returns-in-Some-clause-place : goal.returns-in-Some-clause-place
returns-in-Some-clause-place c = place_at c.self.inside _ c.in-Some.field-0.now c.self.invariant c.self.view_is
    (sym c.first_line.ensures.line ∙ ap option_copied c.in-Some.is)

pub returns-in-Some-clause-own : goal.returns-in-Some-clause-own
returns-in-Some-clause-own c = own_at c.self.inside _ c.in-Some.field-0.now c.self.invariant c.self.view_is
    (sym c.first_line.ensures.line ∙ ap option_copied c.in-Some.is)
