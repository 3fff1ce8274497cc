use Rattle.wf_turn.proofs.Common.{◌∙◌, ap, first_line}
use Rattle.wf_turn.proofs.FirstLine.{first_at}
use Rattle.wf_turn.proofs.program.Program.first_line.Goals as goal

pub returns-clause-line : goal.returns-clause-line
returns-clause-line c = rw c.lines.ensures.lines at c.line_at.ensures.line ∙ first_at c.self.inside c.self.invariant
    ∙ ap first_line c.self.view_is
