use Rattle.wf_turn.proofs.Common.{refl}
use Rattle.wf_turn.proofs.LineThrough.{finished, has_room, leaves_done}
use Rattle.wf_turn.proofs.program.Program.finish.Goals as goal

pub bind_line-requires : goal.bind_line-requires
bind_line-requires c =
    has_room c.self.inside _ c.self.invariant (rw c.lines-lines.ensures.lines at c.if-self-lines.true)
    (rw c.lines-lines.ensures.lines at c.index-lines-self.is)

pub invariant_of-self : goal.invariant_of-self
invariant_of-self c =
    let skip = c.skip-self-inside.ensures in
    finished c.self.inside _ c.self.invariant (rw c.lines-lines.ensures.lines at c.if-self-lines.true)
    (rw c.lines-lines.ensures.lines at c.index-lines-self.is)
    c.args.value _ _ _ c.bind_line.ensures
    (rw c.lines-lines.ensures.lines at skip.place) skip.later (rw c.lines-lines.ensures.lines at skip.names) _ refl

pub returns-then-self-lines : goal.returns-then-self-lines
returns-then-self-lines c =
    let skip = c.skip-self-inside.ensures in
    leaves_done c.self.inside _ c.self.invariant (rw c.lines-lines.ensures.lines at c.if-self-lines.true)
    (rw c.lines-lines.ensures.lines at c.index-lines-self.is)
    c.args.value _ _ _ c.bind_line.ensures
    (rw c.lines-lines.ensures.lines at skip.place) skip.later (rw c.lines-lines.ensures.lines at skip.names)
    c.args.self.now c.self.view_is (rw c.lines-lines.ensures.lines at skip.skipped) _ refl
