use Rattle.std.proofs.Common.{subst}
use Rattle.wf_desk.specs.Pass.{IsOwn}
use Rattle.wf_desk.proofs.Passes.{sits_own}
use Rattle.wf_desk.proofs.pass.Pass.left.Goals as goal

pub returns-clause-own : goal.returns-clause-own
returns-clause-own g c =
    subst (IsOwn g.O.Object.after g.O.Object.may) c.self.view_is
    (sits_own g.O.Object.after g.O.Object.may c.self.inside.seat c.self.inside.client c.self.inside.left c.self.inside.place
    c.self.invariant)
