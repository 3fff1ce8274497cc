use Rattle.std.proofs.Common.{◌<◌, length, subst}
use Rattle.wf_desk.specs.History.{IsLastAt}
use Rattle.wf_desk.proofs.pass.Pass.place.Goals as goal

pub returns-clause-last : goal.returns-clause-last
returns-clause-last g c =
    subst (λ k. 0 < length k.mine → IsLastAt k.client k.seen c.self.inside.place) c.self.view_is c.self.invariant.last c.requires.called
