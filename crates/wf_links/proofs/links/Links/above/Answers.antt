use Rattle.std.proofs.Common.{arith}
use Rattle.wf_links.proofs.Represented.{is_read, node_within, orderly}
use Rattle.wf_links.proofs.links.Links.above.Goals as goal

pub index-requires : goal.index-requires
index-requires c =
    let some = rw (← c.self.view_is) at c.requires in
    omega (arith, c.self.inside.nodes.ok.0, node_within _ _ _ c.args.node c.self.invariant some)

pub returns : goal.returns
returns c =
    let some = rw (← c.self.view_is) at c.requires in
    rw (← c.self.view_is) (record {
      above = (is_read _ _ _ c.args.node c.index.result.now c.self.invariant some c.index.ensures).above;
      orderly = orderly _ _ _ c.self.invariant;
    })
