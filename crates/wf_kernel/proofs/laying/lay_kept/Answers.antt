use Rattle.std.proofs.Common.{sym, ap, ◌∙◌}
use Rattle.wf_kernel.specs.Bound.{Bound}
use Rattle.wf_kernel.specs.Placed.{is_crossed}
use Rattle.wf_kernel.specs.Prepared.{prepared_as}
use Rattle.wf_kernel.proofs.Kept.{layer_is}
use Rattle.wf_kernel.proofs.laying.lay_kept.Goals as goal

pub lay_columns-requires-clause-crossed : goal.lay_columns-requires-clause-crossed
lay_columns-requires-clause-crossed c =
    let prepared = prepared_as c.layer.view_is c.layer.invariant in
    let same = layer_is c.args.layers.now c.args.i c.index-layers-i.result c.requires.layer c.index-layers-i.is in
    ap (λ (b : Bound). is_crossed b.turn b.layer) (sym same) ∙ sym prepared.crossed_is ∙ c.if-layer.true

pub returns-else-eq-clause-part : goal.returns-else-eq-clause-part
returns-else-eq-clause-part c =
    rw (layer_is c.args.layers.now c.args.i c.index-layers-i.result c.requires.layer c.index-layers-i.is) at c.lay_filled.ensures
