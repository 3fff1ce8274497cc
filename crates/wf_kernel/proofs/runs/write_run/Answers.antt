use Rattle.std.proofs.Common.{ap, ◌∙◌, arith}
use Rattle.wf_kernel.specs.Level.{lowest_top}
use Rattle.wf_kernel.proofs.Kept.{layer_is}
use Rattle.wf_kernel.proofs.Level.{based_rows, filled_rows}
use Rattle.wf_kernel.proofs.runs.write_run.Goals as goal

pub returns-in-Some-clause-done : goal.returns-in-Some-clause-done
returns-in-Some-clause-done c done =
    let a = c.args in
    let j = c.in-Some.base in
    let top = c.requires.one ∙ ap lowest_top c.in-Some.is in
    let within = c.requires.strip.top in
    c.copy_rows.ensures.done done
    ∙ based_rows a.layers.now a.background a.width a.n a.y j a.strip c.index-layers-base.result a.part.now c.requires.strip c.requires.whole
    c.requires.from c.requires.bottom c.in-Some.is top
    (layer_is a.layers.now j c.index-layers-base.result (omega arith) c.index-layers-base.is)

pub returns-in-None-clause-done : goal.returns-in-None-clause-done
returns-in-None-clause-done c _ =
    let a = c.args in
    c.fill.ensures
    ∙ filled_rows a.layers.now a.background a.width a.n a.y a.strip c.requires.strip c.requires.whole c.requires.from c.requires.bottom
    (c.requires.one ∙ ap lowest_top c.in-None.is)
