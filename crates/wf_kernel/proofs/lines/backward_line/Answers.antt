use Rattle.std.specs.Prelude.{nat_abs}
use Rattle.std.proofs.Common.{◌≡◌, ℕ, ◌+◌, ◌-◌, ap, ◌∙◌, arith}
use Rattle.wf_row.specs.Gather.{reversed}
use Rattle.wf_kernel.specs.Bound.{Bound}
use Rattle.wf_kernel.specs.Prepared.{prepared_as}
use Rattle.wf_kernel.proofs.Gathered.{row_low, backward_shown}
use Rattle.wf_kernel.proofs.Placed.{down_is}
use Rattle.wf_kernel.proofs.lines.backward_line.Goals as goal

pub row_part-requires-clause-y : goal.row_part-requires-clause-y
row_part-requires-clause-y c =
    let prepared = prepared_as c.layer.view_is c.layer.invariant in
    row_low c.args.layer.now c.args.image.now c.args.stretch c.down-row.result prepared.showable c.requires.source c.requires.stretch
    c.requires.walk.straight (down_is c.args.stretch.down c.layer.view_is c.down-row.ensures.value)

pub returns-clause-value : goal.returns-clause-value
returns-clause-value c =
    let s = c.args.stretch in
    let w : ℕ = c.layer.inside.layer.src.w in
    let same : w ≡ c.args.layer.now.layer.src.w = ap (λ (b : Bound). b.layer.src.w) c.layer.view_is in
    let left = c.left_column.ensures ∙ ap (λ (b : Bound). nat_abs b.layer.src.x) c.layer.view_is in
    let wide = c.requires.walk.wide in
    let inside = c.requires.stretch.inside in
    ap reversed c.row_part.ensures.value
    ∙ backward_shown c.args.layer.now c.args.image.now s.across s.down s.len
    (c.left_column.result + (w - s.across - s.len)) c.down-row.result c.requires.walk.straight
    (down_is s.down c.layer.view_is c.down-row.ensures.value)
    (λ i low. c.requires.walk.column_is (s.across + i) (omega arith) ∙ omega arith)
