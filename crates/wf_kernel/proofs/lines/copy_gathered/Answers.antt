use Rattle.std.proofs.Common.{◌<◌, ap, ◌∙◌, arith}
use Rattle.std.proofs.lemmas.List.{get_or_default}
use Rattle.wf_pixel.specs.declared.Size.{Size}
use Rattle.wf_row.specs.Gather.{gathered_row}
use Rattle.wf_kernel.specs.Prepared.{prepared_as}
use Rattle.wf_kernel.proofs.Copied.{copied_laid}
use Rattle.wf_kernel.proofs.Gathered.{in_row, row_low, row_shown}
use Rattle.wf_kernel.proofs.Placed.{down_is}
use Rattle.wf_kernel.proofs.lines.copy_gathered.Goals as goal

pub row_part-requires-clause-y : goal.row_part-requires-clause-y
row_part-requires-clause-y c =
    let prepared = prepared_as c.layer.view_is c.layer.invariant in
    row_low c.args.layer.now c.args.image.now c.args.stretch c.down-other.result prepared.showable c.requires.source c.requires.stretch
    c.requires.straight (down_is c.args.stretch.down c.layer.view_is c.down-other.ensures.value)

pub copy_gathered_row-requires-clause-within : goal.copy_gathered_row-requires-clause-within
copy_gathered_row-requires-clause-within c = λ k d less.
    let s = c.args.stretch in
    let prepared = prepared_as c.layer.view_is c.layer.invariant in
    let len = c.requires.len in
    let inner : k < s.len = omega arith in
    let column = get_or_default c.args.places.now k d 0 less ∙ c.requires.places k inner in
    let width = ap (λ (size : Size). size.w) c.size-width.ensures.size in
    let low = in_row c.args.layer.now c.args.image.now s k prepared.showable c.requires.source c.requires.stretch c.requires.straight inner
    in
    omega (arith, low.0, c.row_part.ensures.len)

pub returns : goal.returns
returns c =
    let b = c.args.layer.now in
    let s = c.args.stretch in
    let image = c.args.image.now in
    let prepared = prepared_as c.layer.view_is c.layer.invariant in
    let width = ap (λ (size : Size). size.w) c.size-width.ensures.size in
    c.copy_gathered_row.ensures
    ∙ copied_laid b image s (gathered_row c.row_part.result.now c.args.places.now) c.args.part.now c.requires.copied
    (row_shown b image s.across s.down s.len c.size-width.result.w c.down-other.result c.row_part.result.now c.args.places.now
    c.requires.straight (down_is s.down c.layer.view_is c.down-other.ensures.value) c.requires.len c.row_part.ensures.value
    (λ i less. c.requires.places i less)
    (λ i less. let low = in_row b image s i prepared.showable c.requires.source c.requires.stretch c.requires.straight less in
    omega (arith, low.0)))
    c.requires.count
