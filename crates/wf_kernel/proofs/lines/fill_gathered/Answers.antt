use Rattle.std.proofs.Common.{◌≡◌, ℕ, ◌+◌, ◌*◌, ◌<◌, List, length, get_or, sym, ap, ◌∙◌, arith}
use Rattle.std.proofs.lemmas.List.{get_or_default}
use Rattle.wf_pixel.specs.declared.Size.{Size}
use Rattle.wf_row.specs.Gather.{gathered_column}
use Rattle.wf_kernel.specs.Placed.{across, down}
use Rattle.wf_kernel.specs.Prepared.{prepared_as}
use Rattle.wf_kernel.proofs.Shown.{has_colours}
use Rattle.wf_kernel.proofs.Gathered.{place_in, in_row, in_column, row_low, row_shown, column_shown}
use Rattle.wf_kernel.proofs.Placed.{down_is}
use Rattle.wf_kernel.proofs.lines.fill_gathered.Goals as goal

pub gather_column-requires-clause-within : goal.gather_column-requires-clause-within
gather_column-requires-clause-within c = λ k d less.
    let b = c.args.layer.now in
    let s = c.args.stretch in
    let image = c.args.image.now in
    let prepared = prepared_as c.layer.view_is c.layer.invariant in
    let len = c.requires.len in
    let inner : k < s.len = omega arith in
    let column = down_is s.down c.layer.view_is c.down-other.ensures.value in
    let row = get_or_default c.args.places.now k d 0 less ∙ c.requires.places k inner in
    let width = ap (λ (size : Size). size.w) c.size-width.ensures.size in
    let crossed = sym prepared.crossed_is ∙ c.if-layer.true in
    let low = in_column b image s k prepared.showable c.requires.source c.requires.stretch crossed inner in
    let bytes = ap (λ (l : List ℕ). length l) c.bytes.ensures.value in
    let place = place_in image (down b.turn b.layer s.down) (across b.turn b.layer (s.across + k))
    (has_colours b image prepared.showable c.requires.source) (sym bytes ∙ c.bytes.ensures.len) low.0 low.1 in
    let same : 4 * (c.down-other.result + get_or c.args.places.now k d * c.size-width.result.w)
    ≡ 4 * (down b.turn b.layer s.down + across b.turn b.layer (s.across + k) * image.size.w) =
    λ i. 4 * (column i + row i * width i) in
    omega arith

pub row_part-requires-clause-y : goal.row_part-requires-clause-y
row_part-requires-clause-y c =
    let prepared = prepared_as c.layer.view_is c.layer.invariant in
    row_low c.args.layer.now c.args.image.now c.args.stretch c.down-other.result prepared.showable c.requires.source c.requires.stretch
    (sym prepared.crossed_is ∙ c.if-layer.false) (down_is c.args.stretch.down c.layer.view_is c.down-other.ensures.value)

pub gather_row-requires-clause-within : goal.gather_row-requires-clause-within
gather_row-requires-clause-within c = λ k d less.
    let s = c.args.stretch in
    let prepared = prepared_as c.layer.view_is c.layer.invariant in
    let len = c.requires.len in
    let inner : k < s.len = omega arith in
    let column = get_or_default c.args.places.now k d 0 less ∙ c.requires.places k inner in
    let width = ap (λ (size : Size). size.w) c.size-width.ensures.size in
    let low = in_row c.args.layer.now c.args.image.now s k prepared.showable c.requires.source c.requires.stretch
    (sym prepared.crossed_is ∙ c.if-layer.false) inner in
    omega (arith, low.0, c.row_part.ensures.len)

pub returns-then-layer : goal.returns-then-layer
returns-then-layer c =
    let b = c.args.layer.now in
    let s = c.args.stretch in
    let image = c.args.image.now in
    let prepared = prepared_as c.layer.view_is c.layer.invariant in
    let crossed = sym prepared.crossed_is ∙ c.if-layer.true in
    let column = down_is s.down c.layer.view_is c.down-other.ensures.value in
    let width = ap (λ (size : Size). size.w) c.size-width.ensures.size in
    let low = λ (i : ℕ) (less : i < s.len). in_column b image s i prepared.showable c.requires.source c.requires.stretch crossed less in
    let bytes = ap (λ (l : List ℕ). length l) c.bytes.ensures.value in
    c.gather_column.ensures
    ∙ (λ i. gathered_column (c.bytes.ensures.value i) (column i) (width i) c.args.places.now)
    ∙ column_shown b image s.across s.down s.len c.args.places.now (has_colours b image prepared.showable c.requires.source)
    (sym bytes ∙ c.bytes.ensures.len) crossed c.requires.len (low 0 c.requires.stretch.some).0 (λ i less. c.requires.places i less)
    (λ i less. (low i less).1)

pub returns-else-layer : goal.returns-else-layer
returns-else-layer c =
    let b = c.args.layer.now in
    let s = c.args.stretch in
    let image = c.args.image.now in
    let prepared = prepared_as c.layer.view_is c.layer.invariant in
    let straight = sym prepared.crossed_is ∙ c.if-layer.false in
    let width = ap (λ (size : Size). size.w) c.size-width.ensures.size in
    c.gather_row.ensures
    ∙ row_shown b image s.across s.down s.len c.size-width.result.w c.down-other.result c.row_part.result.now c.args.places.now straight
    (down_is s.down c.layer.view_is c.down-other.ensures.value) c.requires.len c.row_part.ensures.value (λ i less. c.requires.places i less)
    (λ i less. let low = in_row b image s i prepared.showable c.requires.source c.requires.stretch straight less in
    omega (arith, low.0))
