use Rattle.std.proofs.Common.{ℕ, ◌+◌, ◌≤◌, refl, sym, ap, ◌∙◌, arith}
use Rattle.std.specs.Option.{option_copied}
use Rattle.wf_kernel.specs.Bound.{Bound}
use Rattle.wf_kernel.specs.Prepared.{prepared_as}
use Rattle.wf_kernel.proofs.Level.{level_laid, level_low}
use Rattle.wf_kernel.proofs.Placed.{down_is}
use Rattle.wf_kernel.proofs.Shown.{source_is}
use Rattle.wf_kernel.proofs.runs.copy_rows.Goals.{After-down-first}
use Rattle.wf_kernel.proofs.runs.copy_rows.Goals as goal

-- all n rows show the layer
room : (c : After-down-first) → c.in-Some-stretch_of.stretch.down + c.args.n ≤ c.args.layer.now.layer.dest.h
room c =
    let high = ap (λ (b : Bound). b.layer.dest.h) c.layer.view_is in
    let some = c.requires.some in
    let rows = c.if-layer-stretch.false in
    omega arith

pub rows_part-requires-clause-rows : goal.rows_part-requires-clause-rows
rows_part-requires-clause-rows c =
    let prepared = prepared_as c.layer.view_is c.layer.invariant in
    let source = source_is c.layer.view_is (ap option_copied c.in-Some.is) in
    let first = down_is c.in-Some-stretch_of.stretch.down c.layer.view_is c.down-first.ensures.value in
    let low = level_low c.args.layer.now c.in-Some.image.now c.args.width c.args.n c.in-Some-stretch_of.stretch prepared.showable source
    (c.if-not-is_level.ensures refl) c.in-Some-stretch_of.ensures.some.stretch c.requires.some
    (room (goal.at.rows_part-requires-clause-rows c).After-down-first) in
    omega arith

pub returns-clause-done : goal.returns-clause-done
returns-clause-done c _ =
    let b = c.args.layer.now in
    let s = c.in-Some-stretch_of.stretch in
    let image = c.in-Some.image.now in
    let w : ℕ = c.args.width in
    let level = c.if-not-is_level.ensures refl in
    let prepared = prepared_as c.layer.view_is c.layer.invariant in
    let source = source_is c.layer.view_is (ap option_copied c.in-Some.is) in
    let first = down_is s.down c.layer.view_is c.down-first.ensures.value in
    c.blend_row.ensures
    ∙ level_laid b image w c.args.n c.args.y s c.rows_part.result.now c.args.part.now prepared.showable source level
    c.in-Some-stretch_of.ensures.some c.if-stretch-width.false (room (goal.at.returns-clause-done c).After-down-first)
    (rw (sym level.whole) c.rows_part.ensures.len) c.requires.count
    (λ k low. rw (sym first) (rw (sym level.whole) (c.rows_part.ensures.rows k low)))
