use Rattle.std.proofs.Common.{ℕ, ◌+◌, ◌-◌, ◌*◌, refl, ◌∙◌, arith}
use Rattle.wf_kernel.specs.Bound.{layer_at}
use Rattle.wf_kernel.specs.Kept.{AreKept}
use Rattle.wf_kernel.proofs.Kept.{layer_is, IsPart, block_part, part_end}
use Rattle.wf_kernel.proofs.Placed.{down_is}
use Rattle.wf_kernel.proofs.laying.lay_columns.Goals.{Joined-not-has, Else-not-has-2, then-not-has, else-not-has}
use Rattle.wf_kernel.proofs.laying.lay_columns.Goals as goal

-- what is kept then
kept : (c : Joined-not-has) → AreKept c.args.layers.now c.if-not-has.kept
kept c =
    elim c.if-not-has.branch [
      | then-not-has w ↦ rw w.kept-is w.keep_block.ensures
      | else-not-has w ↦ rw w.kept-is c.requires.kept
    ]

-- the stretch is among it
part : (c : Else-not-has-2) → IsPart c.if-not-has.kept.block_of c.args.i c.args.stretch c.down-other.result 8
part c =
    let has = c.if-not-has-2.ensures in
    record { layer = has.layer refl; first = has.first refl; last = has.last refl; start = has.start refl; end = has.end refl }

pub returns-then-not-has-2-clause-part : goal.returns-then-not-has-2-clause-part
returns-then-not-has-2-clause-part c =
    rw (layer_is c.args.layers.now c.args.i c.index-layers-i.result c.requires.layer c.index-layers-i.is) at c.lay_filled.ensures

pub returns-then-not-has-2-clause-kept : goal.returns-then-not-has-2-clause-kept
returns-then-not-has-2-clause-kept c = kept (goal.at.returns-then-not-has-2-clause-kept c).Joined-not-has

pub returns-clause-part : goal.returns-clause-part
returns-clause-part c =
    rw (layer_is c.args.layers.now c.args.i c.index-layers-i.result c.requires.layer c.index-layers-i.is) at c.lay_line.ensures

pub returns-clause-kept : goal.returns-clause-kept
returns-clause-kept c =
    let kept = kept (goal.at.returns-clause-kept c).Joined-not-has in
    record { line_len = kept.line_len; line = kept.line; block_len = kept.block_len; block = kept.block }

pub lay_line-requires-clause-line : goal.lay_line-requires-clause-line
lay_line-requires-clause-line c =
    let kept = kept (goal.at.lay_line-requires-clause-line c).Joined-not-has in
    let part = part (goal.at.lay_line-requires-clause-line c).Else-not-has-2 in
    let tag = c.if-not-has.kept.block_of in
    let image = c.args.image.now in
    let s = c.args.stretch in
    let same = layer_is c.args.layers.now c.args.i c.index-layers-i.result c.requires.layer c.index-layers-i.is in
    let is = rw part.layer at kept.block in
    let few = kept.block_len in
    let end = part_end tag c.args.i s c.down-other.result part c.requires.stretch.some in
    let at : ℕ = 4 * (tag.len * (c.down-other.result - tag.other) + (s.across - tag.across)) in
    rw same (block_part (layer_at c.args.layers.now c.args.i) image tag c.if-not-has.kept.block c.args.i s c.down-other.result at
    (at + 4 * s.len - at) (is image c.requires.source) c.requires.crossed part
    (down_is s.down (c.layer.view_is ∙ same) c.down-other.ensures.value) refl (omega arith) (omega arith))

pub slice_bounds-line-end : goal.slice_bounds-line-end
slice_bounds-line-end c =
    let k = goal.at.slice_bounds-line-end c in
    let few = (kept k.Joined-not-has).block_len in
    let end = part_end c.if-not-has.kept.block_of c.args.i c.args.stretch c.down-other.result (part k.Else-not-has-2)
    c.requires.stretch.some in
    omega arith
