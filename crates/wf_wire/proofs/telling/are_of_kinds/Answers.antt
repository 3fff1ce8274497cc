use Rattle.std.proofs.Common.{rules, sym, ap₂, ◌∙◌, ◌&&◌}
use Rattle.wf_wire.specs.declared.kind.Kind.TheVariants as kind
use Rattle.wf_wire.proofs.ArgumentsOfKinds.{all_of, more, not_one}
use Rattle.wf_wire.proofs.telling.are_of_kinds.Goals as goal

pub returns-then-not-is_of_kind : goal.returns-then-not-is_of_kind
returns-then-not-is_of_kind c =
    not_one c.args.kinds.now c.args.bits.now c.loop-at.invariant.0 c.loop-at.at kind.Number 0 c.loop-at-test.true
    (sym c.is_of_kind.ensures ∙ c.if-not-is_of_kind.true)

pub loop-at-preserved : goal.loop-at-preserved
loop-at-preserved c = (
  c.loop-at.invariant.0,
  more c.args.kinds.now c.args.bits.now c.loop-at.invariant.0 c.loop-at.at kind.Number 0 c.loop-at-test.true
      ∙ ap₂ (λ a b. a && b) c.loop-at.invariant.1 (sym c.is_of_kind.ensures ∙ c.if-not-is_of_kind.false),
)

pub returns : goal.returns
returns c = search (rules, all_of c.args.kinds.now c.args.bits.now c.loop-at.invariant.0 c.loop-at.at)
