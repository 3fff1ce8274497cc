use Rattle.std.proofs.Common.{ap, arith, inl, inr, length}
use Rattle.std.proofs.Math.Facts.{to_z-of_z}
use Rattle.std.proofs.lemmas.Int.{ints}
use Rattle.wf_display.proofs.AttributesSet.{none_at}
use Rattle.wf_display.proofs.display.Display.pipeline_at.Goals as goal
use Rattle.wf_display.proofs.display.Display.pipeline_at.Goals.{else-number-ge1-via-then-number-ge1+else-number-len}
use Rattle.wf_display.proofs.display.Display.pipeline_at.Goals.{else-number-ge1-via-else-number-ge1}

pub returns-else-number-ge1 : goal.returns-else-number-ge1
returns-else-number-ge1 c =
    let number = to_z-of_z c.ranges.number in
    let many = ap (λ d. length d.pipelines) c.self.view_is in
    elim c.else-number-ge1.branch [
      | else-number-ge1-via-then-number-ge1+else-number-len w ↦ none_at c.args.number c.args.self.now.pipelines (inr (omega
          (arith, ints, number, many, w.if-number-len, w.len)))
      | else-number-ge1-via-else-number-ge1 w ↦ none_at c.args.number c.args.self.now.pipelines (inl (omega
          (arith, ints, number, w.if-number-ge1)))
    ]
