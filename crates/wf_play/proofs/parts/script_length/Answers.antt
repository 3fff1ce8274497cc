use Rattle.std.proofs.Common.{◌∙◌, sym, arith}
use Rattle.wf_play.proofs.Lengths.{at_end, on_next, on_same, stops_here}
use Rattle.wf_play.proofs.parts.script_length.Goals as goal
use Rattle.wf_play.proofs.parts.script_length.Goals.{then-byte-eq10+else-is_end, else-byte-eq10}

pub returns-then-is_end-clause-is : goal.returns-then-is_end-clause-is
returns-then-is_end-clause-is c =
    stops_here c.args.bytes.now c.loop-place.start c.loop-place.place c.loop-place.invariant.within c.loop-place-test.true _
    c.loop-place.start c.loop-place.invariant.same c.if-byte-eq10.true (sym c.is_end.ensures ∙ c.if-is_end.true)

pub loop-place-preserved : goal.loop-place-preserved
loop-place-preserved c =
    let start = c.loop-place.start in
    let place = c.loop-place.place in
    let now = c.if-byte-eq10.start in
    record {
      within = elim c.if-byte-eq10.branch [ then-byte-eq10+else-is_end w ↦ omega arith | else-byte-eq10 w ↦ omega arith ];
      same = elim c.if-byte-eq10.branch [
        | then-byte-eq10+else-is_end w ↦
            on_next c.args.bytes.now start place c.loop-place.invariant.within c.loop-place-test.true _ now c.loop-place.invariant.same
            w.start-is w.if-byte-eq10.true (sym w.is_end.ensures ∙ w.if-is_end.false)
        | else-byte-eq10 w ↦
            on_same c.args.bytes.now start place c.loop-place.invariant.within c.loop-place-test.true _ now c.loop-place.invariant.same
            w.start-is w.if-byte-eq10.false
      ];
    }

pub returns-clause-is : goal.returns-clause-is
returns-clause-is c =
    at_end c.args.bytes.now _ c.loop-place.place _ c.loop-place-test.false c.loop-place.auto.place-end c.loop-place.invariant.same
