use Rattle.std.proofs.Common.{◌≤◌, Some, arith, subst, sym}
use Rattle.wf_wire.specs.declared.stop.ServeStop.TheVariants as stop
use Rattle.wf_wire.specs.Served.{Served}
use Rattle.wf_wire.proofs.HeardInARow.{heard_cut, heard_more, heard_quota, one_left}
use Rattle.wf_wire.proofs.serving.answer_all.Goals as goal

pub returns-then-left-lt-LEAST_LEFT-clause-served : goal.returns-then-left-lt-LEAST_LEFT-clause-served
returns-then-left-lt-LEAST_LEFT-clause-served g c =
    subst (λ at. Served g.K.Sink.took c.args.pass.now c.loop-message.pass c.args.out.now c.loop-message.out c.args.session.now
    (g.I.Source.left c.args.input.now) (g.I.Source.left c.next.new.input) c.loop-message.held (Some (stop.Quota at)))
    (sym c.loop-message.invariant.place)
    (heard_quota g.K.Sink.took _ _ _ _ _ _ _ _ _ _ c.loop-message.invariant.all c.in-Some.message _ _
    (rw c.in-Some.is at c.in_ok-message.ensures.message) (omega (arith, c.if-left-lt-LEAST_LEFT.true, c.left.ensures.left)))

pub overflow_add-written : goal.overflow_add-written
overflow_add-written g c =
    let one = c.in-Ok.ensures.heard in
    omega (arith, c.loop-message.invariant.short, c.loop-message.invariant.place, c.loop-message.invariant.early, one.few, one.writes.1)

pub overflow_add-result : goal.overflow_add-result
overflow_add-result g c =
    let one = c.in-Err.ensures.heard in
    omega (
      arith,
      c.loop-message.invariant.short,
      c.loop-message.invariant.place,
      c.loop-message.invariant.early,
      one.few,
      one.writes.short,
    )

pub returns-in-Err-clause-served : goal.returns-in-Err-clause-served
returns-in-Err-clause-served g c =
    heard_cut g.K.Sink.took _ _ _ _ _ _ _ _ _ _ c.loop-message.invariant.all c.in-Some.message _ _
    (rw c.in-Some.is at c.in_ok-message.ensures.message) (omega (arith, c.if-left-lt-LEAST_LEFT.false, c.left.ensures.left)) _ _ _
    c.in-Err.stop c.in-Err.ensures.heard

pub returns-in-Err-clause-left : goal.returns-in-Err-clause-left
returns-in-Err-clause-left g c =
    one_left g.K.Sink.took _ _ _ _ _ _ _ _ _ _ c.loop-message.invariant.all c.in-Some.message _ _
    (rw c.in-Some.is at c.in_ok-message.ensures.message) (omega (arith, c.if-left-lt-LEAST_LEFT.false, c.left.ensures.left)) _ _ _ _
    c.in-Err.ensures.heard

pub loop-message-smaller : goal.loop-message-smaller
loop-message-smaller g c =
    omega (arith, rw c.in-Some.is at c.in_ok-message.ensures.further, c.at-at-in-Some.ensures.at, c.at-at-in-Some.ensures.most)

pub loop-message-preserved : goal.loop-message-preserved
loop-message-preserved g c =
    let found = rw c.in-Some.is at c.in_ok-message.ensures.message in
    let room : 3 ≤ c.loop-message.pass.left = omega (arith, c.if-left-lt-LEAST_LEFT.false, c.left.ensures.left) in
    let one = c.in-Ok.ensures.heard in
    record {
      all = heard_more g.K.Sink.took _ _ _ _ _ _ _ _ _ _ c.loop-message.invariant.all c.in-Some.message _ _ found room _ _ _ c.in-Ok.n one;
      left = one_left g.K.Sink.took _ _ _ _ _ _ _ _ _ _ c.loop-message.invariant.all c.in-Some.message _ _ found room _ _ _ _ one;
      place = c.at-at-in-Some.ensures.at;
      early = c.at-at-in-Some.ensures.most;
      short = omega (arith, c.loop-message.invariant.short, one.few, one.writes.1, rw c.in-Some.is at c.in_ok-message.ensures.further);
      input_count = omega (arith, c.loop-message.invariant.input_count, c.next.ensures.caused.later);
      out_count = omega (arith, c.loop-message.invariant.out_count, c.hear.ensures.cause.later);
    }
