use Rattle.std.proofs.Common.{refl}
use Rattle.wf_script.proofs.Additions.{puts_all, puts_none, puts_part}
use Rattle.wf_script.proofs.text.Text.put.Goals as goal
use Rattle.wf_script.proofs.text.Text.put.Goals.{then-not-self+in-Ok, then-not-self+in-Err, else-not-self}

pub returns-clause-adds : goal.returns-clause-adds
returns-clause-adds g c =
    elim c.if-not-self.branch [
      | then-not-self+in-Ok w ↦ rw (w.self-is, w.k-is)
          (puts_all g.K.Sink.took g.K.Sink.faults c.args.self.now _ c.args.k.now _ w.if-not-self.true w.if-not-self.true c.clear.ensures
          (rw w.len.ensures.value at w.saturating_add-self.ensures) (rw w.as_slice.ensures.value at w.in-Ok.ensures.all)
          w.in-Ok.ensures.cause.later)
      | then-not-self+in-Err w ↦ rw (w.self-is, w.k-is)
          (puts_part g.K.Sink.took g.K.Sink.faults c.args.self.now _ c.args.k.now _ w.in-Err.stop.written w.if-not-self.true refl
          w.saturating_add-self-in-Err.ensures (rw w.as_slice.ensures.value at w.in-Err.ensures.part) w.in-Err.ensures.cause.later
          w.in-Err.ensures.cause.failed)
      | else-not-self w ↦ rw (w.self-is, w.k-is)
          (puts_none g.K.Sink.took g.K.Sink.faults c.args.self.now _ c.args.k.now w.if-not-self.false w.if-not-self.false refl)
    ]
