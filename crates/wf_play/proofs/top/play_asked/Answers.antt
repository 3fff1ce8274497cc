use Rattle.std.proofs.Common.{sym, subst}
use Rattle.std.specs.Prelude.{IfSome}
use Rattle.wf_play.specs.Check.{SaysOfCheck}
use Rattle.wf_play.specs.Events.{SaysOfLog}
use Rattle.wf_play.specs.Report.{IsCaused, SaysOfFilm, SaysOfInput}
use Rattle.wf_play.specs.Sessions.{SaysOfSession}
use Rattle.wf_play.proofs.Checks.{caused_so, nothing_put}
use Rattle.wf_play.proofs.top.play_asked.Goals as goal

pub returns-in-Print-clause-input : goal.returns-in-Print-clause-input
returns-in-Print-clause-input g c =
    let done = c.play_print in
    subst (λ m. IfSome (g.I.Source.left c.args.input.now)
    (λ bytes. SaysOfInput g.O.Sink.took c.args.film.now done.new.film done.result.order m c.args.asked.form c.args.asked.threads bytes
    done.result.status))
    (sym c.in-Print.is) (done.ensures.input c.args.asked.form c.args.asked.threads)

pub returns-in-Check-clause-input : goal.returns-in-Check-clause-input
returns-in-Check-clause-input g c =
    let done = c.without_order in
    subst (λ s. IfSome (g.I.Source.left c.args.input.now)
    (λ bytes. SaysOfInput g.O.Sink.took c.args.film.now c.args.film.now done.result.order c.args.asked.mode c.args.asked.form
    c.args.asked.threads bytes s))
    (sym done.ensures.status)
    (subst (λ m. IfSome (g.I.Source.left c.args.input.now)
    (λ bytes. SaysOfInput g.O.Sink.took c.args.film.now c.args.film.now done.result.order m c.args.asked.form c.args.asked.threads
    bytes c.play_check.result))
    (sym c.in-Check.is) c.play_check.ensures.input)

pub returns-in-Check-clause-checked : goal.returns-in-Check-clause-checked
returns-in-Check-clause-checked g c = λ is. record {
  nothing = λ before puts. puts;
  none = c.without_order.ensures.order;
  says =
      subst (λ s. IfSome (g.I.Source.left c.args.input.now) (λ bytes. SaysOfCheck bytes s)) (sym c.without_order.ensures.status)
      c.play_check.ensures.input;
}

pub returns-in-Check-clause-film : goal.returns-in-Check-clause-film
returns-in-Check-clause-film g c = λ other.
    let done = c.without_order in
    subst (SaysOfFilm g.O.Sink.took c.args.film.now c.args.film.now done.result.order) (sym done.ensures.status)
    (nothing_put g.O.Sink.took c.args.film.now done.result.order (g.I.Source.faults c.args.input.now)
    (g.I.Source.faults c.play_check.new.input) c.play_check.result done.ensures.order c.play_check.ensures.caused)

pub returns-in-Check-clause-caused : goal.returns-in-Check-clause-caused
returns-in-Check-clause-caused g c =
    let before = g.I.Source.faults c.args.input.now in
    let now = g.I.Source.faults c.play_check.new.input in
    let film = g.O.Sink.faults c.args.film.now in
    subst (IsCaused before now film film) (sym c.without_order.ensures.status)
    (caused_so before now film film c.play_check.result c.play_check.ensures.caused)

-- the log

pub returns-in-Events-clause-logged : goal.returns-in-Events-clause-logged
returns-in-Events-clause-logged g c = λ is. record {
  none = c.without_order-in-Events.ensures.order;
  says =
      subst (λ s. IfSome (g.I.Source.left c.args.input.now)
      (λ bytes. SaysOfLog g.O.Sink.took c.args.film.now c.play_events.new.film c.args.asked.depth bytes s))
      (sym c.without_order-in-Events.ensures.status) c.play_events.ensures.input;
}

-- a session

pub returns-in-Session-clause-served : goal.returns-in-Session-clause-served
returns-in-Session-clause-served g c = λ is. record {
  none = c.without_order-in-Session.ensures.order;
  says =
      subst (λ s. IfSome (g.I.Source.left c.args.input.now)
      (λ bytes. SaysOfSession g.O.Sink.took c.args.film.now c.play_session.new.film bytes s))
      (sym c.without_order-in-Session.ensures.status) c.play_session.ensures.input;
}
