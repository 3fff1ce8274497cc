use Rattle.std.proofs.Common.{subst}
use Rattle.std.specs.Prelude.{IfSome}
use Rattle.wf_play.specs.Report.{SaysOfInput}
use Rattle.wf_play.proofs.Says.{done_says, mode_completes}
use Rattle.wf_play.proofs.top.play.Goals as goal

pub returns-clause-headline : goal.returns-clause-headline
returns-clause-headline g c = λ asked asks is.
    let done = c.play_words in
    done_says g.O.Sink.took c.args.film.now done.new.film done.result.order _ _ (g.I.Source.left c.args.input.now) done.result.status
    (subst (λ m. IfSome (g.I.Source.left c.args.input.now)
    (λ bytes. SaysOfInput g.O.Sink.took c.args.film.now done.new.film done.result.order m asked.form asked.threads bytes
    done.result.status)) is
    (done.ensures.input asked asks))

pub returns-clause-printed : goal.returns-clause-printed
returns-clause-printed g c = λ asked asks is.
    let done = c.play_words in
    done_says g.O.Sink.took c.args.film.now done.new.film done.result.order _ _ (g.I.Source.left c.args.input.now) done.result.status
    (subst (λ m. IfSome (g.I.Source.left c.args.input.now)
    (λ bytes. SaysOfInput g.O.Sink.took c.args.film.now done.new.film done.result.order m asked.form asked.threads bytes
    done.result.status)) is
    (done.ensures.input asked asks))

pub returns-clause-complete : goal.returns-clause-complete
returns-clause-complete g c = λ asked asks.
    let done = c.play_words in
    mode_completes g.O.Sink.took c.args.film.now done.new.film done.result.order asked.mode asked.form asked.threads asked.size asked.depth
    (g.I.Source.faults c.args.input.now) (g.I.Source.faults done.new.input) (g.O.Sink.faults c.args.film.now)
    (g.O.Sink.faults done.new.film) (g.I.Source.left c.args.input.now) done.result.status
    (λ usage. done.ensures.usage usage (asked, asks)) (done.ensures.input asked asks)
    (λ is. (done.ensures.made asked asks is).1) (λ is. (done.ensures.logged asked asks is).says)
    (λ is. (done.ensures.served asked asks is).says) done.ensures.caused
