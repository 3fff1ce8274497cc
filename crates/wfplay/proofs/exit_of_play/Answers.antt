use Rattle.std.proofs.Common.{◌∙◌, sym, subst}
use Rattle.wf_play.specs.Big.{SaysOfBig}
use Rattle.wf_play.specs.Report.{IsPlainFilm, IsPrinted}
use Rattle.wfplay.specs.Exit.{PutsFilm, PutsText}
use Rattle.wfplay.proofs.Exits.{done_at_0, done_says, usage_at_2}
use Rattle.wfplay.proofs.exit_of_play.Goals as goal

pub returns-clause-film : goal.returns-clause-film
returns-clause-film g c = λ asked asks is zero.
    let done = c.play-report in
    done_says (g.I.Source.left c.args.input.now)
    (λ bytes. IsPlainFilm g.O.Sink.took c.args.film.now done.new.film asked.form asked.threads bytes done.result.order)
    (PutsFilm g.O.Sink.took c.args.film.now done.new.film asked.form asked.threads) done.result.status (λ bytes put.
    (done.result.order, put))
    (done_at_0 done.result.status (sym c.exit.ensures ∙ zero)) (done.ensures.headline asked asks is)

pub returns-clause-printed : goal.returns-clause-printed
returns-clause-printed g c = λ asked asks is zero.
    let done = c.play-report in
    done_says (g.I.Source.left c.args.input.now)
    (λ bytes. IsPrinted g.O.Sink.took c.args.film.now done.new.film bytes done.result.order)
    (PutsText g.O.Sink.took c.args.film.now done.new.film) done.result.status (λ bytes put. (done.result.order, put))
    (done_at_0 done.result.status (sym c.exit.ensures ∙ zero)) (done.ensures.printed asked asks is)

pub returns-clause-checked : goal.returns-clause-checked
returns-clause-checked g c = λ asked asks is.
    let done = c.play-report in
    (done.result.status, done.result.order, (c.exit.ensures, done.ensures.checked asked asks is))

pub returns-clause-logged : goal.returns-clause-logged
returns-clause-logged g c = λ asked asks is.
    let done = c.play-report in
    (done.result.status, done.result.order, (c.exit.ensures, done.ensures.logged asked asks is))

pub returns-clause-served : goal.returns-clause-served
returns-clause-served g c = λ asked asks is.
    let done = c.play-report in
    (done.result.status, done.result.order, (c.exit.ensures, done.ensures.served asked asks is))

pub returns-clause-made : goal.returns-clause-made
returns-clause-made g c = λ asked asks is zero.
    let done = c.play-report in (
      done.result.order,
      subst (SaysOfBig g.O.Sink.took c.args.film.now done.new.film asked.form asked.size done.result.order)
          (done_at_0 done.result.status (sym c.exit.ensures ∙ zero)) (done.ensures.made asked asks is).1,
    )

pub returns-clause-usage : goal.returns-clause-usage
returns-clause-usage g c = λ two. c.play-report.ensures.usage (usage_at_2 c.play-report.result.status (sym c.exit.ensures ∙ two))
