use Rattle.std.proofs.Common.{◌∙◌, ap, subst, sym}
use Rattle.wf_turn.specs.Play.{IsComplete}
use Rattle.wf_events.specs.Log.{log}
use Rattle.wf_play.proofs.Logs.{own_order}
use Rattle.wf_play.proofs.logged.log_of_film.Goals as goal

pub events-requires : goal.events-requires
events-requires c =
    let same = rw c.in-Ok-Same.field-0-is at c.in-Ok-Same.ensures in
    record {
      complete =
          subst (IsComplete c.args.script.now)
          (sym (own_order c.args.script.now c.args.bytes.now c.requires.film.0 c.order.result.now c.requires.film.1
          (c.order.ensures ∙ ap (λ f. f.order) c.requires.film.2) same)) same.complete;
    }

pub returns-in-Ok-events-clause-log : goal.returns-in-Ok-events-clause-log
returns-in-Ok-events-clause-log c =
    let same = rw c.in-Ok-Same.field-0-is at c.in-Ok-Same.ensures in
    let own = own_order c.args.script.now c.args.bytes.now c.requires.film.0 c.order.result.now c.requires.film.1
    (c.order.ensures ∙ ap (λ f. f.order) c.requires.film.2) same in
    record { same = same; is = c.in-Ok-events.ensures ∙ (λ i. log c.args.script.now (own i) (c.into.ensures i)) }
