use Rattle.std.proofs.Common.{◌≡◌, ◌∙◌, Some, sym, ap, subst}
use Rattle.wf_turn.specs.Going.{GoesOn}
use Rattle.wf_turn.specs.Program.{is_work, next, took, worked}
use Rattle.wf_turn.specs.Ready.{IsWork}
use Rattle.wf_show.proofs.CallOfTheClock.{advances, gone_is}
use Rattle.wf_show.proofs.clock.advance.Goals as goal

pub paint-requires-clause-work : goal.paint-requires-clause-work
paint-requires-clause-work g c =
    let a = c.args.clock.now in
    let w = c.in-Some.wanted in
    let reply = c.ask-reply.result in
    let asks : next a.program ≡ Some w = sym c.next.ensures.wanted ∙ c.in-Some.is in
    let goes_on = c.in-Some.ensures.goes_on c.requires.clock.so_far.fit in
    let goes : GoesOn a.program reply =
    gone_is c.args.desk.now.id a c.ask-reply.new.pass w reply c.requires.clock asks c.in-Some.ensures.waits goes_on
    c.ask-reply.ensures.made c.ask-reply.ensures.own in
    let now : c.took.new.self ≡ took a.program reply =
    c.took.ensures ∙ ap (λ q. took q reply) c.next.ensures.issued ∙ goes.took_is in
    subst IsWork (sym now) goes.work

pub returns : goal.returns
returns g c =
    let a = c.args.clock.now in
    let w = c.in-Some.wanted in
    let reply = c.ask-reply.result in
    let asks : next a.program ≡ Some w = sym c.next.ensures.wanted ∙ c.in-Some.is in
    let goes_on = c.in-Some.ensures.goes_on c.requires.clock.so_far.fit in
    let goes : GoesOn a.program reply =
    gone_is c.args.desk.now.id a c.ask-reply.new.pass w reply c.requires.clock asks c.in-Some.ensures.waits goes_on
    c.ask-reply.ensures.made c.ask-reply.ensures.own in
    let now : c.took.new.self ≡ took a.program reply =
    c.took.ensures ∙ ap (λ q. took q reply) c.next.ensures.issued ∙ goes.took_is in
    advances c.args.desk.now.id a c.ask-reply.new.pass c.paint.new.self w reply c.paint.result c.requires.clock asks
    c.in-Some.ensures.waits goes_on c.ask-reply.ensures.made c.ask-reply.ensures.own (c.paint.ensures.painted ∙ ap worked now)
    (c.paint.ensures.was ∙ ap is_work now)
