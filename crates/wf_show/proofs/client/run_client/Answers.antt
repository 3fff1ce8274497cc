use Rattle.std.proofs.Common.{◌≡◌, ◌∙◌, Some, sym, ap, subst}
use Rattle.wf_turn.specs.Going.{GoesOn}
use Rattle.wf_turn.specs.Program.{next, took, worked}
use Rattle.wf_turn.specs.Ready.{IsWork}
use Rattle.wf_show.specs.Running.{RunsSoFar}
use Rattle.wf_show.proofs.CallThroughAPass.{goes_once, gone, starts}
use Rattle.wf_show.proofs.client.run_client.Goals as goal

pub loop-wanted-init : goal.loop-wanted-init
loop-wanted-init g c = starts c.args.program.now c.args.pass.now c.requires.none c.requires.fit c.requires.left c.left-quota.ensures.own

pub paint-requires-clause-work : goal.paint-requires-clause-work
paint-requires-clause-work g c =
    let l = c.loop-wanted in
    let w = c.in-Some.wanted in
    let reply = c.ask-reply.result in
    let asks : next l.program ≡ Some w = sym c.next.ensures.wanted ∙ c.in-Some.is in
    let goes : GoesOn l.program reply =
    gone c.args.program.now l.program c.args.pass.now l.pass c.ask-reply.new.pass w reply l.invariant asks c.in-Some.ensures.waits
    (c.in-Some.ensures.goes_on l.invariant.fit) c.ask-reply.ensures.made c.ask-reply.ensures.own in
    let now : c.took.new.self ≡ took l.program reply =
    c.took.ensures ∙ ap (λ q. took q reply) c.next.ensures.issued ∙ goes.took_is in
    subst IsWork (sym now) goes.work

pub loop-wanted-preserved : goal.loop-wanted-preserved
loop-wanted-preserved g c =
    let l = c.loop-wanted in
    let w = c.in-Some.wanted in
    let reply = c.ask-reply.result in
    let asks : next l.program ≡ Some w = sym c.next.ensures.wanted ∙ c.in-Some.is in
    let goes_on = c.in-Some.ensures.goes_on l.invariant.fit in
    let goes : GoesOn l.program reply =
    gone c.args.program.now l.program c.args.pass.now l.pass c.ask-reply.new.pass w reply l.invariant asks c.in-Some.ensures.waits
    goes_on c.ask-reply.ensures.made c.ask-reply.ensures.own in
    let now : c.paint.new.self ≡ worked (took l.program reply) =
    c.paint.ensures.painted
    ∙ ap worked (c.took.ensures ∙ ap (λ q. took q reply) c.next.ensures.issued ∙ goes.took_is) in
    subst (λ q. RunsSoFar c.args.program.now q c.args.pass.now c.ask-reply.new.pass) (sym now)
    (goes_once c.args.program.now l.program c.args.pass.now l.pass c.ask-reply.new.pass w reply l.invariant asks c.in-Some.ensures.waits
    goes_on c.ask-reply.ensures.made c.ask-reply.ensures.own)
