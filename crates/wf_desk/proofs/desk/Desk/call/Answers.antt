use Rattle.std.proofs.Common.{sym, subst, ◌-◌, ◌<◌}
use Rattle.std.specs.Prelude.{⊤}
use Rattle.wf_desk.specs.Pass.{Made}
use Rattle.wf_desk.specs.Inside.{known}
use Rattle.wf_desk.proofs.Passes.{sits_after, made_after, sits_own}
use Rattle.wf_desk.proofs.desk.Desk.call.Goals as goal

pub invariant_of-pass : goal.invariant_of-pass
invariant_of-pass g c =
    let pass = c.pass.inside in
    sits_after g.O.Object.after g.O.Object.may (λ _. ⊤) pass.seat _ pass.client pass.left pass.place
    c.make-reply.result.1 _ c.make-reply.result.0
    c.pass.invariant c.make-reply.ensures.made

pub returns-clause-made : goal.returns-clause-made
returns-clause-made g c =
    let pass = c.pass.inside in
    subst (λ k. Made g.O.Object.after g.O.Object.may (λ _. ⊤) k c.args.call c.make-reply.result.0
    (known c.make-reply.new.seat pass.client (pass.left - 1) c.make-reply.result.1)) c.pass.view_is
    (made_after g.O.Object.after g.O.Object.may (λ _. ⊤) pass.seat c.make-reply.new.seat pass.client pass.left pass.place
    c.make-reply.result.1 c.args.call c.make-reply.result.0
    c.pass.invariant c.make-reply.ensures.made (subst (λ k. 0 < k.left) (sym c.pass.view_is) c.requires.left) c.make-reply.ensures.place.0)

pub returns-clause-own : goal.returns-clause-own
returns-clause-own g c =
    let pass = c.pass.inside in
    sits_own g.O.Object.after g.O.Object.may _ pass.client (pass.left - 1) c.make-reply.result.1
    (sits_after g.O.Object.after g.O.Object.may (λ _. ⊤) pass.seat c.make-reply.new.seat pass.client pass.left pass.place
    c.make-reply.result.1 _ c.make-reply.result.0
    c.pass.invariant c.make-reply.ensures.made)
