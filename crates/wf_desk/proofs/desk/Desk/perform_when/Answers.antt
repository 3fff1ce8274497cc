use Rattle.std.proofs.Common.{sym, subst, ◌-◌, ◌<◌}
use Rattle.std.specs.Prelude.{IsTrue}
use Rattle.wf_desk.specs.Pass.{Made}
use Rattle.wf_desk.specs.Inside.{known}
use Rattle.wf_desk.proofs.Passes.{sits_after, made_after, sits_own}
use Rattle.wf_desk.proofs.desk.Desk.perform_when.Goals as goal

pub invariant_of-pass : goal.invariant_of-pass
invariant_of-pass g c =
    let pass = c.pass.inside in let call = g.P.Operation.call c.args.op in
    sits_after g.O.Object.after g.O.Object.may (λ object. IsTrue (g.O.Object.is_ready object call)) pass.seat
    c.make_when-answer.new.seat pass.client pass.left pass.place _ _ (g.P.Operation.reply c.make_when-answer.result.0)
    c.pass.invariant c.make_when-answer.ensures.made

pub returns-clause-made : goal.returns-clause-made
returns-clause-made g c =
    let pass = c.pass.inside in let after = g.O.Object.after in let may = g.O.Object.may in
    let call = g.P.Operation.call c.args.op in let reply = g.P.Operation.reply c.make_when-answer.result.0 in
    let place = c.make_when-answer.result.1 in let seat = c.make_when-answer.new.seat in
    subst (λ k. Made after may (λ object. IsTrue (g.O.Object.is_ready object call)) k call reply
    (known seat pass.client (pass.left - 1) place)) c.pass.view_is
    (made_after after may (λ object. IsTrue (g.O.Object.is_ready object call)) pass.seat seat pass.client pass.left pass.place
    place call reply c.pass.invariant c.make_when-answer.ensures.made
    (subst (λ k. 0 < k.left) (sym c.pass.view_is) c.requires.left) c.make_when-answer.ensures.place.0)

pub returns-clause-own : goal.returns-clause-own
returns-clause-own g c =
    let pass = c.pass.inside in let call = g.P.Operation.call c.args.op in
    sits_own g.O.Object.after g.O.Object.may _ pass.client (pass.left - 1) c.make_when-answer.result.1
    (sits_after g.O.Object.after g.O.Object.may (λ object. IsTrue (g.O.Object.is_ready object call)) pass.seat
    c.make_when-answer.new.seat pass.client pass.left pass.place _ _ (g.P.Operation.reply c.make_when-answer.result.0)
    c.pass.invariant c.make_when-answer.ensures.made)
