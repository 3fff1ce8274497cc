use Rattle.std.proofs.Common.{◌∙◌, refl, subst, sym}
use Rattle.wf_calls.specs.Replies.{bare}
use Rattle.wf_host.specs.Made.{Asks, Hosted, told_of}
use Rattle.wf_host.proofs.Asked.{plain_made, takes_nothing}
use Rattle.wf_host.proofs.host.Host.ask_plain.Goals as goal

pub unreachable-requires : goal.unreachable-requires
unreachable-requires c =
    takes_nothing c.args.request.now c.in-None.ensures.carries.0 (sym c.is_begin.ensures ∙ c.if-is_begin.false) c.requires

pub returns : goal.returns
returns c =
    let new : Hosted = record { machine = c.answer.new.self; canvases = c.self.inside.canvases } in
    subst (λ t. Asks c.args.client c.args.request.now c.args.self.now new t) (sym c.of.ensures)
    (subst (λ old. Asks c.args.client c.args.request.now old new (told_of (bare c.in-Some.answer))) c.self.view_is
    (plain_made c.args.client c.args.request.now _ _ c.in-Some.answer (sym c.is_begin.ensures ∙ c.if-is_begin.false) c.requires
    c.in-Some.ensures.after c.in-Some.ensures.may refl))
