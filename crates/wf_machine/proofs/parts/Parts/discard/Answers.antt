use Rattle.wf_machine.proofs.Common.{refl, sym, ap, ◌∙◌, discarded, bare, done, canvas_back, is_out_at_client, settle, settled_so, state_of}
use Rattle.wf_machine.proofs.Common.{with_stream}
use Rattle.wf_calls.specs.Replies.{with_canvas}
use Rattle.wf_machine.proofs.ActsAreTheModels.{as_settled}
use Rattle.wf_machine.proofs.BufferCalls.{comes_back, out_from, stays_out}
use Rattle.wf_machine.proofs.Counts.{seen_settled}
use Rattle.wf_machine.proofs.StreamsStillFit.{discarded_keeps}
use Rattle.wf_machine.proofs.StreamNames.{back_counted, back_named, back_seen, sound_back}
use Rattle.wf_machine.proofs.StreamCallsKeepInvariant.{leaves_so}
use Rattle.wf_machine.proofs.parts.Parts.discard.Goals as goal

pub returns-then-not-is_out_at_client : goal.returns-then-not-is_out_at_client
returns-then-not-is_out_at_client c =
    as_settled _ _ _ (stays_out c.args.canvas discarded c.args.self.now (with_canvas c.giving_back_canvas.result)
    (sym c.is_out_at_client.ensures ∙ c.if-not-is_out_at_client.true) c.giving_back_canvas.ensures)
    (seen_settled c.self.inside _ c.self.view_is c.self.invariant)

pub discard-requires : goal.discard-requires
discard-requires c =
    let out = sym c.is_out_at_client.ensures ∙ c.if-not-is_out_at_client.false in
    out_from _ (state_of c.self.inside) (ap (is_out_at_client c.args.canvas) c.self.view_is ∙ out)

pub end_name-requires-clause-counted : goal.end_name-requires-clause-counted
end_name-requires-clause-counted c =
    let out = ap (is_out_at_client c.args.canvas) c.self.view_is ∙ sym c.is_out_at_client.ensures ∙ c.if-not-is_out_at_client.false in
    back_counted c.self.inside c.self.invariant c.args.canvas out discarded discarded_keeps (λ b. refl) _ c.discard.ensures

pub end_name-requires-clause-named : goal.end_name-requires-clause-named
end_name-requires-clause-named c =
    let out = ap (is_out_at_client c.args.canvas) c.self.view_is ∙ sym c.is_out_at_client.ensures ∙ c.if-not-is_out_at_client.false in
    back_named c.self.inside c.self.invariant c.args.canvas out discarded discarded_keeps (λ b. refl) _ c.discard.ensures

pub invariant_of-self : goal.invariant_of-self
invariant_of-self c =
    let out = ap (is_out_at_client c.args.canvas) c.self.view_is ∙ sym c.is_out_at_client.ensures ∙ c.if-not-is_out_at_client.false in
    sound_back c.self.inside c.self.invariant c.args.canvas out discarded discarded_keeps (λ b. refl) _ c.discard.ensures _
    c.end_name.ensures.names c.end_name.ensures.none c.end_name.ensures.rest

pub returns : goal.returns
returns c =
    let m = c.self.inside in
    let stream = c.args.canvas.stream in
    let out = ap (is_out_at_client c.args.canvas) c.self.view_is ∙ sym c.is_out_at_client.ensures ∙ c.if-not-is_out_at_client.false in
    leaves_so m _ c.self.view_is (λ t r. settled_so (canvas_back c.args.canvas discarded t))
    (state_of (record m { store = c.end_name.new.store })) (settle (with_stream stream discarded (state_of m)))
    (with_canvas c.taking_canvas.result) (bare (done 0))
    (back_seen m c.self.invariant c.args.canvas out discarded discarded_keeps (λ b. refl) _ c.discard.ensures _
    c.end_name.ensures.names c.end_name.ensures.none c.end_name.ensures.rest)
    c.taking_canvas.ensures (ap settled_so (comes_back c.args.canvas discarded (state_of m) out))
