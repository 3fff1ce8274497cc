use Rattle.std.proofs.Common.{◌≡◌, ◌∙◌, ap, sym, subst}
use Rattle.std.specs.Prelude.{None}
use Rattle.wf_calls.specs.Replies.{bare}
use Rattle.wf_guard.specs.Policy.{refusal_of}
use Rattle.wf_guard.specs.Serving.{Served, Serves, owned_by, plain}
use Rattle.wf_serve.proofs.Carried.{asked_as, owned_ok, owned_refused}
use Rattle.wf_serve.proofs.live.Core.carry.Goals as goal
use Rattle.wf_serve.proofs.live.Core.carry.Goals.{then-is_ok, else-is_ok}

pub returns : goal.returns
returns c =
    let view : Served = record {
      machine = c.self.inside.machine;
      owned = c.self.inside.owners;
      held = c.self.inside.canvases;
      waiting = c.self.inside.waiting;
      ticks = c.self.inside.ticks;
      form = c.self.inside.pictures;
      shown = c.self.inside.screens.items;
    } in
    let owned = owned_by c.args.client c.args.request.now (bare c.in-Some.answer) c.self.inside.owners in
    let left : c.if-is_ok.self ≡ record view { machine = c.answer.new.self; owned = owned } =
    elim c.if-is_ok.branch [
      | then-is_ok w ↦ w.self-is
          ∙ ap (λ o. record view { machine = c.answer.new.self; owned = o })
          (w.keep.ensures ∙ owned_ok c.args.client c.args.request.now c.in-Some.answer c.self.inside.owners
          (sym c.is_ok.ensures ∙ w.if-is_ok.true))
      | else-is_ok w ↦ w.self-is
          ∙ ap (λ o. record view { machine = c.answer.new.self; owned = o })
          (owned_refused c.args.client c.args.request.now c.in-Some.answer c.self.inside.owners (sym c.is_ok.ensures ∙ w.if-is_ok.false))
    ] in
    subst (λ v. refusal_of c.args.client c.args.request.now v.owned ≡ None
    → Serves c.args.client (plain c.args.request.now) v c.if-is_ok.self c.of.result) c.self.view_is
    (λ none. subst (λ w. Serves c.args.client (plain c.args.request.now) view w c.of.result) (sym left)
    (asked_as c.args.client c.args.request.now view c.answer.new.self c.in-Some.answer owned c.of.result none c.requires.takes
    c.in-Some.ensures.after c.in-Some.ensures.may (λ i. owned) c.of.ensures))
    c.requires.through
