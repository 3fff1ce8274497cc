use Rattle.std.proofs.Common.{◌≡◌, ◌∙◌, ◌||◌, false, ap, length, subst, sym}
use Rattle.std.specs.Prelude.{None, nat_le}
use Rattle.wf_calls.specs.declared.request.Request.TheVariants as request
use Rattle.wf_host.specs.Held.{holds}
use Rattle.wf_stream.specs.declared.TheConstants.{MOST_STREAMS}
use Rattle.wf_guard.specs.Policy.{refusal_of}
use Rattle.wf_guard.specs.Serving.{Served, Serves, plain}
use Rattle.wf_serve.proofs.Carried.{acquired_as}
use Rattle.wf_serve.proofs.live.Core.acquire.Goals as goal

pub returns : goal.returns
returns c =
    let view : Served = record {
      machine = c.self.inside.machine;
      owned = c.self.inside.owners;
      held = c.self.inside.canvases;
      waiting = c.self.inside.waiting;
      ticks = c.self.inside.ticks;
      form = c.self.inside.pictures;
      shown = c.self.inside.screens.items;
    } in
    let free : holds c.args.client c.self.inside.canvases ≡ false =
    ap (λ k. holds k c.self.inside.canvases) (sym c.from.ensures) ∙ sym c.is_held.ensures ∙ c.if-is_held.false in
    let room : nat_le MOST_STREAMS (length c.self.inside.canvases) ≡ false = sym c.is_full.ensures ∙ c.if-is_full.false in
    subst (λ v. refusal_of c.args.client (request.Acquire c.args.stream) v.owned ≡ None
    → Serves c.args.client (plain (request.Acquire c.args.stream)) v
    (record view { machine = c.acquire-canvas.new.self; held = c.put.new.self }) c.of.result) c.self.view_is
    (λ none. acquired_as c.args.client c.args.stream c.from-2.result view c.acquire-canvas.new.self c.acquire-canvas.result c.put.new.self
    c.of.result c.from-2.ensures none (λ i. free i || room i) c.acquire-canvas.ensures.step c.put.ensures c.of.ensures)
    c.requires
