use Rattle.std.proofs.Common.{◌∙◌, sym, subst}
use Rattle.wf_calls.specs.declared.call.Call.TheVariants as call
use Rattle.wf_guard.specs.Serving.{Served, Serves, post}
use Rattle.wf_serve.proofs.Carried.{given_as}
use Rattle.wf_serve.proofs.live.Core.post.Goals as goal

pub returns-in-Some : goal.returns-in-Some
returns-in-Some c =
    let view : Served = record {
      machine = c.self.inside.machine;
      owned = c.self.inside.owners;
      held = c.self.inside.canvases;
      waiting = c.self.inside.waiting;
      ticks = c.self.inside.ticks;
      form = c.self.inside.pictures;
      shown = c.self.inside.screens.items;
    } in
    subst (λ v. Serves c.args.client post v (record view { machine = c.post-back.new.self; held = c.put.new.self }) c.of.result)
    c.self.view_is
    (given_as c.args.client c.from.result c.from-in-Some.result call.Post view c.in-Some.canvas c.post-back.new.self c.post-back.result
    c.take.new.self c.put.new.self c.of.result c.from.ensures c.from-in-Some.ensures (sym c.in-Some.is ∙ c.take.ensures.canvas)
    c.take.ensures.rest c.post-back.ensures.step c.put.ensures c.of.ensures)
