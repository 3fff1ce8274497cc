use Rattle.std.proofs.Common.{◌≡◌, ◌∙◌, false, ap, set, subst}
use Rattle.wf_guard.specs.LiveStreams.{destroyed_by}
use Rattle.wf_guard.specs.Policy.{left_by}
use Rattle.wf_guard.specs.Serving.{Served}
use Rattle.wf_serve.specs.Heard.{left_shown}
use Rattle.wf_serve.proofs.live.Core.leave.Goals as goal

pub returns : goal.returns
returns c =
    let who = c.args.client in
    let left : Served = record {
      machine = c.destroy.new.machine;
      owned = c.leave.new.self;
      held = c.self.inside.canvases;
      waiting = set c.self.inside.waiting c.from.result false;
      ticks = c.self.inside.ticks;
      form = c.self.inside.pictures;
      shown = c.leave_screens.new.screens.items;
    } in (
      c.discard-told.new.self,
      c.discard-told.result,
      c.discard-told.ensures,
      subst (λ v. left ≡ record v {
        machine = destroyed_by who v.owned v.machine;
        owned = left_by who v.owned;
        waiting = set v.waiting who false;
        shown = left_shown who v.shown;
      }) c.self.view_is (λ i. record {
        machine = (c.destroy.ensures ∙ ap (λ o. destroyed_by who o c.self.inside.machine) c.list.ensures) i;
        owned = c.leave.ensures i;
        held = c.self.inside.canvases;
        waiting = set c.self.inside.waiting (c.from.ensures i) false;
        ticks = c.self.inside.ticks;
        form = c.self.inside.pictures;
        shown = c.leave_screens.ensures.shown i;
      }),
    )
