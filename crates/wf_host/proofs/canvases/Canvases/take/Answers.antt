use Rattle.std.proofs.Common.{◌≡◌, ◌∙◌, ◌<◌, ◌==◌, Some, None, ap, subst, length}
use Rattle.std.specs.List.{position}
use Rattle.wf_host.specs.Held.{canvas_of}
use Rattle.wf_host.proofs.Taken.{none_taken, taken}
use Rattle.wf_host.proofs.canvases.Canvases.take.Goals as goal

pub returns-in-Some-clause-canvas : goal.returns-in-Some-clause-canvas
returns-in-Some-clause-canvas c =
    subst (λ held. Some c.remove.result.canvas ≡ canvas_of c.args.key held) c.self.view_is
    (taken c.args.key c.self.inside.held.items c.in-Some.at c.remove.result
    (c.in-Some.ensures.place ∙ ap (position (λ h. h.key == c.args.key)) c.deref.ensures.value)
    (subst (λ held. c.in-Some.at < length held) c.deref.ensures.value c.in-Some.ensures.within) c.remove.ensures.value)

pub returns-in-None-clause-canvas : goal.returns-in-None-clause-canvas
returns-in-None-clause-canvas c =
    subst (λ held. None ≡ canvas_of c.args.key held) c.self.view_is
    (none_taken c.args.key c.self.inside.held.items
    (c.in-None.ensures.place ∙ ap (position (λ h. h.key == c.args.key)) c.deref.ensures.value))
