use Rattle.std.proofs.Common.{◌∙◌, refl, subst, sym}
use Rattle.wf_calls.specs.Replies.{bare}
use Rattle.wf_host.specs.Made.{Ends, told_of}
use Rattle.wf_host.proofs.Frames.{ends_told}
use Rattle.wf_host.proofs.host.Host.end.Goals as goal

pub returns-then-is_held : goal.returns-then-is_held
returns-then-is_held c =
    subst (λ t. Ends c.args.client c.args.self.now (record { machine = c.end.new.machine; canvases = c.self.inside.canvases })
    c.args.frame.now c.end.new.self t) (sym c.of.ensures)
    (subst (λ old. Ends c.args.client old (record { machine = c.end.new.machine; canvases = c.self.inside.canvases })
    c.args.frame.now c.end.new.self (told_of (bare c.end.result))) c.self.view_is
    (ends_told c.args.client _ _ c.args.frame.now c.end.new.self c.end.result (sym c.is_held.ensures ∙ c.if-is_held.true)
    c.end.ensures refl))
