use Rattle.std.proofs.Common.{◌∙◌, ◌++◌, ◌==◌, ◌&&◌, ◌||◌, ap, find, sym}
use Rattle.wf_guard.specs.declared.clients.TheConstants.{MANAGER}
use Rattle.std.specs.Prelude.{option_map}
use Rattle.wf_serve.specs.Heard.{one}
use Rattle.wf_serve.specs.declared.kind.TheConstants.{SIZE}
use Rattle.wf_serve.proofs.Sizes.{sized_so}
use Rattle.wf_serve.proofs.live.Core.size.Goals as goal

pub returns-in-Some : goal.returns-in-Some
returns-in-Some c =
    c.put_one-in-Some.ensures
    ∙ (λ i. c.requires i ++ one c.args.client SIZE (c.size_told.ensures i))
    ∙ sized_so c.args.client c.args.body.now c.args.self.now c.in-Some.owned.now (sym c.is_handle.ensures ∙ c.if-not-is_handle.false)
    (sym (c.owned_by.ensures ∙ ap (λ n. find (λ x. (x.stream == n) && ((c.args.client == MANAGER) || (x.client == c.args.client)))
    c.args.self.now.owned) c.word_at.ensures) ∙ ap (option_map (λ o. o.now)) c.in-Some.is)
