use Rattle.std.proofs.Common.{◌≡◌, true, subst, Err}
use Rattle.wf_model.specs.Core.{room}
use Rattle.wf_objects.specs.Sides.{core_side_of}
use Rattle.wf_objects.proofs.objects.Objects.deny_link.Goals as goal

pub returns : goal.returns
returns c =
    let core = c.args.self.now in
    subst (λ b. room b true (core_side_of core c.args.store.now) ≡ Err c.deny.result) c.sources_full.ensures (c.deny.ensures core)
