use Rattle.std.proofs.Common.{◌≡◌, true, length, subst, ap, arith, Err}
use Rattle.std.specs.Prelude.{nat_le}
use Rattle.wf_model.specs.Core.{room}
use Rattle.wf_objects.specs.Sides.{core_side_of}
use Rattle.wf_objects.proofs.objects.Objects.deny_device.Goals as goal
use Rattle.wf_model.specs.declared.TheConstants.{MOST_DEVICES}

pub returns : goal.returns
returns c =
    let core = c.args.self.now in
    let count : c.len.result ≡ length core.devices = omega (arith, c.len.ensures, ap (λ k. length k.devices) c.self.view_is) in
    subst (λ n. room (nat_le MOST_DEVICES n) true (core_side_of core c.args.store.now) ≡ Err c.deny.result) count (c.deny.ensures core)
