use Rattle.std.proofs.Common.{◌≡◌, true, length, subst, ap, arith, Err}
use Rattle.std.specs.Prelude.{nat_le}
use Rattle.wf_model.specs.Core.{room}
use Rattle.wf_objects.specs.Sides.{core_side_of}
use Rattle.wf_objects.proofs.objects.Objects.deny_context.Goals as goal
use Rattle.wf_model.specs.declared.TheConstants.{MOST_CONTEXTS}

pub returns : goal.returns
returns c =
    let core = c.args.self.now in
    let count : c.len.result ≡ length core.contexts = omega (arith, c.len.ensures, ap (λ k. length k.contexts) c.self.view_is) in
    subst (λ n. room (nat_le MOST_CONTEXTS n) true (core_side_of core c.args.store.now) ≡ Err c.deny.result) count (c.deny.ensures core)
