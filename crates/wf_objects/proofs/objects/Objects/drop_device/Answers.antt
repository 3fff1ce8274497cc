use Rattle.std.proofs.Common.{◌==◌}
use Rattle.wf_objects.proofs.Lookups.{device_lives}
use Rattle.wf_objects.proofs.Members.{any_out}
use Rattle.wf_model.specs.Names.{core_names}
use Rattle.wf_stream.specs.Renames.{then_named}
use Rattle.wf_objects.proofs.objects.Objects.drop_device.Goals as goal

pub drop_bare_device-requires-clause-live : goal.drop_bare_device-requires-clause-live
drop_bare_device-requires-clause-live c =
    let a = c.args in
    rw c.drop_contexts.ensures.dropped (device_lives a.device a.self.now a.store.now c.requires.live)

pub drop_bare_device-requires-clause-bare : goal.drop_bare_device-requires-clause-bare
drop_bare_device-requires-clause-bare c =
    let d = c.args.device in
    rw c.drop_contexts.ensures.dropped (any_out (λ x. x.device == d) (λ x. x.device == d) (λ x out. out) c.args.self.now.contexts)

pub returns-clause-names : goal.returns-clause-names
returns-clause-names c =
    then_named c.args.store.now c.drop_contexts.new.store c.drop_bare_device.new.store (core_names c.args.self.now)
    (core_names c.drop_contexts.new.self) (core_names c.drop_bare_device.new.self) c.requires.names.counted c.drop_contexts.ensures.names
    c.drop_bare_device.ensures.names
