use Rattle.std.proofs.Common.{rules, ◌≡◌, ◌++◌, ◌∷◌, [], ◌+◌, None, Ok, length, false, subst, sym, ap, refl, arith}
use Rattle.std.proofs.lemmas.Bool.{lt-leb}
use Rattle.std.specs.Prelude.{nat_le}
use Rattle.wf_life.specs.declared.Kind.TheVariants as kind
use Rattle.wf_stream.specs.Streams.{with_other}
use Rattle.wf_model.specs.Objects.{CoreState}
use Rattle.wf_model.specs.Core.{device_new}
use Rattle.wf_model.specs.Names.{core_names}
use Rattle.wf_objects.specs.Does.{Does, refuses, unchanged}
use Rattle.wf_stream.specs.Renames.{names_stay}
use Rattle.wf_objects.specs.Inside.{tables_of}
use Rattle.wf_objects.proofs.MembersTellTables.{device_tracked, devices_room, fresh_device, no_device_open, tracked_as}
use Rattle.wf_objects.proofs.CreationsFit.{creates, device_fits}
use Rattle.wf_objects.proofs.objects.Objects.add_device.Goals as goal
use Rattle.wf_model.specs.declared.TheConstants.{MOST_DEVICES}

pub open-requires-clause-closed : goal.open-requires-clause-closed
open-requires-clause-closed c =
    let s = c.self.inside in
    let core = c.args.self.now in
    rw c.in_ok-handle.ensures.handle (no_device_open s.members s.linked core (tracked_as s core c.self.invariant c.self.view_is)
    (c.args.store.now.made + 1) (fresh_device core c.args.store.now c.requires.handles))

pub open-requires-clause-room : goal.open-requires-clause-room
open-requires-clause-room c =
    let s = c.self.inside in
    let core = c.args.self.now in
    devices_room s.members s.linked core (tracked_as s core c.self.invariant c.self.view_is)
    (omega (arith, c.if-len-ge-MOST_DEVICES.false, c.len.ensures, ap (λ k. length k.devices) c.self.view_is))

pub invariant_of-self : goal.invariant_of-self
invariant_of-self c =
    let s = c.self.inside in
    record {
      devices = omega (arith, c.self.invariant.devices, c.push_reserved.ensures.capacity);
      contexts = c.self.invariant.contexts;
      sources = c.self.invariant.sources;
      masks = c.self.invariant.masks;
      layers = c.self.invariant.layers;
      tracked = rw c.push_reserved.ensures.items
          (device_tracked s.members s.linked (tables_of s) c.self.invariant.tracked _
          (record { handle = c.in_ok-handle.handle; register = None }) c.open.ensures);
    }

pub returns : goal.returns
returns c =
    let core = c.args.self.now in
    let store = c.args.store.now in
    let grown : CoreState → CoreState =
    λ k. record k { devices = k.devices ++ record { handle = store.made + 1; register = None } ∷ [] } in
    let below : nat_le MOST_DEVICES (length core.devices) ≡ false = lt-leb MOST_DEVICES (length core.devices)
    (omega (arith, c.if-len-ge-MOST_DEVICES.false, c.len.ensures, ap (λ k. length k.devices) c.self.view_is)) in
    rw (c.in_ok-handle.ensures.made, c.push_reserved.ensures.items, c.in_ok-handle.ensures.handle)
    (subst (λ k. Does device_new core (grown k) store (with_other kind.Device 0 store) (Ok (store.made + 1)))
    (sym c.self.view_is)
    (creates core store c.requires device_new (nat_le MOST_DEVICES (length core.devices)) (grown core) (λ m. refl) kind.Device 0 refl refl
    below c.in_ok-handle.ensures.stopped (with_other kind.Device 0 store) refl
    (names_stay (core_names core) (core_names (grown core)) store (with_other kind.Device 0 store) refl refl (λ n some. refl))
    (device_fits core store c.requires)))

pub returns-then-len-ge-MOST_DEVICES : goal.returns-then-len-ge-MOST_DEVICES
returns-then-len-ge-MOST_DEVICES c = refuses device_new c.args.self.now c.args.store.now c.of.result c.requires (search rules)

pub returns-in_err-handle : goal.returns-in_err-handle
returns-in_err-handle c =
    record {
      case = search rules;
      refused = search rules;
      untouched = search rules;
      kept = search rules;
      names = unchanged c.args.self.now c.args.store.now c.mint.new.store (search rules);
      fits = search rules;
    }
