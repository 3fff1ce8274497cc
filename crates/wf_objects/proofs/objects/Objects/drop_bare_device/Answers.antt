use Rattle.std.proofs.Common.{◌≡◌, ◌==◌, true, refl, subst, sym, arith}
use Rattle.wf_model.specs.Names.{core_names}
use Rattle.wf_stream.specs.Renames.{names_stay}
use Rattle.std.specs.List.{list_any}
use Rattle.wf_words.specs.Rising.{Rises}
use Rattle.wf_life.specs.declared.Kind.TheVariants as kind
use Rattle.wf_objects.specs.Inside.{tables_of}
use Rattle.wf_objects.proofs.MembersTellTables.{bare_device, device_untracked, live_device_open, rises_devices, tracked_as}
use Rattle.wf_objects.proofs.ObjectsGoneStillFit.{dead, device_dropped, device_under, loses}
use Rattle.wf_life.specs.Living.{lives}
use Rattle.wf_stream.specs.Names.{Recounts}
use Rattle.wf_objects.proofs.objects.Objects.drop_bare_device.Goals as goal

pub drop_handle-requires : goal.drop_handle-requires
drop_handle-requires c =
    let a = c.args in
    lives a.device kind.Device a.store.now.others (device_under a.self.now a.store.now c.requires.fits a.device c.requires.live)

pub close-requires-clause-is_open : goal.close-requires-clause-is_open
close-requires-clause-is_open c =
    let s = c.self.inside in
    let core = c.args.self.now in
    live_device_open s.members s.linked core (tracked_as s core c.self.invariant c.self.view_is) c.args.device c.requires.live

pub close-requires-clause-bare : goal.close-requires-clause-bare
close-requires-clause-bare c =
    let s = c.self.inside in
    let core = c.args.self.now in
    bare_device s.members s.linked core (tracked_as s core c.self.invariant c.self.view_is) c.args.device c.requires.bare

pub invariant_of-self : goal.invariant_of-self
invariant_of-self c =
    let s = c.self.inside in
    let a = c.args in
    record {
      devices = omega (arith, c.self.invariant.devices, c.leave_out_device.ensures.capacity);
      contexts = c.self.invariant.contexts;
      sources = c.self.invariant.sources;
      masks = c.self.invariant.masks;
      layers = c.self.invariant.layers;
      tracked = rw c.leave_out_device.ensures.left
          (device_untracked s.members s.linked (tables_of s) c.self.invariant.tracked _ a.device c.close.ensures
          (subst (λ k. Rises (λ x. x.handle) 0 k.devices) (sym c.self.view_is)
          (rises_devices a.self.now a.store.now c.requires.fits.handles))
          (subst (λ k. list_any (λ x. x.handle == a.device) k.devices ≡ true) (sym c.self.view_is) c.requires.live));
    }

pub returns-clause-loses : goal.returns-clause-loses
returns-clause-loses c =
    let a = c.args in
    let u = device_under a.self.now a.store.now c.requires.fits a.device c.requires.live in
    rw c.drop_handle.ensures (loses a.self.now a.store.now c.requires.fits.handles a.device kind.Device u refl refl)

pub returns-clause-fits : goal.returns-clause-fits
returns-clause-fits c =
    let a = c.args in
    let u = device_under a.self.now a.store.now c.requires.fits a.device c.requires.live in
    rw (c.drop_handle.ensures, c.leave_out_device.ensures.left)
    (rw (← c.self.view_is) at (device_dropped a.self.now a.store.now c.requires.fits a.device u))

pub returns-clause-names : goal.returns-clause-names
returns-clause-names c =
    let a = c.args in
    rw c.drop_handle.ensures (subst (λ k. Recounts (core_names a.self.now) (core_names k) a.store.now (dead a.device a.store.now))
    (sym c.self.view_is) (names_stay (core_names a.self.now) (core_names a.self.now) a.store.now (dead a.device a.store.now) refl refl
    (λ n some. refl)))
