use Rattle.std.proofs.Common.{refl, arith}
use Rattle.std.proofs.lemmas.List.{with_items_is}
use Rattle.wf_model.specs.Composition.{recorded}
use Rattle.wf_objects.specs.Inside.{tables_of}
use Rattle.wf_objects.proofs.MembersTellTables.{registers_tracked}
use Rattle.wf_objects.proofs.ChangesStillFit.{register_fits}
use Rattle.wf_objects.proofs.objects.Objects.record.Goals as goal

pub invariant_of-self : goal.invariant_of-self
invariant_of-self c =
    let s = c.self.inside in
    record {
      devices = c.self.invariant.devices;
      contexts = c.self.invariant.contexts;
      sources = c.self.invariant.sources;
      masks = c.self.invariant.masks;
      layers = c.self.invariant.layers;
      tracked = rw (with_items_is s.devices c.record_in.new.devices (omega arith), c.record_in.ensures, c.deref_mut.ensures.value)
          (registers_tracked s.members s.linked (tables_of s) c.self.invariant.tracked c.args.device (recorded c.args.code));
    }

pub returns-clause-fits : goal.returns-clause-fits
returns-clause-fits c =
    λ store fits. register_fits c.args.device (recorded c.args.code) c.args.self.now _ store
    (rw (
      with_items_is c.self.inside.devices c.record_in.new.devices (omega arith),
      c.record_in.ensures,
      c.deref_mut.ensures.value,
      ← c.self.view_is,
    ) refl) fits
