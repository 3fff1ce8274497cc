use Rattle.wf_model.specs.Core.{get_error}
use Rattle.wf_objects.specs.Does.{refuses}
use Rattle.std.proofs.Common.{rules, ◌≡◌, ◌∙◌, sym, refl, None, arith}
use Rattle.std.proofs.lemmas.List.{with_items_is}
use Rattle.wf_words.specs.Keyed.{at_key}
use Rattle.wf_objects.specs.Inside.{tables_of}
use Rattle.wf_objects.proofs.MembersTellTables.{registers_tracked}
use Rattle.wf_objects.proofs.ChangesStillFit.{takes_error}
use Rattle.wf_objects.proofs.objects.Objects.take_error.Goals as goal

pub invariant_of-self : goal.invariant_of-self
invariant_of-self c =
    let s = c.self.inside in
    record {
      devices = c.self.invariant.devices;
      contexts = c.self.invariant.contexts;
      sources = c.self.invariant.sources;
      masks = c.self.invariant.masks;
      layers = c.self.invariant.layers;
      tracked = rw (with_items_is s.devices c.clear_in.new.devices (omega arith), c.clear_in.ensures, c.deref_mut.ensures.value)
          (registers_tracked s.members s.linked (tables_of s) c.self.invariant.tracked c.args.device (λ _. None));
    }

pub returns-in-Some : goal.returns-in-Some
returns-in-Some c =
    let a = c.args in
    let found : c.device_at.result ≡ at_key (λ x. x.handle) a.device a.self.now.devices =
    c.device_at.ensures ∙ rw (c.deref.ensures.value, ← c.self.view_is) refl in
    takes_error a.device a.self.now _ a.store.now c.in-Some.found _ c.requires (sym found ∙ c.in-Some.is)
    (rw (
      with_items_is c.self.inside.devices c.clear_in.new.devices (omega arith),
      c.clear_in.ensures,
      c.deref_mut.ensures.value,
      ← c.self.view_is,
    ) refl) c.register_number.ensures

pub returns-in-None : goal.returns-in-None
returns-in-None c =
    refuses (λ _. get_error c.args.device) c.args.self.now c.args.store.now c.of.result c.requires (search rules)
