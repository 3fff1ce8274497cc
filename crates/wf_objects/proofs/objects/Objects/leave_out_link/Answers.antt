use Rattle.std.proofs.Common.{◌≡◌, ◌==◌, Bool, true, false, not, subst, sym, arith}
use Rattle.std.specs.List.{list_any}
use Rattle.wf_words.specs.Rising.{Rises}
use Rattle.wf_model.specs.Core.{without_source}
use Rattle.wf_objects.specs.Inside.{tables_of}
use Rattle.wf_objects.specs.Links.{links, with_links}
use Rattle.wf_objects.specs.Tracks.{AreTracked}
use Rattle.wf_objects.proofs.MembersTellTables.{a_context_has, link_untracked, tracked_as}
use Rattle.wf_objects.proofs.objects.Objects.leave_out_link.Goals as goal
use Rattle.wf_objects.proofs.objects.Objects.leave_out_link.Goals.{After-remove}

pub remove-requires : goal.remove-requires
remove-requires c =
    let s = c.self.inside in
    let core = c.args.self.now in
    a_context_has s.members s.linked core (tracked_as s core c.self.invariant c.self.view_is) c.args.mask c.args.handle c.requires.live

-- what is left is tracked
tracked : (c : After-remove) (mask : Bool) → c.args.mask ≡ mask → AreTracked c.self.inside.members c.remove.new.self
    (with_links mask (without_source c.args.handle (links mask (tables_of c.self.inside))) (tables_of c.self.inside))
tracked c mask is =
    let s = c.self.inside in
    let h = c.args.handle in
    link_untracked s.members s.linked (tables_of s) c.self.invariant.tracked c.remove.new.self mask h c.remove.ensures
    (subst (λ k. Rises (λ x. x.handle) 0 (links mask k)) (sym c.self.view_is)
    (subst (λ b. Rises (λ x. x.handle) 0 (links b c.args.self.now)) is c.requires.rises))
    (subst (λ k. list_any (λ x. x.handle == h) (links mask k) ≡ true) (sym c.self.view_is)
    (subst (λ b. list_any (λ x. x.handle == h) (links b c.args.self.now) ≡ true) is c.requires.live))
    (subst (λ k. list_any (λ x. x.handle == h) (links (not mask) k) ≡ false) (sym c.self.view_is)
    (subst (λ b. list_any (λ x. x.handle == h) (links (not b) c.args.self.now) ≡ false) is c.requires.alone))

pub invariant_of-self : goal.invariant_of-self
invariant_of-self c =
    record {
      devices = c.self.invariant.devices;
      contexts = c.self.invariant.contexts;
      sources = c.self.invariant.sources;
      masks = omega (arith, c.self.invariant.masks, c.leave_out.ensures.capacity);
      layers = c.self.invariant.layers;
      tracked = rw c.leave_out.ensures.left (tracked (goal.at.invariant_of-self c).After-remove true c.if-mask.true);
    }

pub invariant_of-self-else-mask : goal.invariant_of-self-else-mask
invariant_of-self-else-mask c =
    record {
      devices = c.self.invariant.devices;
      contexts = c.self.invariant.contexts;
      sources = omega (arith, c.self.invariant.sources, c.leave_out-else-mask.ensures.capacity);
      masks = c.self.invariant.masks;
      layers = c.self.invariant.layers;
      tracked = rw c.leave_out-else-mask.ensures.left (tracked (goal.at.invariant_of-self-else-mask c).After-remove false c.if-mask.false);
    }
