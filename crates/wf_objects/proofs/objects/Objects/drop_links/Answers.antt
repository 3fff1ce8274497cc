use Rattle.std.proofs.Common.{◌≡◌, ◌∙◌, ◌&&◌, ◌==◌, true, refl, sym, ap}
use Rattle.std.specs.List.{list_any}
use Rattle.wf_words.specs.Found.{any_first}
use Rattle.wf_model.specs.Core.{without_source}
use Rattle.wf_model.specs.Names.{core_names}
use Rattle.wf_stream.specs.Renames.{named_again, then_named}
use Rattle.wf_objects.specs.Does.{unchanged}
use Rattle.wf_objects.specs.Links.{links}
use Rattle.wf_objects.specs.Losses.{but_links}
use Rattle.wf_objects.proofs.ObjectsGoneStillFit.{then_lost}
use Rattle.wf_objects.proofs.Members.{lowest_in}
use Rattle.wf_objects.proofs.ObjectsLoseTheirs.{IsLinkOf, fewer_links, kind_alone, link_leaves, link_of, no_links, one_link_fewer}
use Rattle.wf_objects.proofs.ObjectsLoseTheirs.{rises_links}
use Rattle.wf_objects.proofs.MembersTellTables.{has_no_link, is_link_of, tracked_as}
use Rattle.wf_objects.proofs.objects.Objects.drop_links.Goals as goal
use Rattle.wf_objects.proofs.objects.Objects.drop_links.Goals.{After-is_mask-mask}

-- the member that was told is a source or a mask of the context
owned : (c : After-is_mask-mask) → list_any (λ s. (s.handle == c.in-Some.link) && (s.context == c.args.context))
    (links c.is_mask-mask.result c.loop-link.self) ≡ true
owned c =
    let s = c.self.inside in
    let l = c.loop-link in
    let h = c.in-Some.link in
    is_link_of s.members s.linked l.self (tracked_as s l.self c.self.invariant c.self.view_is) c.is_mask-mask.result c.args.context h
    (lowest_in h _ (sym c.in-Some.is ∙ c.first.ensures))
    (kind_alone l.self l.store l.invariant.fits h c.is_mask-mask.result c.is_mask-mask.ensures)

link : (c : After-is_mask-mask) → IsLinkOf c.args.context c.in-Some.link (links c.is_mask-mask.result c.loop-link.self)
link c =
    let l = c.loop-link in
    link_of l.self l.store l.invariant.fits.handles c.is_mask-mask.result c.args.context c.in-Some.link (owned c)

pub drop_link-requires-clause-live : goal.drop_link-requires-clause-live
drop_link-requires-clause-live c =
    any_first (λ s. s.handle == c.in-Some.link) (λ s. s.context == c.args.context) (links c.is_mask-mask.result c.loop-link.self)
    (owned (goal.at.drop_link-requires-clause-live c).After-is_mask-mask)

pub drop_link-requires-clause-names : goal.drop_link-requires-clause-names
drop_link-requires-clause-names c =
    let l = c.loop-link in
    named_again c.args.store.now l.store (core_names c.args.self.now) (core_names l.self) c.requires.names l.invariant.names

pub loop-link-smaller : goal.loop-link-smaller
loop-link-smaller c =
    rw c.drop_link.ensures.dropped (fewer_links c.is_mask-mask.result c.args.context c.in-Some.link c.loop-link.self
    (link (goal.at.loop-link-smaller c).After-is_mask-mask))

pub loop-link-preserved : goal.loop-link-preserved
loop-link-preserved c =
    let l = c.loop-link in
    let mask = c.is_mask-mask.result in
    let xs = links mask l.self in
    record {
      fits = c.drop_link.ensures.fits;
      names = then_named c.args.store.now l.store c.drop_link.new.store (core_names c.args.self.now) (core_names l.self)
          (core_names c.drop_link.new.self) c.requires.names.counted l.invariant.names c.drop_link.ensures.names;
      loses = then_lost _ l.store _ l.invariant.loses c.drop_link.ensures.loses;
      rest = ap (but_links c.args.context) c.drop_link.ensures.dropped
          ∙ one_link_fewer mask c.args.context (without_source c.in-Some.link xs) l.self
          (link_leaves c.args.context c.in-Some.link xs (rises_links l.self l.store l.invariant.fits.handles mask)
          (link (goal.at.loop-link-preserved c).After-is_mask-mask))
          ∙ l.invariant.rest;
    }

pub returns-clause-dropped : goal.returns-clause-dropped
returns-clause-dropped c =
    let l = c.loop-link in
    let s = c.self.inside in
    sym (no_links c.args.context l.self (has_no_link s.members s.linked l.self (tracked_as s l.self c.self.invariant c.self.view_is)
    c.args.context (sym c.in_default.is ∙ c.first.ensures))) ∙ l.invariant.rest

pub loop-link-init : goal.loop-link-init
loop-link-init c =
    record {
      fits = c.requires.fits;
      loses = record { rest = refl; others = refl; display = refl };
      names = unchanged c.args.self.now c.args.store.now c.args.store.now refl;
      rest = refl;
    }
