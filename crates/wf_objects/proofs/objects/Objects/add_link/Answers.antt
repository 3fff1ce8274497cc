use Rattle.std.proofs.Common.{rules, ◌++◌, ◌∷◌, [], ◌+◌, ◌∙◌, sym, refl}
use Rattle.wf_model.specs.Objects.{Source}
use Rattle.wf_model.specs.Core.{sources_full}
use Rattle.wf_objects.specs.Does.{link_made, refuses, unchanged}
use Rattle.wf_objects.specs.Links.{link_kind, links, with_links}
use Rattle.wf_objects.specs.Sides.{core_side_of}
use Rattle.wf_objects.proofs.CreationsFit.{creates, link_fits, link_is_ours}
use Rattle.std.proofs.Common.{◌≡◌, ap, arith}
use Rattle.std.proofs.lemmas.Grind.{common_steps}
use Rattle.wf_stream.specs.Names.{but_names}
use Rattle.wf_stream.specs.Streams.{with_other}
use Rattle.wf_objects.proofs.NamesOfObjectsGone.{begun_fits, begun_names}
use Rattle.wf_objects.proofs.NameCounts.{link_more}
use Rattle.wf_objects.proofs.MembersTellTables.{fresh_link}
use Rattle.wf_objects.proofs.objects.Objects.add_link.Goals as goal

pub returns-then-sources_full : goal.returns-then-sources_full
returns-then-sources_full c =
    refuses (link_made c.args.mask c.args.context c.args.stream) c.args.self.now c.args.store.now c.of.result c.requires.fits (search rules)

pub returns-in_err-handle : goal.returns-in_err-handle
returns-in_err-handle c =
    record {
      case = grind (arith, common_steps);
      refused = search rules;
      untouched = search rules;
      kept = search rules;
      names = unchanged c.args.self.now c.args.store.now c.mint.new.store (search rules);
      fits = search rules;
    }

pub push_link-requires-clause-fresh : goal.push_link-requires-clause-fresh
push_link-requires-clause-fresh c =
    λ mask. rw c.in_ok-handle.ensures.handle (fresh_link c.args.self.now c.args.store.now c.requires.fits.handles mask)

pub returns : goal.returns
returns c =
    let a = c.args in
    let core = a.self.now in
    let store = a.store.now in
    let now = c.begin_name.new.store in
    let new : Source = record { handle = store.made + 1; context = a.context; stream = a.stream } in
    let left = with_links a.mask (links a.mask core ++ new ∷ []) core in
    let ours = link_is_ours a.mask in
    let made : c.mint.new.store ≡ with_other (link_kind a.mask) a.stream store = rw c.link_kind.ensures at c.in_ok-handle.ensures.made in
    let rest = c.begin_name.ensures.rest ∙ ap but_names made in
    rw (c.push_link.ensures, c.in_ok-handle.ensures.handle)
    (creates core store c.requires.fits (link_made a.mask a.context a.stream) (sources_full (core_side_of core store)) left (λ m. refl)
    (link_kind a.mask) a.stream ours.0 ours.1 (sym c.sources_full.ensures ∙ c.if-sources_full.false) c.in_ok-handle.ensures.stopped now rest
    (begun_names core left store c.mint.new.store (ap (λ v. v.streams) made) (ap (λ v. v.counts) made) (a.stream ∷ []) now
    c.begin_name.ensures.names (λ n some. link_more n core a.mask new))
    (begun_fits left (with_other (link_kind a.mask) a.stream store) now (c.begin_name.ensures.streams ∙ ap (λ v. v.streams) made) rest
    (link_fits core store c.requires.fits a.mask new refl c.requires.kept)))
