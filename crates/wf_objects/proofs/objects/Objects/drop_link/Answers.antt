use Rattle.std.proofs.Common.{◌≡◌, ℕ, ◌+◌, ◌<◌, [], ◌∷◌, is_some, sym, ap, ◌∙◌}
use Rattle.wf_stream.specs.Counts.{times}
use Rattle.wf_model.specs.Core.{without_source}
use Rattle.wf_model.specs.Names.{core_names}
use Rattle.wf_objects.specs.Links.{link_kind, links, with_links}
use Rattle.wf_objects.proofs.NameCounts.{link_less}
use Rattle.std.proofs.Common.{refl, subst}
use Rattle.wf_model.specs.Objects.{CoreState}
use Rattle.wf_stream.specs.Renames.{Renames}
use Rattle.wf_objects.proofs.NamesOfObjectsGone.{ended_fit, ended_fits, ended_loses, ended_names}
use Rattle.wf_objects.proofs.LayerNames.{alone}
use Rattle.wf_objects.proofs.ObjectsLoseTheirs.{Linked, apart, linked_at, rises_links}
use Rattle.wf_objects.proofs.ObjectsGoneStillFit.{dead, link_dropped, link_loses, link_under}
use Rattle.wf_life.specs.Living.{lives}
use Rattle.wf_objects.proofs.objects.Objects.drop_link.Goals as goal
use Rattle.wf_objects.proofs.objects.Objects.drop_link.Goals.{After-end_name, After-stream_of-stream, Start}

pub drop_handle-requires : goal.drop_handle-requires
drop_handle-requires c =
    let a = c.args in
    lives a.link (link_kind a.mask) a.store.now.others (link_under a.self.now a.store.now c.requires.fits a.link a.mask c.requires.live)

-- the source or the mask
linked : (c : Start) → Linked c.args.self.now c.args.store.now c.args.link c.args.mask
linked c = linked_at c.args.self.now c.args.store.now c.requires.fits c.args.link c.args.mask c.requires.live

pub stream_of-stream-requires : goal.stream_of-stream-requires
stream_of-stream-requires c = ap is_some (linked c).key

-- what is left of the objects
abbrev left : After-stream_of-stream → CoreState
left c = with_links c.args.mask (without_source c.args.link (links c.args.mask c.args.self.now)) c.args.self.now

-- its name is one of those that were
leaves : (c : After-stream_of-stream) (n : ℕ) → 0 < n
    → times n (core_names (left c)) + times n (c.stream_of-stream.result ∷ []) ≡ times n (core_names c.args.self.now)
leaves c n some =
    let a = c.args in
    let x = linked (goal.at.After-stream_of-stream c).Start in
    let stream : x.source.stream ≡ c.stream_of-stream.result = let both = sym x.key ∙ c.stream_of-stream.ensures in cc in
    rw (← stream) (link_less n a.self.now a.mask a.link x.source
    (rises_links a.self.now a.store.now c.requires.fits.handles a.mask) x.found)

-- its name ended
ended : (c : After-end_name) → Renames (c.stream_of-stream.result ∷ []) [] (dead c.args.link c.args.store.now) c.end_name.new.store
ended c =
    subst (λ v. Renames (c.stream_of-stream.result ∷ []) [] v c.end_name.new.store) c.drop_handle.ensures
    (record { names = c.end_name.ensures.names; none = c.end_name.ensures.none; rest = c.end_name.ensures.rest })

pub end_name-requires-clause-named : goal.end_name-requires-clause-named
end_name-requires-clause-named c =
    let a = c.args in
    let k = (goal.at.end_name-requires-clause-named c).After-stream_of-stream in
    alone c.stream_of-stream.result c.drop_handle.new.store
    (rw c.drop_handle.ensures (ended_fit a.self.now (left k) a.store.now (dead a.link a.store.now) refl refl
    (c.stream_of-stream.result ∷ [])
    c.requires.names (leaves k)))

pub returns-clause-loses : goal.returns-clause-loses
returns-clause-loses c =
    let a = c.args in
    let k = (goal.at.returns-clause-loses c).After-stream_of-stream in
    let u = link_under a.self.now a.store.now c.requires.fits a.link a.mask c.requires.live in
    ended_loses a.self.now (left k) a.store.now (dead a.link a.store.now) refl refl (c.stream_of-stream.result ∷ []) c.requires.names
    (leaves k) c.end_name.new.store (ended (goal.at.returns-clause-loses c).After-end_name)
    (link_loses a.self.now a.store.now c.requires.fits a.link a.mask u)

pub returns-clause-names : goal.returns-clause-names
returns-clause-names c =
    let a = c.args in
    let k = (goal.at.returns-clause-names c).After-stream_of-stream in
    rw c.leave_out_link.ensures (ended_names a.self.now (left k) a.store.now (dead a.link a.store.now) refl refl
    (c.stream_of-stream.result ∷ []) c.requires.names (leaves k) c.end_name.new.store
    (ended (goal.at.returns-clause-names c).After-end_name))

pub returns-clause-fits : goal.returns-clause-fits
returns-clause-fits c =
    let a = c.args in
    let k = (goal.at.returns-clause-fits c).After-stream_of-stream in
    let u = link_under a.self.now a.store.now c.requires.fits a.link a.mask c.requires.live in
    rw c.leave_out_link.ensures (ended_fits a.self.now (left k) a.store.now (dead a.link a.store.now) refl refl
    (c.stream_of-stream.result ∷ []) c.requires.names (leaves k) c.end_name.new.store
    (ended (goal.at.returns-clause-fits c).After-end_name) (link_dropped a.self.now a.store.now c.requires.fits a.link a.mask u))

pub leave_out_link-requires-clause-rises : goal.leave_out_link-requires-clause-rises
leave_out_link-requires-clause-rises c = rises_links c.args.self.now c.args.store.now c.requires.fits.handles c.args.mask

pub leave_out_link-requires-clause-alone : goal.leave_out_link-requires-clause-alone
leave_out_link-requires-clause-alone c = apart c.args.self.now c.args.store.now c.requires.fits c.args.link c.args.mask c.requires.live
