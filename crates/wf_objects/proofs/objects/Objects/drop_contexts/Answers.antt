use Rattle.std.proofs.Common.{◌≡◌, ◌∙◌, ◌&&◌, ◌==◌, true, sym, ap}
use Rattle.std.specs.List.{list_any}
use Rattle.wf_words.specs.Found.{any_first}
use Rattle.wf_objects.specs.Losses.{but_contexts_of}
use Rattle.wf_objects.proofs.ObjectsGoneStillFit.{then_lost}
use Rattle.wf_objects.proofs.ObjectsLoseTheirs.{contexts_fewer, no_contexts, one_context_fewer, one_of}
use Rattle.wf_objects.proofs.Members.{lowest_in}
use Rattle.wf_objects.proofs.MembersTellTables.{has_no_context, is_context_of, tracked_as}
use Rattle.wf_words.specs.Found.{none_at}
use Rattle.wf_model.specs.Names.{core_names}
use Rattle.wf_stream.specs.Renames.{named_again, then_named}
use Rattle.std.proofs.Common.{refl}
use Rattle.wf_objects.specs.Does.{unchanged}
use Rattle.wf_objects.proofs.objects.Objects.drop_contexts.Goals as goal
use Rattle.wf_objects.proofs.objects.Objects.drop_contexts.Goals.{In-Some}

-- the member that was told is a context of the device
owned : (c : In-Some) → list_any (λ x. (x.handle == c.in-Some.context) && (x.device == c.args.device)) c.loop-context.self.contexts ≡ true
owned c =
    let s = c.self.inside in
    let h = c.in-Some.context in
    let core = c.loop-context.self in
    is_context_of s.members s.linked core (tracked_as s core c.self.invariant c.self.view_is) c.args.device h
    (lowest_in h _ (sym c.in-Some.is ∙ c.first.ensures))

pub live_place-place-requires : goal.live_place-place-requires
live_place-place-requires c =
    any_first (λ x. x.handle == c.in-Some.context) (λ x. x.device == c.args.device) c.loop-context.self.contexts
    (owned (goal.at.live_place-place-requires c).In-Some)

pub loop-context-smaller : goal.loop-context-smaller
loop-context-smaller c =
    let l = c.loop-context in
    let x = one_of l.self l.store l.invariant.fits c.args.device c.in-Some.context (owned (goal.at.loop-context-smaller c).In-Some) in
    rw (c.drop_context.ensures.dropped, ← x.handle_is)
    (contexts_fewer l.self l.store l.invariant.fits c.args.device x.context x.found x.owned)

pub loop-context-preserved : goal.loop-context-preserved
loop-context-preserved c =
    let l = c.loop-context in
    let d = c.args.device in
    let x = one_of l.self l.store l.invariant.fits d c.in-Some.context (owned (goal.at.loop-context-preserved c).In-Some) in
    record {
      fits = c.drop_context.ensures.fits;
      names = then_named c.args.store.now l.store c.drop_context.new.store (core_names c.args.self.now) (core_names l.self)
          (core_names c.drop_context.new.self) c.requires.names.counted l.invariant.names c.drop_context.ensures.names;
      loses = then_lost _ l.store _ l.invariant.loses c.drop_context.ensures.loses;
      rest = ap (but_contexts_of d) c.drop_context.ensures.dropped
          ∙ rw x.handle_is at (one_context_fewer l.self l.store l.invariant.fits d x.context x.found x.owned) ∙ l.invariant.rest;
    }

pub returns-clause-dropped : goal.returns-clause-dropped
returns-clause-dropped c =
    let l = c.loop-context in
    let s = c.self.inside in
    let d = c.args.device in
    let none = none_at (λ x. x.device == d) l.self.contexts
    (has_no_context s.members s.linked l.self (tracked_as s l.self c.self.invariant c.self.view_is) d
    (sym c.in_default.is ∙ c.first.ensures)) in
    sym (no_contexts d l.self none) ∙ l.invariant.rest

pub drop_context-requires-clause-names : goal.drop_context-requires-clause-names
drop_context-requires-clause-names c =
    let l = c.loop-context in
    named_again c.args.store.now l.store (core_names c.args.self.now) (core_names l.self) c.requires.names l.invariant.names

pub loop-context-init : goal.loop-context-init
loop-context-init c =
    record {
      fits = c.requires.fits;
      loses = record { rest = refl; others = refl; display = refl };
      names = unchanged c.args.self.now c.args.store.now c.args.store.now refl;
      rest = refl;
    }
