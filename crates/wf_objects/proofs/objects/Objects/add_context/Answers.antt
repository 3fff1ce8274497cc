use Rattle.std.proofs.Common.{◌≡◌, ◌++◌, ◌∷◌, [], ◌+◌, ◌==◌, not, false, length, subst, sym, ap, refl, arith, Ok}
use Rattle.std.specs.Prelude.{nat_le}
use Rattle.std.proofs.lemmas.Bool.{lt-leb}
use Rattle.wf_life.specs.declared.Kind.TheVariants as kind
use Rattle.wf_stream.specs.Streams.{with_other}
use Rattle.wf_scene.specs.Cached.{empty}
use Rattle.wf_model.specs.Objects.{Context, CoreState}
use Rattle.wf_model.specs.Core.{blank_scene}
use Rattle.wf_objects.specs.Does.{Does, context_made}
use Rattle.wf_objects.specs.Fits.{ContextFits}
use Rattle.wf_objects.specs.Inside.{tables_of}
use Rattle.wf_objects.proofs.Lookups.{device_lives}
use Rattle.wf_objects.proofs.MembersTellTables.{context_tracked, contexts_room, fresh_context, live_device_open, no_context_open}
use Rattle.wf_objects.proofs.MembersTellTables.{no_device_has}
use Rattle.wf_objects.proofs.MembersTellTables.{owners_room, tracked_as}
use Rattle.wf_objects.proofs.CreationsFit.{context_fits, creates}
use Rattle.std.proofs.Common.{rules, ◌∙◌}
use Rattle.std.proofs.lemmas.Grind.{common_steps}
use Rattle.wf_words.specs.Each.{each_more}
use Rattle.wf_stream.specs.Names.{but_names}
use Rattle.wf_objects.specs.Does.{refuses, unchanged}
use Rattle.wf_objects.specs.Inside.{HasFewLayers}
use Rattle.wf_objects.proofs.NamesOfObjectsGone.{begun_fits, begun_names}
use Rattle.wf_objects.proofs.NameCounts.{context_more}
use Rattle.wf_objects.proofs.objects.Objects.add_context.Goals as goal
use Rattle.wf_model.specs.declared.TheConstants.{MOST_CONTEXTS}

pub add-requires-clause-is_open : goal.add-requires-clause-is_open
add-requires-clause-is_open c =
    let s = c.self.inside in
    let a = c.args in
    live_device_open s.members s.linked a.self.now (tracked_as s a.self.now c.self.invariant c.self.view_is) a.device
    (device_lives a.device a.self.now a.store.now c.requires.live)

pub add-requires-clause-nobodys : goal.add-requires-clause-nobodys
add-requires-clause-nobodys c =
    let s = c.self.inside in
    let a = c.args in
    rw c.in_ok-handle.ensures.handle (no_device_has s.members s.linked a.self.now (tracked_as s a.self.now c.self.invariant c.self.view_is)
    (a.store.now.made + 1) (fresh_context a.self.now a.store.now c.requires.fits.handles))

pub open-requires-clause-closed : goal.open-requires-clause-closed
open-requires-clause-closed c =
    let s = c.self.inside in
    let a = c.args in
    let tracked = tracked_as s a.self.now c.self.invariant c.self.view_is in
    rw c.in_ok-handle.ensures.handle (no_context_open s.members s.linked a.self.now tracked
    (a.store.now.made + 1) (fresh_context a.self.now a.store.now c.requires.fits.handles))

pub open-requires-clause-room : goal.open-requires-clause-room
open-requires-clause-room c =
    let s = c.self.inside in
    let core = c.args.self.now in
    owners_room s.members s.linked core (tracked_as s core c.self.invariant c.self.view_is)
    (omega (arith, c.if-len-ge-MOST_CONTEXTS.false, c.len.ensures, ap (λ k. length k.contexts) c.self.view_is))

pub add-requires-clause-room : goal.add-requires-clause-room
add-requires-clause-room c =
    let s = c.self.inside in
    let core = c.args.self.now in
    contexts_room s.members s.linked core (tracked_as s core c.self.invariant c.self.view_is)
    (omega (arith, c.if-len-ge-MOST_CONTEXTS.false, c.len.ensures, ap (λ k. length k.contexts) c.self.view_is))

pub invariant_of-self : goal.invariant_of-self
invariant_of-self c =
    let s = c.self.inside in
    record {
      devices = c.self.invariant.devices;
      contexts = omega (arith, c.self.invariant.contexts, c.push_reserved.ensures.capacity);
      sources = c.self.invariant.sources;
      masks = c.self.invariant.masks;
      layers = rw c.push_reserved.ensures.items (each_more HasFewLayers s.contexts.items _ c.self.invariant.layers
          (rw c.blank_scene.ensures (omega arith)));
      tracked = rw c.push_reserved.ensures.items
          (context_tracked s.members s.linked (tables_of s) c.self.invariant.tracked _ _ _ c.add.ensures c.open.ensures);
    }

pub returns : goal.returns
returns c =
    let a = c.args in
    let core = a.self.now in
    let store = a.store.now in
    let now = c.begin_name.new.store in
    let new : Context =
    record {
      handle = store.made + 1;
      device = a.device;
      port = a.port;
      target = a.target.stream;
      active = false;
      cached = empty a.target.size (not (a.port == 0));
      committed = blank_scene a.target.size;
    } in
    let grown : CoreState → CoreState = λ k. record k { contexts = k.contexts ++ new ∷ [] } in
    let below : nat_le MOST_CONTEXTS (length core.contexts) ≡ false = lt-leb MOST_CONTEXTS (length core.contexts)
    (omega (arith, c.if-len-ge-MOST_CONTEXTS.false, c.len.ensures, ap (λ k. length k.contexts) c.self.view_is)) in
    let fit : ContextFits store.streams new = record { target = c.requires.kept; size = refl; layers = tt } in
    let made = c.in_ok-handle.ensures.made in
    let rest = c.begin_name.ensures.rest ∙ ap but_names made in
    rw (c.push_reserved.ensures.items, c.in_ok-handle.ensures.handle, c.in-Ok.ensures, c.blank_scene.ensures)
    (subst (λ k. Does (context_made a.device a.port a.target) core (grown k) store now (Ok (store.made + 1))) (sym c.self.view_is)
    (creates core store c.requires.fits (context_made a.device a.port a.target) (nat_le MOST_CONTEXTS (length core.contexts)) (grown core)
    (λ m. refl) kind.Context a.device refl refl below c.in_ok-handle.ensures.stopped now rest
    (begun_names core (grown core) store c.mint.new.store (ap (λ v. v.streams) made) (ap (λ v. v.counts) made) (a.target.stream ∷ []) now
    c.begin_name.ensures.names (λ n some. context_more n core new))
    (begun_fits (grown core) (with_other kind.Context a.device store) now (c.begin_name.ensures.streams ∙ ap (λ v. v.streams) made) rest
    (context_fits core store c.requires.fits new refl refl fit))))

pub returns-then-len-ge-MOST_CONTEXTS : goal.returns-then-len-ge-MOST_CONTEXTS
returns-then-len-ge-MOST_CONTEXTS c =
    refuses (context_made c.args.device c.args.port c.args.target) c.args.self.now c.args.store.now c.of.result c.requires.fits
    (grind (arith, common_steps))

pub returns-in_default : goal.returns-in_default
returns-in_default c =
    refuses (context_made c.args.device c.args.port c.args.target) c.args.self.now c.args.store.now c.of-in_default.result c.requires.fits
    (grind (arith, common_steps))

pub returns-in_err-handle : goal.returns-in_err-handle
returns-in_err-handle c =
    record {
      case = grind (arith, common_steps);
      refused = search rules;
      untouched = search rules;
      kept = search rules;
      names = unchanged c.args.self.now c.args.store.now c.mint.new.store (search rules);
      fits = search rules;
    }
