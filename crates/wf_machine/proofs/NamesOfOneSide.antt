-- A call of composition or of the display changed the names of streams on its side: what it leaves of the other side, and of the
-- machine.
use Rattle.wf_machine.proofs.Common.{◌≡◌, ℕ, Bool, true, false, ◌&&◌, ◌==◌, not, filter, List, [], ◌∷◌, refl, sym, ap, subst, ◌∙◌}
use Rattle.wf_machine.proofs.Common.{arith, list_all, AllByRecursion, Live, KeptStream, StoreView, IsNumbered, Context, CoreState}
use Rattle.wf_machine.proofs.Common.{DisplayState}
use Rattle.wf_machine.proofs.Common.{core_names, display_names, kept, settle, modes_of, State, Fits, Inside, IsSound, state_of}
use Rattle.wf_life.specs.declared.Kind.{Kind}
use Rattle.wf_life.specs.declared.Kind.TheVariants as lives
use Rattle.wf_life.specs.Handles.{same_kind}
use Rattle.wf_life.specs.Living.{of_kind, same_is}
use Rattle.wf_words.specs.Filtered.{filter_twice}
use Rattle.wf_stream.specs.Names.{Recounts, left_have_counts, still_counted}
use Rattle.wf_model.specs.Counting.{CountsNames, all_times, kept_is, settled_counts}
use Rattle.wf_model.specs.Named.{KeepsNamed}
use Rattle.wf_objects.specs.Fits.{HasElements, elements_of, has_owner}
use Rattle.wf_objects.specs.Named.{still_fits}
use Rattle.wf_objects.specs.Sides.{KeepsRest, beside}
use Rattle.wf_display.specs.Fits.{Fits as Shows}
use Rattle.wf_display.specs.Named.{still_shown, zero_unseen}
use Rattle.wf_display.specs.Sides as displays
use Rattle.wf_machine.proofs.DropsKeepInvariant.{core_named, display_named, holds_left, named_seen}

-- the live handles of a kind are among those that stand beside others
of_kind_beside : (k : Kind) (among : Live → Bool) (others : List Live) → ((l : Live) → l.kind ≡ k → among l ≡ true)
    → of_kind k (filter among others) ≡ of_kind k others
of_kind_beside k among others within = filter_twice (λ l. same_kind l.kind k) among (λ l. same_kind l.kind k) both others
  where
    both : (l : Live) → (same_kind l.kind k && among l) ≡ same_kind l.kind k
    both l = of_test (same_kind l.kind k) refl
      where
        of_test : (b : Bool) → same_kind l.kind k ≡ b → (b && among l) ≡ b
        of_test true is = within l (same_is l.kind k is)
        of_test false other = refl

-- a call of composition leaves the display's handles, and so what it shows
shown_composed : (d : DisplayState) (core : CoreState) (store now : StoreView) → KeepsRest store now → Fits core now
    → KeepsNamed (display_names d) store.streams now.streams → IsNumbered 0 store.streams store.numbered → Shows d store → Shows d now
shown_composed d core store now rest fits keeps rising shows =
    record {
      handles = record {
        rising = fits.handles.rising;
        sources = same now.others ∙ ap (of_kind lives.DisplaySource) rest.others
            ∙ sym (same store.others) ∙ shows.handles.sources;
      };
      streams = (still_shown d store (record store { streams = now.streams }) refl (omega arith)
          (zero_unseen 0 store.numbered store.streams now.streams rising) keeps shows).streams;
    }
  where
    same : (others : List Live) → of_kind lives.DisplaySource others ≡ of_kind lives.DisplaySource (beside others)
    same others = sym (of_kind_beside lives.DisplaySource _ others (λ l is. rw is refl))

and_true : (b : Bool) → (b && true) ≡ b
and_true true = refl
and_true false = refl

-- a call of the display leaves those of composition
composed_shown : (core : CoreState) (d : DisplayState) (store now : StoreView) → displays.KeepsRest store now → Shows d now
    → KeepsNamed (core_names core) store.streams now.streams → Fits core store → Fits core now
composed_shown core d store now rest shows keeps fits =
    record {
      handles = record {
        rising = shows.handles.rising;
        devices = kept lives.Device (λ l is. rw is refl) ∙ fits.handles.devices;
        contexts = kept lives.Context (λ l is. rw is refl) ∙ fits.handles.contexts;
        sources = kept lives.Source (λ l is. rw is refl) ∙ fits.handles.sources;
        masks = kept lives.Mask (λ l is. rw is refl) ∙ fits.handles.masks;
        elements = each core.contexts fits.handles.elements;
        owned = sym (owned now.others) ∙ ap (list_all (has_owner core.contexts)) rest.others ∙ owned store.others ∙ fits.handles.owned;
      };
      streams = (still_fits core store (record store { streams = now.streams }) refl (omega arith) keeps fits).streams;
    }
  where
    kept : (k : Kind) → ((l : Live) → l.kind ≡ k → not (same_kind l.kind lives.DisplaySource) ≡ true)
        → of_kind k now.others ≡ of_kind k store.others
    kept k apart = sym (of_kind_beside k _ now.others apart) ∙ ap (of_kind k) rest.others ∙ of_kind_beside k _ store.others apart

    -- the elements of a context
    under : (handle : ℕ) (others : List Live) → elements_of handle (displays.beside others) ≡ elements_of handle others
    under handle others = filter_twice _ _ _ both others
      where
        both : (l : Live) → ((same_kind l.kind lives.Element && (l.key == handle)) && not (same_kind l.kind lives.DisplaySource))
            ≡ (same_kind l.kind lives.Element && (l.key == handle))
        both l = of_test (same_kind l.kind lives.Element) refl
          where
            of_test : (b : Bool) → same_kind l.kind lives.Element ≡ b
                → ((b && (l.key == handle)) && not (same_kind l.kind lives.DisplaySource)) ≡ (b && (l.key == handle))
            of_test true is = (let at : l.kind ≡ lives.Element = same_is l.kind lives.Element is in rw at (and_true (l.key == handle)))
            of_test false other = refl

    each : (cs : List Context) → AllByRecursion (HasElements store.others) cs → AllByRecursion (HasElements now.others) cs
    each [] has = tt
    each (c ∷ cs) has = (
      sym (under c.handle now.others) ∙ ap (elements_of c.handle) rest.others ∙ under c.handle store.others ∙ has.0,
      each cs has.1,
    )

    -- a source of the display is no element
    owned : (others : List Live) → list_all (has_owner core.contexts) (displays.beside others) ≡ list_all (has_owner core.contexts) others
    owned [] = refl
    owned (l ∷ others) = of_test (owned others) (same_kind l.kind lives.DisplaySource) refl
      where
        of_test : list_all (has_owner core.contexts) (displays.beside others) ≡ list_all (has_owner core.contexts) others → (b : Bool)
            → same_kind l.kind lives.DisplaySource ≡ b
            → list_all (has_owner core.contexts) (displays.beside (l ∷ others)) ≡ list_all (has_owner core.contexts) (l ∷ others)
        of_test rest true is =
            let at : l.kind ≡ lives.DisplaySource = same_is l.kind lives.DisplaySource is in
            rw (is, at) rest
        of_test rest false other = rw other (ap (λ b. has_owner core.contexts l && b) rest)

-- a call of composition
module _ (m : Inside) (sound : IsSound m) (core : CoreState) (store : StoreView) (rest : KeepsRest m.store store)
    (names : Recounts (core_names m.core) (core_names core) m.store store) (fits : Fits core store) where
  -- the state that it leaves before streams are dropped
  abbrev pub composed_state : State
  composed_state = record (state_of m) { made = store.made; core = core }

  composed_counts : CountsNames store composed_state
  composed_counts n some =
      let change = names.counts n some in
      let count = sound.counts n some in
      let before = all_times n (state_of m) in
      let after = all_times n composed_state in
      omega (arith, change, count, before, after)

  composed_streams : store.streams ≡ kept composed_state
  composed_streams = left_have_counts m.store store (core_names m.core) (core_names core) sound.counted names
      ∙ kept_is composed_state store m.store.numbered sound.holds.numbered composed_counts

  pub composed_left : state_of (record m { core = core; store = store }) ≡ settle composed_state
  composed_left =
      let state : ℕ → List KeptStream → State = λ numbered streams.
      record composed_state { numbered = numbered; streams = streams } in
      ap (λ n. state n store.streams) rest.numbered ∙ ap (λ ss. state m.store.numbered ss) composed_streams

  pub sound_composed : IsSound (record m { core = core; store = store })
  sound_composed =
      record {
        holds = holds_left m sound.holds core m.display store composed_state refl composed_streams fits
            (shown_composed m.display core m.store store rest fits
            (named_seen m sound.holds core m.display store composed_state refl composed_streams (display_names m.display)
            (display_named composed_state)) sound.holds.numbered sound.holds.shows) refl rest.numbered;
        counted = still_counted m.store store (core_names m.core) (core_names core) sound.counted names;
        counts = subst (CountsNames store) (sym composed_left)
            (settled_counts composed_state store m.store.numbered sound.holds.numbered composed_counts);
      }

-- a call of the display, which changes no modes
module _ (m : Inside) (sound : IsSound m) (d : DisplayState) (store : StoreView) (rest : displays.KeepsRest m.store store)
    (names : Recounts (display_names m.display) (display_names d) m.store store) (fits : Shows d store)
    (modes : modes_of d ≡ modes_of m.display) where
  -- the state that it leaves before streams are dropped
  abbrev pub displayed_state : State
  displayed_state = record (state_of m) { made = store.made; display = d }

  displayed_counts : CountsNames store displayed_state
  displayed_counts n some =
      let change = names.counts n some in
      let count = sound.counts n some in
      let before = all_times n (state_of m) in
      let after = all_times n displayed_state in
      omega (arith, change, count, before, after)

  pub displayed_streams : store.streams ≡ kept displayed_state
  displayed_streams = left_have_counts m.store store (display_names m.display) (display_names d) sound.counted names
      ∙ kept_is displayed_state store m.store.numbered sound.holds.numbered displayed_counts

  pub displayed_left : state_of (record m { display = d; store = store }) ≡ settle displayed_state
  displayed_left =
      let state : ℕ → List KeptStream → State = λ numbered streams.
      record displayed_state { numbered = numbered; streams = streams } in
      ap (λ n. state n store.streams) rest.numbered ∙ ap (λ ss. state m.store.numbered ss) displayed_streams

  pub sound_displayed : IsSound (record m { display = d; store = store })
  sound_displayed =
      record {
        holds = holds_left m sound.holds m.core d store displayed_state refl displayed_streams
            (composed_shown m.core d m.store store rest fits
            (named_seen m sound.holds m.core d store displayed_state refl displayed_streams (core_names m.core)
            (core_named displayed_state)) sound.holds.fits) fits modes rest.numbered;
        counted = still_counted m.store store (display_names m.display) (display_names d) sound.counted names;
        counts = subst (CountsNames store) (sym displayed_left)
            (settled_counts displayed_state store m.store.numbered sound.holds.numbered displayed_counts);
      }
