-- What an operation on the tables leaves and answers, by the plain machine.
use Rattle.std.specs.Prelude.{◌≡◌, ℕ, ◌+◌, Bool, false, not, ◌==◌, ℤ, List, [], ◌∷◌, ◌++◌, slice_get, nat_le, length, Option, Some, None}
use Rattle.std.specs.Prelude.{OnErr, IfSome, Result, Ok, Err}
use Rattle.std.proofs.Common.{refl, sym, ap, ◌∙◌}
use Rattle.wf_words.specs.Refusals.{◌>>=◌}
use Rattle.wf_stream.specs.Streams.{StoreView}
use Rattle.wf_stream.specs.Names.{Recounts, same_counts}
use Rattle.wf_scene.specs.declared.attributes.ElementAttr.{ElementAttr}
use Rattle.wf_scene.specs.declared.attributes.Refused.{Refused}
use Rattle.wf_scene.specs.declared.look.Seen.{Seen}
use Rattle.wf_scene.specs.Values.{component}
use Rattle.wf_scene.specs.Cached as cached
use Rattle.wf_scene.specs.Cached.{CachedScene}
use Rattle.wf_calls.specs.Codes.{is_out_of_memory}
use Rattle.wf_calls.specs.Replies.{refusal}
use Rattle.wf_calls.specs.declared.code.Code.TheVariants as code
use Rattle.wf_calls.specs.declared.reply.Refusal.{Refusal}
use Rattle.wf_model.specs.Names.{core_names}
use Rattle.wf_model.specs.Objects.{Context, CoreState, Source}
use Rattle.wf_model.specs.Outcome.{Outcome, found}
use Rattle.wf_model.specs.Composition.{CoreSide, change_context, context, created, device, element_context, with_cached}
use Rattle.wf_model.specs.Sides as sides
use Rattle.wf_model.specs.Core.{blank_scene, by_scene, contexts_full, linked, refusal_code, room, sources_full}
use Rattle.wf_objects.specs.Fits.{Fits}
use Rattle.wf_objects.specs.Links.{links, with_links}
use Rattle.wf_objects.specs.Owners.{StandsAt, joined, owned_context, owning_context}
use Rattle.wf_model.specs.Outcome.{at_place}
use Rattle.wf_objects.specs.Sides.{core_side_of, is_of_composition}
use Rattle.wf_model.specs.Outcome.{done_by, lacks_memory}
use Rattle.wf_scene.specs.declared.TheConstants.{MOST_ELEMENTS}

-- a body of composition leaves and answers what the plain call does
abbrev pub Does : (Bool → CoreSide → Outcome CoreSide) → CoreState → CoreState → StoreView → StoreView → Result ℕ Refusal → Type 0
Does plain core left store now result = sides.Does core_side_of core_names Fits plain is_of_composition core left store now result

-- what becomes of a context that was found: by its handle, whether memory is refused, and what the call sees
abbrev pub Step : Type 0
Step = ℕ → Bool → Context → CoreSide → Outcome CoreSide

-- with the context at a place
abbrev pub in_place : ℕ → Step → Bool → CoreSide → Outcome CoreSide
in_place place after m w = found code.BadHandle (slice_get w.core.contexts place) >>= (λ c. after c.handle m c w)

-- the context alone changes
abbrev pub changed : (Context → Context) → Step
changed f handle m c w = Ok (record w { core = change_context handle f w.core }, 0)

-- something of its cached scene is set
abbrev pub scene_set : (CachedScene → Result CachedScene Refused) → Step
scene_set call handle m c w =
    by_scene (call c.cached) >>= (λ scene. Ok (record w { core = change_context handle (with_cached scene) w.core }, 0))

-- an attribute of an element is set, which may be linked to what the value names
abbrev pub element_set : ℕ → ℕ → ElementAttr → List ℤ → Step
element_set d element attr value handle m c w =
    linked attr d handle (component value 0) w >>= (λ _. scene_set (cached.set element attr value) handle m c w)

-- a number of its cached scene is answered
abbrev pub scene_read : (CachedScene → Result ℕ Refused) → Step
scene_read call handle m c w = by_scene (call c.cached) >>= (λ n. Ok (w, n))

-- one more element
abbrev pub element_made : Step
element_made handle m c w =
    room (nat_le MOST_ELEMENTS (length c.cached.elements)) m w
    >>= (λ _. Ok (created (change_context handle (with_cached (cached.add (w.made + 1) c.cached)) w.core) w))

-- a new context of a device and of a port, or of none by 0, that draws into what is seen
abbrev pub context_made : ℕ → ℕ → Seen → Bool → CoreSide → Outcome CoreSide
context_made d port target m w =
    let new : Context =
    record {
      handle = w.made + 1;
      device = d;
      port = port;
      target = target.stream;
      active = false;
      cached = cached.empty target.size (not (port == 0));
      committed = blank_scene target.size;
    } in
    room (contexts_full w) m w >>= (λ _. Ok (created (record w.core { contexts = w.core.contexts ++ new ∷ [] }) w))

-- a new link of a context to a stream
abbrev pub link_made : Bool → ℕ → ℕ → Bool → CoreSide → Outcome CoreSide
link_made mask context stream m w =
    let new : Source = record { handle = w.made + 1; context = context; stream = stream } in
    room (sources_full w) m w >>= (λ _. Ok (created (with_links mask (links mask w.core ++ new ∷ []) w.core) w))

-- 0, where a cached scene was changed, or its refusal
abbrev pub edited_by : Result (Unit {0}) Refused → Result ℕ Refusal
edited_by (Ok _) = Ok 0
edited_by (Err r) = Err (refusal (refusal_code r))

-- where the store is as it was, all names are
pub unchanged : (core : CoreState) (store now : StoreView) → now ≡ store → Recounts (core_names core) (core_names core) store now
unchanged core store now same = rw same (same_counts (core_names core) (core_names core) store (λ n some. refl))

-- what is refused changes nothing
pub refuses : (plain : Bool → CoreSide → Outcome CoreSide) (core : CoreState) (store : StoreView) (r : Refusal) → Fits core store
    → plain (is_out_of_memory r.code) (core_side_of core store) ≡ Err r → Does plain core core store store (Err r)
refuses plain core store r fits is =
    record {
      case = is;
      refused = refl;
      untouched = refl;
      kept = record { numbered = refl; others = refl };
      names = same_counts (core_names core) (core_names core) store (λ n some. refl);
      fits = fits;
    }

-- what changes nothing, whether it is answered or refused
pub stays : (plain : Bool → CoreSide → Outcome CoreSide) (core : CoreState) (store : StoreView) (r : Result ℕ Refusal) → Fits core store
    → plain (lacks_memory r) (core_side_of core store) ≡ done_by r (core_side_of core store) → Does plain core core store store r
stays plain core store r fits is =
    record {
      case = is;
      refused = elim r as (λ x. OnErr x (core ≡ core)) [ Ok n ↦ tt | Err e ↦ refl ];
      untouched = elim r as (λ x. OnErr x (store ≡ store)) [ Ok n ↦ tt | Err e ↦ refl ];
      kept = record { numbered = refl; others = refl };
      names = unchanged core store store refl;
      fits = fits;
    }

-- what does as another call does what that one does
pub as_other : (plain other : Bool → CoreSide → Outcome CoreSide) (core left : CoreState) (store now : StoreView)
    (result : Result ℕ Refusal)
    → ((m : Bool) → plain m (core_side_of core store) ≡ other m (core_side_of core store)) → Does other core left store now result
    → Does plain core left store now result
as_other plain other core left store now result same does =
    record {
      case = same (lacks_memory result) ∙ does.case;
      refused = does.refused;
      untouched = does.untouched;
      kept = does.kept;
      names = does.names;
      fits = does.fits;
    }

module _ (place : ℕ) (after : Step) (core left : CoreState) (store now : StoreView) (result : Result ℕ Refusal)
    (does : Does (in_place place after) core left store now result) where
  -- in the context that a call names
  pub in_owned : (d h : ℕ) → at_place (Ok place) core.contexts ≡ owned_context d h (core_side_of core store) → StandsAt h place core
      → Does (λ m w. device d w >>= (λ _. context d h w >>= (λ c. after h m c w))) core left store now result
  in_owned d h at here =
      let w = core_side_of core store in
      as_other (λ m w. device d w >>= (λ _. context d h w >>= (λ c. after h m c w))) (in_place place after) core left store now result
      (λ m. (let go : Context → Outcome CoreSide = λ c. after h m c w in
      joined (device d w) (λ _. context d h w) go ∙ ap (λ (r : Result Context Refusal). r >>= go) (sym at)
      ∙ by_handle m (slice_get core.contexts place) here)) does
    where
      by_handle : (m : Bool) (o : Option Context) → IfSome o (λ c. c.handle ≡ h)
          → (found code.BadHandle o >>= (λ c. after h m c (core_side_of core store)))
          ≡ (found code.BadHandle o >>= (λ c. after c.handle m c (core_side_of core store)))
      by_handle m None is = refl
      by_handle m (Some c) is = ap (λ n. after n m c (core_side_of core store)) (sym is)

  -- in the context of an element that a call names
  pub in_owner : (d e : ℕ) → at_place (Ok place) core.contexts ≡ owning_context d e (core_side_of core store)
      → Does (λ m w. device d w >>= (λ _. element_context d e w >>= (λ c. after c.handle m c w))) core left store now result
  in_owner d e at =
      let w = core_side_of core store in
      as_other (λ m w. device d w >>= (λ _. element_context d e w >>= (λ c. after c.handle m c w))) (in_place place after) core left store
      now
      result
      (λ m. (let go : Context → Outcome CoreSide = λ c. after c.handle m c w in
      joined (device d w) (λ _. element_context d e w) go ∙ ap (λ (r : Result Context Refusal). r >>= go) (sym at))) does

-- what is read of the scene at a place
pub reads : (place : ℕ) (core : CoreState) (store : StoreView) (call : CachedScene → Result ℕ Refused) (scene : CachedScene)
    (r : Result ℕ Refusal) → Fits core store → (c : Context) → slice_get core.contexts place ≡ Some c → c.cached ≡ scene
    → r ≡ by_scene (call scene)
    → Does (in_place place (scene_read call)) core core store store r
reads place core store call scene r fits c at same is = rw is (of_answer (call scene) refl)
  where
    told : ℕ → Outcome CoreSide
    told n = Ok (core_side_of core store, n)

    here : (m : Result ℕ Refused) → call scene ≡ m → (b : Bool)
        → in_place place (scene_read call) b (core_side_of core store) ≡ (by_scene m >>= told)
    here m answered b = rw (at, same, answered) refl

    of_answer : (m : Result ℕ Refused) → call scene ≡ m → Does (in_place place (scene_read call)) core core store store (by_scene m)
    of_answer (Ok n) answered =
        record {
          case = here (Ok n) answered false;
          refused = tt;
          untouched = tt;
          kept = record { numbered = refl; others = refl };
          names = same_counts (core_names core) (core_names core) store (λ n some. refl);
          fits = fits;
        }
    of_answer (Err x) answered =
        refuses (in_place place (scene_read call)) core store (refusal (refusal_code x)) fits
        (here (Err x) answered (is_out_of_memory (refusal_code x)))
