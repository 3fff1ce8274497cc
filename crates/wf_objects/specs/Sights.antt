-- What the store tells of sources and masks, and which of them an element may name.
use Rattle.std.specs.Prelude.{◌≡◌, ℕ, not, ◌&&◌, ◌==◌, ℤ, List, map, option_map, find, Option, Some, None, Result, Ok, if◌then◌else◌}
use Rattle.std.specs.List.{list_any}
use Rattle.std.proofs.Common.{refl, ap, ◌∙◌}
use Rattle.std.proofs.Math.Path.{fun_ext}
use Rattle.wf_words.specs.Keyed.{at_key}
use Rattle.wf_words.specs.Refusals.{◌>>=◌}
use Rattle.wf_life.specs.declared.Kind.TheVariants as kind
use Rattle.wf_life.specs.declared.Kind.{Kind}
use Rattle.wf_life.specs.Handles.{Live, key_of}
use Rattle.wf_stream.specs.Streams.{KeptStream, StoreView, stream_at}
use Rattle.wf_scene.specs.declared.look.Seen.{Seen}
use Rattle.wf_scene.specs.Sight.{Sight}
use Rattle.wf_scene.specs.Values.{is_count}
use Rattle.wf_calls.specs.declared.code.Code.TheVariants as code
use Rattle.wf_calls.specs.declared.reply.Refusal.{Refusal}
use Rattle.wf_model.specs.Outcome.{found, refuse}
use Rattle.wf_model.specs.Objects.{Context, CoreState, Source}
use Rattle.wf_model.specs.Composition.{seen, seen_source, seen_stream, sight_of}
use Rattle.wf_objects.specs.Fits.{HandlesFit, mask_live, source_live}
use Rattle.wf_life.specs.Living.{keyed, of_kind}
use Rattle.wf_objects.specs.Sides.{core_side_of}

-- what is seen behind a key, which is the number of a stream
abbrev pub seen_key : List KeptStream → Option ℕ → Option Seen
seen_key streams None = None
seen_key streams (Some number) = seen_stream (stream_at number streams)

-- what is seen behind the handles in a store
abbrev pub sight_in : StoreView → Sight
sight_in store =
    record {
      source = λ handle. seen_key store.streams (key_of handle kind.Source store.others);
      mask = λ handle. seen_key store.streams (key_of handle kind.Mask store.others);
    }

-- the source or the mask that a number names, where it is of a context of a device
abbrev pub named_source : ℕ → ℤ → List Source → List Context → Option Source
named_source d z sources contexts =
    find (λ s. is_count s.handle z && list_any (λ c. (c.handle == s.context) && (c.device == d)) contexts) sources

-- whether an element of a context may name it
abbrev pub may_name : ℕ → ℕ → ℤ → List Source → List Context → Result (Unit {0}) Refusal
may_name d owner z sources contexts =
    if is_count 0 z then Ok tt
    else (do
      x ← found code.BadHandle (named_source d z sources contexts)
      refuse code.IllegalArgument (not (x.context == owner)))

-- what is seen behind the keys of a kind is what is seen of the objects
seen_same : (k : Kind) (g : Source → Live) (sources : List Source) (store : StoreView) → ((s : Source) → (g s).handle ≡ s.handle)
    → of_kind k store.others ≡ map g sources
    → ((o : Option Source) → seen_key store.streams (option_map (λ s. (g s).key) o) ≡ seen_source store.streams o)
    → ((h : ℕ) → find (λ s. (g s).handle == h) sources ≡ at_key (λ s. s.handle) h sources)
    → (h : ℕ) → seen_key store.streams (key_of h k store.others) ≡ seen sources store.streams h
seen_same k g sources store handle is told found h =
    ap (seen_key store.streams) (keyed k g h sources store.others is)
    ∙ ap (λ (o : Option Source). seen_key store.streams (option_map (λ s. (g s).key) o)) (found h)
    ∙ told (at_key (λ s. s.handle) h sources)

-- the store tells what the objects show
pub sights : (core : CoreState) (store : StoreView) → HandlesFit core store → sight_in store ≡ sight_of (core_side_of core store)
sights core store fits =
    let both : (ℕ → Option Seen) → (ℕ → Option Seen) → Sight = λ source mask. record { source = source; mask = mask } in
    ap (λ (f : ℕ → Option Seen). both f (λ h. seen_key store.streams (key_of h kind.Mask store.others)))
    (fun_ext (seen_same kind.Source source_live core.sources store (λ s. refl) fits.sources of_source (λ h. refl)))
    ∙ ap (both (seen core.sources store.streams)) (fun_ext
    (seen_same kind.Mask mask_live core.masks store (λ s. refl) fits.masks of_mask (λ h. refl)))
  where
    of_source : (o : Option Source) → seen_key store.streams (option_map (λ s. (source_live s).key) o) ≡ seen_source store.streams o
    of_source None = refl
    of_source (Some s) = refl

    of_mask : (o : Option Source) → seen_key store.streams (option_map (λ s. (mask_live s).key) o) ≡ seen_source store.streams o
    of_mask None = refl
    of_mask (Some s) = refl
