-- What still fits after a change of the objects.
use Rattle.std.proofs.Common.{◌≡◌, ℕ, Bool, true, false, List, map, Option, Some, None, Ok, refl, sym, ap, ◌∙◌}
use Rattle.std.specs.List.{list_all, AllByRecursion}
use Rattle.wf_words.specs.Keyed.{at_key, map_change}
use Rattle.wf_life.specs.declared.Kind.{Kind}
use Rattle.wf_life.specs.declared.Kind.TheVariants as kind
use Rattle.wf_life.specs.Handles.{IsRising, Live, same_kind}
use Rattle.wf_stream.specs.Streams.{KeptStream, StoreView}
use Rattle.wf_stream.specs.Names.{same_counts}
use Rattle.wf_model.specs.Names.{core_names}
use Rattle.wf_calls.specs.declared.code.Code.{Code}
use Rattle.wf_model.specs.Objects.{Context, CoreState, Device, Source}
use Rattle.wf_model.specs.Outcome.{Outcome}
use Rattle.wf_model.specs.Composition.{CoreSide, change_register}
use Rattle.wf_model.specs.Core.{get_error, register_number}
use Rattle.wf_objects.specs.Does.{Does}
use Rattle.wf_objects.specs.Sides.{core_side_of}
use Rattle.wf_objects.specs.Fits.{ContextFits, Fits, HandlesFit, HasElements, Shows, StreamsFit, context_live, device_live, has_owner}
use Rattle.wf_life.specs.Living.{of_kind}
use Rattle.wf_objects.specs.Links.{link_kind, link_live, links, with_links}

-- other registers
pub register_fits : (d : ℕ) (f : Option Code → Option Code) (core new : CoreState) (store : StoreView) → new ≡ change_register d f core
    → Fits core store → Fits new store
register_fits d f core new store is fits =
    let named = map_change (λ x. x.handle) d (λ x. record x { register = f x.register }) device_live (λ x. refl)
    core.devices in
    rw is (record {
      handles =
          record {
            rising = fits.handles.rising;
            devices = fits.handles.devices ∙ sym named;
            contexts = fits.handles.contexts;
            sources = fits.handles.sources;
            masks = fits.handles.masks;
            elements = fits.handles.elements;
            owned = fits.handles.owned;
          };
      streams = record { sources = fits.streams.sources; masks = fits.streams.masks; contexts = fits.streams.contexts };
    })

-- the code of a register is taken out of it
pub takes_error : (d : ℕ) (core new : CoreState) (store : StoreView) (x : Device) (n : ℕ) → Fits core store
    → at_key (λ x. x.handle) d core.devices ≡ Some x → new ≡ change_register d (λ _. None) core → n ≡ register_number x.register
    → Does (λ _. get_error d) core new store store (Ok n)
takes_error d core new store x n fits at is number =
    let done : CoreState → ℕ → Outcome CoreSide = λ k m. (let both : CoreSide × ℕ = (core_side_of k store, m) in Ok both) in
    record {
      case = rw at (ap (λ k. done k (register_number x.register)) (sym is) ∙ ap (done new) (sym number));
      refused = tt;
      untouched = tt;
      kept = record { numbered = refl; others = refl };
      names = same_counts (core_names core) (core_names new) store (λ n some. rw is refl);
      fits = register_fits d (λ _. None) core new store is fits;
    }

-- links of one kind

pub links_live : (core : CoreState) (store : StoreView) → HandlesFit core store → (mask : Bool)
    → of_kind (link_kind mask) store.others ≡ map (link_live mask) (links mask core)
links_live core store fits false = fits.sources
links_live core store fits true = fits.masks

pub links_show : (core : CoreState) (streams : List KeptStream) → StreamsFit core streams → (mask : Bool)
    → AllByRecursion (Shows mask streams) (links mask core)
links_show core streams fits false = fits.sources
links_show core streams fits true = fits.masks

-- live handles of which only those of one kind changed, where so many objects were made
pub record KindChanged (k : Kind) (store : StoreView) (made : ℕ) (others : List Live) : Type 0 where
  pub rising : IsRising 0 others made
  pub other : (j : Kind) → same_kind k j ≡ false → of_kind j others ≡ of_kind j store.others

-- the elements of these contexts are those that live, and none has another owner
pub record Housed (contexts : List Context) (others : List Live) : Type 0 where
  pub elements : AllByRecursion (HasElements others) contexts
  pub owned : list_all (has_owner contexts) others ≡ true

-- other links, of which the store has just the handles
pub links_fit : (core : CoreState) (store : StoreView) (fits : Fits core store) (made : ℕ) (others : List Live) (mask : Bool)
    (xs : List Source) → KindChanged (link_kind mask) store made others → of_kind (link_kind mask) others ≡ map (link_live mask) xs
    → Housed core.contexts others
    → AllByRecursion (Shows mask store.streams) xs
    → Fits (with_links mask xs core) (record store { made = made; others = others })
links_fit core store fits made others false xs now mine housed shown =
    record {
      handles =
          record {
            rising = now.rising;
            devices = now.other kind.Device refl ∙ fits.handles.devices;
            contexts = now.other kind.Context refl ∙ fits.handles.contexts;
            sources = mine;
            masks = now.other kind.Mask refl ∙ fits.handles.masks;
            elements = housed.elements;
            owned = housed.owned;
          };
      streams = record { sources = shown; masks = fits.streams.masks; contexts = fits.streams.contexts };
    }
links_fit core store fits made others true xs now mine housed shown =
    record {
      handles =
          record {
            rising = now.rising;
            devices = now.other kind.Device refl ∙ fits.handles.devices;
            contexts = now.other kind.Context refl ∙ fits.handles.contexts;
            sources = now.other kind.Source refl ∙ fits.handles.sources;
            masks = mine;
            elements = housed.elements;
            owned = housed.owned;
          };
      streams = record { sources = fits.streams.sources; masks = shown; contexts = fits.streams.contexts };
    }

-- other contexts, where handles of contexts or of elements changed
pub contexts_fit : (k : Kind) → same_kind k kind.Device ≡ false → same_kind k kind.Source ≡ false → same_kind k kind.Mask ≡ false
    → (core : CoreState) (store : StoreView) (fits : Fits core store) (made : ℕ) (others : List Live) (xs : List Context)
    → KindChanged k store made others → of_kind kind.Context others ≡ map context_live xs → Housed xs others
    → AllByRecursion (ContextFits store.streams) xs
    → Fits (record core { contexts = xs }) (record store { made = made; others = others })
contexts_fit k device source mask core store fits made others xs now mine housed shown =
    record {
      handles =
          record {
            rising = now.rising;
            devices = now.other kind.Device device ∙ fits.handles.devices;
            contexts = mine;
            sources = now.other kind.Source source ∙ fits.handles.sources;
            masks = now.other kind.Mask mask ∙ fits.handles.masks;
            elements = housed.elements;
            owned = housed.owned;
          };
      streams = record { sources = fits.streams.sources; masks = fits.streams.masks; contexts = shown };
    }

-- other devices
pub devices_fit : (core : CoreState) (store : StoreView) (fits : Fits core store) (made : ℕ) (others : List Live) (xs : List Device)
    → KindChanged kind.Device store made others → of_kind kind.Device others ≡ map device_live xs → Housed core.contexts others
    → Fits (record core { devices = xs }) (record store { made = made; others = others })
devices_fit core store fits made others xs now mine housed =
    record {
      handles =
          record {
            rising = now.rising;
            devices = mine;
            contexts = now.other kind.Context refl ∙ fits.handles.contexts;
            sources = now.other kind.Source refl ∙ fits.handles.sources;
            masks = now.other kind.Mask refl ∙ fits.handles.masks;
            elements = housed.elements;
            owned = housed.owned;
          };
      streams = record { sources = fits.streams.sources; masks = fits.streams.masks; contexts = fits.streams.contexts };
    }
