-- The layers of a consistent scene fit.
use Rattle.std.proofs.Common.{◌≡◌, ℕ, Bool, true, false, not, cond, ◌||◌, ◌==◌, List, [], ◌∷◌, map, is_some, Option, Some, None, IsTrue}
use Rattle.std.proofs.Common.{IsSomeAnd, Ok, refl, sym, ap, subst, ◌∙◌}
use Rattle.std.specs.List.{list_all, AllByRecursion}
use Rattle.std.specs.Option.{option_map_or}
use Rattle.std.proofs.lemmas.Bool.{and_parts, eqb-true}
use Rattle.wf_words.specs.Keyed.{at_key}
use Rattle.wf_pixel.specs.declared.Size.{Size}
use Rattle.wf_pixel.specs.Choice.{is_a8, same_size}
use Rattle.wf_pixel.specs.Place.{size_of}
use Rattle.wf_stream.specs.Streams.{KeptStream, StoreView, buffers_at, stream_at, has_number}
use Rattle.wf_scene.specs.declared.element.Element.{Element}
use Rattle.wf_scene.specs.declared.look.Seen.{Seen}
use Rattle.wf_scene.specs.declared.Scene.{Scene}
use Rattle.wf_scene.specs.Cached.{CachedScene}
use Rattle.wf_scene.specs.Consistent.{consistent, inserted_elements, layer_of, stream_of}
use Rattle.wf_scene.specs.Layers.{holds_rect, is_placed_layer}
use Rattle.wf_scene.specs.Sight.{Sight}
use Rattle.wf_model.specs.Objects.{CoreState, Source}
use Rattle.wf_model.specs.Composition.{seen, seen_source, sight_of}
use Rattle.wf_objects.specs.Fits.{Fits, Shows}
use Rattle.wf_model.specs.Fitting.{LayerFits}
use Rattle.wf_objects.specs.Sides.{core_side_of}
use Rattle.wf_core.proofs.Faults.{Keeps, faultless, no_fault}
use Rattle.wf_words.specs.Each.{each_found}
use Rattle.wf_core.proofs.StreamsSeen.{behind}
use Rattle.wf_words.specs.Options.{from_some}

-- what is seen of a source or a mask is kept, with its size, and is for what the source or the mask is for
seen_shape : (mask : Bool) (streams : List KeptStream) (sources : List Source) (h : ℕ) (s : Seen)
    → AllByRecursion (Shows mask streams) sources → seen sources streams h ≡ Some s
    → IsSomeAnd (buffers_at s.stream streams) (λ b. (is_a8 b.format ≡ mask) × (b.size ≡ s.size))
seen_shape mask streams sources h s shows is = of_object (at_key (λ x. x.handle) h sources) refl is
  where
    of_object : (o : Option Source) → at_key (λ x. x.handle) h sources ≡ o → seen_source streams o ≡ Some s
        → IsSomeAnd (buffers_at s.stream streams) (λ b. (is_a8 b.format ≡ mask) × (b.size ≡ s.size))
    of_object None at told = absurd cc
    of_object (Some x) at told =
        let k = behind (stream_at x.stream streams) s told in
        let shown = each_found (Shows mask streams) (λ y. y.handle == h) sources x shows at in
        let format : is_a8 k.0.buffers.format ≡ mask = rw k.1 at shown in
        let number : s.stream ≡ x.stream = ap (λ y. y.stream) k.2 ∙ has_number x.stream streams k.0 k.1 in
        rw (number, k.1) (format, sym (ap (λ y. y.size) k.2))

same_sides : (s t : Size) → same_size s t ≡ true → s ≡ t
same_sides s t is =
    let parts = and_parts (s.w == t.w) (s.h == t.h) is in
    let size : ℕ → ℕ → Size = λ w h. record { w = w; h = h } in
    ap (λ w. size w s.h) (eqb-true s.w t.w parts.0) ∙ ap (size t.w) (eqb-true s.h t.h parts.1)

module _ (core : CoreState) (store : StoreView) (fits : Fits core store) where
  abbrev sight : Sight
  sight = sight_of (core_side_of core store)

  -- the source of an element that keeps all rules
  source_fits : (e : Element) (o : Option Seen) → sight.source e.source ≡ o → is_some o ≡ true
      → option_map_or (λ s. holds_rect s.size e.style.src) o false ≡ true
      → IsSomeAnd (buffers_at (stream_of o) store.streams) (λ b. (is_a8 b.format ≡ false) × IsTrue (holds_rect b.size e.style.src))
  source_fits e None at some inside = absurd cc
  source_fits e (Some s) at some inside =
      from_some (λ b. (is_a8 b.format ≡ false) × (b.size ≡ s.size)) (λ b. (is_a8 b.format ≡ false)
      × IsTrue (holds_rect b.size e.style.src)) (buffers_at s.stream store.streams)
      (seen_shape false store.streams core.sources e.source s fits.streams.sources at)
      (λ b is. (is.0, ap (λ z. holds_rect z e.style.src) is.1 ∙ inside))

  -- its mask
  mask_fits : (e : Element) (o : Option Seen) → sight.mask e.mask ≡ o
      → option_map_or (λ m. same_size m.size (size_of e.style.dest)) o false ≡ true
      → IsSomeAnd (buffers_at (stream_of o) store.streams) (λ b. (is_a8 b.format ≡ true) × (b.size ≡ size_of e.style.dest))
  mask_fits e None at covered = absurd cc
  mask_fits e (Some m) at covered =
      from_some (λ b. (is_a8 b.format ≡ true) × (b.size ≡ m.size)) (λ b. (is_a8 b.format ≡ true)
      × (b.size ≡ size_of e.style.dest)) (buffers_at m.stream store.streams)
      (seen_shape true store.streams core.masks e.mask m fits.streams.masks at)
      (λ b is. (is.0, is.1 ∙ same_sides m.size (size_of e.style.dest) covered))

  layer_fits : (e : Element) → Keeps sight e → IsTrue (is_placed_layer (layer_of sight e)) → LayerFits store.streams (layer_of sight e)
  layer_fits e keeps placed =
      record {
        source = source_fits e (sight.source e.source) refl keeps.source keeps.inside;
        dest = keeps.destination;
        place = placed;
        mask = λ applies. masked e.style.transparency.mask applies keeps.covered;
        unmasked = λ bare. ap (λ b. cond b (stream_of (sight.mask e.mask)) 0) bare;
      }
    where
      masked : (b : Bool) → b ≡ true
          → (not b || option_map_or (λ m. same_size m.size (size_of e.style.dest)) (sight.mask e.mask) false) ≡ true
          → IsSomeAnd (buffers_at (cond b (stream_of (sight.mask e.mask)) 0) store.streams) (λ x. (is_a8 x.format ≡ true)
          × (x.size ≡ size_of e.style.dest))
      masked true is covered = mask_fits e (sight.mask e.mask) refl covered
      masked false is covered = absurd cc

  layers_fit : (es : List Element) → AllByRecursion (Keeps sight) es → list_all is_placed_layer (map (layer_of sight) es) ≡ true
      → AllByRecursion (LayerFits store.streams) (map (layer_of sight) es)
  layers_fit [] keep placed = tt
  layers_fit (e ∷ es) keep placed =
      let parts = and_parts (is_placed_layer (layer_of sight e)) (list_all is_placed_layer (map (layer_of sight) es)) placed in
      (layer_fits e keep.0 parts.0, layers_fit es keep.1 parts.1)

  -- the scene that a commit takes has the size of the cached one, and its layers fit
  pub consistent_fits : (c : CachedScene) (s : Scene) → consistent sight c ≡ Ok s → IsTrue (list_all is_placed_layer s.layers.items)
      → (s.size ≡ c.size) × AllByRecursion (LayerFits store.streams) s.layers.items
  consistent_fits c s is placed =
      let ok = no_fault sight c s is in (
        ap (λ x. x.size) ok.1,
        subst (λ x. AllByRecursion (LayerFits store.streams) x.layers.items) (sym ok.1)
            (layers_fit (inserted_elements c) (faultless sight 1 (inserted_elements c) ok.0)
            (subst (λ x. list_all is_placed_layer x.layers.items ≡ true) ok.1 placed)),
      )
