-- What is told of the streams that names stand for stays true where each of them keeps its size and its format.
use Rattle.std.proofs.Common.{◌≡◌, ℕ, ◌≤◌, Bool, true, false, ◌==◌, ◌||◌, List, [], ◌∷◌, ◌++◌, Option, Some, None, flat_map, refl, ap, ◌∙◌}
use Rattle.std.proofs.Common.{arith}
use Rattle.std.proofs.lemmas.Bool.{eq-eqb}
use Rattle.std.proofs.lemmas.List.Folds.{list_any-append}
use Rattle.std.specs.List.{AllByRecursion}
use Rattle.std.specs.Option.{IsSomeAnd}
use Rattle.wf_words.specs.Keyed.{is_in}
use Rattle.wf_pixel.specs.Choice.{is_a8}
use Rattle.wf_life.specs.Handles.{IsRising, Live}
use Rattle.wf_stream.specs.Buffers.{Buffers}
use Rattle.wf_stream.specs.Streams.{KeptStream, buffers_at}
use Rattle.wf_scene.specs.declared.Layer.{Layer}
use Rattle.wf_model.specs.Fitting.{LayerFits}
use Rattle.wf_model.specs.Names.{layer_names}

-- numbers in lists

pub in_first : (n : ℕ) (ns : List ℕ) → is_in n (n ∷ ns) ≡ true
in_first n ns = rw (eq-eqb n n refl) refl

pub in_behind : (n x : ℕ) (ns : List ℕ) → is_in n ns ≡ true → is_in n (x ∷ ns) ≡ true
in_behind n x ns within = elim (x == n) as (λ b. (b || is_in n ns) ≡ true) [ true ↦ refl | false ↦ within ]

pub in_front : (n : ℕ) (ns ms : List ℕ) → is_in n ns ≡ true → is_in n (ns ++ ms) ≡ true
in_front n ns ms within = list_any-append (λ x. x == n) ns ms ∙ ap (λ b. b || is_in n ms) within

pub in_back : (n : ℕ) (ns ms : List ℕ) → is_in n ms ≡ true → is_in n (ns ++ ms) ≡ true
in_back n ns ms within = list_any-append (λ x. x == n) ns ms ∙ ap (λ b. is_in n ns || b) within ∙ or_true (is_in n ns)
  where
    or_true : (b : Bool) → (b || true) ≡ true
    or_true true = refl
    or_true false = refl

-- a size and a format that are seen of some buffers are seen of others
abbrev pub SeenSame : Option Buffers → Option Buffers → Type 0
SeenSame o p = (b : Buffers) → o ≡ Some b → (c : Buffers) × (p ≡ Some c) × (c.size ≡ b.size) × (c.format ≡ b.format)

-- the streams of these numbers keep their shapes
abbrev pub KeepsNamed : List ℕ → List KeptStream → List KeptStream → Type 0
KeepsNamed ns old new = (n : ℕ) → is_in n ns ≡ true → SeenSame (buffers_at n old) (buffers_at n new)

-- what is told of buffers by their size and their format
pub some_kept : (P Q : Buffers → Type 0) (o p : Option Buffers) → SeenSame o p
    → ((b c : Buffers) → c.size ≡ b.size → c.format ≡ b.format → P b → Q c) → IsSomeAnd o P → IsSomeAnd p Q
some_kept P Q None p same gives is = absurd is
some_kept P Q (Some b) p same gives is = let there = same b refl in rw there.1 (gives b there.0 there.2 there.3 is)

module _ (old new : List KeptStream) where
  -- a layer fits still
  pub layer_kept : (l : Layer) → KeepsNamed (layer_names l) old new → LayerFits old l → LayerFits new l
  layer_kept l keeps fit =
      record {
        source = some_kept _ _ (buffers_at l.stream old) (buffers_at l.stream new) (keeps l.stream (in_first l.stream (l.mask ∷ [])))
            (λ b c size format is. (ap is_a8 format ∙ is.0, rw size is.1)) fit.source;
        mask = λ masked. some_kept _ _ (buffers_at l.mask old) (buffers_at l.mask new)
            (keeps l.mask (in_behind l.mask l.stream (l.mask ∷ []) (in_first l.mask [])))
            (λ b c size format is. (ap is_a8 format ∙ is.0, size ∙ is.1)) (fit.mask masked);
        dest = fit.dest;
        place = fit.place;
        unmasked = fit.unmasked;
      }

  pub layers_kept : (ls : List Layer) → KeepsNamed (flat_map layer_names ls) old new → AllByRecursion (LayerFits old) ls
      → AllByRecursion (LayerFits new) ls
  layers_kept [] keeps fit = tt
  layers_kept (l ∷ ls) keeps fit = (
    layer_kept l (λ n within. keeps n (in_front n (layer_names l) (flat_map layer_names ls) within)) fit.0,
    layers_kept ls (λ n within. keeps n (in_back n (layer_names l) (flat_map layer_names ls) within)) fit.1,
  )

-- handles rise up to what is higher still
pub rising_higher : (low high more : ℕ) (live : List Live) → high ≤ more → IsRising low live high → IsRising low live more
rising_higher low high more [] under rising = omega (arith, rising)
rising_higher low high more (l ∷ live) under rising = (rising.0, rising_higher l.handle high more live under rising.1)
