-- A call that changes a port or a pipeline does what the plain call does, and objects and store fit still.
use Rattle.std.proofs.Common.{◌≡◌, ◌∙◌, ℕ, zero, suc, ◌+◌, ◌-◌, ◌<◌, ◌||◌, Bool, true, false, List, [], ◌∷◌, ◌++◌, get_or, length}
use Rattle.std.proofs.Common.{length-set, set}
use Rattle.std.proofs.Common.{slice_get, slice_index_or, Option, Some, None}
use Rattle.std.proofs.Common.{Ok, Err, ◌⊎◌, inl, inr, refl, sym, ap, subst, arith}
use Rattle.std.specs.List.{range_with_len}
use Rattle.std.specs.Option.{ok_or}
use Rattle.std.specs.Prelude.{OnErr, Result, ℤ, pos, negsuc, ◌<ℤ◌, IsSomeAnd}
use Rattle.std.proofs.lemmas.Int.{ints}
use Rattle.std.proofs.lemmas.Option.{slice_get_past, slice_get_read}
use Rattle.wf_words.specs.Each.{each_at, each_set}
use Rattle.wf_words.specs.Keyed.{nth}
use Rattle.wf_words.specs.Places.{within}
use Rattle.wf_words.specs.Refusals.{◌>>=◌}
use Rattle.wf_words.specs.Whole.{count_of}
use Rattle.wf_pixel.specs.declared.Format.TheVariants.{Rgbx8}
use Rattle.wf_life.specs.Handles.{Live}
use Rattle.wf_stream.specs.Counts.{times}
use Rattle.wf_stream.specs.Names.{Recounts, but_names, same_counts}
use Rattle.wf_stream.specs.Streams.{KeptStream, StoreView, buffers_at}
use Rattle.wf_calls.specs.declared.code.Code.TheVariants as code
use Rattle.wf_calls.specs.declared.reply.Refusal.{Refusal}
use Rattle.wf_calls.specs.Replies.{refusal}
use Rattle.wf_model.specs.declared.display.Pipeline.{Pipeline}
use Rattle.wf_model.specs.declared.display.Port.{Port}
use Rattle.wf_model.specs.DisplaySides.{DisplaySide, on_display, pipeline, port, with_pipeline, with_port}
use Rattle.wf_model.specs.Names.{display_names, pipeline_names}
use Rattle.wf_model.specs.Outcome.{Outcome, done_by, found, lacks_memory}
use Rattle.wf_model.specs.State.{DisplayState, mode_size}
use Rattle.wf_display.specs.Does.{Does}
use Rattle.wf_display.specs.Fits.{Fits, PipelineFits, ScreensFit, StreamsFit}
use Rattle.wf_display.specs.Named.{unchanged}
use Rattle.wf_display.specs.Places.{IsPlaceOf}
use Rattle.wf_model.specs.Sides.{with_streams}
use Rattle.wf_display.specs.Sides.{beside, display_side_of}
use Rattle.wf_display.proofs.NameCounts.{in_parts, pipeline_changed, pipelines_names, source_names}

-- what was read at a place stands there
pub read_at : {A : Type 0} (xs ys : List A) (place : ℕ) (x : A) → xs ≡ ys → place < length ys → x ≡ slice_index_or xs place x
    → slice_get ys place ≡ Some x
read_at xs ys place x is less read = slice_get_read ys (length ys) place x refl less (read ∙ ap (λ zs. slice_index_or zs place x) is)

-- and what was read there again is the same
pub read_twice : {A : Type 0} (xs ys : List A) (place : ℕ) (x y : A) → xs ≡ ys → place < length ys → x ≡ slice_index_or xs place x
    → y ≡ slice_index_or xs place y → x ≡ y
read_twice xs ys place x y is less one other =
    let both : Some x ≡ Some y = sym (read_at xs ys place x is less one) ∙ read_at xs ys place y is less other in cc

-- within a list no default is read
pub same_default : {A : Type 0} (xs : List A) (i : ℕ) (d e : A) → i < length xs → get_or xs i d ≡ get_or xs i e
same_default [] i d e less = absurd (omega (arith, less))
same_default (x ∷ xs) zero d e less = refl
same_default (x ∷ xs) (suc i) d e less = same_default xs i d e (omega (arith, less))

-- the element of a number, by its place
nth_at : {A : Type 0} (number : ℤ) (xs : List A) (place : ℕ) (x : A) → IsPlaceOf number xs place → slice_get xs place ≡ Some x
    → nth (count_of number) xs ≡ Some x
nth_at number xs place x is at =
    let next : place + 1 ≡ suc place = omega arith in
    ap (λ n. nth n xs) (is.number_is ∙ next) ∙ at

-- a number below 1 or above the last has no element
pub none_at : {A : Type 0} (number : ℤ) (xs : List A) → (number <ℤ pos 1) ⊎ (pos (length xs) <ℤ number) → nth (count_of number) xs ≡ None
none_at (negsuc n) xs out = refl
none_at (pos zero) xs out = refl
none_at (pos (suc n)) xs (inl below) = absurd (omega (arith, ints, below))
none_at (pos (suc n)) xs (inr above) = slice_get_past xs n (omega (arith, ints, above))

place_is : {A : Type 0} (number : ℤ) (xs : List A) (place : ℕ) → IsPlaceOf number xs place → count_of number - 1 ≡ place
place_is number xs place is = omega (arith, is.number_is)

pub or_true : (a : Bool) {b : Bool} → b ≡ true → (a || b) ≡ true
or_true true is = refl
or_true false is = is

-- a call that sees the objects of the display alone

pub alone : (plain : DisplayState → Outcome DisplayState) (d left : DisplayState) (store : StoreView) (value : ℕ)
    → plain d ≡ Ok (left, value) → ((n : ℕ) → times n (display_names d) ≡ times n (display_names left)) → Fits left store
    → Does (λ _. on_display plain) d left store store (Ok value)
alone plain d left store value is same fits =
    record {
      case = ap (λ (o : Outcome DisplayState). o >>= (λ x. Ok (record (display_side_of d store) { display = x.0 }, x.1))) is;
      refused = tt;
      untouched = tt;
      kept = record { numbered = refl; others = refl };
      names = same_counts (display_names d) (display_names left) store (λ n some. same n);
      fits = fits;
    }

pub refuses : (plain : DisplayState → Outcome DisplayState) (d : DisplayState) (store : StoreView) (r : Refusal)
    → plain d ≡ Err r → Fits d store → Does (λ _. on_display plain) d d store store (Err r)
refuses plain d store r is fits =
    record {
      case = ap (λ (o : Outcome DisplayState). o >>= (λ x. Ok (record (display_side_of d store) { display = x.0 }, x.1))) is;
      refused = refl;
      untouched = refl;
      kept = record { numbered = refl; others = refl };
      names = unchanged (display_names d) store;
      fits = fits;
    }

-- a call that changed nothing
pub stays : (plain : Bool → DisplaySide → Outcome DisplaySide) (d : DisplayState) (store : StoreView) (result : Result ℕ Refusal)
    → plain (lacks_memory result) (display_side_of d store) ≡ done_by result (display_side_of d store) → Fits d store
    → Does plain d d store store result
stays plain d store result is fits =
    record {
      case = is;
      refused = on_err result refl;
      untouched = on_err result refl;
      kept = record { numbered = refl; others = refl };
      names = unchanged (display_names d) store;
      fits = fits;
    }
  where
    on_err : {P : Type 0} (r : Result ℕ Refusal) → P → OnErr r P
    on_err (Ok value) holds = tt
    on_err (Err refusal) holds = holds

-- a number that is told, or a refusal
pub told : (d : DisplayState) (store : StoreView) (o : Option ℕ)
    → on_display (λ e. found code.IllegalArgument o >>= (λ n. Ok (e, n))) (display_side_of d store)
    ≡ done_by (ok_or o (refusal code.IllegalArgument)) (display_side_of d store)
told d store None = refl
told d store (Some n) = refl

-- a call that left these objects and these handles, and then changed the names
pub counted_does : (plain : Bool → DisplaySide → Outcome DisplaySide) (d left : DisplayState) (store now : StoreView) (made : ℕ)
    (others : List Live) (value : ℕ)
    → plain false (display_side_of d store) ≡ Ok (display_side_of left (record store { made = made; others = others }), value)
    → beside others ≡ beside store.others → but_names now ≡ but_names (record store { made = made; others = others })
    → Recounts (display_names d) (display_names left) store now → Fits left now → Does plain d left store now (Ok value)
counted_does plain d left store now made others value is kept rest names fits =
    record {
      case = is ∙ ap (λ (v : StoreView). Ok (display_side_of left (with_streams store.streams v), value)) (sym rest);
      refused = tt;
      untouched = tt;
      kept = record {
        numbered = ap (λ (v : StoreView). v.numbered) rest;
        others = ap (λ (v : StoreView). beside v.others) rest ∙ kept;
      };
      names = names;
      fits = fits;
    }

-- objects and store fit where only counts differ
pub same_fits : (d : DisplayState) (u v : StoreView) → but_names v ≡ but_names u → v.streams ≡ u.streams → Fits d u → Fits d v
same_fits d u v rest streams fits =
    let others = ap (λ (w : StoreView). w.others) rest in
    let made = ap (λ (w : StoreView). w.made) rest in
    record {
      handles = record { rising = rw (others, made) fits.handles.rising; sources = rw others fits.handles.sources };
      streams = subst (StreamsFit d) (sym streams) fits.streams;
    }

-- screens fit ports whose modes are the same
screens_set : (streams : List KeptStream) (n : ℕ) (ports : List Port) (place : ℕ) (x y : Port) → slice_get ports place ≡ Some x
    → y.modes ≡ x.modes → ScreensFit streams n ports → ScreensFit streams n (set ports place y)
screens_set streams n [] place x y at same fit = tt
screens_set streams n (p ∷ ports) zero x y at same fit =
    let is : x ≡ p = cc in
    let modes : p.modes ≡ y.modes = ap (λ q. q.modes) (sym is) ∙ sym same in
    (subst (λ (m : _). IsSomeAnd (buffers_at n streams) (λ b. (b.size ≡ mode_size 1 m.items) × (b.format ≡ Rgbx8))) modes fit.0, fit.1)
screens_set streams n (p ∷ ports) (suc i) x y at same fit = (fit.0, screens_set streams (n + 1) ports i x y at same fit.1)

-- the port and the pipeline of a number whose place was found

pub some_port : (d : DisplayState) (number : ℤ) (place : ℕ) → IsPlaceOf number d.ports place → (x : Port) × (port number d ≡ Ok x)
some_port d number place is =
    let x = within d.ports place is.within in
    (x.0, ap (found code.BadHandle) (nth_at number d.ports place x.0 is x.1))

pub some_pipeline : (d : DisplayState) (number : ℤ) (place : ℕ) → IsPlaceOf number d.pipelines place
    → (x : Pipeline) × (pipeline number d ≡ Ok x)
some_pipeline d number place is =
    let x = within d.pipelines place is.within in
    (x.0, ap (found code.BadHandle) (nth_at number d.pipelines place x.0 is x.1))

module _ (d : DisplayState) (store : StoreView) (fits : Fits d store) where
  module _ (number : ℤ) (place : ℕ) (x : Port) (is : IsPlaceOf number d.ports place) (at : slice_get d.ports place ≡ Some x) where
    pub port_is : port number d ≡ Ok x
    port_is = ap (found code.BadHandle) (nth_at number d.ports place x is at)

    with_port_is : (y : Port) → with_port number y d ≡ record d { ports = set d.ports place y }
    with_port_is y = ap (λ n. record d { ports = set d.ports n y }) (place_is number d.ports place is)

    -- a port with the same modes takes its place
    pub port_set : (plain : DisplayState → Outcome DisplayState) (y : Port) → plain d ≡ Ok (with_port number y d, 0) → y.modes ≡ x.modes
        → Does (λ _. on_display plain) d (record d { ports = set d.ports place y }) store store (Ok 0)
    port_set plain y case modes =
        alone plain d (record d { ports = set d.ports place y }) store 0 (case ∙ ap (λ e. Ok (e, 0)) (with_port_is y))
        (λ n. ap (λ k. times n (range_with_len 1 k ++ source_names d.sources ++ pipelines_names d.pipelines))
        (sym (length-set d.ports place y)))
        (record {
          handles = record { rising = fits.handles.rising; sources = fits.handles.sources };
          streams = record {
            screens = screens_set store.streams 1 d.ports place x y at modes fits.streams.screens;
            sources = fits.streams.sources;
            pipelines = fits.streams.pipelines;
          };
        })

  module _ (number : ℤ) (place : ℕ) (x : Pipeline) (is : IsPlaceOf number d.pipelines place) (at : slice_get d.pipelines place ≡ Some x)
    where
      pub pipeline_is : pipeline number d ≡ Ok x
      pipeline_is = ap (found code.BadHandle) (nth_at number d.pipelines place x is at)

      with_pipeline_is : (y : Pipeline) → with_pipeline number y d ≡ record d { pipelines = set d.pipelines place y }
      with_pipeline_is y = ap (λ n. record d { pipelines = set d.pipelines n y }) (place_is number d.pipelines place is)

      -- a pipeline that shows and names the same takes its place
      pub pipeline_set : (plain : DisplayState → Outcome DisplayState) (y : Pipeline) → plain d ≡ Ok (with_pipeline number y d, 0)
          → (PipelineFits store.streams x → PipelineFits store.streams y) → pipeline_names y ≡ pipeline_names x
          → Does (λ _. on_display plain) d (record d { pipelines = set d.pipelines place y }) store store (Ok 0)
      pipeline_set plain y case shows same =
          alone plain d (record d { pipelines = set d.pipelines place y }) store 0 (case ∙ ap (λ e. Ok (e, 0)) (with_pipeline_is y))
          (λ n. (
          let changed = pipeline_changed n d.pipelines place x y at in
          let names = ap (times n) same in
          let old = in_parts n d in
          let new = in_parts n (record d { pipelines = set d.pipelines place y }) in
          omega (arith, changed, names, old, new)))
          (record {
            handles = record { rising = fits.handles.rising; sources = fits.handles.sources };
            streams = record {
              screens = fits.streams.screens;
              sources = fits.streams.sources;
              pipelines = each_set (PipelineFits store.streams) d.pipelines place y fits.streams.pipelines
                  (shows (each_at (PipelineFits store.streams) d.pipelines place x fits.streams.pipelines at));
            };
          })
