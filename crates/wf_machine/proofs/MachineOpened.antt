-- The machine before its first call.
use Rattle.wf_machine.proofs.Common.{◌≡◌, ℕ, suc, ◌+◌, ◌<◌, ◌≤◌, Bool, true, false, List, [], ◌∷◌, ◌++◌, length, map, get_or, take, Option}
use Rattle.wf_machine.proofs.Common.{None, Some, IsSound, cond, flat_map, is_some, nat_lt, nat_tests, own_names, stream_at, zero, ◌==◌}
use Rattle.wf_machine.proofs.Common.{refl, sym, ap, subst, ◌∙◌, arith, ◌&&◌, ◌*◌, nat_le, range_with_len, list_all, and_parts}
use Rattle.wf_machine.proofs.Common.{leb-true}
use Rattle.wf_machine.proofs.Common.{map-append, length-map, take_all, sum_by-cons, Rgbx8, Size, has_sides, is_side, Ports, buffer_bytes}
use Rattle.wf_machine.proofs.Common.{fresh}
use Rattle.wf_machine.proofs.Common.{KeptStream, StoreView, IsNumbered, held, Modes, CoreState, DisplayState, Fits, State, mode_size}
use Rattle.wf_machine.proofs.Common.{opening}
use Rattle.wf_machine.proofs.Common.{screen, AllFit, PortFits, PortsFit, Holds, state_of, Inside, Frame, HoldsBut, modes_of, running_of}
use Rattle.wf_machine.proofs.Common.{sizes_of}
use Rattle.wf_machine.proofs.Common.{option_map}
use Rattle.std.proofs.Common.{add-zero, lit≤}
use Rattle.std.proofs.Math.Nat.{mul-le-mul_left, mul-le-mul_right}
use Rattle.std.specs.Prelude.{replicate, unwrap_or, zip}
use Rattle.std.proofs.lemmas.List.Folds.{list_all_at}
use Rattle.wf_calls.specs.PortRules.{may_declare, may_have}
use Rattle.wf_model.specs.declared.display.Port as display
use Rattle.wf_model.specs.Counting.{CountsNames, all_times}
use Rattle.wf_model.specs.Names.{pipeline_names}
use Rattle.wf_model.specs.Objects.{no_objects}
use Rattle.wf_model.specs.State.{initial_pipeline, initial_port, opened_display}
use Rattle.wf_stream.specs.Counts.{counted, times}
use Rattle.wf_stream.specs.Names.{times_append, times_cons, times_zero}
use Rattle.wf_stream.specs.Streams.{one_name_each}
use Rattle.wf_words.specs.Keyed.{at_key}
use Rattle.wf_display.specs.Fits.{Fits as Shows}
use Rattle.wf_display.specs.Opening.{with_screens}
use Rattle.wf_machine.specs.declared.port.Port as declared
use Rattle.wf_pixel.specs.declared.TheConstants.{MOST_SIDE}
use Rattle.wf_stream.specs.declared.TheConstants.{SCREEN_BYTES}
use Rattle.wf_calls.specs.declared.TheConstants.{MOST_PIPELINES}

-- the screens of ports that are numbered from one on
abbrev pub screens : ℕ → List Modes → List KeptStream
screens k ms = map screen (zip (range_with_len k (length ms)) ms)

screens_numbered : (low k high : ℕ) (ms : List Modes) → low < k → k + length ms ≤ high + 1 → IsNumbered low (screens k ms) high
screens_numbered low k high [] under within = omega arith
screens_numbered low k high (m ∷ ms) under within = (under, screens_numbered k (k + 1) high ms (omega arith) (omega arith))

-- the first mode of a port has sides
mode_sides : (m : Modes) → may_have m ≡ true → has_sides (mode_size 1 m.sizes.items) ≡ true
mode_sides m may =
    of_sizes m.sizes.items (and_parts (nat_le 1 (length m.sizes.items) && nat_le (length m.sizes.items) 4)
    (list_all has_sides m.sizes.items) may)
  where
    of_sizes : (sizes : List Size) → ((nat_le 1 (length sizes) && nat_le (length sizes) 4) ≡ true) × (list_all has_sides sizes ≡ true)
        → has_sides (mode_size 1 sizes) ≡ true
    of_sizes [] both = absurd cc
    of_sizes (s ∷ sizes) both = (and_parts (has_sides s) (list_all has_sides sizes) both.1).0

-- each screen fits while no frame runs
screens_fit : (k : ℕ) (ms : List Modes) → list_all may_have ms ≡ true → AllFit [] (screens k ms)
screens_fit k [] may = tt
screens_fit k (m ∷ ms) may =
    let each = and_parts (may_have m) (list_all may_have ms) may in
    (record { sides = mode_sides m each.0; read = λ h. cc }, screens_fit (k + 1) ms each.1)

-- the images of ports

all_at : {A : Type 0} (p : A → Bool) (xs : List A) (i : ℕ) (d : A) → i < length xs → list_all p xs ≡ true → p (get_or xs i d) ≡ true
all_at p xs i d within all = elim (p (get_or xs i d)) as (λ b. p (get_or xs i d) ≡ b
    → b ≡ true) [ true ↦ λ is. refl | false ↦ λ is. absurd (let none = list_all_at p xs i d within is in cc) ] refl

pub may_at : (all : List Modes) (i : ℕ) (m : Modes) → i < length all → m ≡ get_or all i m → list_all may_have all ≡ true → may_have m ≡ true
may_at all i m within is may = ap may_have is ∙ all_at may_have all i m within may

-- what a port may have: as many modes as are told, and their sides
pub may_parts : (m : Modes) → may_have m ≡ true → (length m.sizes.items ≤ 4) × (list_all has_sides m.sizes.items ≡ true)
may_parts m may =
    let both = and_parts (nat_le 1 (length m.sizes.items) && nat_le (length m.sizes.items) 4) (list_all has_sides m.sizes.items) may in
    (leb-true (length m.sizes.items) 4 (and_parts (nat_le 1 (length m.sizes.items)) (nat_le (length m.sizes.items) 4) both.0).1, both.1)

ports_more : (frame : Option Frame) (k : ℕ) (ports : List declared.Port) (p : declared.Port) → PortsFit frame k ports
    → PortFits frame (k + length ports) p → PortsFit frame k (ports ++ p ∷ [])
ports_more frame k [] p fit one = (subst (λ n. PortFits frame n p) (add-zero k) one, tt)
ports_more frame k (q ∷ ports) p fit one =
    let later : k + suc (length ports) ≡ k + 1 + length ports = omega arith in
    (fit.0, ports_more frame (k + 1) ports p fit.1 (subst (λ n. PortFits frame n p) later one))

-- these ports have an image for each of these modes
pub record HaveImages (made : List declared.Port) (ms : List Modes) : Type 0 where
  pub sizes : map sizes_of made ≡ map (λ m. m.sizes.items) ms
  pub fit : PortsFit None 1 made

pub no_images : (made : List declared.Port) → made ≡ [] → HaveImages made []
no_images made none = record { sizes = ap (map sizes_of) none; fit = subst (λ ps. PortsFit None 1 ps) (sym none) tt }

-- one more port
pub more_images : (made more : List declared.Port) (ms : List Modes) (m : Modes) (p : declared.Port) → HaveImages made ms
    → may_have m ≡ true
    → more ≡ made ++ p ∷ [] → p.modes.items ≡ m.sizes.items → HoldsBut 0 p.modes.items p.images.items → HaveImages more (ms ++ m ∷ [])
more_images made more ms m p so_far may more-is modes-are images =
    record {
      sizes = ap (map sizes_of) more-is ∙ map-append sizes_of made (p ∷ []) ∙ ap (λ ss. ss ++ sizes_of p ∷ []) so_far.sizes
          ∙ ap (λ s. map (λ m. m.sizes.items) ms ++ s ∷ []) modes-are ∙ sym (map-append (λ m. m.sizes.items) ms (m ∷ []));
      fit = subst (λ ps. PortsFit None 1 ps) (sym more-is) (ports_more None 1 made p so_far.fit (record {
        sides = ap (list_all has_sides) modes-are ∙ (may_parts m may).1;
        images = images;
      }));
    }

-- the bytes of a screen
screen_bytes : (m : Modes) → may_have m ≡ true → buffer_bytes (fresh (mode_size 1 m.sizes.items) Rgbx8 3) ≤ SCREEN_BYTES
screen_bytes m may =
    of_sizes m.sizes.items (and_parts (nat_le 1 (length m.sizes.items) && nat_le (length m.sizes.items) 4)
    (list_all has_sides m.sizes.items) may).1
  where
    of_sizes : (sizes : List Size) → list_all has_sides sizes ≡ true → buffer_bytes (fresh (mode_size 1 sizes) Rgbx8 3) ≤ SCREEN_BYTES
    of_sizes [] sides = lit≤ tt
    of_sizes (s ∷ sizes) sides =
        let these = and_parts (is_side s.w) (is_side s.h) (and_parts (has_sides s) (list_all has_sides sizes) sides).0 in
        let w : s.w ≤ MOST_SIDE = leb-true s.w MOST_SIDE (and_parts (nat_le 1 s.w) (nat_le s.w MOST_SIDE) these.0).1 in
        let h : s.h ≤ MOST_SIDE = leb-true s.h MOST_SIDE (and_parts (nat_le 1 s.h) (nat_le s.h MOST_SIDE) these.1).1 in
        let first : s.w * s.h ≤ MOST_SIDE * s.h = mul-le-mul_right s.h w in
        let second : MOST_SIDE * s.h ≤ MOST_SIDE * MOST_SIDE = mul-le-mul_left MOST_SIDE h in
        omega arith

-- the screens of ports take 12,582,912 bytes each at most
screens_bytes : (k : ℕ) (ms : List Modes) → list_all may_have ms ≡ true → (held (screens k ms)).bytes ≤ length ms * SCREEN_BYTES
screens_bytes k [] may = lit≤ tt
screens_bytes k (m ∷ ms) may =
    let each = and_parts (may_have m) (list_all may_have ms) may in
    omega (
      arith,
      screens_bytes (k + 1) ms each.1,
      screen_bytes m each.0,
      sum_by-cons (λ s. buffer_bytes s.buffers) (screen (k, m)) (screens (k + 1) ms),
    )

-- no objects fit a store without handles
none_fit : (store : StoreView) → store.others ≡ [] → Fits no_objects store
none_fit store none =
    record {
      handles = record {
        rising = rw none (omega arith);
        devices = rw none refl;
        contexts = rw none refl;
        sources = rw none refl;
        masks = rw none refl;
        elements = tt;
        owned = rw none refl;
      };
      streams = record { sources = tt; masks = tt; contexts = tt };
    }

-- the ports that may be declared: as many as are told, with modes that a port may have
pub declared_ports : (ports : Ports) → may_declare ports ≡ true
    → (length ports.modes.items ≤ 4) × (list_all may_have ports.modes.items ≡ true)
declared_ports ports may =
    let first = nat_le 1 (length ports.modes.items) in
    let second = nat_le (length ports.modes.items) 4 in
    let third = list_all may_have ports.modes.items in
    let outer = and_parts (first && second && third) (nat_le ports.pipes MOST_PIPELINES) may in
    let inner = and_parts (first && second) third outer.0 in
    (leb-true (length ports.modes.items) 4 (and_parts first second inner.0).1, inner.1)

opened_modes : (ms : List Modes) → map (λ (p : display.Port). p.modes.items) (map initial_port ms) ≡ map (λ m. m.sizes.items) ms
opened_modes [] = refl
opened_modes (m ∷ ms) = ap (λ ss. m.sizes.items ∷ ss) (opened_modes ms)

-- the machine whose declared ports stand open
pub record IsOpen (m : Inside) (ports : Ports) : Type 0 where
  pub store : m.store ≡ with_screens ports.modes.items
  pub core : m.core ≡ no_objects
  pub display : m.display ≡ opened_display ports
  pub shows : Shows m.display m.store
  pub images : HaveImages m.ports.items ports.modes.items
  pub begun : m.begun ≡ 0
  pub free : m.frame ≡ None

-- what holds of it
pub sound_when_open : (m : Inside) (ports : Ports) → IsOpen m ports → may_declare ports ≡ true → Holds m
sound_when_open m ports opened may =
    let ms = ports.modes.items in
    let rules = declared_ports ports may in
    let many : length m.ports.items ≡ length ms =
    sym (length-map m.ports.items sizes_of) ∙ ap length opened.images.sizes ∙ length-map ms (λ m. m.sizes.items) in
    record {
      fits = rw opened.core (none_fit m.store (ap (λ v. v.others) opened.store));
      shows = opened.shows;
      numbered = rw opened.store (screens_numbered 0 1 (length ms) ms (omega arith) (omega arith));
      few = omega (arith, many, rules.0);
      modes = opened.images.sizes ∙ sym (opened_modes ms) ∙ ap modes_of (sym opened.display);
      ports = rw opened.free opened.images.fit;
      small = rw opened.store (omega (arith, screens_bytes 1 ms rules.1, rules.0));
      streams = rw (opened.free, opened.store) (screens_fit 1 ms rules.1);
      frame = rw opened.free tt;
      once = rw opened.free tt;
      known = rw opened.free tt;
    }

-- each stream that is kept has one name
one_each : (n : ℕ) (ss : List KeptStream) → is_some (stream_at n ss) ≡ nat_lt 0 (counted n (one_name_each ss))
one_each n [] = refl
one_each n (s ∷ ss) =
    elim (s.number == n) as (λ b. is_some (cond b (Some s) (stream_at n ss))
    ≡ nat_lt 0 (unwrap_or (option_map (λ c. c.1) (cond b (Some (s.number, 1)) (at_key (λ c. c.0) n (one_name_each ss)))) 0)) [
      | true ↦ refl
      | false ↦ one_each n ss
    ]

-- a number below a range is not in it
below_range : (n low many : ℕ) → n < low → times n (range_with_len low many) ≡ 0
below_range n low zero under = refl
below_range n low (suc many) under =
    let later = below_range n (low + 1) many (omega (arith, under)) in
    let whole = times_cons n low (range_with_len (low + 1) many) in
    let other : (low == n) ≡ false = grind (arith, nat_tests, under) in
    let none : cond (low == n) 1 0 ≤ 0 = (rw other (omega arith)) in
    omega (arith, later, whole, none)

-- which is that of its port
screens_counts : (n k : ℕ) (ms : List Modes) → counted n (one_name_each (screens k ms)) ≡ times n (range_with_len k (length ms))
screens_counts n k [] = refl
screens_counts n k (m ∷ ms) =
    let later = screens_counts n (k + 1) ms in
    let whole = times_cons n k (range_with_len (k + 1) (length ms)) in
    elim (k == n) as (λ b. (k == n) ≡ b
    → unwrap_or (option_map (λ c. c.1) (cond b (Some (k, 1)) (at_key (λ c. c.0) n (one_name_each (screens (k + 1) ms))))) 0
    ≡ times n (range_with_len k (length (m ∷ ms)))) [
      | true ↦ λ is. (
          let none = below_range n (k + 1) (length ms) (grind (arith, nat_tests, is)) in
          let one : 1 ≤ cond (k == n) 1 0 = (rw is (omega arith)) in
          let most : cond (k == n) 1 0 ≤ 1 = (rw is (omega arith)) in
          omega (arith, whole, none, one, most))
      | false ↦ λ is. (
          let zero : cond (k == n) 1 0 ≤ 0 = (rw is (omega arith)) in
          omega (arith, whole, later, zero))
    ] refl

-- no pipeline shows anything
no_pipelines : (n pipes : ℕ) → 0 < n → times n (flat_map pipeline_names (replicate pipes initial_pipeline)) ≡ 0
no_pipelines n zero some = refl
no_pipelines n (suc pipes) some =
    let later = no_pipelines n pipes some in
    let both = times_append n (0 ∷ []) (flat_map pipeline_names (replicate pipes initial_pipeline)) in
    omega (arith, later, both, times_zero n some)

-- no screen has a name of its own
no_own : (n k : ℕ) (ms : List Modes) → times n (flat_map own_names (screens k ms)) ≡ 0
no_own n k [] = refl
no_own n k (m ∷ ms) = no_own n (k + 1) ms

-- the names before the first call are the screens' ports
pub opening_counts : (ports : Ports) → CountsNames (with_screens ports.modes.items) (opening ports)
opening_counts ports n some =
    let ms = ports.modes.items in
    let h = opening ports in
    let parts = all_times n h in
    let many : length h.display.ports ≡ length ms = length-map ms initial_port in
    let screens_are = screens_counts n 1 ms in
    let range : times n (range_with_len 1 (length h.display.ports)) ≡ times n (range_with_len 1 (length ms)) =
    ap (λ k. times n (range_with_len 1 k)) many in
    let both = times_append n (range_with_len 1 (length h.display.ports) ++ []) (flat_map pipeline_names h.display.pipelines) in
    let first = times_append n (range_with_len 1 (length h.display.ports)) [] in
    omega (arith, parts, screens_are, range, both, first, no_pipelines n ports.pipes some, no_own n 1 ms)

-- it is as it opens
pub opening_is : (m : Inside) (ports : Ports) → IsOpen m ports → state_of m ≡ opening ports
opening_is m ports opened =
    let state : StoreView → CoreState → DisplayState → ℕ → Option Frame → State = λ v core display n frame.
    record {
      made = v.made;
      numbered = v.numbered;
      begun = n;
      streams = v.streams;
      core = core;
      display = display;
      frame = option_map running_of frame;
    } in
    ap (λ v. state v m.core m.display m.begun m.frame) opened.store
    ∙ ap (λ core. state (with_screens ports.modes.items) core m.display m.begun m.frame) opened.core
    ∙ ap (λ d. state (with_screens ports.modes.items) no_objects d m.begun m.frame) opened.display
    ∙ ap (λ n. state (with_screens ports.modes.items) no_objects (opened_display ports) n m.frame) opened.begun
    ∙ ap (λ f. state (with_screens ports.modes.items) no_objects (opened_display ports) 0 f) opened.free

-- all the modes, once the last was passed
pub whole_modes : (all modes : List Modes) (i : ℕ) → all ≡ modes → length all ≤ i → take i all ≡ modes
whole_modes all modes i is past = take_all i all past ∙ is

-- and is sound
pub sound_opened : (m : Inside) (ports : Ports) → IsOpen m ports → may_declare ports ≡ true → IsSound m
sound_opened m ports opened may =
    record {
      holds = sound_when_open m ports opened may;
      counted = λ n. rw opened.store (one_each n (screens 1 ports.modes.items));
      counts = subst (λ v. CountsNames v (state_of m)) (sym opened.store)
          (subst (CountsNames (with_screens ports.modes.items)) (sym (opening_is m ports opened)) (opening_counts ports));
    }
