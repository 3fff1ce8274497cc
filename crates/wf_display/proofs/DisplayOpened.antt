-- The display before the first call, with the screens of its ports.
use Rattle.std.proofs.Common.{◌≡◌, ◌∙◌, ◌<◌, ◌≤◌, ℕ, zero, suc, ◌+◌, Bool, true, false, ◌&&◌, ◌==◌, List, [], ◌∷◌, ◌++◌, get_or, length}
use Rattle.std.proofs.Common.{map}
use Rattle.std.proofs.Common.{Some, replicate, refl, sym, ap, subst, arith}
use Rattle.std.specs.Prelude.{nat_le, zip, IsSomeAnd}
use Rattle.std.specs.List.{AllByRecursion, list_all, range_with_len}
use Rattle.std.proofs.lemmas.Bool.{and_parts, leb-true}
use Rattle.std.proofs.lemmas.Bool.Decides.{nat_tests}
use Rattle.std.proofs.lemmas.List.{length-append, map-append}
use Rattle.std.proofs.lemmas.List.Folds.{list_all_at}
use Rattle.wf_pixel.specs.Choice.{has_sides}
use Rattle.wf_pixel.specs.declared.Format.TheVariants.{Rgbx8}
use Rattle.wf_pixel.specs.declared.Size.{Size}
use Rattle.wf_stream.specs.Buffers.{fresh}
use Rattle.wf_stream.specs.Streams.{KeptStream, StoreView, buffers_at, one_name_each, with_screen}
use Rattle.wf_calls.specs.PortRules.{may_declare, may_have}
use Rattle.wf_calls.specs.declared.ports.Modes.{Modes}
use Rattle.wf_calls.specs.declared.ports.Ports.{Ports}
use Rattle.wf_model.specs.declared.display.Pipeline.{Pipeline}
use Rattle.wf_model.specs.State.{initial_pipeline, initial_port, mode_size, opened_display, screen, screens}
use Rattle.wf_display.specs.Display.{IsDisplay, IsPipeline, IsPort}
use Rattle.wf_display.specs.Fits.{Fits, IsScreen, PipelineFits, ScreensFit}
use Rattle.wf_display.specs.Opening.{with_screens}
use Rattle.wf_calls.specs.declared.TheConstants.{MOST_PIPELINES}

-- modes that may be declared

-- a port has 1 to 4 modes, whose sides are in their range
pub modes_of : (m : Modes) → may_have m ≡ true
    → (1 ≤ length m.sizes.items) × (length m.sizes.items ≤ 4) × (list_all has_sides m.sizes.items ≡ true)
modes_of m may =
    let outer = and_parts (nat_le 1 (length m.sizes.items) && nat_le (length m.sizes.items) 4) (list_all has_sides m.sizes.items) may in
    let inner = and_parts (nat_le 1 (length m.sizes.items)) (nat_le (length m.sizes.items) 4) outer.0 in
    (leb-true 1 (length m.sizes.items) inner.0, leb-true (length m.sizes.items) 4 inner.1, outer.1)

-- what is read at the first place is the first mode, which has sides
pub first_of : (sizes : List Size) (m : Modes) (d : Size) → sizes ≡ m.sizes.items → may_have m ≡ true
    → (get_or sizes 0 d ≡ mode_size 1 m.sizes.items) × (has_sides (get_or sizes 0 d) ≡ true)
first_of sizes m d is may = (let modes = modes_of m may in of_sizes sizes is modes.0 modes.2)
  where
    of_sizes : (ss : List Size) → ss ≡ m.sizes.items → 1 ≤ length m.sizes.items → list_all has_sides m.sizes.items ≡ true
        → (get_or ss 0 d ≡ mode_size 1 m.sizes.items) × (has_sides (get_or ss 0 d) ≡ true)
    of_sizes [] same some sides = absurd (omega (arith, some, ap length same))
    of_sizes (s ∷ ss) same some sides =
        (ap (λ xs. mode_size 1 xs) same, (and_parts (has_sides s) (list_all has_sides ss) (ap (list_all has_sides) same ∙ sides)).0)

pub may_at : (all : List Modes) (i : ℕ) (m : Modes) → i < length all → m ≡ get_or all i m → list_all may_have all ≡ true → may_have m ≡ true
may_at all i m within is may = ap may_have is ∙ of_read (may_have (get_or all i m)) refl
  where
    of_read : (b : Bool) → may_have (get_or all i m) ≡ b → b ≡ true
    of_read true at = refl
    of_read false at = absurd (let none = list_all_at may_have all i m within at in cc)

-- the ports that may be declared have modes that a port may have, and there are 8 pipelines at most
pub declared_of : (ports : Ports) → may_declare ports ≡ true
    → (length ports.modes.items ≤ 4) × (list_all may_have ports.modes.items ≡ true) × (ports.pipes ≤ MOST_PIPELINES)
declared_of ports may = of_parts (nat_le 1 (length ports.modes.items)) (nat_le (length ports.modes.items) 4)
    (list_all may_have ports.modes.items) (nat_le ports.pipes MOST_PIPELINES) refl refl refl may
  where
    of_parts : (a b c e : Bool) → nat_le (length ports.modes.items) 4 ≡ b → list_all may_have ports.modes.items ≡ c
        → nat_le ports.pipes MOST_PIPELINES ≡ e → (a && b && c && e) ≡ true
        → (length ports.modes.items ≤ 4) × (list_all may_have ports.modes.items ≡ true) × (ports.pipes ≤ MOST_PIPELINES)
    of_parts true true true true few modes pipes h =
        (leb-true (length ports.modes.items) 4 few, modes, leb-true ports.pipes MOST_PIPELINES pipes)
    of_parts true true true false few modes pipes h = absurd cc
    of_parts true true false e few modes pipes h = absurd cc
    of_parts true false c e few modes pipes h = absurd cc
    of_parts false b c e few modes pipes h = absurd cc

-- screens

abbrev screens_from : ℕ → List Modes → List KeptStream
screens_from k ms = map screen (zip (range_with_len k (length ms)) ms)

more_from : (k : ℕ) (ms : List Modes) (m : Modes) → screens_from k (ms ++ m ∷ []) ≡ screens_from k ms ++ screen (k + length ms, m) ∷ []
more_from k [] m = ap (λ n. screen (n, m) ∷ []) (omega arith)
more_from k (x ∷ ms) m =
    let later : k + 1 + length ms ≡ k + suc (length ms) = omega arith in
    ap (λ ss. screen (k, x) ∷ ss) (more_from (k + 1) ms m ∙ ap (λ n. screens_from (k + 1) ms ++ screen (n, m) ∷ []) later)

-- one more screen
pub more_screens : (store left : StoreView) (ms : List Modes) (m : Modes) (size : Size) → store ≡ with_screens ms
    → size ≡ mode_size 1 m.sizes.items → left ≡ with_screen size store → left ≡ with_screens (ms ++ m ∷ [])
more_screens store left ms m size so_far size-is left-is =
    let count : length (ms ++ m ∷ []) ≡ length ms + 1 = length-append ms (m ∷ []) in
    let number : length ms + 1 ≡ 1 + length ms = omega arith in
    let last : KeptStream = screen (1 + length ms, m) in
    left-is ∙ ap (with_screen size) so_far
    ∙ ap (λ s. with_screen s (with_screens ms)) size-is
    ∙ ap (λ n. record (with_screens ms) {
      numbered = length ms + 1;
      streams = screens ms ++ record { number = n; handle = 0; buffers = fresh (mode_size 1 m.sizes.items) Rgbx8 3 } ∷ [];
      counts = one_name_each (screens ms) ++ (n, 1) ∷ [];
    }) number
    ∙ ap (λ cs. record (with_screens ms) { numbered = length ms + 1; streams = screens ms ++ last ∷ []; counts = cs })
    (sym (map-append (λ (s : KeptStream). (s.number, 1)) (screens ms) (last ∷ [])))
    ∙ ap (λ ss. record (with_screens ms) { numbered = length ms + 1; streams = ss; counts = one_name_each ss }) (sym (more_from 1 ms m))
    ∙ ap (λ n. record (with_screens ms) {
      numbered = n;
      streams = screens (ms ++ m ∷ []);
      counts = one_name_each (screens (ms ++ m ∷ []));
    }) (sym count)

-- each port has its screen

found_behind : (k n : ℕ) (ms : List Modes) (front : KeptStream) → front.number < n
    → buffers_at n (front ∷ screens_from k ms) ≡ buffers_at n (screens_from k ms)
found_behind k n ms front less = (let apart : (front.number == n) ≡ false = grind (arith, nat_tests, less) in rw apart refl)

screens_fit : (streams : List KeptStream) (k : ℕ) (ms : List Modes)
    → ((n : ℕ) → k ≤ n → buffers_at n (screens_from k ms) ≡ buffers_at n streams) → ScreensFit streams k (map initial_port ms)
screens_fit streams k [] same = tt
screens_fit streams k (m ∷ ms) same =
    let itself : (k == k) ≡ true = grind (arith, nat_tests) in
    let here : Some (fresh (mode_size 1 m.sizes.items) Rgbx8 3) ≡ buffers_at k streams = sym (rw itself refl) ∙ same k (omega arith) in (
      subst (λ o. IsSomeAnd o (λ b. IsScreen b (initial_port m))) here (refl, refl),
      screens_fit streams (k + 1) ms (λ n from. sym (found_behind (k + 1) n ms (screen (k, m)) (omega (arith, from)))
          ∙ same n (omega (arith, from))),
    )

-- what holds before the first call

initial_holds : (ms : List Modes) → list_all may_have ms ≡ true → AllByRecursion IsPort (map initial_port ms)
initial_holds [] may = tt
initial_holds (m ∷ ms) may =
    let each = and_parts (may_have m) (list_all may_have ms) may in
    let modes = modes_of m each.0 in
    let first : (1 ≤ 1) × (1 ≤ length m.sizes.items) = (omega arith, modes.0) in
    (record { sides = modes.2; cached = first; committed = first }, initial_holds ms each.1)

each_replicated : (P : Pipeline → Type 0) (n : ℕ) (x : Pipeline) → P x → AllByRecursion P (replicate n x)
each_replicated P zero x holds = tt
each_replicated P (suc n) x holds = (holds, each_replicated P n x holds)

as_many_initial : (ms : List Modes) → length (map initial_port ms) ≡ length ms
as_many_initial [] = refl
as_many_initial (m ∷ ms) = ap suc (as_many_initial ms)

as_many_replicated : (n : ℕ) (x : Pipeline) → length (replicate n x) ≡ n
as_many_replicated zero x = refl
as_many_replicated (suc n) x = ap suc (as_many_replicated n x)

pub opened_holds : (ports : Ports) → may_declare ports ≡ true → IsDisplay (opened_display ports)
opened_holds ports may =
    let declared = declared_of ports may in
    record {
      ports = initial_holds ports.modes.items declared.1;
      pipelines = each_replicated IsPipeline ports.pipes initial_pipeline (record {
        cached = record { placed = refl; unmasked = refl };
        committed = record { placed = refl; unmasked = refl };
      });
      few_ports = omega (arith, declared.0, as_many_initial ports.modes.items);
      few_pipelines = omega (arith, declared.2, as_many_replicated ports.pipes initial_pipeline);
    }

pub opened_fits : (ports : Ports) → Fits (opened_display ports) (with_screens ports.modes.items)
opened_fits ports =
    record {
      handles = record { rising = omega arith; sources = refl };
      streams = record {
        screens = screens_fit (screens ports.modes.items) 1 ports.modes.items (λ n from. refl);
        sources = tt;
        pipelines = each_replicated (PipelineFits (screens ports.modes.items)) ports.pipes initial_pipeline (λ some. absurd cc);
      };
    }
