-- Streams without a name are dropped, and what holds of the machine holds still.
use Rattle.wf_machine.proofs.Common.{◌≡◌, ℕ, zero, suc, ◌+◌, ◌<◌, ◌≤◌, Bool, true, false, cond, ◌==◌, ◌||◌, List, [], ◌∷◌, ◌++◌, length}
use Rattle.wf_machine.proofs.Common.{map, filter, Option, Some, None, refl, sym, ap, subst, ◌∙◌, arith, flat_map, sum_by, range_with_len}
use Rattle.wf_machine.proofs.Common.{option_map, IfSome, eqb-true, nat_tests, length-map, list_any-append, sum_by-cons, is_in, buffer_bytes}
use Rattle.wf_machine.proofs.Common.{KeptStream, StoreView, IsNumbered, buffers_at, held, stream_at, JobKind, Content, Size, Frame, State}
use Rattle.wf_machine.proofs.Common.{opening, screen, all_names, core_names, display_names, frame_names, kept, own_names}
use Rattle.wf_machine.proofs.Common.{settle, target_names, Modes, Ports, Inside, AllFit, FrameFits, IsOfTarget, KindFits, contents_of}
use Rattle.wf_machine.proofs.Common.{Holds, state_of, IsSettled, running_of, sizes_of}
use Rattle.wf_calls.specs.declared.call.JobKind.TheVariants as kind
use Rattle.wf_model.specs.Names.{pipeline_names}
use Rattle.wf_model.specs.State.{initial_port}
use Rattle.wf_machine.proofs.MachineOpened.{screens}
use Rattle.wf_model.specs.Kept.{modes_of}
use Rattle.wf_model.specs.Named.{KeepsNamed, in_back, in_first, in_front}
use Rattle.wf_model.specs.Objects.{CoreState}
use Rattle.wf_model.specs.State.{DisplayState}
use Rattle.wf_objects.specs.Fits.{Fits}
use Rattle.wf_display.specs.Fits.{Fits as Shows}
use Rattle.wf_objects.specs.Named.{still_fits}
use Rattle.wf_display.specs.Named.{still_shown, zero_unseen}

-- no stream has the number 0
pub none_at_zero : (low high : ℕ) (ss : List KeptStream) → IsNumbered low ss high → stream_at 0 ss ≡ None
none_at_zero low high [] rising = refl
none_at_zero low high (s ∷ ss) rising =
    let apart : (s.number == 0) ≡ false = grind (arith, nat_tests, rising.0) in
    rw apart (none_at_zero s.number high ss rising.1)

-- the streams whose numbers are in a list
abbrev pub among : List ℕ → List KeptStream → List KeptStream
among ns ss = filter (λ s. is_in s.number ns) ss

-- what is found, and what holds, of those that are left

pub found_among : (ns : List ℕ) (n : ℕ) (ss : List KeptStream) → is_in n ns ≡ true → stream_at n (among ns ss) ≡ stream_at n ss
found_among ns n [] within = refl
found_among ns n (s ∷ ss) within =
    elim (s.number == n) as (λ b. (s.number == n) ≡ b → stream_at n (among ns (s ∷ ss)) ≡ cond b (Some s) (stream_at n ss)) [
      | true ↦ λ here. (let there : is_in s.number ns ≡ true = ap (λ k. is_in k ns) (eqb-true s.number n here) ∙ within in
          rw (there, here) refl)
      | false ↦
          λ other. (elim (is_in s.number ns) as (λ b. stream_at n (cond b (s ∷ among ns ss) (among ns ss))
          ≡ stream_at n ss) [ true ↦ rw other (found_among ns n ss within) | false ↦ found_among ns n ss within ])
    ] refl

pub seen_among : (ns : List ℕ) (n : ℕ) (ss : List KeptStream) → is_in n ns ≡ true → buffers_at n (among ns ss) ≡ buffers_at n ss
seen_among ns n ss within = ap (λ o. option_map (λ s. s.buffers) o) (found_among ns n ss within)

numbered_lower : (low under high : ℕ) (ss : List KeptStream) → under ≤ low → IsNumbered low ss high → IsNumbered under ss high
numbered_lower low under high [] least rising = omega (arith, rising)
numbered_lower low under high (s ∷ ss) least rising = (omega (arith, rising.0), rising.1)

pub numbered_among : (ns : List ℕ) (low high : ℕ) (ss : List KeptStream) → IsNumbered low ss high → IsNumbered low (among ns ss) high
numbered_among ns low high [] rising = rising
numbered_among ns low high (s ∷ ss) rising =
    let later = numbered_among ns s.number high ss rising.1 in
    elim (is_in s.number ns) as (λ b. IsNumbered low (cond b (s ∷ among ns ss) (among ns ss)) high) [
      | true ↦ (rising.0, later)
      | false ↦ numbered_lower s.number low high (among ns ss) (omega (arith, rising.0)) later
    ]

bytes_among : (ns : List ℕ) (ss : List KeptStream) → (held (among ns ss)).bytes ≤ (held ss).bytes
bytes_among ns [] = omega arith
bytes_among ns (s ∷ ss) =
    let each : KeptStream → ℕ = λ t. buffer_bytes t.buffers in
    let later = bytes_among ns ss in
    elim (is_in s.number ns) as (λ b. sum_by each (cond b (s ∷ among ns ss) (among ns ss)) ≤ sum_by each (s ∷ ss)) [
      | true ↦ omega (arith, later, sum_by-cons each s (among ns ss), sum_by-cons each s ss)
      | false ↦ omega (arith, later, sum_by-cons each s ss)
    ]

fit_among : (ns : List ℕ) (cs : List Content) (ss : List KeptStream) → AllFit cs ss → AllFit cs (among ns ss)
fit_among ns cs [] fit = tt
fit_among ns cs (s ∷ ss) fit = elim (is_in s.number ns) as (λ b. AllFit cs (cond b (s ∷ among ns ss) (among ns ss))) [
  | true ↦ (fit.0, fit_among ns cs ss fit.1)
  | false ↦ fit_among ns cs ss fit.1
]

-- the names of a state

pub core_named : (h : State) (n : ℕ) → is_in n (core_names h.core) ≡ true → is_in n (all_names h) ≡ true
core_named h n within =
    in_front n ((flat_map own_names h.streams ++ core_names h.core) ++ display_names h.display) (frame_names h.frame)
    (in_front n (flat_map own_names h.streams ++ core_names h.core) (display_names h.display)
    (in_back n (flat_map own_names h.streams) (core_names h.core) within))

pub display_named : (h : State) (n : ℕ) → is_in n (display_names h.display) ≡ true → is_in n (all_names h) ≡ true
display_named h n within =
    in_front n ((flat_map own_names h.streams ++ core_names h.core) ++ display_names h.display) (frame_names h.frame)
    (in_back n (flat_map own_names h.streams ++ core_names h.core) (display_names h.display) within)

frame_named : (h : State) (n : ℕ) → is_in n (frame_names h.frame) ≡ true → is_in n (all_names h) ≡ true
frame_named h n within = in_back n ((flat_map own_names h.streams ++ core_names h.core) ++ display_names h.display) (frame_names h.frame)
    within

-- the target of the running frame is left
frame_among : (ns : List ℕ) (modes : List (List Size)) (ss : List KeptStream) (o : Option Frame)
    → ((n : ℕ) → is_in n (frame_names (option_map running_of o)) ≡ true → is_in n ns ≡ true) → IfSome o (FrameFits modes ss)
    → IfSome o (FrameFits modes (among ns ss))
frame_among ns modes ss None named fits = tt
frame_among ns modes ss (Some f) named fits = of_kind f.kind
    (λ n within. named n (in_back n (map (λ c. c.stream) f.contents.items) (target_names f.kind) within)) fits
  where
    of_kind : (k : JobKind) → ((n : ℕ) → is_in n (target_names k) ≡ true → is_in n ns ≡ true) → KindFits modes f.mode ss f.size f.format k
        → KindFits modes f.mode (among ns ss) f.size f.format k
    of_kind (kind.Context handle target) named fits = subst (λ o. IsOfTarget o f.size f.format)
        (sym (seen_among ns target ss (named target (in_first target [])))) fits
    of_kind (kind.Port port) named fits = fits

-- what holds of the machine where its objects changed, and then the streams without a name were dropped; h is the machine's state
-- before they were
module _ (m : Inside) (holds : Holds m) (core : CoreState) (display : DisplayState) (store : StoreView) (h : State)
    (frame_is : h.frame ≡ option_map running_of m.frame) (streams : store.streams ≡ among (all_names h) m.store.streams) where
  -- the streams that these names stand for are as they were
  pub named_seen : (ns : List ℕ) → ((n : ℕ) → is_in n ns ≡ true → is_in n (all_names h) ≡ true)
      → KeepsNamed ns m.store.streams store.streams
  named_seen ns among_all n within b found =
      (b, ap (buffers_at n) streams ∙ seen_among (all_names h) n m.store.streams (among_all n within) ∙ found, refl, refl)

  pub holds_left : Fits core store → Shows display store → modes_of display ≡ modes_of m.display → store.numbered ≡ m.store.numbered
      → Holds (record m { core = core; display = display; store = store })
  holds_left fits shows modes numbered =
      let ns = all_names h in
      let ss = m.store.streams in
      let named : (n : ℕ) → is_in n (frame_names (option_map running_of m.frame)) ≡ true → is_in n ns ≡ true =
      λ n within. frame_named h n (ap (λ o. is_in n (frame_names o)) frame_is ∙ within) in
      record {
        fits = fits;
        shows = shows;
        numbered = rw (streams, numbered) (numbered_among ns 0 m.store.numbered ss holds.numbered);
        few = holds.few;
        modes = holds.modes ∙ sym modes;
        ports = holds.ports;
        small = rw streams (omega (arith, holds.small, bytes_among ns ss));
        streams = rw streams (fit_among ns (contents_of (option_map running_of m.frame)) ss holds.streams);
        frame = rw streams (frame_among ns (map sizes_of m.ports.items) ss m.frame named holds.frame);
        once = holds.once;
        known = rw numbered holds.known;
      }

-- the machine without the streams that nothing names
pub sound_settled : (m : Inside) (store : StoreView) → store.streams ≡ kept (state_of m) → store.others ≡ m.store.others
    → store.made ≡ m.store.made → store.numbered ≡ m.store.numbered → Holds m → Holds (record m { store = store })
sound_settled m store streams others made numbered holds =
    let h = state_of m in
    holds_left m holds m.core m.display store h refl streams
    (still_fits m.core m.store store others (omega (arith, made))
    (named_seen m holds m.core m.display store h refl streams (core_names m.core) (core_named h)) holds.fits)
    (still_shown m.display m.store store others (omega (arith, made))
    (zero_unseen 0 m.store.numbered m.store.streams store.streams holds.numbered)
    (named_seen m holds m.core m.display store h refl streams (display_names m.display) (display_named h)) holds.shows)
    refl numbered

-- dropping twice is dropping once

only_itself : (s : KeptStream) (n : ℕ) → is_in n (own_names s) ≡ true → s.number ≡ n
only_itself s n within =
    elim (s.handle == 0) as (λ b. is_in n (cond b [] (s.number ∷ []) ++ cond s.buffers.out (s.number ∷ []) []) ≡ true → s.number ≡ n) [
      | true ↦ elim s.buffers.out as (λ b. is_in n (cond b (s.number ∷ []) []) ≡ true
          → s.number ≡ n) [ true ↦ λ is. one is | false ↦ λ is. absurd cc ]
      | false ↦ elim s.buffers.out as (λ b. ((s.number == n) || is_in n (cond b (s.number ∷ []) [])) ≡ true → s.number ≡ n) [
        | true ↦ λ is. two is
        | false ↦ λ is. one is
      ]
    ] within
  where
    one : ((s.number == n) || false) ≡ true → s.number ≡ n
    one is = elim (s.number == n) as (λ b. (s.number == n) ≡ b → (b || false) ≡ true
        → s.number ≡ n) [ true ↦ λ here is. eqb-true s.number n here | false ↦ λ here is. absurd cc ] refl is

    two : ((s.number == n) || ((s.number == n) || false)) ≡ true → s.number ≡ n
    two is = elim (s.number == n) as (λ b. (s.number == n) ≡ b → (b || (b || false)) ≡ true
        → s.number ≡ n) [ true ↦ λ here is. eqb-true s.number n here | false ↦ λ here is. absurd cc ] refl is

-- a stream that names itself does so among those that are left
own_left : (ns : List ℕ) (n : ℕ) (ss : List KeptStream) → is_in n ns ≡ true → is_in n (flat_map own_names ss) ≡ true
    → is_in n (flat_map own_names (among ns ss)) ≡ true
own_left ns n [] within own = own
own_left ns n (s ∷ ss) within own =
    elim (is_in n (own_names s)) as (λ b. is_in n (own_names s) ≡ b → is_in n (flat_map own_names (among ns (s ∷ ss))) ≡ true) [
      | true ↦ λ here. (
          let there : is_in s.number ns ≡ true = ap (λ k. is_in k ns) (only_itself s n here) ∙ within in
          rw there (in_front n (own_names s) (flat_map own_names (among ns ss)) here))
      | false ↦ λ other. (
          let behind : is_in n (flat_map own_names ss) ≡ true = ap (λ b. b || is_in n (flat_map own_names ss)) (sym other)
          ∙ sym (list_any-append (λ x. x == n) (own_names s) (flat_map own_names ss)) ∙ own in
          let later = own_left ns n ss within behind in
          elim (is_in s.number ns) as (λ b. is_in n (flat_map own_names (cond b (s ∷ among ns ss) (among ns ss)))
          ≡ true) [ true ↦ in_back n (own_names s) (flat_map own_names (among ns ss)) later | false ↦ later ])
    ] refl

-- what is named is named still
still_named : (h : State) (n : ℕ) → is_in n (all_names h) ≡ true → is_in n (all_names (settle h)) ≡ true
still_named h n within =
    let own = flat_map own_names h.streams in
    let left = flat_map own_names (kept h) in
    let core = core_names h.core in
    let display = display_names h.display in
    let frame = frame_names h.frame in
    let split : (a b c d : List ℕ) → is_in n (((a ++ b) ++ c) ++ d) ≡ (((is_in n a || is_in n b) || is_in n c) || is_in n d) = λ a b c d.
    list_any-append (λ x. x == n) ((a ++ b) ++ c) d
    ∙ ap (λ x. x || is_in n d) (list_any-append (λ x. x == n) (a ++ b) c
    ∙ ap (λ x. x || is_in n c) (list_any-append (λ x. x == n) a b)) in
    let was : (((is_in n own || is_in n core) || is_in n display) || is_in n frame) ≡ true = sym (split own core display frame) ∙ within in
    split left core display frame
    ∙ elim (is_in n own) as (λ b. is_in n own ≡ b → (((b || is_in n core) || is_in n display) || is_in n frame) ≡ true
    → (((is_in n left || is_in n core) || is_in n display) || is_in n frame) ≡ true) [
      | true ↦ λ here _. rw (own_left (all_names h) n h.streams within here) refl
      | false ↦ λ other rest. or_behind (is_in n left) (is_in n core) (is_in n display) (is_in n frame) rest
    ] refl was
  where
    or_behind : (a b c d : Bool) → ((b || c) || d) ≡ true → (((a || b) || c) || d) ≡ true
    or_behind true b c d is = refl
    or_behind false b c d is = is

all_left : (ns ms : List ℕ) (ss : List KeptStream) → ((n : ℕ) → is_in n ns ≡ true → is_in n ms ≡ true)
    → among ms (among ns ss) ≡ among ns ss
all_left ns ms [] named = refl
all_left ns ms (s ∷ ss) named =
    elim (is_in s.number ns) as (λ b. is_in s.number ns ≡ b
    → among ms (cond b (s ∷ among ns ss) (among ns ss)) ≡ cond b (s ∷ among ns ss) (among ns ss)) [
      | true ↦ λ here. (let there = named s.number here in rw there (ap (λ ts. s ∷ ts) (all_left ns ms ss named)))
      | false ↦ λ other. all_left ns ms ss named
    ] refl

pub settled : (h : State) → IsSettled (settle h)
settled h = sym (all_left (all_names h) (all_names (settle h)) h.streams (still_named h))

-- before the first call there are the screens alone, which the ports name

in_range : (n low many : ℕ) → low ≤ n → n < low + many → is_in n (range_with_len low many) ≡ true
in_range n low zero from to = absurd (omega arith)
in_range n low (suc many) from to =
    elim (low == n) as (λ b. (low == n) ≡ b → (b || is_in n (range_with_len (low + 1) many)) ≡ true) [
      | true ↦ λ here. refl
      | false ↦ λ apart. in_range n (low + 1) many (grind (arith, nat_tests)) (omega arith)
    ] refl

screens_left : (ns : List ℕ) (k : ℕ) (ms : List Modes) → ((n : ℕ) → k ≤ n → n < k + length ms → is_in n ns ≡ true)
    → among ns (screens k ms) ≡ screens k ms
screens_left ns k [] named = refl
screens_left ns k (m ∷ ms) named =
    let here : is_in k ns ≡ true = named k (omega arith) (omega arith) in
    rw here (ap (λ ss. screen (k, m) ∷ ss)
    (screens_left ns (k + 1) ms (λ n from to. named n (omega arith) (omega arith))))

pub opening_settled : (ports : Ports) → IsSettled (opening ports)
opening_settled ports =
    let ms = ports.modes.items in
    let h = opening ports in
    sym (screens_left (all_names h) 1 ms (λ n from to. (
    let many : length h.display.ports ≡ length ms = length-map ms initial_port in
    let screen : is_in n (range_with_len 1 (length h.display.ports)) ≡ true = ap (λ k. is_in n (range_with_len 1 k)) many
    ∙ in_range n 1 (length ms) from to in
    let sources = map (λ s. s.stream) h.display.sources in
    let pipelines = flat_map pipeline_names h.display.pipelines in
    display_named h n (in_front n (range_with_len 1 (length h.display.ports) ++ sources) pipelines
    (in_front n (range_with_len 1 (length h.display.ports)) sources screen)))))
