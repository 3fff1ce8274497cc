-- What the counts of a store tell of a state whose names they count.
use Rattle.std.proofs.Common.{◌≡◌, ◌∙◌, ℕ, ◌+◌, ◌<◌, ◌≤◌, Bool, true, false, cond, not, ◌==◌, nat_lt, List, [], ◌∷◌, ◌++◌, map, filter}
use Rattle.std.proofs.Common.{flat_map, Some, refl, sym, ap, arith, unwrap_or, option_map}
use Rattle.std.proofs.lemmas.Bool.{eq-eqb, eqb-true}
use Rattle.std.proofs.lemmas.Bool.Decides.{nat_tests}
use Rattle.wf_words.specs.Keyed.{change, is_in}
use Rattle.wf_stream.specs.Counts.{times}
use Rattle.wf_stream.specs.Names.{handle_names, times_append, times_cons}
use Rattle.wf_stream.specs.Streams.{IsNumbered, KeptStream, StoreView, count_of, stream_at}
use Rattle.wf_model.specs.Names.{all_names, core_names, display_names, frame_names, kept, own_names, settle}
use Rattle.wf_model.specs.State.{State}

-- the count of each stream is how many names it has
abbrev pub CountsNames : StoreView → State → Type 0
CountsNames v h = (n : ℕ) → 0 < n → count_of n v ≡ times n (all_names h)

-- a number is in a list where it stands there at least once
pub named_in : (n : ℕ) (ns : List ℕ) → is_in n ns ≡ nat_lt 0 (times n ns)
named_in n [] = refl
named_in n (x ∷ ns) =
    let later = named_in n ns in
    let whole = times_cons n x ns in
    grind (arith, nat_tests, later, whole)

pub times_in : (n : ℕ) (ns : List ℕ) → is_in n ns ≡ true → 0 < times n ns
times_in n ns within = (let is = named_in n ns in grind (arith, nat_tests, is, within))

-- the names of a state, by whom they are

pub all_times : (n : ℕ) (h : State)
    → times n (all_names h)
    ≡ times n (flat_map own_names h.streams) + times n (core_names h.core) + times n (display_names h.display) + times n
    (frame_names h.frame)
all_times n h =
    let own = flat_map own_names h.streams in
    let core = core_names h.core in
    let display = display_names h.display in
    let frame = frame_names h.frame in
    let a = times_append n own core in
    let b = times_append n (own ++ core) display in
    let c = times_append n ((own ++ core) ++ display) frame in
    omega (arith, a, b, c)

-- a stream's own names

-- a number where a test holds, and else 0
abbrev pub counts_if : Bool → ℕ → ℕ
counts_if b k = cond b k 0

-- how many a stream has
abbrev pub own_count : KeptStream → ℕ
own_count s = counts_if (not (s.handle == 0)) 1 + counts_if s.buffers.out 1

pub own_times : (n : ℕ) (s : KeptStream) → times n (own_names s) ≡ counts_if (s.number == n) (own_count s)
own_times n s =
    elim (s.handle == 0) as (λ b. times n (cond b [] (s.number ∷ []) ++ cond s.buffers.out (s.number ∷ []) [])
    ≡ counts_if (s.number == n) (counts_if (not b) 1 + counts_if s.buffers.out 1)) [
      | true ↦ elim s.buffers.out as (λ o. times n (cond o (s.number ∷ []) []) ≡ counts_if (s.number == n) (0 + counts_if o 1)) [
        | true ↦ one
        | false ↦ sym (zero (s.number == n))
      ]
      | false ↦ elim s.buffers.out as (λ o. times n ((s.number ∷ []) ++ cond o (s.number ∷ []) [])
          ≡ counts_if (s.number == n) (1 + counts_if o 1)) [
            | true ↦ two
            | false ↦ one
          ]
    ]
  where
    zero : (b : Bool) → counts_if b 0 ≡ 0
    zero true = refl
    zero false = refl

    one : times n (s.number ∷ []) ≡ counts_if (s.number == n) 1
    one = (let whole = times_cons n s.number [] in omega (arith, whole))

    two : times n (s.number ∷ s.number ∷ []) ≡ counts_if (s.number == n) 2
    two =
        let first = times_cons n s.number (s.number ∷ []) in
        let second = times_cons n s.number [] in
        elim (s.number == n) as (λ b. (s.number == n) ≡ b → times n (s.number ∷ s.number ∷ []) ≡ counts_if b 2) [
          | true ↦ λ is. (
              let here : counts_if (s.number == n) 1 ≡ 1 = rw is refl in
              omega (arith, first, second, here))
          | false ↦ λ is. (
              let here : counts_if (s.number == n) 1 ≡ 0 = rw is refl in
              omega (arith, first, second, here))
        ] refl

pub own_cons : (n : ℕ) (s : KeptStream) (ss : List KeptStream)
    → times n (flat_map own_names (s ∷ ss)) ≡ counts_if (s.number == n) (own_count s) + times n (flat_map own_names ss)
own_cons n s ss = (let parts = times_append n (own_names s) (flat_map own_names ss) in let own = own_times n s in omega (arith, parts, own))

-- no stream up to a number has names of its own where all have higher numbers
pub own_above : (low high n : ℕ) (ss : List KeptStream) → IsNumbered low ss high → n ≤ low → times n (flat_map own_names ss) ≡ 0
own_above low high n [] rising under = refl
own_above low high n (s ∷ ss) rising under =
    let later = own_above s.number high n ss rising.1 (omega (arith, rising.0)) in
    let whole = own_cons n s ss in
    let other : (s.number == n) ≡ false = grind (arith, nat_tests, rising.0) in
    let none : counts_if (s.number == n) (own_count s) ≡ 0 = rw other refl in
    omega (arith, whole, later, none)

-- a stream has two names of its own at most
pub own_few : (low high n : ℕ) (ss : List KeptStream) → IsNumbered low ss high → times n (flat_map own_names ss) ≤ 2
own_few low high n [] rising = omega arith
own_few low high n (s ∷ ss) rising =
    let later = own_few s.number high n ss rising.1 in
    let whole = own_cons n s ss in
    let two = most s in
    elim (s.number == n) as (λ b. (s.number == n) ≡ b → times n (flat_map own_names (s ∷ ss)) ≤ 2) [
      | true ↦ λ is. (
          let here : counts_if (s.number == n) (own_count s) ≡ own_count s = rw is refl in
          let none = own_above s.number high n ss rising.1 (grind (arith, nat_tests, is)) in
          omega (arith, whole, here, none, two))
      | false ↦ λ is. (
          let here : counts_if (s.number == n) (own_count s) ≡ 0 = rw is refl in
          omega (arith, whole, here, later))
    ] refl
  where
    most : (t : KeptStream) → own_count t ≤ 2
    most t = elim (not (t.handle == 0)) as (λ b. counts_if b 1 + counts_if t.buffers.out 1 ≤ 2) [
      | true ↦ elim t.buffers.out as (λ o. 1 + counts_if o 1 ≤ 2) [ true ↦ omega arith | false ↦ omega arith ]
      | false ↦ elim t.buffers.out as (λ o. 0 + counts_if o 1 ≤ 2) [ true ↦ omega arith | false ↦ omega arith ]
    ]

-- a live handle is one of them
pub handle_own : (n : ℕ) (ss : List KeptStream) → handle_names n ss ≤ times n (flat_map own_names ss)
handle_own n [] = omega arith
handle_own n (s ∷ ss) =
    let later = handle_own n ss in
    let whole = own_cons n s ss in
    elim (s.number == n) as (λ b. (s.number == n) ≡ b
    → cond (unwrap_or (option_map (λ t. t.handle) (cond b (Some s) (stream_at n ss))) 0 == 0) 0 1
    ≤ times n (flat_map own_names (s ∷ ss))) [
      | true ↦ λ is. (
          let here : counts_if (s.number == n) (own_count s) ≡ own_count s = rw is refl in
          omega (arith, whole, here, first s))
      | false ↦ λ is. (
          let here : counts_if (s.number == n) (own_count s) ≡ 0 = rw is refl in
          omega (arith, whole, here, later))
    ] refl
  where
    first : (t : KeptStream) → cond (t.handle == 0) 0 1 ≤ own_count t
    first t = elim (t.handle == 0) as (λ b. cond b 0 1
        ≤ counts_if (not b) 1 + counts_if t.buffers.out 1) [ true ↦ omega arith | false ↦ omega arith ]

-- one more stream
pub own_pushed : (n : ℕ) (ss : List KeptStream) (s : KeptStream)
    → times n (flat_map own_names (ss ++ s ∷ [])) ≡ times n (flat_map own_names ss) + counts_if (s.number == n) (own_count s)
own_pushed n [] s = (let whole = own_cons n s [] in omega (arith, whole))
own_pushed n (t ∷ ss) s =
    let later = own_pushed n ss s in
    let first = own_cons n t ss in
    let second = own_cons n t (ss ++ s ∷ []) in
    omega (arith, later, first, second)

-- streams that change and keep their own names
pub own_same : (g : KeptStream → KeptStream) (ss : List KeptStream) → ((s : KeptStream) → own_names (g s) ≡ own_names s)
    → flat_map own_names (map g ss) ≡ flat_map own_names ss
own_same g [] same = refl
own_same g (s ∷ ss) same =
    ap (λ ns. ns ++ flat_map own_names (map g ss)) (same s) ∙ ap (λ ns. own_names s ++ ns) (own_same g ss same)

-- one stream that changes
pub own_changed : (low high k n : ℕ) (g : KeptStream → KeptStream) (ss : List KeptStream) (s : KeptStream)
    → ((t : KeptStream) → (g t).number ≡ t.number) → IsNumbered low ss high → stream_at k ss ≡ Some s
    → times n (flat_map own_names (change (λ t. t.number) k g ss)) + counts_if (k == n) (own_count s)
    ≡ times n (flat_map own_names ss) + counts_if (k == n) (own_count (g s))
own_changed low high k n g [] s keeps rising found = absurd cc
own_changed low high k n g (t ∷ ss) s keeps rising found =
    elim (t.number == k) as (λ b. (t.number == k) ≡ b → cond b (Some t) (stream_at k ss) ≡ Some s
    → times n (flat_map own_names (cond b (g t) t ∷ change (λ u. u.number) k g ss)) + counts_if (k == n) (own_count s)
    ≡ times n (flat_map own_names (t ∷ ss)) + counts_if (k == n) (own_count (g s))) [
      | true ↦ λ is here. (
          let same : t ≡ s = cc in
          let number : t.number ≡ k = eqb-true t.number k is in
          let first = own_cons n (g t) (change (λ u. u.number) k g ss) in
          let second = own_cons n t ss in
          let rest = others t.number ss rising.1 (omega (arith, number)) in
          let renumbered : counts_if ((g t).number == n) (own_count (g t)) ≡ counts_if (k == n) (own_count (g s)) =
          ap (λ m. counts_if (m == n) (own_count (g t))) (keeps t ∙ number) ∙ ap (λ u. counts_if (k == n) (own_count (g u))) same in
          let before : counts_if (t.number == n) (own_count t) ≡ counts_if (k == n) (own_count s) =
          ap (λ m. counts_if (m == n) (own_count t)) number ∙ ap (λ u. counts_if (k == n) (own_count u)) same in
          let left : times n (flat_map own_names (change (λ u. u.number) k g ss)) ≡ times n (flat_map own_names ss) =
          ap (λ us. times n (flat_map own_names us)) rest in
          omega (arith, first, second, left, renumbered, before))
      | false ↦ λ is later. (
          let rest = own_changed t.number high k n g ss s keeps rising.1 later in
          let first = own_cons n t (change (λ u. u.number) k g ss) in
          let second = own_cons n t ss in
          omega (arith, first, second, rest))
    ] refl found
  where
    others : (under : ℕ) (us : List KeptStream) → IsNumbered under us high → k ≤ under → change (λ u. u.number) k g us ≡ us
    others under [] rise below = refl
    others under (u ∷ us) rise below =
        let later = others u.number us rise.1 (omega (arith, rise.0)) in
        let other : (u.number == k) ≡ false = grind (arith, nat_tests, rise.0) in
        rw other (ap (λ vs. u ∷ vs) later)

-- what is kept

-- the streams that a store counts
abbrev pub with_count : StoreView → List KeptStream → List KeptStream
with_count v ss = filter (λ s. nat_lt 0 (count_of s.number v)) ss

module _ (h : State) (v : StoreView) (high : ℕ) (rising : IsNumbered 0 h.streams high) (counts : CountsNames v h) where
  -- the streams that have a count are those that have a name
  pub kept_is : with_count v h.streams ≡ kept h
  kept_is = each 0 h.streams rising
    where
      each : (low : ℕ) (ss : List KeptStream) → IsNumbered low ss high → with_count v ss ≡ filter (λ s. is_in s.number (all_names h)) ss
      each low [] rises = refl
      each low (s ∷ ss) rises =
          let some : 0 < s.number = omega (arith, rises.0) in
          let is : nat_lt 0 (count_of s.number v) ≡ is_in s.number (all_names h) =
          ap (nat_lt 0) (counts s.number some) ∙ sym (named_in s.number (all_names h)) in
          ap (λ b. cond b (s ∷ with_count v ss) (with_count v ss)) is
          ∙ ap (λ ts. cond (is_in s.number (all_names h)) (s ∷ ts) ts) (each s.number ss rises.1)

  -- what is dropped has no name of its own
  own_kept : (n : ℕ) → times n (flat_map own_names (with_count v h.streams)) ≡ times n (flat_map own_names h.streams)
  own_kept n = each 0 h.streams rising (λ m. (let whole = all_times m h in omega (arith, whole)))
    where
      each : (low : ℕ) (ss : List KeptStream) → IsNumbered low ss high
          → ((m : ℕ) → times m (flat_map own_names ss) ≤ times m (all_names h))
          → times n (flat_map own_names (with_count v ss)) ≡ times n (flat_map own_names ss)
      each low [] rises some = refl
      each low (s ∷ ss) rises some =
          let later = each s.number ss rises.1 (λ m. (let part = some m in let parts = own_cons m s ss in omega (arith, part, parts))) in
          let first = own_cons n s (with_count v ss) in
          let second = own_cons n s ss in
          elim (nat_lt 0 (count_of s.number v)) as (λ b. nat_lt 0 (count_of s.number v) ≡ b
          → times n (flat_map own_names (cond b (s ∷ with_count v ss) (with_count v ss))) ≡ times n (flat_map own_names (s ∷ ss))) [
            | true ↦ λ is. omega (arith, first, second, later)
            | false ↦ λ is. (
                let count : count_of s.number v ≡ 0 = grind (arith, nat_tests, is) in
                let names = counts s.number (omega (arith, rises.0)) in
                let own = own_cons s.number s ss in
                let least = some s.number in
                let here : counts_if (s.number == s.number) (own_count s) ≡ own_count s = rw (eq-eqb s.number s.number refl) refl in
                let none : own_count s ≡ 0 = omega (arith, count, names, own, least, here) in
                let bare : counts_if (s.number == n) (own_count s) ≡ 0 = zero (s.number == n) none in
                omega (arith, second, later, bare))
          ] refl
        where
          zero : (b : Bool) → own_count s ≡ 0 → counts_if b (own_count s) ≡ 0
          zero true none = none
          zero false none = refl

  -- so the store counts the names of the state without them
  pub settled_counts : CountsNames v (settle h)
  settled_counts n some =
      let was = counts n some in
      let before = all_times n h in
      let after = all_times n (settle h) in
      let own : times n (flat_map own_names (kept h)) ≡ times n (flat_map own_names h.streams) =
      ap (λ ss. times n (flat_map own_names ss)) (sym kept_is) ∙ own_kept n in
      omega (arith, was, before, after, own)
