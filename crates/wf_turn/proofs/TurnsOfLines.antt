-- Turns of serial play between two lines of a script: one program goes on, and the others wait at their lines.
use Rattle.wf_turn.proofs.Common.{◌≡◌, ◌∙◌, ℕ, zero, suc, ◌+◌, ◌<◌, ◌==◌, Bool, true, false, not, cond, ◌&&◌, List, [], ◌∷◌, ◌++◌, map}
use Rattle.wf_turn.proofs.Common.{inl, inr, Option, Some, None, refl, sym, ap, subst, arith, filter, enumerate_from, IsSomeAnd}
use Rattle.wf_turn.proofs.Common.{eq-eqb, eqb-true, nat_tests, and_parts, nat_lt, list_all, slice_get, PlainScript, Line, Name}
use Rattle.wf_turn.proofs.Common.{Reply, Frame, State, is_running, step, earlier, first_client, is_marked, IsNextTurn, Show, answered}
use Rattle.wf_turn.proofs.Common.{frames_of, inherited, is_setting_up, program_at, turn, all_taught, Program, place_of, in_setup}
use Rattle.wf_turn.proofs.Common.{is_event, next}
use Rattle.wf_turn.proofs.Common.{setup_lines, skipped, took, worked, entry}
use Rattle.std.specs.Prelude.{slice_set, if◌then◌else◌}
use Rattle.std.proofs.lemmas.Bool.{cases_lt}
use Rattle.std.proofs.lemmas.Option.{slice_get_past}
use Rattle.wf_calls.specs.Codes.{code_number}
use Rattle.wf_turn.specs.Serial.{IsFirst}
use Rattle.wf_turn.specs.declared.stage.Stage.TheVariants as stage
use Rattle.wf_turn.specs.declared.stage.Wanted.{Wanted}
use Rattle.wf_turn.proofs.Clients.{first_from}

-- the programs of the eight clients
abbrev pub programs_by : (ℕ → Program) → List Program
programs_by f = f 0 ∷ f 1 ∷ f 2 ∷ f 3 ∷ f 4 ∷ f 5 ∷ f 6 ∷ f 7 ∷ []

-- with another program of one client
abbrev pub put : (ℕ → Program) → ℕ → Program → ℕ → Program
put f k q j = if j == k then q else f j

pub same : (n : ℕ) → (n == n) ≡ true
same n = eq-eqb n n refl

-- what holds of each of the eight
by_client : (P : ℕ → Type 0) → P 0 → P 1 → P 2 → P 3 → P 4 → P 5 → P 6 → P 7 → (k : ℕ) → k < 8 → P k
by_client P a b c d e f g h zero small = a
by_client P a b c d e f g h (suc zero) small = b
by_client P a b c d e f g h (suc (suc zero)) small = c
by_client P a b c d e f g h (suc (suc (suc zero))) small = d
by_client P a b c d e f g h (suc (suc (suc (suc zero)))) small = e
by_client P a b c d e f g h (suc (suc (suc (suc (suc zero))))) small = f
by_client P a b c d e f g h (suc (suc (suc (suc (suc (suc zero)))))) small = g
by_client P a b c d e f g h (suc (suc (suc (suc (suc (suc (suc zero))))))) small = h
by_client P a b c d e f g h (suc (suc (suc (suc (suc (suc (suc (suc k)))))))) small = absurd (omega arith)

program_is : (f : ℕ → Program) (k : ℕ) → k < 8 → slice_get (programs_by f) k ≡ Some (f k)
program_is f = by_client (λ k. slice_get (programs_by f) k ≡ Some (f k)) refl refl refl refl refl refl refl refl

pub put_is : (f : ℕ → Program) (q : Program) (k : ℕ) → k < 8 → slice_set (programs_by f) k q ≡ programs_by (put f k q)
put_is f q = by_client (λ k. slice_set (programs_by f) k q ≡ programs_by (put f k q)) refl refl refl refl refl refl refl refl

pub same_programs : (f g : ℕ → Program) → ((j : ℕ) → f j ≡ g j) → programs_by f ≡ programs_by g
same_programs f g each = rw (each 0, each 1, each 2, each 3, each 4, each 5, each 6, each 7) refl

-- the first line that is not through

-- a place behind another, if there is one
abbrev pub Later : ℕ → Option ℕ → Type 0
Later n None = Unit {0}
Later n (Some m) = n < m

-- the first of some places, before others that stand later, is found still
stays : (client place a : ℕ) (os : List (Option ℕ)) → ((j : ℕ) (o : Option ℕ) → slice_get os j ≡ Some o → Later place o)
    → first_from (Some (client, place)) a os ≡ Some (client, place)
stays client place a [] later = refl
stays client place a (None ∷ os) later = stays client place (a + 1) os (λ j o at. later (suc j) o at)
stays client place a (Some m ∷ os) later =
    let behind : place < m = later 0 (Some m) refl in
    let no : nat_lt m place ≡ false = grind (arith, nat_tests) in
    let kept : earlier (Some (client, place)) (a, Some m) ≡ Some (client, place) = rw no refl in
    ap (λ (b : Option (ℕ × ℕ)). first_from b (a + 1) os) kept ∙ stays client place (a + 1) os (λ j o at. later (suc j) o at)

abbrev Behind : ℕ → Option (ℕ × ℕ) → Type 0
Behind place None = Unit {0}
Behind place (Some best) = place < best.1

behind_both : (best : Option (ℕ × ℕ)) (place a : ℕ) (o : Option ℕ) → Behind place best → Later place o → Behind place (earlier best (a, o))
behind_both None place a None behind later = tt
behind_both (Some best) place a None behind later = behind
behind_both None place a (Some m) behind later = later
behind_both (Some best) place a (Some m) behind later =
    elim (nat_lt m best.1) as (λ b. Behind place (cond b (Some (a, m)) (Some best))) [ true ↦ later | false ↦ behind ]

taken_now : (best : Option (ℕ × ℕ)) (place a : ℕ) → Behind place best → earlier best (a, Some place) ≡ Some (a, place)
taken_now None place a behind = refl
taken_now (Some best) place a behind = let yes : nat_lt place best.1 ≡ true = grind (arith, nat_tests) in rw yes refl

-- the place that all others are behind is found
finds : (best : Option (ℕ × ℕ)) (place a : ℕ) (places : List (Option ℕ)) (k : ℕ) → Behind place best
    → slice_get places k ≡ Some (Some place) → ((j : ℕ) (o : Option ℕ) → (j == k) ≡ false → slice_get places j ≡ Some o → Later place o)
    → IsSomeAnd (first_from best a places) (λ c. c.0 ≡ a + k)
finds best place a [] k behind at others = absurd cc
finds best place a (o ∷ os) zero behind at others =
    let is : o ≡ Some place = cc in
    let found : first_from best a (o ∷ os) ≡ Some (a, place) =
    ap (λ (x : Option ℕ). first_from (earlier best (a, x)) (a + 1) os) is
    ∙ ap (λ (b : Option (ℕ × ℕ)). first_from b (a + 1) os) (taken_now best place a behind)
    ∙ stays a place (a + 1) os (λ j x there. others (suc j) x (apart j) there) in
    subst (λ (x : Option (ℕ × ℕ)). IsSomeAnd x (λ c. c.0 ≡ a + 0)) (sym found) (let same : a ≡ a + 0 = omega arith in same)
  where
    apart : (j : ℕ) → (suc j == 0) ≡ false
    apart j = grind (arith, nat_tests)
finds best place a (o ∷ os) (suc k) behind at others =
    shifted (first_from (earlier best (a, o)) (a + 1) os)
    (finds (earlier best (a, o)) place (a + 1) os k (behind_both best place a o behind (others 0 o none refl)) at
    (λ j x other there. others (suc j) x (both j other) there))
  where
    none : (0 == suc k) ≡ false
    none = grind (arith, nat_tests)

    both : (j : ℕ) → (j == k) ≡ false → (suc j == suc k) ≡ false
    both j other = grind (arith, nat_tests)

    shifted : (x : Option (ℕ × ℕ)) → IsSomeAnd x (λ c. c.0 ≡ (a + 1) + k) → IsSomeAnd x (λ c. c.0 ≡ a + suc k)
    shifted None none = none
    shifted (Some c) is = is ∙ (let e : (a + 1) + k ≡ a + suc k = omega arith in e)

-- a client stands at a place, the others later, and the setup is over
pub record Here (f : ℕ → Program) (k place : ℕ) : Type 0 where
  pub at : place_of (f k) ≡ Some place
  pub others : (j : ℕ) → (j == k) ≡ false → Later place (place_of (f j))
  pub out : in_setup (f 0) ≡ false

pub first_here : (f : ℕ → Program) (k place : ℕ) → k < 8 → ((j : ℕ) → (j == k) ≡ false → Later place (place_of (f j)))
    → place_of (f k) ≡ Some place → IsFirst (programs_by f) k
first_here f k place small others at =
    subst (λ (n : ℕ). IsSomeAnd (first_client (map place_of (programs_by f))) (λ c. c.0 ≡ n)) (let none : 0 + k ≡ k = omega arith in none)
    (finds None place 0 (map place_of (programs_by f)) k tt (place_is k small ∙ ap (λ (o : Option ℕ). Some o) at)
    (λ j o other there. subst (λ (x : Option ℕ). Later place x) (its_place j o there) (others j other)))
  where
    place_is : (j : ℕ) → j < 8 → slice_get (map place_of (programs_by f)) j ≡ Some (place_of (f j))
    place_is = by_client (λ j. slice_get (map place_of (programs_by f)) j ≡ Some (place_of (f j))) refl refl refl refl refl refl refl refl

    its_place : (j : ℕ) (o : Option ℕ) → slice_get (map place_of (programs_by f)) j ≡ Some o → place_of (f j) ≡ o
    its_place j o there =
        elim (cases_lt j 8) as (λ _. place_of (f j) ≡ o) [
          | inl small ↦ (let both : Some (place_of (f j)) ≡ Some o = sym (place_is j small) ∙ there in cc)
          | inr large ↦ absurd (let no : None ≡ Some o = sym (slice_get_past (map place_of (programs_by f)) j large) ∙ there in cc)
        ]

-- one turn

and_false : (b : Bool) → (b && false) ≡ false
and_false true = refl
and_false false = refl

-- a show of these programs
abbrev pub showing : State → (ℕ → Program) → List Frame → ℕ → Show
showing state f frames turns = record { state = state; programs = programs_by f; frames = frames; turns = turns }

pub takes : (show : Show) (k : ℕ) (p : Program) (w : Wanted) → program_at show k ≡ Some p → next p ≡ Some w
    → (w.wait && is_running show.state) ≡ false → turn show k false ≡ Some (answered show k p (step show.state k w.call false))
unfolding turn
takes show k p w at asks free = rw (at, asks, free) refl

module _ (state after : State) (f : ℕ → Program) (frames : List Frame) (turns k place : ℕ) (small : k < 8) (here : Here f k place)
    (p : Program) (is : f k ≡ p) (w : Wanted) (r : Reply) (asks : next p ≡ Some w) (free : (w.wait && is_running state) ≡ false)
    (stepped : step state k w.call false ≡ (after, r)) where
  abbrev show : Show
  show = showing state f frames turns

  abbrev next_show : Show
  next_show = showing after (put f k (worked (took p r))) (frames ++ frames_of turns (took p r)) (turns + 1)

  stands : program_at show k ≡ Some p
  stands =
      ap (λ (b : Bool). if not (k == 0) && b then None else slice_get (programs_by f) k) here.out
      ∙ ap (λ (b : Bool). if b then None else slice_get (programs_by f) k) (and_false (not (k == 0)))
      ∙ program_is f k small ∙ ap (λ (q : Program). Some q) is

  turned : turn show k false ≡ Some (next_show, entry k r)
  turned =
      takes show k p w stands asks free
      ∙ ap (λ (d : State × Reply). Some (answered show k p d)) stepped
      ∙ ap (λ (ps : List Program). Some (
        record {
          state = after;
          programs = ps;
          frames = frames ++ frames_of turns (took p r);
          turns = turns + 1;
        },
        entry k r,
      ))
      (not_inherited (slice_set (programs_by f) k (worked (took p r))) ∙ put_is f (worked (took p r)) k small)
    where
      not_inherited : (now : List Program) → inherited (programs_by f) now ≡ now
      not_inherited now = ap (λ (b : Bool). if b && not (is_setting_up now) then all_taught now else now) here.out

  pub next_turn : code_number r.code ≡ 0 → IsNextTurn show (entry k r) next_show
  next_turn fine =
      let unmarked : is_marked (entry k r) ≡ false = ap (λ (n : ℕ). n == 1) fine in
      record {
        first = first_here f k place small here.others here.at;
        taken = ap (turn show k) unmarked ∙ turned;
      }

-- a line that is done

-- a line makes an event wherever no canvas is held
abbrev pub events : List Line → Bool
events lines = list_all (λ l. is_event false l.verb) lines

-- the lines of a client among those from a place on
abbrev pub own_lines : ℕ → ℕ → List Line → List (ℕ × Line)
own_lines k a lines = filter (λ l. l.1.client == k) (enumerate_from a lines)

pub none_skipped : (k a : ℕ) (lines : List Line) → events lines ≡ true → skipped None (own_lines k a lines) ≡ (None, own_lines k a lines)
none_skipped k a [] all = refl
none_skipped k a (l ∷ ls) all =
    let parts = and_parts (is_event false l.verb) (events ls) all in
    elim (l.client == k) as (λ b. skipped None (cond b ((a, l) ∷ own_lines k (a + 1) ls) (own_lines k (a + 1) ls))
    ≡ (None, cond b ((a, l) ∷ own_lines k (a + 1) ls) (own_lines k (a + 1) ls))) [
      | true ↦ rw parts.0 refl
      | false ↦ none_skipped k (a + 1) ls parts.1
    ]

-- a program that waits at its first line
abbrev pub waits : PlainScript → ℕ → List (ℕ × Line) → List (Name × ℕ) → List (Name × ℕ) → ℕ → Program
waits script k lines own learned tick = record {
  script = script;
  client = k;
  lines = lines;
  own = own;
  learned = learned;
  canvas = None;
  job = None;
  unpainted = false;
  stage = stage.Fresh;
  tick = tick;
}

-- the programs of all clients, which wait for the lines from a place on
abbrev pub all_wait : PlainScript → ℕ → List Line → (ℕ → List (Name × ℕ)) → (ℕ → List (Name × ℕ)) → (ℕ → ℕ) → ℕ → Program
all_wait script a lines own learned ticks j = waits script j (own_lines j a lines) (own j) (learned j) (ticks j)

pub later_lines : (j a b : ℕ) (lines : List Line) (p : Program) → a < b → Later a (place_of (record p { lines = own_lines j b lines }))
later_lines j a b [] p below = tt
later_lines j a b (l ∷ ls) p below =
    elim (l.client == j)
    as (λ t. Later a (place_of (record p { lines = cond t ((b, l) ∷ own_lines j (b + 1) ls) (own_lines j (b + 1) ls) }))) [
      | true ↦ below
      | false ↦ later_lines j a (b + 1) ls p (omega arith)
    ]

-- behind the setup
pub out_of_setup : (p : Program) → setup_lines p.script.lines ≡ 3 → Later 2 (place_of p) → in_setup p ≡ false
out_of_setup p three later = of_place (place_of p) refl later
  where
    by_place : Option ℕ → Bool
    by_place None = false
    by_place (Some n) = nat_lt n (setup_lines p.script.lines)

    of_place : (o : Option ℕ) → place_of p ≡ o → Later 2 o → in_setup p ≡ false
    of_place None is later = ap by_place is
    of_place (Some n) is later =
        let no : nat_lt n 3 ≡ false = grind (arith, nat_tests) in
        ap by_place is ∙ ap (nat_lt n) three ∙ no

-- with another program of that client that stands there still
pub here_put : (script : PlainScript) → setup_lines script.lines ≡ 3 → (a : ℕ) → 2 < a → (k : ℕ) (f : ℕ → Program) → Here f k a
    → (q : Program) → q.script ≡ script → place_of q ≡ Some a → Here (put f k q) k a
here_put script three a late k f here q of at = record {
  at = rw (same k) at;
  others = λ j other. rw other (here.others j other);
  out = first_out (0 == k);
}
  where
    first_out : (t : Bool) → in_setup (if t then q else f 0) ≡ false
    first_out false = here.out
    first_out true =
        out_of_setup q (ap (λ (s : PlainScript). setup_lines s.lines) of ∙ three) (subst (λ (o : Option ℕ). Later 2 o) (sym at) late)

apart : (n m : ℕ) → (m == n) ≡ false → (n == m) ≡ false
apart n m other = grind (arith, nat_tests)

module _ (script : PlainScript) (a k : ℕ) (l : Line) (ls : List Line) (mine : l.client ≡ k) (own learned : ℕ → List (Name × ℕ))
    (ticks : ℕ → ℕ) where
  abbrev all_now : ℕ → Program
  all_now = all_wait script a (l ∷ ls) own learned ticks

  pub is_mine : (l.client == k) ≡ true
  is_mine = eq-eqb l.client k mine

  pub program_now : all_now k ≡ waits script k ((a, l) ∷ own_lines k (a + 1) ls) (own k) (learned k) (ticks k)
  program_now = rw is_mine refl

  not_others : (j : ℕ) → (j == k) ≡ false → (l.client == j) ≡ false
  not_others j other = ap (λ (n : ℕ). n == j) mine ∙ apart k j other

  pub others_later : (j : ℕ) → (j == k) ≡ false → Later a (place_of (all_now j))
  others_later j other = rw (not_others j other) (later_lines j a (a + 1) ls (all_now j) (omega arith))

  -- the line is through: all wait for the next one
  pub through : (f : ℕ → Program) (own_next : ℕ → List (Name × ℕ)) (ticks_next : ℕ → ℕ)
      → ((j : ℕ) → (j == k) ≡ false → f j ≡ all_now j)
      → f k ≡ waits script k (own_lines k (a + 1) ls) (own_next k) (learned k) (ticks_next k)
      → ((j : ℕ) → (j == k) ≡ false → own_next j ≡ own j) → ((j : ℕ) → (j == k) ≡ false → ticks_next j ≡ ticks j)
      → programs_by f ≡ programs_by (all_wait script (a + 1) ls own_next learned ticks_next)
  through f own_next ticks_next others its kept kept_ticks =
      same_programs f (all_wait script (a + 1) ls own_next learned ticks_next) (λ j. each j (j == k) refl)
    where
      each : (j : ℕ) (t : Bool) → (j == k) ≡ t → f j ≡ all_wait script (a + 1) ls own_next learned ticks_next j
      each j true is =
          subst (λ (n : ℕ). f n ≡ all_wait script (a + 1) ls own_next learned ticks_next n) (sym (eqb-true j k is)) its
      each j false other = others j other ∙ rw (not_others j other, kept j other, kept_ticks j other) refl

-- behind the setup the client of the first line stands at it
pub here_now : (script : PlainScript) → setup_lines script.lines ≡ 3 → (a k : ℕ) → 2 < a → (l : Line) (ls : List Line) → l.client ≡ k
    → (own learned : ℕ → List (Name × ℕ)) (ticks : ℕ → ℕ) → Here (all_wait script a (l ∷ ls) own learned ticks) k a
here_now script three a k late l ls mine own learned ticks = record {
  at = rw (is_mine script a k l ls mine own learned ticks) refl;
  others = others_later script a k l ls mine own learned ticks;
  out = out_of_setup (all_now script a k l ls mine own learned ticks 0) three (first_late (0 == k) refl);
}
  where
    later_than : (o : Option ℕ) → Later a o → Later 2 o
    later_than None later = tt
    later_than (Some n) later = omega arith

    first_late : (t : Bool) → (0 == k) ≡ t → Later 2 (place_of (all_now script a k l ls mine own learned ticks 0))
    first_late false other =
        later_than (place_of (all_now script a k l ls mine own learned ticks 0))
        (others_later script a k l ls mine own learned ticks 0 other)
    first_late true is = rw (ap (λ (n : ℕ). n == 0) mine ∙ eq-eqb k 0 (sym (eqb-true 0 k is))) late
