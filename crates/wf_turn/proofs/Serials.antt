-- Serial play: a run of turns is a replay, and the beginning of the serial order.
use Rattle.wf_turn.proofs.Common.{◌≡◌, ◌∙◌, ℕ, zero, suc, ◌+◌, ◌*◌, ◌-◌, ◌<◌, ◌≤◌, ◌==◌, true, false, cond, List, [], ◌∷◌, ◌++◌, map}
use Rattle.wf_turn.proofs.Common.{length, Option, Some, None, refl, sym, ap, subst, arith, append-nil, filter, enumerate_from, IsSomeAnd}
use Rattle.wf_turn.proofs.Common.{eq-eqb, nat_tests, is_in, Turn, PlainScript, first_client, is_marked, replay, replay_from, replay_turn}
use Rattle.wf_turn.proofs.Common.{same_turn, serial_from, serial_order, place_of, IsNextTurn, IsRun, Show, opening_show, turn}
use Rattle.wf_turn.specs.Play.{IsComplete, IsLegal, marks}
use Rattle.wf_turn.specs.Serial.{BeginsSerial}
use Rattle.wf_turn.proofs.Clients.{all_through}

same_self : (t : Turn) → same_turn t t ≡ true
same_self t = rw (eq-eqb t.client t.client refl, eq-eqb t.code t.code refl, eq-eqb t.value t.value refl) refl

-- one turn of a replay
pub replay_next : (show after : Show) (t : Turn) (ts : List Turn) → turn show t.client (is_marked t) ≡ Some (after, t)
    → replay_from show (t ∷ ts) ≡ replay_from after ts
unfolding replay_from
replay_next show after t ts e =
    ap (λ o. elim (replay_turn t o) as (λ _. Option Show) [ None ↦ None | Some x ↦ replay_from x ts ]) e
    ∙ rw (same_self t) refl

pub nothing_replayed : (show : Show) → replay_from show [] ≡ Some show
unfolding replay_from
nothing_replayed show = refl

pub run_replays : (show after : Show) (ts : List Turn) → IsRun show ts after → replay_from show ts ≡ Some after
run_replays show after [] run = nothing_replayed show ∙ ap (λ s. Some s) run
run_replays show after (t ∷ ts) run = replay_next show run.0 t ts run.1.0.taken ∙ run_replays run.0 after ts run.1.1

-- one turn more
pub run_more : (show middle after : Show) (ts : List Turn) (t : Turn) → IsRun show ts middle → IsNextTurn middle t after
    → IsRun show (ts ++ t ∷ []) after
run_more show middle after [] t run next = (after, (subst (λ s. IsNextTurn s t after) (sym run) next, refl))
run_more show middle after (u ∷ ts) t run next = (run.0, (run.1.0, run_more run.0 middle after ts t run.1.1 next))

-- the marks of an order tell what each entry of it is
abbrev Tell : List ℕ → ℕ → List Turn → Type 0
Tell ms place [] = Unit {0}
Tell ms place (t ∷ ts) = (is_in place ms ≡ is_marked t) × Tell ms (place + 1) ts

abbrev marks_from : ℕ → List Turn → List ℕ
marks_from place ts = map (λ row. row.0) (filter (λ row. is_marked row.1) (enumerate_from place ts))

none_before : (n place : ℕ) (ts : List Turn) → n < place → is_in n (marks_from place ts) ≡ false
none_before n place [] before = refl
none_before n place (t ∷ ts) before =
    let apart : (place == n) ≡ false = grind (arith, nat_tests, before) in
    let rest = none_before n (place + 1) ts (omega (arith, before)) in
    elim (is_marked t)
    as (λ b. is_in n
    (map (λ row. row.0) (cond b ((place, t) ∷ filter (λ row. is_marked row.1) (enumerate_from (place + 1) ts))
    (filter (λ row. is_marked row.1) (enumerate_from (place + 1) ts)))) ≡ false) [
      | true ↦ rw apart rest
      | false ↦ rest
    ]

one_more : (m : ℕ) (ms : List ℕ) (place : ℕ) (ts : List Turn) → m < place → Tell ms place ts → Tell (m ∷ ms) place ts
one_more m ms place [] before tell = tt
one_more m ms place (t ∷ ts) before tell =
    let apart : (m == place) ≡ false = grind (arith, nat_tests, before) in
    (rw apart tell.0, one_more m ms (place + 1) ts (omega (arith, before)) tell.1)

marks_tell : (place : ℕ) (ts : List Turn) → Tell (marks_from place ts) place ts
marks_tell place [] = tt
marks_tell place (t ∷ ts) =
    let rest = marks_tell (place + 1) ts in
    let here : (place == place) ≡ true = eq-eqb place place refl in
    let more = one_more place (marks_from (place + 1) ts) (place + 1) ts (omega arith) rest in
    let nothing = none_before place (place + 1) ts (omega arith) in
    elim (is_marked t) as (λ b. let ms = map (λ row. row.0)
    (cond b ((place, t) ∷ filter (λ row. is_marked row.1) (enumerate_from (place + 1) ts))
    (filter (λ row. is_marked row.1) (enumerate_from (place + 1) ts))) in (is_in place ms ≡ b) × Tell ms (place + 1) ts) [
      | true ↦ (rw here refl, more)
      | false ↦ (nothing, rest)
    ]

-- one turn of the serial order, by the client whose turn it is
abbrev by_turn : ℕ → ℕ → List ℕ → Option (Show × Turn) → List Turn
by_turn most place ms o = elim o as (λ _. List Turn) [ None ↦ [] | Some done ↦ done.1 ∷ serial_from most (place + 1) ms done.0 ]

abbrev by_client : ℕ → ℕ → List ℕ → Show → Option (ℕ × ℕ) → List Turn
by_client most place ms show o = elim o as (λ _. List Turn) [ None ↦ [] | Some c ↦ by_turn most place ms (turn show c.0 (is_in place ms)) ]

one_turn : (most place : ℕ) (ms : List ℕ) (show : Show)
    → serial_from (suc most) place ms show ≡ by_client most place ms show (first_client (map place_of show.programs))
unfolding serial_from
one_turn most place ms show = refl

serial_next : (most place : ℕ) (ms : List ℕ) (show after : Show) (t : Turn) → IsNextTurn show t after → is_in place ms ≡ is_marked t
    → serial_from (suc most) place ms show ≡ t ∷ serial_from most (place + 1) ms after
serial_next most place ms show after t next told = one_turn most place ms show
    ∙ of_first (first_client (map place_of show.programs)) next.first
  where
    of_first : (o : Option (ℕ × ℕ)) → IsSomeAnd o (λ c. c.0 ≡ t.client)
        → by_client most place ms show o ≡ t ∷ serial_from most (place + 1) ms after
    of_first None none = absurd none
    of_first (Some c) here = ap (by_turn most place ms) (ap (λ n. turn show n (is_in place ms)) here ∙ ap (turn show t.client) told
        ∙ next.taken)

-- where all are through, the serial order ends
nothing_left : (place : ℕ) (ms : List ℕ) (show : Show) → serial_from zero place ms show ≡ []
unfolding serial_from
nothing_left place ms show = refl

serial_end : (most place : ℕ) (ms : List ℕ) (show : Show) → first_client (map place_of show.programs) ≡ None
    → serial_from most place ms show ≡ []
serial_end zero place ms show none = nothing_left place ms show
serial_end (suc most) place ms show none = one_turn most place ms show ∙ ap (by_client most place ms show) none

-- a run is a beginning of the serial order
run_serial : (most place : ℕ) (ms : List ℕ) (show after : Show) (ts : List Turn) → IsRun show ts after → Tell ms place ts → length ts ≤ most
    → serial_from most place ms show ≡ ts ++ serial_from (most - length ts) (place + length ts) ms after
run_serial most place ms show after [] run tell few =
    let same : most ≡ most - 0 = omega arith in
    let here : place ≡ place + 0 = omega arith in
    ap (λ s. serial_from most place ms s) run ∙ ap (λ n. serial_from n place ms after) same
    ∙ ap (λ n. serial_from (most - 0) n ms after) here
run_serial zero place ms show after (t ∷ ts) run tell few = absurd (omega (arith, few))
run_serial (suc most) place ms show after (t ∷ ts) run tell few =
    let fewer : suc most - suc (length ts) ≡ most - length ts = omega arith in
    let later : place + 1 + length ts ≡ place + suc (length ts) = omega arith in
    serial_next most place ms show run.0 t run.1.0 tell.0
    ∙ ap (λ us. t ∷ us) (run_serial most (place + 1) ms run.0 after ts run.1.1 tell.1 (omega (arith, few)))
    ∙ ap (λ n. t ∷ ts ++ serial_from n (place + 1 + length ts) ms after) (sym fewer)
    ∙ ap (λ n. t ∷ ts ++ serial_from (suc most - suc (length ts)) n ms after) later

-- what is played from the opening of a script on
module _ (script : PlainScript) (after : Show) (order : List Turn) (run : IsRun (opening_show script) order after)
    (few : length order ≤ 40 * length script.lines) where
  pub replayed : replay script order ≡ Some after
  replayed = run_replays (opening_show script) after order run

  begins_with : serial_order script (marks order) ≡ order
      ++ serial_from (40 * length script.lines - length order) (0 + length order) (marks order) after
  begins_with = run_serial (40 * length script.lines) 0 (marks order) (opening_show script) after order run (marks_tell 0 order) few

  pub legal : IsLegal script order
  legal = rw replayed refl

  pub begins_serial : BeginsSerial script order
  begins_serial =
      record {
        rest = serial_from (40 * length script.lines - length order) (0 + length order) (marks order) after;
        serial = begins_with;
      }

  module _ (over : first_client (map place_of after.programs) ≡ None) where
    pub complete : IsComplete script order
    complete = rw replayed (all_through after.programs over)

    pub is_serial : order ≡ serial_order script (marks order)
    is_serial = sym (begins_with ∙ ap (λ us. order ++ us)
        (serial_end (40 * length script.lines - length order) (0 + length order) (marks order) after over) ∙ append-nil order)
