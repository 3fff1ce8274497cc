-- One verdict at most is said of a script and of bytes.
use Rattle.std.proofs.Common.{◌≡◌, ◌∙◌, ℕ, zero, suc, ◌+◌, ◌<◌, ◌≤◌, inl, inr, true, false, IsTrue, List, [], ◌∷◌, ◌++◌, length, take}
use Rattle.std.proofs.Common.{drop, Option, Some, None, refl, sym, ap, subst, arith, take-append-drop}
use Rattle.std.proofs.lemmas.Bool.{cases_lt}
use Rattle.std.proofs.lemmas.List.{take_all}
use Rattle.std.specs.Prelude.{IsSome}
use Rattle.std.specs.List.{slice_get}
use Rattle.wf_calls.specs.declared.order.Turn.{Turn}
use Rattle.wf_film.specs.Film.{PlainFilm}
use Rattle.wf_film.specs.Reading.{FilmFault, fault_of, film_fault}
use Rattle.wf_film.specs.Stands.{Stands}
use Rattle.wf_film.proofs.FilmLaws.{one_film, stands_read}
use Rattle.wf_script.specs.Script.{PlainScript}
use Rattle.wf_turn.specs.Play.{IsComplete, IsLegal, over_after, replay, replay_from}
use Rattle.wf_turn.specs.Replayed.{StopsAt}
use Rattle.wf_turn.specs.Turns.{Show, opening_show}
use Rattle.wf_turn.proofs.Replays.{next_show, replay_step}
use Rattle.wf_turn.proofs.Serials.{nothing_replayed}
use Rattle.wf_check.specs.declared.verdict.Verdict.{Verdict}
use Rattle.wf_check.specs.declared.verdict.Verdict.TheVariants as verdict
use Rattle.wf_check.specs.Verdicts.{DiffersAt, IsBadOrder, IsDifferent, IsSame, Says, own_film}

-- bytes that stand for a film have no fault
no_fault : (bytes : List ℕ) (film : PlainFilm) (fault : FilmFault) → Stands bytes film → film_fault bytes ≡ Some fault → ⊥
no_fault bytes film fault stands is =
    let none : film_fault bytes ≡ None = ap (fault_of (length bytes)) (stands_read bytes film stands) in
    let no : None ≡ Some fault = sym none ∙ is in
    absurd cc

-- the verdict on a fault
abbrev found : Option FilmFault → Verdict
found None = verdict.Same
found (Some fault) = verdict.BadFilm fault.at fault.rule

-- two lists differ first at one place

get_in_front : (xs : List ℕ) (n i : ℕ) → i < n → slice_get (take n xs) i ≡ slice_get xs i
get_in_front xs zero i less = absurd (omega arith)
get_in_front [] (suc n) i less = refl
get_in_front (x ∷ xs) (suc n) zero less = refl
get_in_front (x ∷ xs) (suc n) (suc i) less = get_in_front xs n i (omega arith)

not_before : (xs ys : List ℕ) (a b : ℕ) → DiffersAt xs ys a → DiffersAt xs ys b → b ≤ a
not_before xs ys a b first second = elim (cases_lt a b) [
  | inl less ↦ absurd (first.apart (sym (get_in_front xs b a less) ∙ ap (λ zs. slice_get zs a) second.same ∙ get_in_front ys b a less))
  | inr most ↦ most
]

one_place : (xs ys : List ℕ) (a b : ℕ) → DiffersAt xs ys a → DiffersAt xs ys b → a ≡ b
one_place xs ys a b first second =
    let up : b ≤ a = not_before xs ys a b first second in
    let down : a ≤ b = not_before xs ys b a second first in
    omega arith

-- an order stops at one entry

-- entries in front of turns are turns
legal_front : (show : Show) (ts us : List Turn) → IsSome (replay_from show (ts ++ us)) → IsSome (replay_from show ts)
legal_front show [] us legal = rw (nothing_replayed show) refl
legal_front show (t ∷ ts) us legal =
    elim (next_show show t) as (λ o. next_show show t ≡ o → IsSome (replay_from show (t ∷ ts))) [
      | None ↦ λ none. absurd (let no : false ≡ true = rw (replay_step show t (ts ++ us) None none) at legal in cc)
      | Some s ↦ λ some. rw (replay_step show t ts (Some s) some)
          (legal_front s ts us (rw (replay_step show t (ts ++ us) (Some s) some) at legal))
    ] refl

take_shorter : (ts : List Turn) (m n : ℕ) → m ≤ n → take m (take n ts) ≡ take m ts
take_shorter ts zero n most = refl
take_shorter ts (suc m) zero most = absurd (omega arith)
take_shorter [] (suc m) (suc n) most = refl
take_shorter (t ∷ ts) (suc m) (suc n) most = ap (λ us. t ∷ us) (take_shorter ts m n (omega arith))

-- so is each front of a legal order
legal_take : (script : PlainScript) (order : List Turn) (n : ℕ) → IsLegal script order → IsLegal script (take n order)
legal_take script order n legal =
    legal_front (opening_show script) (take n order) (drop n order) (subst (IsLegal script) (sym (take-append-drop n order)) legal)

refused : (script : PlainScript) (order : List Turn) → IsLegal script order → replay script order ≡ None → ⊥
refused script order legal none = absurd (let no : false ≡ true = rw none at legal in cc)

module _ (script : PlainScript) (order : List Turn) where
  -- what is legal up to behind an entry does not stop there
  goes_past : (entry n : ℕ) → entry < n → IsLegal script (take n order) → replay script (take (entry + 1) order) ≡ None → ⊥
  goes_past entry n less legal =
      refused script (take (entry + 1) order)
      (subst (IsLegal script) (take_shorter order (entry + 1) n (omega arith)) (legal_take script (take n order) (entry + 1) legal))

  -- an order that is legal to its end stops nowhere else
  ends : (entry place : ℕ) → place ≡ length order → IsLegal script (take place order) → replay script (take (entry + 1) order) ≡ None → ⊥
  ends entry place end legal =
      refused script (take (entry + 1) order) (legal_take script order (entry + 1)
      (subst (IsLegal script) (take_all place order (omega (arith, end))) legal))

  -- a complete order does not stop
  never_stops : (entry : ℕ) → IsComplete script order → StopsAt script order entry → ⊥
  never_stops entry complete stops = elim stops.stops [
    | inl none ↦ refused script (take (entry + 1) order) (legal_take script order (entry + 1) (legal (replay script order) complete)) none
    | inr end ↦ absurd (let no : false ≡ true = rw end.1 at complete in cc)
  ]
    where
      legal : (o : Option Show) → IsTrue (over_after o) → IsSome o
      legal None over = absurd (let no : false ≡ true = over in cc)
      legal (Some show) over = refl

  one_entry : (a b : ℕ) → StopsAt script order a → StopsAt script order b → a ≡ b
  one_entry a b first second = elim first.stops [
    | inl none ↦ elim second.stops [
      | inl also ↦ elim (cases_lt a b) [
        | inl less ↦ absurd (goes_past a b less second.legal none)
        | inr most ↦ elim (cases_lt b a) [ inl less ↦ absurd (goes_past b a less first.legal also) | inr least ↦ omega arith ]
      ]
      | inr end ↦ absurd (ends a b end.0 second.legal none)
    ]
    | inr end ↦ elim second.stops [
      | inl none ↦ absurd (ends b a end.0 first.legal none)
      | inr also ↦ end.0 ∙ sym also.0
    ]
  ]

module _ (script : PlainScript) (bytes : List ℕ) where
  complete_stops : (entry : ℕ) (film other : PlainFilm) → Stands bytes film → Stands bytes other → IsComplete script film.order
      → StopsAt script other.order entry → ⊥
  complete_stops entry film other stands also complete stops =
      never_stops script other.order entry
      (subst (λ (f : PlainFilm). IsComplete script f.order) (one_film bytes film other stands also) complete) stops

  same_differs : (at : ℕ) → IsSame script bytes → IsDifferent script bytes at → ⊥
  same_differs at same other =
      let is : bytes ≡ own_film script other.film = same.same
      ∙ ap (own_film script) (one_film bytes same.film other.film same.stands other.stands) in
      other.differs.apart (ap (λ (xs : List ℕ). slice_get xs at) is)

  one_difference : (a b : ℕ) → IsDifferent script bytes a → IsDifferent script bytes b → a ≡ b
  one_difference a b first second =
      one_place bytes (own_film script second.film) a b
      (subst (λ (f : PlainFilm). DiffersAt bytes (own_film script f) a)
      (one_film bytes first.film second.film first.stands second.stands) first.differs) second.differs

  one_bad_entry : (a b : ℕ) → IsBadOrder script bytes a → IsBadOrder script bytes b → a ≡ b
  one_bad_entry a b first second =
      one_entry script second.film.order a b
      (subst (λ (f : PlainFilm). StopsAt script f.order a) (one_film bytes first.film second.film first.stands second.stands) first.stops)
      second.stops

  pub one_verdict : (v w : Verdict) → Says script bytes v → Says script bytes w → v ≡ w
  one_verdict verdict.Same verdict.Same one other = refl
  one_verdict verdict.Same (verdict.BadFilm at rule) one other = absurd (no_fault bytes one.film _ one.stands other)
  one_verdict verdict.Same (verdict.BadOrder entry) one other =
      absurd (complete_stops entry one.film other.film one.stands other.stands one.complete other.stops)
  one_verdict verdict.Same (verdict.Differs at) one other = absurd (same_differs at one other)
  one_verdict (verdict.BadFilm at rule) verdict.Same one other = absurd (no_fault bytes other.film _ other.stands one)
  one_verdict (verdict.BadFilm at rule) (verdict.BadFilm place kind) one other = ap found (sym one ∙ other)
  one_verdict (verdict.BadFilm at rule) (verdict.BadOrder entry) one other = absurd (no_fault bytes other.film _ other.stands one)
  one_verdict (verdict.BadFilm at rule) (verdict.Differs place) one other = absurd (no_fault bytes other.film _ other.stands one)
  one_verdict (verdict.BadOrder entry) verdict.Same one other =
      absurd (complete_stops entry other.film one.film other.stands one.stands other.complete one.stops)
  one_verdict (verdict.BadOrder entry) (verdict.BadFilm at rule) one other = absurd (no_fault bytes one.film _ one.stands other)
  one_verdict (verdict.BadOrder entry) (verdict.BadOrder place) one other = ap verdict.BadOrder (one_bad_entry entry place one other)
  one_verdict (verdict.BadOrder entry) (verdict.Differs at) one other =
      absurd (complete_stops entry other.film one.film other.stands one.stands other.complete one.stops)
  one_verdict (verdict.Differs at) verdict.Same one other = absurd (same_differs at other one)
  one_verdict (verdict.Differs at) (verdict.BadFilm place rule) one other = absurd (no_fault bytes one.film _ one.stands other)
  one_verdict (verdict.Differs at) (verdict.BadOrder entry) one other =
      absurd (complete_stops entry one.film other.film one.stands other.stands one.complete other.stops)
  one_verdict (verdict.Differs at) (verdict.Differs place) one other = ap verdict.Differs (one_difference at place one other)
