-- One line more that makes no event.
use Rattle.wf_turn.proofs.Common.{◌≡◌, ◌∙◌, ℕ, zero, suc, ◌+◌, ◌<◌, ◌≤◌, ◌==◌, Bool, true, false, cond, List, [], ◌∷◌, ◌++◌, length, take}
use Rattle.wf_turn.proofs.Common.{drop, get_or, Option, Some, None, refl, sym, ap, arith, append-nil, ◌&&◌, and_parts, eqb-true, drop_more}
use Rattle.wf_turn.proofs.Common.{slice_get, filter, option_to_list, enumerate_from, is_some, Canvas, Line, Verb, IsPlace}
use Rattle.wf_turn.proofs.Common.{is_event_of, bound_by, bound_name, bound_names, is_event, lines_from, silent, skipped}
use Rattle.std.proofs.lemmas.Option.{slice_get_past}
use Rattle.wf_script.specs.declared.line.Verb.TheVariants as verb
use Rattle.wf_script.specs.Verbs.{creates}
use Rattle.wf_turn.specs.Passing.{passed}
use Rattle.wf_turn.proofs.Values.{names_more}

pub get_within : {A : Type 0} (xs : List A) (i : ℕ) (d : A) → i < length xs → slice_get xs i ≡ Some (get_or xs i d)
get_within [] i d within = absurd (omega (arith, within))
get_within (x ∷ xs) zero d within = refl
get_within (x ∷ xs) (suc i) d within = get_within xs i d (omega (arith, within))

-- the lines from a place on, which is one of the client's, or not
pub lines_at : (client at : ℕ) (lines : List Line) (l : Line) → at < length lines → l ≡ get_or lines at l
    → lines_from client at lines ≡ cond (l.client == client) ((at, l) ∷ lines_from client (at + 1) lines) (lines_from client (at + 1) lines)
lines_at client at lines l within is =
    ap (λ ls. filter (λ m. m.1.client == client) (enumerate_from at ls)) (drop_more lines at l within
    ∙ ap (λ m. m ∷ drop (at + 1) lines) (sym is))

pub lines_end : (client at : ℕ) (lines : List Line) → length lines ≤ at → lines_from client at lines ≡ []
lines_end client at lines over = ap (λ ls. filter (λ m. m.1.client == client) (enumerate_from at ls))
    (none lines at over)
  where
    none : {A : Type 0} (xs : List A) (i : ℕ) → length xs ≤ i → drop i xs ≡ []
    none [] zero over = refl
    none [] (suc i) over = refl
    none (x ∷ xs) zero over = absurd (omega (arith, over))
    none (x ∷ xs) (suc i) over = none xs i (omega (arith, over))

pub place_end : (client at : ℕ) (lines : List Line) → at ≤ length lines → length lines ≤ at → IsPlace client at lines
place_end client at lines within over = record { within = within; here = rw (slice_get_past lines at over) tt }

pub place_here : (client at : ℕ) (lines : List Line) (l : Line) → at < length lines → l ≡ get_or lines at l → (l.client == client) ≡ true
    → IsPlace client at lines
place_here client at lines l within is here =
    let same : (get_or lines at l).client ≡ client = ap (λ m. m.client) (sym is) ∙ eqb-true l.client client here in
    record { within = omega (arith, within); here = rw (get_within lines at l within) same }

-- a line that makes no event binds no name
binds_none : (held : Bool) (v : Verb) → is_event held v ≡ false → creates v ≡ false
binds_none held (verb.Acquire s) silent = refl
binds_none held verb.Post silent = refl
binds_none held verb.Discard silent = refl
binds_none held (verb.Paint p) silent = refl
binds_none held (verb.Frame s p) silent = refl
binds_none held _ silent = absurd cc

nothing_bound : (client at : ℕ) (lines : List Line) (l : Line) → at < length lines → l ≡ get_or lines at l → bound_by client l ≡ None
    → bound_names client (take (at + 1) lines) ≡ bound_names client (take at lines)
nothing_bound client at lines l within is none =
    names_more client lines at l within is ∙ ap (λ o. bound_names client (take at lines) ++ option_to_list o) none
    ∙ append-nil (bound_names client (take at lines))

-- at a line of the client that makes an event all is passed
stopped : (client at : ℕ) (lines : List Line) (l : Line) (canvas : Option Canvas) → at < length lines → l ≡ get_or lines at l
    → (l.client == client) ≡ true → is_event (is_some canvas) l.verb ≡ true
    → skipped canvas (lines_from client at lines) ≡ (canvas, lines_from client at lines)
stopped client at lines l canvas within is own event =
    let here : lines_from client at lines ≡ (at, l) ∷ lines_from client (at + 1) lines = lines_at client at lines l within is
    ∙ ap (λ b. cond b ((at, l) ∷ lines_from client (at + 1) lines) (lines_from client (at + 1) lines)) own in
    ap (skipped canvas) here
    ∙ ap (λ b. cond b (canvas, (at, l) ∷ lines_from client (at + 1) lines)
    (skipped (silent l.verb canvas) (lines_from client (at + 1) lines))) event
    ∙ ap (λ ls. (canvas, ls)) (sym here)

-- what stands where there is no event of the client
quiet_at : (client at : ℕ) (lines : List Line) (l : Line) (canvas : Option Canvas) → at < length lines → l ≡ get_or lines at l
    → (own event : Bool) → (l.client == client) ≡ own → is_event (is_some canvas) l.verb ≡ event → (own && event) ≡ false
    → (skipped canvas (lines_from client at lines) ≡ skipped (cond own (silent l.verb canvas) canvas) (lines_from client (at + 1) lines))
    × (bound_by client l ≡ None)
quiet_at client at lines l canvas within is false event other makes quiet = (
  ap (skipped canvas) (lines_at client at lines l within is
      ∙ ap (λ b. cond b ((at, l) ∷ lines_from client (at + 1) lines) (lines_from client (at + 1) lines)) other),
  ap (λ b. cond b (bound_name l) None) other,
)
quiet_at client at lines l canvas within is true event own makes quiet =
    let rest = lines_from client (at + 1) lines in
    let none = makes ∙ quiet in (
      ap (skipped canvas) (lines_at client at lines l within is ∙ ap (λ b. cond b ((at, l) ∷ rest) rest) own)
          ∙ ap (λ b. cond b (canvas, (at, l) ∷ rest) (skipped (silent l.verb canvas) rest)) none,
      ap (λ b. cond b (bound_name l) None) own ∙ ap (λ b. cond b l.name None) (binds_none (is_some canvas) l.verb none),
    )

-- a line that makes no event of the client is passed
pub passes : (client at : ℕ) (lines : List Line) (l : Line) (canvas : Option Canvas) → at < length lines → l ≡ get_or lines at l
    → is_event_of client (is_some canvas) l ≡ false
    → (skipped canvas (lines_from client at lines) ≡ skipped (passed client l canvas) (lines_from client (at + 1) lines))
    × (bound_names client (take (at + 1) lines) ≡ bound_names client (take at lines))
passes client at lines l canvas within is quiet =
    let step = quiet_at client at lines l canvas within is (l.client == client) (is_event (is_some canvas) l.verb) refl refl quiet in
    (step.0, nothing_bound client at lines l within is step.1)

-- at an event of the client all is passed
pub stops : (client at : ℕ) (lines : List Line) (l : Line) (canvas : Option Canvas) → at < length lines → l ≡ get_or lines at l
    → is_event_of client (is_some canvas) l ≡ true
    → (skipped canvas (lines_from client at lines) ≡ (canvas, lines_from client at lines)) × IsPlace client at lines
stops client at lines l canvas within is event =
    let each = and_parts (l.client == client) (is_event (is_some canvas) l.verb) event in
    (stopped client at lines l canvas within is each.0 each.1, place_here client at lines l within is each.0)
