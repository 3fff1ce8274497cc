-- A program that makes its next call goes on after each answer, and one that makes none is through.
use Rattle.wf_turn.proofs.Common.{◌≡◌, ℕ, true, false, List, [], ◌∷◌, Option, Some, None, refl, ap, sym, is_some, Line, Wanted, IfSome}
use Rattle.std.specs.Option.{IfNone}
use Rattle.wf_turn.proofs.Common.{◌<◌, arith, is_begin, Program, first_line, issued, left, next, place_of, IsFit}
use Rattle.wf_calls.specs.declared.code.Code.TheVariants as code
use Rattle.wf_calls.specs.declared.reply.Payload.TheVariants as payload
use Rattle.wf_turn.specs.Going.{GoesOnAfter}
use Rattle.wf_turn.proofs.AnswersAgree.{took_issued}
use Rattle.wf_turn.proofs.Cases.{turn_case}
use Rattle.wf_turn.proofs.ProgramsStayFit.{fit_took, wants}
use Rattle.wf_turn.proofs.FewerEventsLeft.{left_took}
use Rattle.wf_turn.proofs.JobCanBePainted.{took_work}

-- a call that waits begins a frame
pub waiting_begins : (p : Program) (w : Wanted) → next p ≡ Some w → w.wait ≡ true → is_begin w.call ≡ true
waiting_begins p w asks =
    turn_case p (λ x now. x.wait ≡ true → is_begin x.call ≡ true) w
    (record {
      canvas = λ c still waits. absurd cc;
      value = λ c still waits. absurd cc;
      frame = λ s paint waits. absurd cc;
      asks = λ x begins tick s next_of is waits. begins;
      ended = λ job held l waits. absurd cc;
    }) asks

-- a program that wants a call has a line
pub asks_line : (p : Program) (w : Wanted) → next p ≡ Some w → (l : Line) × (first_line p ≡ Some l)
asks_line p w asks = of_line (first_line p) refl
  where
    of_line : (o : Option Line) → first_line p ≡ o → (l : Line) × (first_line p ≡ Some l)
    of_line None none = absurd (let nothing : None ≡ Some w = rw none at asks in cc)
    of_line (Some l) is = (l, is)

-- a program that wants a call has some left to make
pub some_left : (p : Program) (w : Wanted) → IsFit p → next p ≡ Some w → 0 < left p
some_left p w fit asks =
    let line = asks_line p w asks in
    let fewer = left_took p line.0 (record { code = code.Ok; value = 0; payload = payload.Nothing }) fit line.1 in
    omega (arith, fewer)

pub goes_on : (p : Program) (w : Wanted) → IsFit p → next p ≡ Some w → GoesOnAfter p w
goes_on p w fit asks h client reply may =
    let line = asks_line p w asks in
    record {
      took_is = took_issued p reply;
      work = took_work p h client w reply fit.painted may asks;
      fit = fit_took p reply fit;
      fewer = left_took p line.0 reply fit line.1;
    }

-- a program that wants nothing is through, and hands nothing out
pub record IsThrough (p : Program) : Type 0 where
  pub through : place_of p ≡ None
  pub same : issued p ≡ p

pub is_through : (p : Program) → IsFit p → next p ≡ None → IsThrough p
is_through p fit none = of_line (first_line p) refl
  where
    no_place : (ls : List (ℕ × Line)) → p.lines ≡ ls → first_line p ≡ None → place_of p ≡ None
    no_place [] is nothing = rw is refl
    no_place (l ∷ ls) is nothing = absurd (let some : Some l.1 ≡ None = rw is at nothing in cc)

    of_line : (o : Option Line) → first_line p ≡ o → IsThrough p
    of_line None nothing = record { through = no_place p.lines refl nothing; same = rw nothing refl }
    of_line (Some l) is =
        absurd (let some = wants p l fit is in let no : is_some (next p) ≡ false = ap is_some none in
        let yes : is_some (next p) ≡ true = some in cc)

-- of the next call, if there is one
pub if_some : {P : Wanted → Type 0} (p : Program) (o : Option Wanted) → o ≡ next p → ((w : Wanted) → next p ≡ Some w → P w) → IfSome o P
if_some p None is all = tt
if_some p (Some w) is all = all w (sym is)

-- where there is none
pub if_none : {X : Type 0} (p : Program) (o : Option Wanted) → o ≡ next p → (next p ≡ None → X) → IfNone o X
if_none p None is all = all (sym is)
if_none p (Some w) is all = tt
