-- Histories that are put together, beside one client's program.
use Rattle.std.proofs.Common.{◌≡◌, ◌∙◌, ℕ, ◌==◌, Bool, true, false, cond, List, [], ◌∷◌, ◌++◌, refl, sym, ap, subst}
use Rattle.std.proofs.lemmas.Bool.{eq-eqb}
use Rattle.wf_desk.specs.History.{IsPrefix, events_of, replay}
use Rattle.wf_machine.specs.Object.{after}
use Rattle.wf_model.specs.State.{State}
use Rattle.wf_turn.specs.Going.{IsNextCall}
use Rattle.wf_turn.specs.Program.{Program}
use Rattle.wf_show.specs.Played.{IsPlayed, after_event, gone_on, program_after}
use Rattle.wf_machine.specs.Histories.{Happening}

-- one history behind another

pub events_of-append : (c : ℕ) (xs ys : List Happening) → events_of c (xs ++ ys) ≡ events_of c xs ++ events_of c ys
events_of-append c [] ys = refl
events_of-append c (e ∷ es) ys =
    let rest = events_of-append c es ys in
    elim (e.client == c) as (λ b. cond b (e ∷ events_of c (es ++ ys)) (events_of c (es ++ ys))
    ≡ cond b (e ∷ events_of c es) (events_of c es) ++ events_of c ys) [
      | true ↦ ap (λ (l : List Happening). e ∷ l) rest
      | false ↦ rest
    ]

pub program_after-append : (c : ℕ) (p : Program) (xs ys : List Happening)
    → program_after c p (xs ++ ys) ≡ program_after c (program_after c p xs) ys
program_after-append c p [] ys = refl
program_after-append c p (x ∷ xs) ys = program_after-append c (after_event c p x) xs ys

pub played-append : (c : ℕ) (h : State) (p : Program) (xs ys : List Happening) → IsPlayed c h p xs
    → IsPlayed c (replay after h xs) (program_after c p xs) ys → IsPlayed c h p (xs ++ ys)
played-append c h p [] ys first rest = rest
played-append c h p (x ∷ xs) ys first rest =
    (first.0, played-append c (after h x.client x.call x.reply) (after_event c p x) xs ys first.1 rest)

-- a history without events of the client
pub record IsUntouched (c : ℕ) (h : State) (p : Program) (xs : List Happening) : Type 0 where
  pub played : IsPlayed c h p xs
  pub program : program_after c p xs ≡ p

pub untouched : (c : ℕ) (h : State) (p : Program) (xs : List Happening) → events_of c xs ≡ [] → IsUntouched c h p xs
untouched c h p [] none = record { played = tt; program = refl }
untouched c h p (x ∷ xs) none = of_client (x.client == c) refl (λ left. untouched c (after h x.client x.call x.reply) p xs left)
  where
    of_client : (b : Bool) → (x.client == c) ≡ b
        → (events_of c xs ≡ [] → IsUntouched c (after h x.client x.call x.reply) p xs) → IsUntouched c h p (x ∷ xs)
    of_client true own rest_of = absurd (let nothing : x ∷ events_of c xs ≡ [] = rw own at none in cc)
    of_client false other rest_of =
        let rest : IsUntouched c (after h x.client x.call x.reply) p xs = rest_of (rw other at none) in
        record {
          played = (λ own. absurd (let apart : false ≡ true = sym other ∙ own in cc), rw other rest.played);
          program = rw other rest.program;
        }

-- lists that grow to the same by one element

pub nothing_more : (xs ys : List Happening) → xs ++ ys ≡ xs → ys ≡ []
nothing_more [] ys same = same
nothing_more (x ∷ xs) ys same = nothing_more xs ys cc

never_empty : (l : List Happening) (z : Happening) → [] ≡ l ++ z ∷ [] → ⊥
never_empty [] z same = absurd cc
never_empty (x ∷ l) z same = absurd cc

same_front : (xs ys : List Happening) (z : Happening) → xs ++ z ∷ [] ≡ ys ++ z ∷ [] → xs ≡ ys
same_front [] [] z e = refl
same_front [] (y ∷ ys) z e = absurd (never_empty ys z (let tails : [] ≡ ys ++ z ∷ [] = cc in tails))
same_front (x ∷ xs) [] z e = absurd (never_empty xs z (let tails : [] ≡ xs ++ z ∷ [] = cc in tails))
same_front (x ∷ xs) (y ∷ ys) z e =
    let heads : x ≡ y = cc in
    let tails : xs ++ z ∷ [] ≡ ys ++ z ∷ [] = cc in
    ap (λ (w : Happening). w ∷ xs) heads ∙ ap (λ (l : List Happening). y ∷ l) (same_front xs ys z tails)

-- One event of the client more. Others may have made events before it, of which the client is told with its own.
module _ (c : ℕ) (old before new : List Happening) (e : Happening) (own : e.client ≡ c) (more : IsPrefix old before)
    (is : new ≡ before ++ e ∷ []) (counted : events_of c new ≡ events_of c old ++ e ∷ []) where
  here : (e.client == c) ≡ true
  here = eq-eqb e.client c own

  -- none of them is the client's
  pub none_between : events_of c more.0 ≡ []
  none_between =
      let counts : events_of c before ++ events_of c (e ∷ []) ≡ events_of c old ++ e ∷ [] =
      sym (events_of-append c before (e ∷ [])) ∙ ap (events_of c) (sym is) ∙ counted in
      let own_one : events_of c (e ∷ []) ≡ e ∷ [] = rw here refl in
      let same : events_of c before ≡ events_of c old = same_front (events_of c before) (events_of c old) e
      (ap (λ (l : List Happening). events_of c before ++ l) (sym own_one) ∙ counts) in
      nothing_more (events_of c old) (events_of c more.0)
      (sym (events_of-append c old more.0) ∙ ap (events_of c) (sym more.1) ∙ same)

  module _ (h : State) (p : Program) where
    pub reached : program_after c p before ≡ program_after c p old
    reached =
        let q : Program = program_after c p old in
        ap (program_after c p) more.1 ∙ program_after-append c p old more.0
        ∙ (untouched c (replay after h old) q more.0 none_between).program

    pub one_program : program_after c p new ≡ gone_on (program_after c p old) e.reply
    one_program =
        let q : Program = program_after c p before in
        ap (program_after c p) is ∙ program_after-append c p before (e ∷ [])
        ∙ ap (λ (b : Bool). cond b (gone_on q e.reply) q) here
        ∙ ap (λ (r : Program). gone_on r e.reply) reached

    pub one_played : IsPlayed c h p old → IsNextCall (replay after h before) (program_after c p old) e.call → IsPlayed c h p new
    one_played so_far next =
        let q : Program = program_after c p old in
        let between = (untouched c (replay after h old) q more.0 none_between).played in
        let all : IsPlayed c h p before =
        subst (IsPlayed c h p) (sym more.1) (played-append c h p old more.0 so_far between) in
        let last : IsPlayed c (replay after h before) (program_after c p before) (e ∷ []) =
        (λ mine. subst (λ (r : Program). IsNextCall (replay after h before) r e.call) (sym reached) next, tt) in
        subst (IsPlayed c h p) (sym is) (played-append c h p before (e ∷ []) all last)
