-- Behind the setup, the order of a history is legal where the events of each client are its program's calls.
use Rattle.std.proofs.Common.{◌≡◌, ◌∙◌, ℕ, zero, suc, ◌+◌, ◌<◌, ◌==◌, Bool, true, false, not, cond, ◌&&◌, List, [], ◌∷◌, ◌++◌, length}
use Rattle.std.proofs.Common.{Option, Some, None, refl, sym, ap, subst, arith, set, slice_get, append_assoc, append-nil}
use Rattle.std.specs.Option.{unwrap_or}
use Rattle.std.proofs.lemmas.Bool.{eq-eqb, eqb-true}
use Rattle.wf_words.specs.Places.{get_set, within}
use Rattle.wf_calls.specs.Codes.{entry}
use Rattle.wf_calls.specs.declared.order.Turn.{Turn}
use Rattle.wf_desk.specs.History.{IsLegal, replay}
use Rattle.wf_film.specs.Film.{Frame}
use Rattle.wf_machine.specs.Object.{MayAnswer, after}
use Rattle.wf_model.specs.State.{State}
use Rattle.wf_script.specs.Script.{PlainScript}
use Rattle.wf_turn.specs.Going.{IsNextCall}
use Rattle.wf_turn.specs.Play.{replay_from}
use Rattle.wf_turn.specs.Program.{Program, setup_lines, took}
use Rattle.wf_turn.specs.Turns.{Show, all_taught, answered, frames_of, is_setting_up, program_at}
use Rattle.wf_turn.proofs.AnswersKeep.{same_script}
use Rattle.wf_show.proofs.LinesThatAreLeft.{behind, behind_on, stays_past}
use Rattle.wf_turn.proofs.Serials.{nothing_replayed, replay_next}
use Rattle.wf_show.proofs.NoTickNoFrame.{IsStill, stays_still}
use Rattle.wf_show.proofs.NextTurns.{turn_is}
use Rattle.wf_show.specs.Played.{IsPlayed, after_event, gone_on, program_after}
use Rattle.wf_machine.specs.Histories.{Happening}
use Rattle.wf_show.specs.Shown.{frames_by, frames_in, order_of}
use Rattle.wf_show.specs.Together.{AllBelow}

-- lists

pub and_false : (b : Bool) → (b && false) ≡ false
and_false true = refl
and_false false = refl

get_other : (xs : List Program) (i c : ℕ) (y : Program) → (i ≡ c → ⊥) → slice_get (set xs i y) c ≡ slice_get xs c
get_other [] i c y apart = refl
get_other (x ∷ xs) zero zero y apart = absurd (apart refl)
get_other (x ∷ xs) zero (suc c) y apart = refl
get_other (x ∷ xs) (suc i) zero y apart = refl
get_other (x ∷ xs) (suc i) (suc c) y apart = get_other xs i c y (λ same. apart (ap suc same))

length_set : (xs : List Program) (i : ℕ) (y : Program) → length (set xs i y) ≡ length xs
length_set [] i y = refl
length_set (x ∷ xs) zero y = refl
length_set (x ∷ xs) (suc i) y = ap suc (length_set xs i y)

pub one_is : {o : Option Program} {x y : Program} → o ≡ Some x → o ≡ Some y → x ≡ y
one_is {x = x} first second = ap (λ p. unwrap_or p x) (sym first ∙ second)

pub apart_of : {m n : ℕ} → (m == n) ≡ false → m ≡ n → ⊥
apart_of {m = m} {n = n} other same = absurd (let no : true ≡ false = sym (eq-eqb m n same) ∙ other in cc)

-- The clock's setup is through, and stays through, since only lines behind it are left. The other programs have no ticks.
abbrev pub Role : PlainScript → ℕ → Program → Type 0
Role script zero p = (p.script ≡ script) × (behind (setup_lines script.lines) p.lines ≡ true)
Role script (suc n) p = IsStill p

role_on : (script : PlainScript) (h : State) (c : ℕ) (p : Program) (e : Happening) → IsNextCall h p e.call
    → MayAnswer h e.client e.call e.reply → Role script c p → Role script c (gone_on p e.reply)
role_on script h zero p e next may role =
    (same_script p e.reply ∙ role.0, behind_on (setup_lines script.lines) p e.reply role.1)
role_on script h (suc n) p e next may role = (stays_still p h e.client e.call e.reply role next may).still

role_shows : (begin : ℕ) (script : PlainScript) (h : State) (c : ℕ) (p : Program) (e : Happening) → (c ≡ 0 → ⊥) → IsNextCall h p e.call
    → MayAnswer h e.client e.call e.reply → Role script c p → frames_of begin (took p e.reply) ≡ []
role_shows begin script h zero p e apart next may role = absurd (apart refl)
role_shows begin script h (suc n) p e apart next may role = (stays_still p h e.client e.call e.reply role next may).nothing begin

-- what each program of a show makes of a history
pub record Goes (script : PlainScript) (h : State) (es : List Happening) (c : ℕ) (p : Program) : Type 0 where
  pub played : IsPlayed c h p es
  pub role : Role script c p

abbrev pub AllGo : PlainScript → Show → List Happening → Type 0
AllGo script s es = (c : ℕ) (p : Program) → slice_get s.programs c ≡ Some p → Goes script s.state es c p

-- what a history makes of a show
pub record IsMerged (s : Show) (es : List Happening) : Type 0 where
  pub last : Show
  pub replayed : replay_from s (order_of es) ≡ Some last
  pub state : last.state ≡ replay after s.state es
  pub programs : (c : ℕ) (p : Program) → slice_get s.programs c ≡ Some p → slice_get last.programs c ≡ Some (program_after c p es)
  pub count : length last.programs ≡ length s.programs
  pub frames : (clock : Program) → slice_get s.programs 0 ≡ Some clock → last.frames ≡ s.frames ++ frames_by s.turns 0 clock es

-- the clock's setup is through
is_through : (script : PlainScript) (s : Show) (es : List Happening) → 0 < length s.programs → AllGo script s es
    → is_setting_up s.programs ≡ false
is_through script s es some go = of_programs s.programs refl some
  where
    of_programs : (ps : List Program) → s.programs ≡ ps → 0 < length ps → is_setting_up ps ≡ false
    of_programs [] are some = absurd (omega (arith, some))
    of_programs (clock ∷ others) are some =
        let role = (go 0 clock (ap (λ ps. slice_get ps 0) are)).role in
        stays_past clock (subst (λ (x : PlainScript). behind (setup_lines x.lines) clock.lines ≡ true) (sym role.0) role.1)

-- one event, of the client whose program this is
module _ (script : PlainScript) (s : Show) (e : Happening) (es : List Happening) (go : AllGo script s (e ∷ es)) (p : Program)
    (own : slice_get s.programs e.client ≡ Some p) (setup : is_setting_up s.programs ≡ false)
    (may : MayAnswer s.state e.client e.call e.reply) where
  abbrev q : Program
  q = gone_on p e.reply

  abbrev stepped : Show
  stepped = record (answered s e.client p (after s.state e.client e.call e.reply, e.reply)).0 { programs = set s.programs e.client q }

  next : IsNextCall s.state p e.call
  next = (go e.client p own).played.0 (eq-eqb e.client e.client refl)

  stands : program_at s e.client ≡ Some p
  stands =
      ap (λ b. cond (not (e.client == 0) && b) None (slice_get s.programs e.client)) setup
      ∙ ap (λ b. cond b None (slice_get s.programs e.client)) (and_false (not (e.client == 0))) ∙ own

  steps : replay_from s (order_of (e ∷ es)) ≡ replay_from stepped (order_of es)
  steps =
      let t : Turn = entry e.client e.reply in
      let plain : Show = (answered s e.client p (after s.state e.client e.call e.reply, e.reply)).0 in
      let is : plain ≡ stepped =
      ap (λ b. record plain {
        programs = cond (b && not (is_setting_up (set s.programs e.client q))) (all_taught (set s.programs e.client q))
            (set s.programs e.client q);
      }) setup in
      replay_next s stepped t (order_of es) (turn_is s e.client p e.call e.reply stands next may ∙ ap (λ x. Some (x, t)) is)

  -- the programs after the event
  now_at : (c : ℕ) (r : Program) → slice_get s.programs c ≡ Some r → slice_get (set s.programs e.client q) c ≡ Some (after_event c r e)
  now_at c r there =
      elim (e.client == c) as (λ b. (e.client == c) ≡ b → slice_get (set s.programs e.client q) c ≡ Some (cond b (gone_on r e.reply) r)) [
        | true ↦ λ same. (
            let is : e.client ≡ c = eqb-true e.client c same in
            let one : p ≡ r = one_is (ap (slice_get s.programs) (sym is) ∙ own) there in
            ap (slice_get (set s.programs e.client q)) (sym is) ∙ get_set s.programs e.client p q own
            ∙ ap (λ x. Some (gone_on x e.reply)) one)
        | false ↦ λ other. get_other s.programs e.client c q (apart_of other) ∙ there
      ] refl

  go_on : AllGo script stepped es
  go_on c r there =
      elim (e.client == c) as (λ b. (e.client == c) ≡ b → Goes script stepped.state es c r) [
        | true ↦ λ same. (
            let is : e.client ≡ c = eqb-true e.client c same in
            let mine = go c p (ap (slice_get s.programs) (sym is) ∙ own) in
            let one : q ≡ r = one_is (ap (slice_get (set s.programs e.client q)) (sym is) ∙ get_set s.programs e.client p q own) there in
            subst (Goes script stepped.state es c) one
            (record { played = rw same at mine.played.1; role = role_on script s.state c p e next may mine.role }))
        | false ↦ λ other. (
            let mine = go c r (sym (get_other s.programs e.client c q (apart_of other)) ∙ there) in
            record { played = rw other at mine.played.1; role = mine.role })
      ] refl

  shows : (clock : Program) → slice_get s.programs 0 ≡ Some clock → frames_of s.turns (took p e.reply) ≡ frames_in s.turns 0 clock e
  shows clock there =
      elim (e.client == 0) as (λ b. (e.client == 0) ≡ b
      → frames_of s.turns (took p e.reply) ≡ cond b (frames_of s.turns (took clock e.reply)) []) [
        | true ↦ λ same. (
            let is : e.client ≡ 0 = eqb-true e.client 0 same in
            let one : p ≡ clock = one_is (ap (slice_get s.programs) (sym is) ∙ own) there in
            ap (λ x. frames_of s.turns (took x e.reply)) one)
        | false ↦ λ other. role_shows s.turns script s.state e.client p e (apart_of other) next may (go e.client p own).role
      ] refl

pub merged : (script : PlainScript) (es : List Happening) (s : Show) → AllGo script s es → AllBelow (length s.programs) es
    → 0 < length s.programs → IsLegal after MayAnswer s.state es → IsMerged s es
merged script [] s go below some legal =
    record {
      last = s;
      replayed = nothing_replayed s;
      state = refl;
      programs = λ c p at. at;
      count = refl;
      frames = λ clock at. sym (append-nil s.frames);
    }
merged script (e ∷ es) s go below some legal =
    let found = within s.programs e.client below.0 in
    let p : Program = found.0 in
    let own = found.1 in
    let setup = is_through script s (e ∷ es) some go in
    let s1 : Show = stepped script s e es go p own setup legal.0 in
    let many : length s1.programs ≡ length s.programs = length_set s.programs e.client (gone_on p e.reply) in
    let rest : IsMerged s1 es =
    merged script es s1 (go_on script s e es go p own setup legal.0) (subst (λ n. AllBelow n es) (sym many) below.1)
    (omega (arith, many, some)) legal.1 in
    record {
      last = rest.last;
      replayed = steps script s e es go p own setup legal.0 ∙ rest.replayed;
      state = rest.state;
      programs = λ c r there. rest.programs c (after_event c r e) (now_at script s e es go p own setup legal.0 c r there);
      count = rest.count ∙ many;
      frames = λ clock there.
          rest.frames (after_event 0 clock e) (now_at script s e es go p own setup legal.0 0 clock there)
          ∙ append_assoc s.frames (frames_of s.turns (took p e.reply)) (frames_by (s.turns + 1) 0 (after_event 0 clock e) es)
          ∙ ap (λ (fs : List Frame). s.frames ++ (fs ++ frames_by (s.turns + 1) 0 (after_event 0 clock e) es))
          (shows script s e es go p own setup legal.0 clock there);
    }
