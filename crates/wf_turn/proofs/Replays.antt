-- What each turn keeps holds in every show that an order reaches.
use Rattle.wf_turn.proofs.Common.{◌≡◌, ◌∙◌, ℕ, Bool, true, false, not, cond, ◌&&◌, ◌==◌, List, [], ◌∷◌, ◌++◌, Option, Some, None, refl, sym}
use Rattle.wf_turn.proofs.Common.{ap, append-nil, subst, append_assoc, slice_get, unwrap_or, and_parts, eqb-true, Turn, is_running, step}
use Rattle.wf_turn.proofs.Common.{PlainScript}
use Rattle.wf_turn.proofs.Common.{Wanted, is_marked, replay, replay_from, replay_turn, same_turn, Program, next, Show, answered}
use Rattle.wf_turn.proofs.Common.{is_setting_up, opening_show, program_at, turn}
use Rattle.wf_turn.specs.Moments.{At}
use Rattle.wf_turn.proofs.Serials.{nothing_replayed}

same_is : (s t : Turn) → same_turn s t ≡ true → s ≡ t
same_is s t same =
    let most = and_parts ((s.client == t.client) && (s.code == t.code)) (s.value == t.value) same in
    let first = and_parts (s.client == t.client) (s.code == t.code) most.0 in
    ap (λ n. record { client = n; code = s.code; value = s.value }) (eqb-true s.client t.client first.0)
    ∙ ap (λ n. record { client = t.client; code = n; value = s.value }) (eqb-true s.code t.code first.1)
    ∙ ap (λ n. record { client = t.client; code = t.code; value = n }) (eqb-true s.value t.value most.1)

-- a replay takes the turn that its entry tells
pub taken_turn : (t : Turn) (o : Option (Show × Turn)) (after : Show) → replay_turn t o ≡ Some after → o ≡ Some (after, t)
taken_turn t None after is = absurd cc
taken_turn t (Some done) after is = of_same (same_turn done.1 t) refl
  where
    of_same : (b : Bool) → same_turn done.1 t ≡ b → Some done ≡ Some (after, t)
    of_same false apart = absurd (let no : None ≡ Some after = rw apart at is in cc)
    of_same true same =
        let now : Some done.0 ≡ Some after = rw same at is in
        ap (λ o. Some (unwrap_or o after, done.1)) now ∙ ap (λ x. Some (after, x)) (same_is done.1 t same)

abbrev pub next_show : Show → Turn → Option Show
next_show show t = replay_turn t (turn show t.client (is_marked t))

pub replay_step : (show : Show) (t : Turn) (ts : List Turn) (o : Option Show) → next_show show t ≡ o
    → replay_from show (t ∷ ts) ≡ elim o as (λ _. Option Show) [ None ↦ None | Some after ↦ replay_from after ts ]
unfolding replay_from
replay_step show t ts o is = ap (λ x. elim x as (λ _. Option Show) [ None ↦ None | Some after ↦ replay_from after ts ]) is

-- an entry more is a turn more
pub replay_more : (start show after : Show) (ts : List Turn) (t : Turn) → replay_from start ts ≡ Some show → next_show show t ≡ Some after
    → replay_from start (ts ++ t ∷ []) ≡ Some after
replay_more start show after [] t reached is =
    let same : Some start ≡ Some show = sym (nothing_replayed start) ∙ reached in
    let own : start ≡ show = ap (λ o. unwrap_or o show) same in
    replay_step start t [] (Some after) (ap (λ s. next_show s t) own ∙ is) ∙ nothing_replayed after
replay_more start show after (u ∷ us) t reached is =
    elim (next_show start u) as (λ o. next_show start u ≡ o → replay_from start (u ∷ us ++ t ∷ []) ≡ Some after) [
      | None ↦ λ none. absurd (let no : None ≡ Some show = sym (replay_step start u us None none) ∙ reached in cc)
      | Some s ↦ λ some. replay_step start u (us ++ t ∷ []) (Some s) some
          ∙ replay_more s show after us t (sym (replay_step start u us (Some s) some) ∙ reached) is
    ] refl

-- a replay goes on where its front ends
pub replay_on : (start show : Show) (xs rest : List Turn) → replay_from start xs ≡ Some show
    → replay_from start (xs ++ rest) ≡ replay_from show rest
replay_on start show [] rest is =
    let both : Some start ≡ Some show = sym (nothing_replayed start) ∙ is in
    ap (λ o. replay_from (unwrap_or o show) rest) both
replay_on start show (x ∷ xs) rest is =
    elim (next_show start x) as (λ o. next_show start x ≡ o → replay_from start (x ∷ xs ++ rest) ≡ replay_from show rest) [
      | None ↦ λ none. absurd (let no : None ≡ Some show = sym (replay_step start x xs None none) ∙ is in cc)
      | Some after ↦ λ some. replay_step start x (xs ++ rest) (Some after) some
          ∙ replay_on after show xs rest (sym (replay_step start x xs (Some after) some) ∙ is)
    ] refl

-- an entry more that is no turn ends it
pub replay_ends : (start show : Show) (ts : List Turn) (t : Turn) → replay_from start ts ≡ Some show → next_show show t ≡ None
    → replay_from start (ts ++ t ∷ []) ≡ None
replay_ends start show [] t reached is =
    let same : Some start ≡ Some show = sym (nothing_replayed start) ∙ reached in
    let own : start ≡ show = ap (λ o. unwrap_or o show) same in
    replay_step start t [] None (ap (λ s. next_show s t) own ∙ is)
replay_ends start show (u ∷ us) t reached is =
    elim (next_show start u) as (λ o. next_show start u ≡ o → replay_from start (u ∷ us ++ t ∷ []) ≡ None) [
      | None ↦ λ none. replay_step start u (us ++ t ∷ []) None none
      | Some s ↦ λ some. replay_step start u (us ++ t ∷ []) (Some s) some
          ∙ replay_ends s show us t (sym (replay_step start u us (Some s) some) ∙ reached) is
    ] refl

-- a turn of the order: the entries before it and behind it, and the show that it leaves
pub record Step (script : PlainScript) (order : List Turn) (show after : Show) : Type 0 where
  pub earlier : List Turn
  pub entry : Turn
  pub later : List Turn
  pub cut : order ≡ earlier ++ entry ∷ later
  pub reached : replay script earlier ≡ Some show
  pub takes : next_show show entry ≡ Some after

-- what holds at its moment holds at one entry of the order
pub at_step : {script : PlainScript} {order : List Turn} {show after : Show} (Holds : Show → Turn
    → Type 0) (s : Step script order show after) → Holds show s.entry
    → At script order Holds
at_step {show = show} Holds s holds = record {
  earlier = s.earlier;
  entry = s.entry;
  later = s.later;
  cut = s.cut;
  moment = show;
  reached = s.reached;
  holds = holds;
}

-- of an order so far and the show that it leaves: what each turn keeps
module _ (script : PlainScript) (order : List Turn) (Holds : List Turn → Show → Type 0)
    (keeps : (show after : Show) (s : Step script order show after) → Holds s.earlier show → Holds (s.earlier ++ s.entry ∷ []) after)
  where
    rest_keeps : (later earlier : List Turn) (show last : Show) → order ≡ earlier ++ later → replay script earlier ≡ Some show
        → Holds earlier show → replay_from show later ≡ Some last → Holds order last
    rest_keeps [] earlier show last cut reached holds is =
        let same : Some show ≡ Some last = sym (nothing_replayed show) ∙ is in
        subst (λ ts. Holds ts last) (sym (cut ∙ append-nil earlier)) (subst (Holds earlier) (ap (λ o. unwrap_or o last) same) holds)
    rest_keeps (t ∷ later) earlier show last cut reached holds is =
        elim (next_show show t) as (λ o. next_show show t ≡ o → Holds order last) [
          | None ↦ λ none. absurd (let no : None ≡ Some last = sym (replay_step show t later None none) ∙ is in cc)
          | Some after ↦ λ some. rest_keeps later (earlier ++ t ∷ []) after last (cut ∙ sym (append_assoc earlier (t ∷ []) later))
              (replay_more (opening_show script) show after earlier t reached some)
              (keeps show after (record { earlier = earlier; entry = t; later = later; cut = cut; reached = reached; takes = some }) holds)
              (sym (replay_step show t later (Some after) some) ∙ is)
        ] refl

    pub order_keeps : Holds [] (opening_show script) → (last : Show) → replay script order ≡ Some last → Holds order last
    order_keeps holds last is = rest_keeps order [] (opening_show script) last refl (nothing_replayed (opening_show script)) holds is

-- the program whose turn it was, and what it asked for
pub record TurnOf (show : Show) (client : ℕ) (m : Bool) (done : Show × Turn) : Type 0 where
  pub program : Program
  pub wanted : Wanted
  pub stands : program_at show client ≡ Some program
  pub own : slice_get show.programs client ≡ Some program
  pub asks : next program ≡ Some wanted
  pub is : answered show client program (step show.state client wanted.call m) ≡ done

pub own_program : (show : Show) (client : ℕ) (p : Program) → program_at show client ≡ Some p → slice_get show.programs client ≡ Some p
own_program show client p at =
    elim (not (client == 0) && is_setting_up show.programs) as (λ b. cond b None (slice_get show.programs client) ≡ Some p
    → slice_get show.programs client ≡ Some p) [ true ↦ λ e. absurd cc | false ↦ λ e. e ] at

pub turn_of : (show : Show) (client : ℕ) (m : Bool) (done : Show × Turn) → turn show client m ≡ Some done → TurnOf show client m done
unfolding turn
turn_of show client m done taken = of_program (program_at show client) refl
  where
    of_wait : (p : Program) (w : Wanted) → program_at show client ≡ Some p → next p ≡ Some w → (b : Bool)
        → (w.wait && is_running show.state) ≡ b → TurnOf show client m done
    of_wait p w at asks true waits = absurd (let no : None ≡ Some done = rw (at, asks, waits) at taken in cc)
    of_wait p w at asks false waits =
        let same : Some (answered show client p (step show.state client w.call m)) ≡ Some done = rw (at, asks, waits) at taken in
        record {
          program = p;
          wanted = w;
          stands = at;
          own = own_program show client p at;
          asks = asks;
          is = ap (λ o. unwrap_or o done) same;
        }

    of_wanted : (p : Program) → program_at show client ≡ Some p → (o : Option Wanted) → next p ≡ o → TurnOf show client m done
    of_wanted p at None asks = absurd (let no : None ≡ Some done = rw (at, asks) at taken in cc)
    of_wanted p at (Some w) asks = of_wait p w at asks (w.wait && is_running show.state) refl

    of_program : (o : Option Program) → program_at show client ≡ o → TurnOf show client m done
    of_program None at = absurd (let no : None ≡ Some done = rw at at taken in cc)
    of_program (Some p) at = of_wanted p at (next p) refl
