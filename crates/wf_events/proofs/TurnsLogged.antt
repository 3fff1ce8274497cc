-- The turns of an order, logged one after another.
use Rattle.std.proofs.Common.{◌≡◌, ◌∙◌, ℕ, zero, suc, ◌+◌, ◌*◌, ◌<◌, ◌≤◌, ◌^◌, Bool, true, false, not, cond, ◌&&◌, ◌||◌, List, [], ◌∷◌}
use Rattle.std.proofs.Common.{◌++◌, map, flat_map, length, take}
use Rattle.std.proofs.Common.{drop, get_or, append_assoc, drop-cons, add-one, Option, Some, None, IsSome, refl, sym, ap, subst, arith}
use Rattle.std.proofs.lemmas.List.{append-nil, drop_all}
use Rattle.wf_calls.specs.declared.order.Turn.{Turn}
use Rattle.wf_film.specs.Film.{Frame}
use Rattle.wf_model.specs.Names.{kept}
use Rattle.wf_model.specs.Step.{step}
use Rattle.wf_turn.specs.Play.{is_marked, replay_from, replay_turn, same_turn}
use Rattle.wf_turn.specs.Playing.{IsCast, Turned, shown_by, with_frames}
use Rattle.wf_turn.specs.Quota.{all_left}
use Rattle.wf_turn.specs.Turns.{Show, tick_line, turn}
use Rattle.wf_turn.proofs.Replays.{replay_step, taken_turn, turn_of}
use Rattle.wf_events.specs.declared.log.Queue.{Queue}
use Rattle.wf_events.specs.declared.happening.Happening.{Happening}
use Rattle.wf_events.specs.Inside.{Holds, Logs, MayFollow, Queued, Taken, next_show, seen}
use Rattle.wf_events.specs.Log.{ends_tick, happens_in, stretches_from}
use Rattle.wf_events.specs.Queue.{AreTold, IsFlushed, Queues}
use Rattle.wf_events.specs.Text.{Placed, line_of, log_text, stretch_text}
use Rattle.wf_events.proofs.StepSeen.{step_seen}

-- a turn that did not lack memory where none was refused to it is marked as its entry is
pub marked_alike : (refused marked : Bool) → (not refused && marked) ≡ false → (refused || marked) ≡ refused
marked_alike true marked is = refl
marked_alike false true is = absurd cc
marked_alike false false is = refl

-- an entry that may follow is the turn that was taken
pub entry_taken : (show now : Show) (t done : Turn) (client : ℕ) (m painted : Bool) → client ≡ t.client → m ≡ is_marked t
    → Turned show client m now done painted → MayFollow show t → Taken show now t
entry_taken show now t done client m painted client_is marked turned may =
    record {
      frames = shown_by show.turns painted now.programs t.client;
      next = λ front. ap (replay_turn t) (taken front) ∙ (rw same refl);
      turns = turned.turns;
      fewer = turned.fewer;
      cast = turned.cast;
    }
  where
    frames : List Frame
    frames = shown_by show.turns painted now.programs t.client

    taken : (front : List Frame) → turn (with_frames front show) t.client (is_marked t) ≡ Some (with_frames (front ++ frames) now, done)
    taken front =
        (λ i. turn (with_frames front show) (sym client_is i) (sym marked i)) ∙ turned.taken front
        ∙ ap (λ c. Some (with_frames (front ++ shown_by show.turns painted now.programs c) now, done)) client_is

    of_same : (b : Bool) → same_turn done t ≡ b → IsSome (cond b (Some (with_frames (may.0 ++ frames) now)) None) → same_turn done t ≡ true
    of_same true is some = is
    of_same false is some = absurd cc

    same : same_turn done t ≡ true
    same = of_same (same_turn done t) refl (subst (λ o. IsSome (replay_turn t o)) (taken may.0) may.1)

-- what happens in the turn of an entry is what is seen
pub happens_seen : (show after : Show) (t : Turn) → show.state.streams ≡ kept show.state → next_show show t ≡ Some after
    → happens_in show t ≡ map (λ e. (show.turns, e)) (seen show.state after.state)
happens_seen show after t settled next =
    let of = turn_of show t.client (is_marked t) (after, t) (taken_turn t (turn show t.client (is_marked t)) after next) in
    let state : (step show.state t.client of.wanted.call (is_marked t)).0 ≡ after.state = ap (λ done. done.0.state) of.is in
    rw (of.stands, of.asks) (
    ap (map (λ e. (show.turns, e)))
    (step_seen show.state t.client of.wanted.call (is_marked t) settled ∙ ap (seen show.state) state))

-- the queue after a turn

module _ (show now : Show) (old middle : Queue) (ps : List Happening) (are : ps ≡ seen show.state now.state)
    (told : AreTold old middle (map (λ e. (show.turns, e)) ps)) where
  told_so : AreTold old middle (map (λ e. (show.turns, e)) (seen show.state now.state))
  told_so = subst (λ es. AreTold old middle (map (λ e. (show.turns, e)) es)) are told

  pub goes_on : ends_tick (tick_line show.programs) (tick_line now.programs) ≡ false → Queued show now old middle
  goes_on on earlier stretch queues = let told = told_so earlier stretch queues in (rw on told.0, told.1)

  pub is_ended : (new : Queue) → ends_tick (tick_line show.programs) (tick_line now.programs) ≡ true → IsFlushed middle new
      → Queued show now old new
  is_ended new ends flushed earlier stretch queues =
      let told = told_so earlier stretch queues in
      let so_far : List Placed = stretch ++ map (λ e. (show.turns, e)) (seen show.state now.state) in
      let end = flushed earlier so_far told.0 in (
        rw ends (subst (λ d. Queues (earlier ++ stretch_text d so_far) [] new) told.1 end.0),
        end.1 ∙ told.1,
      )

-- the stretches of an order, entry by entry

stretches_end : (show : Show) (begun : List Placed) → stretches_from show begun [] ≡ begun ∷ []
unfolding stretches_from
stretches_end show begun = refl

abbrev so_far : Show → List Placed → Turn → List Placed
so_far show begun t = begun ++ happens_in show t

stretches_step : (show after : Show) (begun : List Placed) (t : Turn) (ts : List Turn) → next_show show t ≡ Some after
    → stretches_from show begun (t ∷ ts)
    ≡ cond (ends_tick (tick_line show.programs) (tick_line after.programs)) (so_far show begun t ∷ stretches_from after [] ts)
    (stretches_from after (so_far show begun t) ts)
unfolding stretches_from
stretches_step show after begun t ts next =
    ap (λ o. elim o as (λ _. List (List Placed)) [
      | None ↦ begun ∷ []
      | Some s ↦ cond (ends_tick (tick_line show.programs) (tick_line s.programs)) (so_far show begun t ∷ stretches_from s [] ts)
          (stretches_from s (so_far show begun t) ts)
    ]) next

-- the turns before a place were logged
pub record AreLogged (start : Show) (entries : List Turn) (depth : ℕ) (show : Show) (q : Queue) (i : ℕ) : Type 0 where
  pub frames : List Frame
  pub earlier : List ℕ
  pub stretch : List Placed
  pub queue : Queues earlier stretch q
  pub depth_is : q.depth ≡ depth
  pub text : earlier ++ log_text depth (stretches_from (with_frames frames show) stretch (drop i entries))
      ≡ log_text depth (stretches_from (with_frames [] start) [] entries)
  pub legal : IsSome (replay_from (with_frames frames show) (drop i entries))
  pub early : show.turns + all_left show.programs < 2 ^ 20
  pub few : i + all_left show.programs < 2 ^ 20
  pub lost : q.lost ≤ 13 * i
  pub cast : IsCast show

-- none was
pub none_logged : (start : Show) (entries : List Turn) (depth : ℕ) (q : Queue) → Queues [] [] q → q.depth ≡ depth → q.lost ≡ 0
    → IsSome (replay_from (with_frames [] start) entries) → start.turns + all_left start.programs < 2 ^ 20 → IsCast start
    → AreLogged start entries depth start q 0
none_logged start entries depth q queue depth_is none legal early cast =
    record {
      frames = [];
      earlier = [];
      stretch = [];
      queue = queue;
      depth_is = depth_is;
      text = refl;
      legal = legal;
      early = early;
      few = omega (arith, early);
      lost = omega (arith, none);
      cast = cast;
    }

-- an entry is a turn of the show that the entries before it leave
not_none : (o : Option Show) → o ≡ None → IsSome o → ⊥
not_none None none some = absurd cc
not_none (Some show) none some = absurd cc

first_legal : (show : Show) (t : Turn) (ts : List Turn) → IsSome (replay_from show (t ∷ ts)) → IsSome (next_show show t)
first_legal show t ts legal =
    elim (next_show show t) as (λ o. next_show show t ≡ o → IsSome o) [
      | None ↦ λ none. absurd (not_none (replay_from show (t ∷ ts)) (replay_step show t ts None none) legal)
      | Some after ↦ λ some. refl
    ] refl

module _ (start : Show) (entries : List Turn) (depth : ℕ) (show : Show) (q : Queue) (i : ℕ) (t d : Turn)
    (within : i < length entries) (item : t ≡ get_or entries i d) (are : AreLogged start entries depth show q i) where
  abbrev rest : List Turn
  rest = drop (i + 1) entries

  next_is : drop i entries ≡ t ∷ rest
  next_is =
      drop-cons entries i d within
      ∙ ap (λ k. get_or entries i d ∷ drop k entries) (sym (add-one i))
      ∙ ap (λ x. x ∷ drop (i + 1) entries) (sym item)

  abbrev before : Show
  before = with_frames are.frames show

  legal_now : IsSome (replay_from before (t ∷ rest))
  legal_now = subst (λ ts. IsSome (replay_from before ts)) next_is are.legal

  pub may_follow : MayFollow show t
  may_follow = (are.frames, first_legal before t rest legal_now)

  -- and its turn is logged
  module _ (now : Show) (new : Queue) (logs : Logs show now t q new) where
    abbrev after : Show
    after = with_frames (are.frames ++ logs.taken.frames) now

    follows : next_show before t ≡ Some after
    follows = logs.taken.next are.frames

    happened_so : so_far before are.stretch t ≡ are.stretch ++ map (λ e. (show.turns, e)) (seen show.state now.state)
    happened_so = ap (λ es. are.stretch ++ es) (happens_seen before after t logs.settled follows)

    abbrev told : List Placed
    told = are.stretch ++ map (λ e. (show.turns, e)) (seen show.state now.state)

    abbrev ends : Bool
    ends = ends_tick (tick_line show.programs) (tick_line now.programs)

    abbrev by_ends : Bool → List (List Placed)
    by_ends b = cond b (told ∷ stretches_from after [] rest) (stretches_from after told rest)

    stretches_now : stretches_from before are.stretch (drop i entries) ≡ by_ends ends
    stretches_now =
        ap (stretches_from before are.stretch) next_is
        ∙ stretches_step before after are.stretch t rest follows
        ∙ ap (λ ps. cond ends (ps ∷ stretches_from after [] rest) (stretches_from after ps rest)) happened_so

    legal_after : IsSome (replay_from after rest)
    legal_after = subst IsSome (replay_step before t rest (Some after) follows) legal_now

    pub one_logged : AreLogged start entries depth now new (i + 1)
    one_logged = by_end ends refl
      where
        queued : Holds ends q.depth are.earlier told new × (new.depth ≡ q.depth)
        queued = logs.queued are.earlier are.stretch are.queue

        by_end : (b : Bool) → ends ≡ b → AreLogged start entries depth now new (i + 1)
        by_end true is =
            record {
              frames = are.frames ++ logs.taken.frames;
              earlier = are.earlier ++ stretch_text depth told;
              stretch = [];
              queue = subst (λ n. Queues (are.earlier ++ stretch_text n told) [] new) are.depth_is (rw is at queued.0);
              depth_is = queued.1 ∙ are.depth_is;
              text = append_assoc are.earlier (stretch_text depth told) (log_text depth (stretches_from after [] rest))
                  ∙ ap (λ ss. are.earlier ++ log_text depth ss) (sym (stretches_now ∙ ap by_ends is))
                  ∙ are.text;
              legal = legal_after;
              early = omega (arith, are.early, logs.taken.turns, logs.taken.fewer);
              few = omega (arith, are.few, logs.taken.fewer);
              lost = omega (arith, are.lost, logs.most);
              cast = logs.taken.cast;
            }
        by_end false is =
            record {
              frames = are.frames ++ logs.taken.frames;
              earlier = are.earlier;
              stretch = told;
              queue = rw is at queued.0;
              depth_is = queued.1 ∙ are.depth_is;
              text = ap (λ ss. are.earlier ++ log_text depth ss) (sym (stretches_now ∙ ap by_ends is)) ∙ are.text;
              legal = legal_after;
              early = omega (arith, are.early, logs.taken.turns, logs.taken.fewer);
              few = omega (arith, are.few, logs.taken.fewer);
              lost = omega (arith, are.lost, logs.most);
              cast = logs.taken.cast;
            }

-- all were, and the last stretch has ended
pub all_logged : (start : Show) (entries : List Turn) (depth : ℕ) (show : Show) (q new : Queue) (i : ℕ) → length entries ≤ i
    → AreLogged start entries depth show q i → IsFlushed q new
    → new.text.items ≡ log_text depth (stretches_from (with_frames [] start) [] entries)
all_logged start entries depth show q new i end are flushed =
    let last = flushed are.earlier are.stretch are.queue in
    let nothing : drop i entries ≡ [] = drop_all i entries end in
    let none : flat_map line_of (take new.depth []) ≡ [] = ap (flat_map line_of) (take_none new.depth) in
    last.0.text
    ∙ ap (λ ls. (are.earlier ++ stretch_text q.depth are.stretch) ++ ls) none
    ∙ append-nil (are.earlier ++ stretch_text q.depth are.stretch)
    ∙ ap (λ n. are.earlier ++ stretch_text n are.stretch) are.depth_is
    ∙ ap (λ ls. are.earlier ++ ls) (sym (append-nil (stretch_text depth are.stretch)))
    ∙ ap (λ ss. are.earlier ++ log_text depth ss)
    (sym (ap (stretches_from (with_frames are.frames show) are.stretch) nothing ∙ stretches_end (with_frames are.frames show) are.stretch))
    ∙ are.text
  where
    take_none : (n : ℕ) → take n (let empty : List Placed = [] in empty) ≡ []
    take_none zero = refl
    take_none (suc n) = refl
