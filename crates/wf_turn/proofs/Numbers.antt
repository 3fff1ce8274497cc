-- Turns are numbered by their places in the order, and a frame has the place of the turn that began it.
use Rattle.wf_turn.proofs.Common.{◌≡◌, ◌∙◌, ◌+◌, List, [], ◌∷◌, ◌++◌, length, Option, Some, None, refl, sym, ap, subst, arith}
use Rattle.wf_turn.proofs.Common.{All, slice_get, IsSomeAnd, unwrap_or, Turn, Frame, PlainScript, frames_after, is_marked, replay}
use Rattle.wf_turn.proofs.Common.{replay_from}
use Rattle.wf_turn.proofs.Common.{IsOfMoment, Show, opening_show, turn}
use Rattle.wf_turn.specs.Moments.{TellsPlace}
use Rattle.wf_turn.proofs.Moments.{of_moments}
use Rattle.wf_turn.proofs.Replays.{next_show, replay_step, taken_turn, turn_of}
use Rattle.wf_turn.proofs.Serials.{nothing_replayed}

-- a turn counts one more
one_counted : (show after : Show) (t : Turn) → next_show show t ≡ Some after → after.turns ≡ show.turns + 1
one_counted show after t is =
    let taken = taken_turn t (turn show t.client (is_marked t)) after is in
    sym (ap (λ (x : Show × Turn). x.0.turns) (turn_of show t.client (is_marked t) (after, t) taken).is)

-- after an order, as many were counted as it has entries
turns_counted : (show last : Show) (ts : List Turn) → replay_from show ts ≡ Some last → last.turns ≡ show.turns + length ts
turns_counted show last [] is =
    let same : Some show ≡ Some last = sym (nothing_replayed show) ∙ is in
    omega (arith, ap (λ o. (unwrap_or o show).turns) same)
turns_counted show last (t ∷ ts) is =
    elim (next_show show t) as (λ o. next_show show t ≡ o → last.turns ≡ show.turns + length (t ∷ ts)) [
      | None ↦ λ none. absurd (let no : None ≡ Some last = sym (replay_step show t ts None none) ∙ is in cc)
      | Some after ↦ λ some. omega (
        arith,
        one_counted show after t some,
        turns_counted after last ts (sym (replay_step show t ts (Some after) some) ∙ is),
      )
    ] refl

entry_at : (earlier later : List Turn) (t : Turn) → slice_get (earlier ++ t ∷ later) (length earlier) ≡ Some t
entry_at [] later t = refl
entry_at (u ∷ earlier) later t = entry_at earlier later t

-- a frame of a moment tells the place of its entry
tells_place : (script : PlainScript) (order : List Turn) (f : Frame) → IsOfMoment script order f → TellsPlace order f
tells_place script order f moment =
    let begins = moment.holds in
    let counted = turns_counted (opening_show script) moment.moment moment.earlier moment.reached in
    let place : f.begin ≡ length moment.earlier = omega (arith, begins.place, counted) in
    let found : slice_get order f.begin ≡ Some moment.entry =
    ap (slice_get order) place ∙ ap (λ (ts : List Turn). slice_get ts (length moment.earlier)) moment.cut
    ∙ entry_at moment.earlier moment.later moment.entry in
    subst (λ (o : Option Turn). IsSomeAnd o (λ t. (t.code ≡ 0) × (t.value ≡ f.port))) (sym found) (begins.code, begins.value)

pub all_tell_places : (script : PlainScript) (order : List Turn) → All (TellsPlace order) (frames_after (replay script order))
all_tell_places script order = λ k d within. tells_place script order _ (of_moments script order k d within)
