-- The entries of an order, played again one after another.
use Rattle.wf_turn.proofs.Common.{◌≡◌, ◌∙◌, ℕ, ◌+◌, ◌*◌, ◌<◌, ◌≤◌, List, [], ◌∷◌, ◌++◌, length, take}
use Rattle.wf_turn.proofs.Common.{get_or, refl, sym, ap, subst, IsSome, Turn, FilmForm, replay_from, with_frames, Show, IsCast, Plays}
use Rattle.wf_turn.proofs.Common.{PlaysTurn}
use Rattle.std.proofs.lemmas.List.{take_more}
use Rattle.wf_film.specs.declared.TheConstants.{FRAME_BYTES}
use Rattle.wf_film.specs.Film.{Writing}
use Rattle.wf_turn.specs.Played.{Follows, Replays}
use Rattle.wf_turn.specs.Replayed.{IsNoTurn, StopsIn}
use Rattle.wf_turn.proofs.TurnsPlayed.{one_played}
use Rattle.wf_turn.proofs.Replays.{replay_ends, replay_more}

-- entries were played up to a place, and their frames are put
pub record ArePlayed {K : Type 0} (took : K → List ℕ → Type 0) (old new : K) (was writer : Writing) (start now : Show) (ts : List Turn)
    (place before faults : ℕ) : Type 0 where
  pub plays : Plays took old new was.form was.written writer.written Replays start now (take place ts)
  pub form_is : writer.form ≡ was.form
  pub small : writer.written ≤ was.written + place * FRAME_BYTES
  pub turns : now.turns ≡ place
  pub cast : IsCast now
  pub later : before ≤ faults

module _ {K : Type 0} (took : K → List ℕ → Type 0) where
  -- one more
  pub one_entered : (a b c : K) (form : FilmForm) (was middle written : ℕ) (start last now : Show) (ts : List Turn) (i : ℕ) (t d : Turn)
      → i < length ts → t ≡ get_or ts i d → Plays took a b form was middle Replays start last (take i ts)
      → PlaysTurn took b c form middle written Follows last now t → Plays took a c form was written Replays start now (take (i + 1) ts)
  one_entered a b c form was middle written start last now ts i t d within item so_far one =
      subst (λ us. Plays took a c form was written Replays start now us)
      (sym (take_more ts i d within ∙ ap (λ x. take i ts ++ x ∷ []) (sym item)))
      (one_played took Follows Replays replay_more a b c form was middle written start last now (take i ts) t so_far one)

  -- an entry that is no turn
  pub none_entered : (a b : K) (form : FilmForm) (was written : ℕ) (start last : Show) (ts : List Turn) (i : ℕ) (t d : Turn)
      → i < length ts → t ≡ get_or ts i d → Plays took a b form was written Replays start last (take i ts) → IsNoTurn last t
      → StopsIn start ts i
  none_entered a b form was written start last ts i t d within item so_far none =
      record {
        legal = subst (λ o. IsSome o) (sym so_far.run) refl;
        stops =
            ap (replay_from (with_frames [] start)) (take_more ts i d within ∙ ap (λ x. take i ts ++ x ∷ []) (sym item))
            ∙ replay_ends (with_frames [] start) (with_frames so_far.frames last) (take i ts) t so_far.run (none so_far.frames);
      }
