-- Each frame of an order is of a moment at which its port's screen has the image of the last frame that ended into it.
use Rattle.wf_turn.proofs.Common.{◌≡◌, ◌∙◌, ℕ, zero, suc, Bool, true, false, List, ◌∷◌, [], length, Option, Some, None, refl, sym, ap}
use Rattle.wf_turn.proofs.Common.{subst, arith}
use Rattle.wf_turn.proofs.Common.{nat_le, nat_tests, All, All-nil, slice_get, pos, Bitmap, Call, Turn, Frame, State, is_running}
use Rattle.wf_turn.proofs.Common.{next_image_of}
use Rattle.wf_turn.proofs.Common.{stream_at, PlainScript, Begins, IsOfMoment, frames_after, replay, replay_from, waiting, Show}
use Rattle.wf_turn.proofs.Common.{opening_show, turn}
use Rattle.wf_calls.specs.declared.call.Call.TheVariants as call
use Rattle.wf_model.specs.declared.display.Port.{Port}
use Rattle.wf_turn.specs.Moments.{Asks, At, HasLast, ShowsLast, image_after, is_free_after, port_frame}
use Rattle.wf_turn.proofs.Moments.{of_moments}
use Rattle.wf_turn.proofs.Replays.{next_show, replay_on, replay_step}
use Rattle.wf_turn.proofs.Screens.{screens_show_last}
use Rattle.wf_turn.proofs.ScreensKeepImages.{ports_stay, screen_has_image}
use Rattle.wf_words.specs.Keyed.{nth}

-- a port that is found was declared
nth_within : (p : ℕ) (ports : List Port) (x : Port) → nth p ports ≡ Some x → (nat_le 1 p ≡ true) × (nat_le p (length ports) ≡ true)
nth_within zero ports x at = absurd cc
nth_within (suc i) ports x at = let less = within ports i at in (grind (arith, nat_tests), grind (arith, nat_tests, less))
  where
    within : (ps : List Port) (i : ℕ) → slice_get ps i ≡ Some x → nat_le (suc i) (length ps) ≡ true
    within [] i at = absurd cc
    within (p ∷ ps) zero at = grind (arith, nat_tests)
    within (p ∷ ps) (suc i) at = let less = within ps i at in grind (arith, nat_tests, less)

-- a frame that a port shows is of a port that was declared
shown_declared : (p tick begin : ℕ) (h : State) (f : Frame) → port_frame h p tick begin ≡ Some f
    → (nat_le 1 p ≡ true) × (nat_le p (length h.display.ports) ≡ true)
shown_declared p tick begin h f shows = of_port (nth p h.display.ports) refl
  where
    of_port : (o : Option Port) → nth p h.display.ports ≡ o → (nat_le 1 p ≡ true) × (nat_le p (length h.display.ports) ≡ true)
    of_port None at = absurd (let no : None ≡ Some f = rw at at shows in cc)
    of_port (Some x) at = nth_within p h.display.ports x at

-- a call that waits is made while no frame runs
waited : (show after : Show) (t : Turn) (c : Call) → next_show show t ≡ Some after → Asks show t (waiting c) → is_running show.state ≡ false
unfolding turn
waited show after t c is asks = of_running (is_running show.state) refl
  where
    of_running : (b : Bool) → is_running show.state ≡ b → is_running show.state ≡ false
    of_running false free = free
    of_running true runs = absurd (let no : None ≡ Some after = rw (asks.own, asks.next_is, runs) at is in cc)

-- of an order that is legal, each entry is taken
entry_taken : (script : PlainScript) (order : List Turn) (last : Show) (Holds : Show → Turn → Type 0) (at : At script order Holds)
    → replay script order ≡ Some last → (after : Show) × (next_show at.moment at.entry ≡ Some after)
entry_taken script order last Holds at is = of_after (next_show at.moment at.entry) refl
  where
    rest : replay_from at.moment (at.entry ∷ at.later) ≡ Some last
    rest =
        sym (replay_on (opening_show script) at.moment at.earlier (at.entry ∷ at.later) at.reached) ∙ ap (replay script) (sym at.cut) ∙ is

    of_after : (o : Option Show) → next_show at.moment at.entry ≡ o → (after : Show) × (next_show at.moment at.entry ≡ Some after)
    of_after None none = absurd (let no : None ≡ Some last = sym (replay_step at.moment at.entry at.later None none) ∙ rest in cc)
    of_after (Some after) some = (after, some)

shows_last : (script : PlainScript) (order : List Turn) (last : Show) (f : Frame) → replay script order ≡ Some last
    → IsOfMoment script order f → ShowsLast script order f
shows_last script order last f is at =
    record { moment = at; screen = of_image (next_image_of (stream_at f.port at.moment.state.streams)) refl }
  where
    free : is_running at.moment.state ≡ false
    free =
        let taken = entry_taken script order last (Begins f) at is in
        waited at.moment taken.0 at.entry (call.BeginPort (pos f.port)) taken.1 at.holds.asks

    declared : (nat_le 1 f.port ≡ true) × (nat_le f.port (length script.ports.modes.items) ≡ true)
    declared =
        let own = shown_declared f.port f.tick f.begin at.moment.state f at.holds.shows in
        (own.0, subst (λ m. nat_le f.port m ≡ true) (ports_stay script at.earlier at.moment at.reached) own.1)

    of_image : (o : Option Bitmap) → next_image_of (stream_at f.port at.moment.state.streams) ≡ o → HasLast script at.earlier f.port o
    of_image None none = λ number ended.
        (let idle : is_free_after (replay script at.earlier) ≡ true = rw (at.reached, free) refl in
        let some = screen_has_image script at.earlier f.port number declared.0 declared.1 ended idle in
        absurd (let no : false ≡ true = rw (at.reached, none) at some in cc))
    of_image (Some image) some =
        screens_show_last script at.earlier f.port image declared.1 (ap (image_after f.port) at.reached ∙ some)

pub all_show_last : (script : PlainScript) (order : List Turn) → All (ShowsLast script order) (frames_after (replay script order))
all_show_last script order =
    elim (replay script order) as (λ o. replay script order ≡ o → All (ShowsLast script order) (frames_after o)) [
      | None ↦ λ none. All-nil (ShowsLast script order)
      | Some last ↦
          λ is. (let moments : All (IsOfMoment script order) last.frames =
          subst (λ o. All (IsOfMoment script order) (frames_after o)) is (of_moments script order) in
          λ k d within. shows_last script order last _ is (moments k d within))
    ] refl
