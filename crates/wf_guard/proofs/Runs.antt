-- In two runs that look alike to an app it is told the same.
use Rattle.std.proofs.Common.{◌≡◌, ◌∙◌, ℕ, Bool, true, false, ◌==◌, List, [], ◌∷◌, ◌++◌, refl, sym, ap}
use Rattle.std.proofs.lemmas.Bool.{eq-eqb}
use Rattle.wf_calls.specs.declared.ports.Ports.{Ports}
use Rattle.wf_guard.specs.declared.form.Form.{Form}
use Rattle.wf_guard.specs.Alike.{AreOthers, IsOthers, LooksAlike, RunsAlike, SparesAsManager, told_in}
use Rattle.wf_guard.specs.Alike.RunsAlike.{both_end, in_both, in_first, in_second, own}
use Rattle.wf_guard.specs.LiveStreams.{Turn, after_turn, after_turns, opened}
use Rattle.wf_guard.specs.LiveStreams.Turn.{asks, frames}
use Rattle.wf_guard.specs.Serving.{Asked, Served, served}
use Rattle.wf_guard.proofs.Apart.{apart_alike}
use Rattle.wf_guard.proofs.LooksAlike.{answered_alike}
use Rattle.wf_guard.proofs.MadeOf.{same_owns}
use Rattle.wf_guard.proofs.OutOnce.{IsOutOnce, always_once, turn_once}
use Rattle.wf_guard.proofs.Sound.{IsSound, always_sound, turn_sound}
use Rattle.wf_guard.proofs.Spared.{spared_alike}

module _ (a : ℕ) where
  pub turned : {u v w : Served} → LooksAlike a u v → LooksAlike a v w → LooksAlike a u w
  turned {u} {v} {w} one two =
      record {
        owned = one.owned ∙ two.owned;
        streams = λ k its. one.streams k its ∙ two.streams k (sym (same_owns a k u.owned v.owned one.owned) ∙ its);
        held = one.held ∙ two.held;
        out = λ canvas image at. one.out canvas image at ∙ two.out canvas image (sym one.held ∙ at);
        frame = one.frame ∙ two.frame;
      }

  pub flipped : {v w : Served} → LooksAlike a v w → LooksAlike a w v
  flipped {v} {w} one =
      record {
        owned = sym one.owned;
        streams = λ k its. sym (one.streams k (same_owns a k v.owned w.owned one.owned ∙ its));
        held = sym one.held;
        out = λ canvas image at. sym (one.out canvas image (one.held ∙ at));
        frame = sym one.frame;
      }

  -- what others ask for is told to them
  not_told : (r : Turn) (v : Served) (rs : List Turn) → IsOthers a r → told_in a (r ∷ rs) v ≡ told_in a rs (after_turn r v)
  not_told (asks other x m) v rs apart = rw apart refl
  not_told (frames c) v rs apart = refl

  none_told : (others : List Turn) (v : Served) (rs : List Turn) → AreOthers a others
      → told_in a (others ++ rs) v ≡ told_in a rs (after_turns v others)
  none_told [] v rs apart = refl
  none_told (r ∷ others) v rs apart = not_told r v (others ++ rs) apart.0 ∙ none_told others (after_turn r v) rs apart.1

  told : (x : Asked) (m : Bool) (v : Served) (rs : List Turn)
      → told_in a (asks a x m ∷ rs) v ≡ (served a x m v).1 ∷ told_in a rs (served a x m v).0
  told x m v rs = rw (eq-eqb a a refl) refl

  module _ (app : (a == 0) ≡ false) where
    -- what is known of both states
    record AreSound (v : Served) : Type 0 where
      sound : IsSound v
      once : IsOutOnce v

    turn_keeps : (r : Turn) (v : Served) → AreSound v → AreSound (after_turn r v)
    turn_keeps r v known =
        record { sound = turn_sound r v known.sound; once = turn_once v known.sound.numbers known.once r }

    turns_keep : (rs : List Turn) (v : Served) → AreSound v → AreSound (after_turns v rs)
    turns_keep [] v known = known
    turns_keep (r ∷ rs) v known = turns_keep rs (after_turn r v) (turn_keeps r v known)

    -- what another client asks for changes nothing of what the app sees
    unseen : (v : Served) → AreSound v → (other : ℕ) (x : Asked) (m : Bool) → (other == a) ≡ false → SparesAsManager a other x v
        → LooksAlike a v (served other x m v).0
    unseen v known other x m apart spares = by_test (other == 0) refl
      where
        by_test : (b : Bool) → (other == 0) ≡ b → LooksAlike a v (served other x m v).0
        by_test true manager = spared_alike a app v known.sound other apart m x (spares manager)
        by_test false other_app = apart_alike a other app other_app apart v known.sound known.once x m

    runs : {v w : Served} {rs ts : List Turn} → AreSound v → AreSound w → LooksAlike a v w → RunsAlike a v w rs ts
        → told_in a rs v ≡ told_in a ts w
    runs sv sw alike both_end = refl
    runs {v} {w} sv sw alike (own {rs = rs} {ts = ts} x m meets rest) =
        let both = answered_alike a app m v w sv.sound sw.sound alike x meets in
        told x m v rs ∙ ap (λ t. t ∷ told_in a rs (served a x m v).0) both.told
        ∙ ap (λ l. (served a x m w).1 ∷ l)
        (runs (turn_keeps (asks a x m) v sv) (turn_keeps (asks a x m) w sw) both.alike rest)
        ∙ sym (told x m w ts)
    runs {v} {w} sv sw alike (in_first {rs = rs} other x m apart spares rest) =
        not_told (asks other x m) v rs apart
        ∙ runs (turn_keeps (asks other x m) v sv) sw (turned (flipped (unseen v sv other x m apart spares)) alike) rest
    runs {v} {w} sv sw alike (in_second {ts = ts} other x m apart spares rest) =
        runs sv (turn_keeps (asks other x m) w sw) (turned alike (unseen w sw other x m apart spares)) rest
        ∙ sym (not_told (asks other x m) w ts apart)
    runs {v} {w} sv sw alike (in_both {rs = rs} {ts = ts} first second others also after rest) =
        none_told first v rs others ∙ runs (turns_keep first v sv) (turns_keep second w sw) after rest ∙ sym (none_told second w ts also)

    -- states that nobody asked anything of look alike
    opened_alike : (form other : Form) (ports screens : Ports) → LooksAlike a (opened form ports) (opened other screens)
    opened_alike form other ports screens =
        record { owned = refl; streams = λ k its. absurd cc; held = refl; out = λ canvas image at. absurd cc; frame = refl }

    pub told_alike : (form other : Form) (ports screens : Ports) (turns others : List Turn)
        → RunsAlike a (opened form ports) (opened other screens) turns others
        → told_in a turns (opened form ports) ≡ told_in a others (opened other screens)
    told_alike form other ports screens turns others alike =
        runs (record { sound = always_sound form ports []; once = always_once form ports [] })
        (record { sound = always_sound other screens []; once = always_once other screens [] })
        (opened_alike form other ports screens) alike
