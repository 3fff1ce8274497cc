-- What holds in every state that turns lead to.
use Rattle.std.proofs.Common.{◌≡◌, ◌∙◌, ℕ, Bool, true, false, ◌==◌, List, [], ◌∷◌, map, Some, refl, sym, ap}
use Rattle.std.proofs.lemmas.Bool.{eqb-true}
use Rattle.wf_words.specs.Keyed.{is_in}
use Rattle.wf_stream.specs.Streams.{KeptStream, stream_of}
use Rattle.wf_calls.specs.declared.ports.Ports.{Ports}
use Rattle.wf_guard.specs.declared.form.Form.{Form}
use Rattle.wf_guard.specs.declared.owners.Owned.{Owned}
use Rattle.wf_guard.specs.LiveStreams.{AreMeasured, Turn, after_turn, after_turns, live_handles, opened}
use Rattle.wf_guard.specs.Policy.{owns}
use Rattle.wf_guard.specs.Serving.{Served}
use Rattle.wf_guard.proofs.Handles.{HandlesRise, open_handles_rise}
use Rattle.wf_guard.proofs.Handles as handles
use Rattle.wf_guard.proofs.Numbered.{NumbersRise, open_rising, turn_rises}
use Rattle.wf_guard.proofs.OneEach.{OneOf, turn_one}
use Rattle.wf_guard.proofs.OwnCanvases.{HoldsOwn, turn_own}
use Rattle.wf_guard.proofs.OwnersTrue.{always_measured, measured_true, turn_measured}
use Rattle.wf_guard.proofs.Turns.{runs_keep}

pub record IsSound (v : Served) : Type 0 where
  pub numbers : NumbersRise v.machine
  pub handles : HandlesRise v.machine
  pub measured : AreMeasured v
  pub one : (a : ℕ) → OneOf a v.held
  pub own : (a : ℕ) → (a == 0) ≡ false → HoldsOwn a v

pub turn_sound : (r : Turn) (v : Served) → IsSound v → IsSound (after_turn r v)
turn_sound r v sound =
    record {
      numbers = turn_rises r v sound.numbers;
      handles = handles.turn_rises r v sound.handles;
      measured = turn_measured v sound.measured r;
      one = λ a. turn_one a v (sound.one a) r;
      own = λ a app. turn_own a app v sound.numbers (sound.own a app) r;
    }

pub always_sound : (form : Form) (ports : Ports) (rs : List Turn) → IsSound (after_turns (opened form ports) rs)
always_sound form ports rs =
    runs_keep IsSound turn_sound rs (opened form ports) (record {
      numbers = open_rising form ports;
      handles = open_handles_rise form ports;
      measured = always_measured form ports [];
      one = λ a. tt;
      own = λ a app. tt;
    })

-- an owned stream is live

is_owned : (a k : ℕ) (owned : List Owned) → owns a k owned ≡ true → is_in k (map (λ o. o.stream) owned) ≡ true
is_owned a k [] own = own
is_owned a k (o ∷ os) own = by_tests (is_owned a k os) (o.client == a) refl (o.stream == k) refl own
  where
    by_tests : (owns a k os ≡ true → is_in k (map (λ x. x.stream) os) ≡ true) → (b : Bool) → (o.client == a) ≡ b → (d : Bool)
        → (o.stream == k) ≡ d → owns a k (o ∷ os) ≡ true → is_in k (map (λ x. x.stream) (o ∷ os)) ≡ true
    by_tests later b client true is own = rw is refl
    by_tests later true client false is own = rw is (later (rw (client, is) at own))
    by_tests later false client false is own = rw is (later (rw client at own))

-- a stream is there under its live handle
pub record IsThere (k : ℕ) (ss : List KeptStream) : Type 0 where
  pub live : (k == 0) ≡ false
  pub stream : KeptStream
  pub found : stream_of k ss ≡ Some stream

pub live_there : (k : ℕ) (ss : List KeptStream) → is_in k (live_handles ss) ≡ true → IsThere k ss
live_there k [] among = absurd cc
live_there k (s ∷ ss) among = by_tests (live_there k ss) (s.handle == 0) refl (s.handle == k) refl among
  where
    by_tests : (is_in k (live_handles ss) ≡ true → IsThere k ss) → (z : Bool) → (s.handle == 0) ≡ z → (b : Bool) → (s.handle == k) ≡ b
        → is_in k (live_handles (s ∷ ss)) ≡ true → IsThere k (s ∷ ss)
    by_tests later true zero true is among =
        let there = later (rw zero at among) in
        absurd (let no : true ≡ false = sym zero ∙ ap (λ i. i == 0) (eqb-true s.handle k is) ∙ there.live in cc)
    by_tests later true zero false is among =
        let there = later (rw zero at among) in
        record { live = there.live; stream = there.stream; found = rw is there.found }
    by_tests later false zero true is among =
        let live : (k == 0) ≡ false = ap (λ i. i == 0) (sym (eqb-true s.handle k is)) ∙ zero in
        record { live = live; stream = s; found = rw (is, live) refl }
    by_tests later false zero false is among =
        let there = later (rw (zero, is) at among) in
        record { live = there.live; stream = there.stream; found = rw is there.found }

pub owned_there : (a k : ℕ) (v : Served) → IsSound v → owns a k v.owned ≡ true → IsThere k v.machine.streams
owned_there a k v sound own =
    live_there k v.machine.streams (ap (is_in k) (sym (measured_true v sound.measured)) ∙ is_owned a k v.owned own)
