-- What an app asks for leaves what another app sees as it was.
use Rattle.std.proofs.Common.{◌≡◌, ◌∙◌, ℕ, ◌≤◌, Bool, true, false, ◌==◌, ◌&&◌, ◌||◌, List, [], ◌∷◌, Some, None, refl, sym, ap, subst, arith}
use Rattle.std.proofs.lemmas.Bool.{both_ways, eqb-false, eqb-true, false_from_ne_true, ne_eqb}
use Rattle.std.proofs.lemmas.Bool.Decides.{nat_tests}
use Rattle.wf_words.specs.Rising.{Rises, rises_map, rises_to}
use Rattle.wf_image.specs.declared.canvas.Canvas.{Canvas}
use Rattle.wf_stream.specs.Streams.{KeptStream, stream_at, stream_of}
use Rattle.wf_calls.specs.declared.request.Request.{Request}
use Rattle.wf_calls.specs.declared.request.Request.TheVariants as request
use Rattle.wf_host.specs.Held.{canvas_of}
use Rattle.wf_guard.specs.declared.owners.Owned.{Owned}
use Rattle.wf_guard.specs.Alike.{HoldsApart, LooksAlike}
use Rattle.wf_guard.specs.LiveStreams.{live_handles}
use Rattle.wf_guard.specs.Policy.{owns, refusal_of}
use Rattle.wf_guard.specs.Requests.{named_stream}
use Rattle.wf_guard.specs.Serving.{Asked, Served, discard, draw, plain, post, served}
use Rattle.wf_guard.proofs.ForApps.{acquires_own, destroys_own}
use Rattle.wf_guard.proofs.Numbered.{found_handle, rise_apart}
use Rattle.wf_guard.proofs.HeldApart.{held_apart}
use Rattle.wf_guard.proofs.OutOnce.{IsOutOnce}
use Rattle.wf_guard.proofs.OwnCanvases.{own_stream}
use Rattle.wf_guard.proofs.OwnersTrue.{measured_true}
use Rattle.wf_guard.proofs.Sound.{IsSound, owned_there}
use Rattle.wf_guard.proofs.Spared.{request_alike, spared_alike}

-- a stream has one owner

abbrev pub stream : Owned → ℕ
stream o = o.stream

none_owned : (a k low : ℕ) (owned : List Owned) → Rises stream low owned → k ≤ low → owns a k owned ≡ false
none_owned a k low [] rises under = refl
none_owned a k low (o ∷ os) rises under =
    let other : (o.stream == k) ≡ false = grind (arith, nat_tests, rises.0) in
    let rest = none_owned a k o.stream os rises.1 (omega (arith, rises.0)) in
    by_test (o.client == a) other rest
  where
    by_test : (b : Bool) → (o.stream == k) ≡ false → owns a k os ≡ false → ((b && (o.stream == k)) || owns a k os) ≡ false
    by_test true other rest = rw other rest
    by_test false other rest = rest

one_owner : (a b k low : ℕ) (owned : List Owned) → Rises stream low owned → owns a k owned ≡ true → owns b k owned ≡ true → a ≡ b
one_owner a b k low [] rises first second = absurd cc
one_owner a b k low (o ∷ os) rises first second =
    by_stream (one_owner a b k o.stream os rises.1) (o.stream == k) refl (o.client == a) refl (o.client == b) refl first second
  where
    none : (c : ℕ) → (o.stream == k) ≡ true → owns c k os ≡ true → ⊥
    none c here own =
        let under : k ≤ o.stream = (let same = eqb-true o.stream k here in omega (arith, same)) in
        absurd (let no : true ≡ false = sym own ∙ none_owned c k o.stream os rises.1 under in cc)

    by_stream : (owns a k os ≡ true → owns b k os ≡ true → a ≡ b) → (t : Bool) → (o.stream == k) ≡ t → (d : Bool) → (o.client == a) ≡ d
        → (e : Bool) → (o.client == b) ≡ e → owns a k (o ∷ os) ≡ true → owns b k (o ∷ os) ≡ true → a ≡ b
    by_stream later true here true is_a true is_b first second = sym (eqb-true o.client a is_a) ∙ eqb-true o.client b is_b
    by_stream later true here false is_a e is_b first second = absurd (none a here (rw is_a at first))
    by_stream later true here true is_a false is_b first second = absurd (none b here (rw is_b at second))
    by_stream later false other d is_a e is_b first second =
        later (past a (o.client == a) first) (past b (o.client == b) second)
      where
        past : (c : ℕ) (t : Bool) → ((t && (o.stream == k)) || owns c k os) ≡ true → owns c k os ≡ true
        past c true own = rw other at own
        past c false own = own

pub owned_rises : (v : Served) → IsSound v → Rises stream 0 v.owned
owned_rises v sound =
    rises_map (λ (n : ℕ). n) stream 0 v.owned
    (subst (λ (ns : List ℕ). Rises (λ n. n) 0 ns) (sym (measured_true v sound.measured))
    (rises_to (λ (n : ℕ). n) 0 v.machine.made (live_handles v.machine.streams) sound.handles))

module _ (a b : ℕ) (app : (a == 0) ≡ false) (other_app : (b == 0) ≡ false) (apart : (b == a) ≡ false) (v : Served) (sound : IsSound v)
    (once : IsOutOnce v) where
  -- what the one owns the other does not
  not_both : (k : ℕ) → owns b k v.owned ≡ true → owns a k v.owned ≡ false
  not_both k theirs =
      false_from_ne_true (owns a k v.owned)
      (λ is. eqb-false b a apart (sym (one_owner a b k 0 v.owned (owned_rises v sound) is theirs)))

  names_its_own : (r : Request) → refusal_of b r v.owned ≡ None → (k : ℕ) → named_stream r ≡ Some k → owns a k v.owned ≡ false
  names_its_own (request.StreamDestroy stream) none k is =
      let same : stream ≡ k = cc in
      subst (λ (i : ℕ). owns a i v.owned ≡ false) same (not_both stream (destroys_own b other_app v.owned stream none))
  names_its_own (request.Acquire stream) none k is =
      let same : stream ≡ k = cc in
      subst (λ (i : ℕ). owns a i v.owned ≡ false) same (not_both stream (acquires_own b other_app v.owned stream none))
  names_its_own _ none k is = absurd cc

  holds_apart : HoldsApart a b v
  holds_apart =
      record {
        streams = λ canvas k s holds own is. ne_eqb s.number canvas.stream (of_one canvas k s holds own is);
        held = λ canvas own holds its. held_apart a b apart own canvas v.held once.apart its holds;
      }
    where
      of_one : (canvas : Canvas) (k : ℕ) (s : KeptStream) → canvas_of b v.held ≡ Some canvas → owns a k v.owned ≡ true
          → stream_of k v.machine.streams ≡ Some s → s.number ≡ canvas.stream → ⊥
      of_one canvas k s holds own is same =
          let at : stream_at canvas.stream v.machine.streams ≡ Some s =
          subst (λ (n : ℕ). stream_at n v.machine.streams ≡ Some s) same (rise_apart v.machine sound.numbers k s is) in
          let handle : s.handle ≡ k = found_handle k v.machine.streams s is in
          let live : (s.handle == 0) ≡ false = ap (λ i. i == 0) handle ∙ (owned_there a k v sound own).live in
          let theirs : owns b k v.owned ≡ true =
          ap (λ i. owns b i v.owned) (sym handle) ∙ own_stream b v (sound.own b other_app) canvas s holds at live in
          both_ways _ (not_both k theirs) own

  pub apart_alike : (x : Asked) (m : Bool) → LooksAlike a v (served b x m v).0
  apart_alike (plain r) m = request_alike a app v sound b apart m r (names_its_own r)
  apart_alike post m = spared_alike a app v sound b apart m post holds_apart
  apart_alike discard m = spared_alike a app v sound b apart m discard holds_apart
  apart_alike (draw paint) m = spared_alike a app v sound b apart m (draw paint) tt
