-- What is found among streams and among what is held, also after a call.
use Rattle.std.proofs.Common.{◌≡◌, ◌∙◌, ℕ, ◌≤◌, Bool, true, false, cond, not, ◌==◌, ◌&&◌, List, [], ◌∷◌, ◌++◌, map, Option, Some, None}
use Rattle.std.proofs.Common.{option_map, refl, sym, ap, arith}
use Rattle.std.proofs.lemmas.Bool.{eq-eqb, eqb-true}
use Rattle.std.specs.Prelude.{find, is_some}
use Rattle.wf_words.specs.Found.{any_found}
use Rattle.wf_words.specs.Keyed.{is_in}
use Rattle.wf_words.specs.Rising.{RisesTo, low_under}
use Rattle.wf_image.specs.Bitmap.{Bitmap}
use Rattle.wf_image.specs.declared.canvas.Canvas.{Canvas}
use Rattle.wf_stream.specs.Buffers.{Buffers, acquired}
use Rattle.wf_stream.specs.Streams.{KeptStream, change_stream, stream_at, stream_of, unnamed}
use Rattle.wf_host.specs.Held.{adding, canvas_of, holds}
use Rattle.wf_host.specs.declared.canvases.Held.{Held}
use Rattle.wf_model.specs.Frames.{is_target}
use Rattle.wf_model.specs.Named.{in_behind}
use Rattle.wf_model.specs.Names.{settle_if}
use Rattle.wf_model.specs.State.{State}
use Rattle.wf_model.specs.Streams.{is_out_at_client, is_out_of, with_stream}
use Rattle.wf_model.specs.Streams as model
use Rattle.wf_guard.specs.declared.owners.Owned.{Owned}
use Rattle.wf_guard.specs.LiveStreams.{live_handles}
use Rattle.wf_guard.specs.Policy.{forgotten, owns}
use Rattle.wf_guard.specs.Serving.{Served}
use Rattle.wf_guard.proofs.Numbered.{rise_apart}
use Rattle.wf_guard.proofs.Seen.{outs, outs_mapped, outs_settled, seen_mapped, seen_settled}
use Rattle.wf_guard.proofs.Sound.{IsSound}

-- no stream is under the handle 0
pub no_zero : (k : ℕ) → (k == 0) ≡ true → (ss : List KeptStream) → stream_of k ss ≡ None
no_zero k zero [] = refl
no_zero k zero (s ∷ ss) = by_test (no_zero k zero ss) (s.handle == k) refl
  where
    by_test : stream_of k ss ≡ None → (b : Bool) → (s.handle == k) ≡ b → stream_of k (s ∷ ss) ≡ None
    by_test rest true is = rw (is, zero) rest
    by_test rest false is = rw is rest

pub seen_again : (k : ℕ) (b : Bool) (h : State) → stream_of k (settle_if b h).streams ≡ stream_of k h.streams
seen_again k b h = by_test (k == 0) refl
  where
    by_test : (z : Bool) → (k == 0) ≡ z → stream_of k (settle_if b h).streams ≡ stream_of k h.streams
    by_test true zero = no_zero k zero (settle_if b h).streams ∙ sym (no_zero k zero h.streams)
    by_test false live = seen_settled k live b h

-- what is held after an answer
or_given : Option Canvas → Option Canvas → Option Canvas
or_given None given = given
or_given (Some canvas) given = Some canvas

held_adding : (a : ℕ) (given : Option Canvas) (hs : List Held) → canvas_of a (adding a given hs) ≡ or_given (canvas_of a hs) given
unfolding or_given
held_adding a None hs = by_held (canvas_of a hs)
  where
    by_held : (o : Option Canvas) → o ≡ or_given o None
    by_held None = refl
    by_held (Some canvas) = refl
held_adding a (Some canvas) [] = rw (eq-eqb a a refl) refl
held_adding a (Some canvas) (h ∷ hs) = by_test (held_adding a (Some canvas) hs) (h.key == a) refl
  where
    by_test : canvas_of a (hs ++ record { key = a; canvas = canvas } ∷ []) ≡ or_given (canvas_of a hs) (Some canvas) → (b : Bool)
        → (h.key == a) ≡ b
        → canvas_of a ((h ∷ hs) ++ record { key = a; canvas = canvas } ∷ []) ≡ or_given (canvas_of a (h ∷ hs)) (Some canvas)
    by_test rest true is = rw is refl
    by_test rest false is = rw is rest

-- where nothing was held, what was given is held
pub alone_adding : (a : ℕ) (canvas : Canvas) (hs : List Held) → canvas_of a hs ≡ None
    → canvas_of a (adding a (Some canvas) hs) ≡ Some canvas
unfolding or_given
alone_adding a canvas hs none = held_adding a (Some canvas) hs ∙ ap (λ o. or_given o (Some canvas)) none

-- where the same was held, the same is held after the same was given
pub adding_same : (a : ℕ) (canvas : Option Canvas) (hs ks : List Held) → canvas_of a hs ≡ canvas_of a ks
    → canvas_of a (adding a canvas hs) ≡ canvas_of a (adding a canvas ks)
adding_same a canvas hs ks same =
    held_adding a canvas hs ∙ ap (λ o. or_given o canvas) same ∙ sym (held_adding a canvas ks)

pub holds_is : (a : ℕ) (hs : List Held) → holds a hs ≡ is_some (canvas_of a hs)
holds_is a hs = any_found (λ (h : Held). h.key == a) hs ∙ by_found (find (λ h. h.key == a) hs)
  where
    by_found : (o : Option Held) → is_some o ≡ is_some (option_map (λ (h : Held). h.canvas) o)
    by_found None = refl
    by_found (Some h) = refl

-- what comes back depends on the running frame and on what is out
pub out_same : (canvas : Canvas) (h g : State) → h.frame ≡ g.frame → outs canvas h.streams ≡ outs canvas g.streams
    → is_out_at_client canvas h ≡ is_out_at_client canvas g
out_same canvas h g frame out =
    ap (λ f. not (is_target canvas.stream f) && outs canvas h.streams) frame
    ∙ ap (λ b. not (is_target canvas.stream g.frame) && b) out

-- the stream of a number that was changed
changed_at : (n : ℕ) (f : Buffers → Buffers) (s : KeptStream) (ss : List KeptStream) → stream_at n ss ≡ Some s
    → stream_at n (change_stream n f ss) ≡ Some (record s { buffers = f s.buffers })
changed_at n f s [] at = absurd cc
changed_at n f s (t ∷ ss) at = by_test (changed_at n f s ss) (t.number == n) refl at
  where
    by_test : (stream_at n ss ≡ Some s → stream_at n (change_stream n f ss) ≡ Some (record s { buffers = f s.buffers })) → (b : Bool)
        → (t.number == n) ≡ b → stream_at n (t ∷ ss) ≡ Some s
        → stream_at n (change_stream n f (t ∷ ss)) ≡ Some (record s { buffers = f s.buffers })
    by_test later true is at =
        let same : t ≡ s = (let one : Some t ≡ Some s = rw is at at in cc) in
        rw (is, is) (ap (λ (x : KeptStream). Some (record x { buffers = f x.buffers })) same)
    by_test later false is at = rw (is, is) (later (rw is at at))

-- a stream that is found by a live handle is among the live ones
pub found_live : (k : ℕ) (ss : List KeptStream) (t : KeptStream) → stream_of k ss ≡ Some t → is_in k (live_handles ss) ≡ true
found_live k [] t is = absurd cc
found_live k (s ∷ ss) t is = by_tests (found_live k ss t) (s.handle == k) refl (k == 0) refl is
  where
    by_tests : (stream_of k ss ≡ Some t → is_in k (live_handles ss) ≡ true) → (b : Bool) → (s.handle == k) ≡ b → (z : Bool) → (k == 0) ≡ z
        → stream_of k (s ∷ ss) ≡ Some t → is_in k (live_handles (s ∷ ss)) ≡ true
    by_tests later b here true zero is = absurd (let no : None ≡ Some t = sym (no_zero k zero (s ∷ ss)) ∙ is in cc)
    by_tests later true here false live is =
        let alive : (s.handle == 0) ≡ false = ap (λ i. i == 0) (eqb-true s.handle k here) ∙ live in
        rw (alive, here) refl
    by_tests later false other false live is =
        let rest : is_in k (live_handles ss) ≡ true = later (rw other at is) in
        elim (s.handle == 0) as (λ b. is_in k (cond b (live_handles ss) (s.handle ∷ live_handles ss)) ≡ true) [
          | true ↦ rest
          | false ↦ in_behind k s.handle (live_handles ss) rest
        ]

-- what is among rising numbers is no higher than the highest
pub below : (k low high : ℕ) (ns : List ℕ) → RisesTo (λ n. n) low ns high → is_in k ns ≡ true → k ≤ high
below k low high [] rises among = absurd cc
below k low high (n ∷ ns) rises among = by_test (below k n high ns rises.1) (n == k) refl among
  where
    by_test : (is_in k ns ≡ true → k ≤ high) → (b : Bool) → (n == k) ≡ b → is_in k (n ∷ ns) ≡ true → k ≤ high
    by_test later true is among =
        let under = low_under (λ (i : ℕ). i) n high ns rises.1 in
        let same = eqb-true n k is in
        omega (arith, under, same)
    by_test later false is among = later (rw is at among)

-- what is owned without a stream was owned before, and is another one
pub still_owned : (a k stream : ℕ) (owned : List Owned) → owns a k (forgotten stream owned) ≡ true
    → (owns a k owned ≡ true) × ((k == stream) ≡ false)
still_owned a k stream [] own = absurd cc
still_owned a k stream (o ∷ os) own =
    by_tests (still_owned a k stream os) (o.stream == stream) refl (o.client == a) refl (o.stream == k) refl own
  where
    by_tests : (owns a k (forgotten stream os) ≡ true → (owns a k os ≡ true) × ((k == stream) ≡ false)) → (b : Bool)
        → (o.stream == stream) ≡ b → (d : Bool) → (o.client == a) ≡ d → (e : Bool) → (o.stream == k) ≡ e
        → owns a k (forgotten stream (o ∷ os)) ≡ true → (owns a k (o ∷ os) ≡ true) × ((k == stream) ≡ false)
    by_tests later true gone true client true is own = ((rw (client, is) refl), (later (rw gone at own)).1)
    by_tests later true gone true client false is own = let rest = later (rw gone at own) in ((rw (client, is) rest.0), rest.1)
    by_tests later true gone false client e is own = let rest = later (rw gone at own) in ((rw client rest.0), rest.1)
    by_tests later false stays true client true is own =
        ((rw (client, is) refl), ap (λ i. i == stream) (sym (eqb-true o.stream k is)) ∙ stays)
    by_tests later false stays true client false is own =
        let rest = later (rw (stays, client, is) at own) in ((rw (client, is) rest.0), rest.1)
    by_tests later false stays false client e is own = let rest = later (rw (stays, client) at own) in ((rw client rest.0), rest.1)

-- the end of a handle leaves what is out
pub unnamed_outs : (stream : ℕ) (canvas : Canvas) (ss : List KeptStream) → outs canvas (map (unnamed stream) ss) ≡ outs canvas ss
unnamed_outs stream canvas ss =
    outs_mapped canvas (unnamed stream) (λ s. number s (s.handle == stream)) (λ s. buffers s (s.handle == stream)) ss
  where
    number : (s : KeptStream) (b : Bool) → (cond b (record s { handle = 0 }) s).number ≡ s.number
    number s true = refl
    number s false = refl

    buffers : (s : KeptStream) (b : Bool) → (cond b (record s { handle = 0 }) s).buffers ≡ s.buffers
    buffers s true = refl
    buffers s false = refl

pub unnamed_out : (stream : ℕ) (canvas : Canvas) (h : State)
    → is_out_at_client canvas (settle_if true (record h { streams = map (unnamed stream) h.streams })) ≡ is_out_at_client canvas h
unnamed_out stream canvas h =
    out_same canvas (settle_if true (record h { streams = map (unnamed stream) h.streams })) h refl
    (outs_settled canvas true (record h { streams = map (unnamed stream) h.streams }) ∙ unnamed_outs stream canvas h.streams)

-- a stream whose buffers change, where it has this number
abbrev pub changed : ℕ → (Buffers → Buffers) → KeptStream → KeptStream
changed n f s = cond (s.number == n) (record s { buffers = f s.buffers }) s

pub changed_seen : (n : ℕ) (f : Buffers → Buffers) (b : Bool) (k : ℕ) → (k == 0) ≡ false → (h : State)
    → stream_of k (settle_if b (with_stream n f h)).streams ≡ option_map (changed n f) (stream_of k h.streams)
changed_seen n f b k live h =
    seen_settled k live b (with_stream n f h) ∙ seen_mapped k live (changed n f) (λ s. handle s (s.number == n)) h.streams
  where
    handle : (s : KeptStream) (b : Bool) → (cond b (record s { buffers = f s.buffers }) s).handle ≡ s.handle
    handle s true = refl
    handle s false = refl

-- the write buffer that was acquired is out
pub taken_out : (image : Bitmap) (u : Served) → IsSound u → (stream : ℕ) (t : KeptStream) → stream_of stream u.machine.streams ≡ Some t
    → outs (record (model.canvas_of t) { image = image }) (settle_if true (with_stream t.number acquired u.machine)).streams
    ≡ is_out_of (record (model.canvas_of t) { image = image }) (Some (record t { buffers = acquired t.buffers }))
taken_out image u sound stream t is =
    outs_settled (record (model.canvas_of t) { image = image }) true (with_stream t.number acquired u.machine)
    ∙ ap (is_out_of (record (model.canvas_of t) { image = image }))
    (changed_at t.number acquired t u.machine.streams (rise_apart u.machine sound.numbers stream t is))
