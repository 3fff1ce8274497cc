-- What is seen of a stream by its live handle, and of a write buffer that is out, after a change of the streams.
use Rattle.std.proofs.Common.{◌≡◌, ◌∙◌, ℕ, Bool, true, false, cond, not, ◌==◌, ◌&&◌, List, [], ◌∷◌, ◌++◌, map, filter, flat_map, Option}
use Rattle.std.proofs.Common.{Some, None, option_map, refl, sym, ap}
use Rattle.std.proofs.lemmas.Bool.{eq-eqb, eqb-true}
use Rattle.std.proofs.Common.{arith}
use Rattle.std.proofs.lemmas.Bool.Decides.{nat_tests}
use Rattle.wf_words.specs.Keyed.{is_in}
use Rattle.wf_image.specs.declared.canvas.Canvas.{Canvas}
use Rattle.wf_stream.specs.Buffers.{Buffers}
use Rattle.wf_stream.specs.Streams.{KeptStream, change_stream, stream_at, stream_of, unnamed}
use Rattle.wf_model.specs.Named.{in_back, in_first, in_front}
use Rattle.wf_model.specs.Names.{all_names, core_names, display_names, frame_names, own_names, settle_if}
use Rattle.wf_model.specs.State.{State}
use Rattle.wf_model.specs.Streams.{is_out_of}

-- every stream that has a name of its own is kept

abbrev pub NamesAll : List ℕ → List KeptStream → Type 0
NamesAll ns ss = (n : ℕ) → is_in n (flat_map own_names ss) ≡ true → is_in n ns ≡ true

pub names_all : (h : State) → NamesAll (all_names h) h.streams
names_all h n is =
    let own = flat_map own_names h.streams in
    let composed = own ++ core_names h.core in
    let shown = composed ++ display_names h.display in
    in_front n shown (frame_names h.frame) (in_front n composed (display_names h.display) (in_front n own (core_names h.core) is))

pub names_rest : (ns : List ℕ) (s : KeptStream) (ss : List KeptStream) → NamesAll ns (s ∷ ss) → NamesAll ns ss
names_rest ns s ss all n is = all n (in_back n (own_names s) (flat_map own_names ss) is)

-- by a live handle

module _ (k : ℕ) (live : (k == 0) ≡ false) where
  abbrev seen : List KeptStream → Option KeptStream
  seen ss = stream_of k ss

  pub seen_mapped : (g : KeptStream → KeptStream) → ((s : KeptStream) → (g s).handle ≡ s.handle) → (ss : List KeptStream)
      → seen (map g ss) ≡ option_map g (seen ss)
  seen_mapped g keeps [] = refl
  seen_mapped g keeps (s ∷ ss) = by_test (seen_mapped g keeps ss) (s.handle == k) refl
    where
      by_test : seen (map g ss) ≡ option_map g (seen ss) → (b : Bool) → (s.handle == k) ≡ b
          → seen (map g (s ∷ ss)) ≡ option_map g (seen (s ∷ ss))
      by_test rest true is =
          let at : ((g s).handle == k) ≡ true = ap (λ i. i == k) (keeps s) ∙ is in
          rw (at, is, live) refl
      by_test rest false is =
          let at : ((g s).handle == k) ≡ false = ap (λ i. i == k) (keeps s) ∙ is in
          rw (at, is) rest

  pub seen_unnamed : (handle : ℕ) → (k == handle) ≡ false → (ss : List KeptStream) → seen (map (unnamed handle) ss) ≡ seen ss
  seen_unnamed handle other [] = refl
  seen_unnamed handle other (s ∷ ss) = by_tests (seen_unnamed handle other ss) (s.handle == handle) refl (s.handle == k) refl
    where
      by_tests : seen (map (unnamed handle) ss) ≡ seen ss → (b : Bool) → (s.handle == handle) ≡ b → (d : Bool) → (s.handle == k) ≡ d
          → seen (map (unnamed handle) (s ∷ ss)) ≡ seen (s ∷ ss)
      by_tests rest true dead true is =
          absurd (let no : true ≡ false = sym dead ∙ ap (λ i. i == handle) (eqb-true s.handle k is) ∙ other in cc)
      by_tests rest true dead false is =
          let zero : (0 == k) ≡ false = grind (arith, nat_tests) in
          rw (dead, zero, is) rest
      by_tests rest false stays true is = rw (stays, is, live) refl
      by_tests rest false stays false is = rw (stays, is) rest

  pub seen_more : (new : KeptStream) → (new.handle == k) ≡ false → (ss : List KeptStream) → seen (ss ++ new ∷ []) ≡ seen ss
  seen_more new other [] = rw other refl
  seen_more new other (s ∷ ss) =
      ap (λ (o : Option KeptStream). cond ((s.handle == k) && not (k == 0)) (Some s) o) (seen_more new other ss)

  pub seen_before : (new t : KeptStream) (ss : List KeptStream) → seen ss ≡ Some t → seen (ss ++ new ∷ []) ≡ Some t
  seen_before new t [] is = absurd cc
  seen_before new t (s ∷ ss) is =
      elim ((s.handle == k) && not (k == 0))
      as (λ b. cond b (Some s) (seen ss) ≡ Some t → cond b (Some s) (seen (ss ++ new ∷ [])) ≡ Some t) [
        | true ↦ λ at. at
        | false ↦ λ at. seen_before new t ss at
      ] is

  pub seen_new : (new : KeptStream) → new.handle ≡ k → (ss : List KeptStream) → seen ss ≡ None → seen (ss ++ new ∷ []) ≡ Some new
  seen_new new is [] none = rw (eq-eqb new.handle k is, live) refl
  seen_new new is (s ∷ ss) none =
      elim ((s.handle == k) && not (k == 0))
      as (λ b. cond b (Some s) (seen ss) ≡ None → cond b (Some s) (seen (ss ++ new ∷ [])) ≡ Some new) [
        | true ↦ λ at. absurd cc
        | false ↦ λ at. seen_new new is ss at
      ] none

  kept : (ns : List ℕ) (ss : List KeptStream) → NamesAll ns ss → seen (filter (λ s. is_in s.number ns) ss) ≡ seen ss
  kept ns [] all = refl
  kept ns (s ∷ ss) all = by_tests (kept ns ss (names_rest ns s ss all)) (s.handle == k) refl (is_in s.number ns) refl
    where
      by_tests : seen (filter (λ t. is_in t.number ns) ss) ≡ seen ss → (d : Bool) → (s.handle == k) ≡ d → (b : Bool)
          → is_in s.number ns ≡ b → seen (filter (λ t. is_in t.number ns) (s ∷ ss)) ≡ seen (s ∷ ss)
      by_tests rest true is true stays = rw (stays, is, live) refl
      by_tests rest true is false goes =
          let alive : (s.handle == 0) ≡ false = ap (λ i. i == 0) (eqb-true s.handle k is) ∙ live in
          let own : is_in s.number (flat_map own_names (s ∷ ss)) ≡ true = rw alive (in_first s.number _) in
          absurd (let no : true ≡ false = sym (all s.number own) ∙ goes in cc)
      by_tests rest false is true stays = rw (stays, is) rest
      by_tests rest false is false goes = rw (goes, is) rest

  pub seen_settled : (b : Bool) (h : State) → seen (settle_if b h).streams ≡ seen h.streams
  seen_settled false h = refl
  seen_settled true h = kept (all_names h) h.streams (names_all h)

-- a write buffer that is out

module _ (canvas : Canvas) where
  abbrev pub outs : List KeptStream → Bool
  outs ss = is_out_of canvas (stream_at canvas.stream ss)

  pub outs_mapped : (g : KeptStream → KeptStream) → ((s : KeptStream) → (g s).number ≡ s.number)
      → ((s : KeptStream) → (g s).buffers ≡ s.buffers) → (ss : List KeptStream) → outs (map g ss) ≡ outs ss
  outs_mapped g number buffers [] = refl
  outs_mapped g number buffers (s ∷ ss) = by_test (outs_mapped g number buffers ss) (s.number == canvas.stream) refl
    where
      by_test : outs (map g ss) ≡ outs ss → (b : Bool) → (s.number == canvas.stream) ≡ b → outs (map g (s ∷ ss)) ≡ outs (s ∷ ss)
      by_test rest true is = rw (number s, is, buffers s) refl
      by_test rest false is = rw (number s, is) rest

  pub outs_more : (new : KeptStream) → new.buffers.out ≡ false → (ss : List KeptStream) → outs (ss ++ new ∷ []) ≡ outs ss
  outs_more new home [] = by_test (new.number == canvas.stream) refl
    where
      by_test : (b : Bool) → (new.number == canvas.stream) ≡ b → outs (new ∷ []) ≡ false
      by_test true is = rw (is, home) refl
      by_test false is = rw is refl
  outs_more new home (s ∷ ss) =
      elim (s.number == canvas.stream)
      as (λ b. is_out_of canvas (cond b (Some s) (stream_at canvas.stream (ss ++ new ∷ [])))
      ≡ is_out_of canvas (cond b (Some s) (stream_at canvas.stream ss))) [
        | true ↦ refl
        | false ↦ outs_more new home ss
      ]

  pub outs_changed : (i : ℕ) (f : Buffers → Buffers) → (canvas.stream == i) ≡ false → (ss : List KeptStream)
      → outs (change_stream i f ss) ≡ outs ss
  outs_changed i f other [] = refl
  outs_changed i f other (s ∷ ss) = by_tests (outs_changed i f other ss) (s.number == i) refl (s.number == canvas.stream) refl
    where
      by_tests : outs (change_stream i f ss) ≡ outs ss → (b : Bool) → (s.number == i) ≡ b → (d : Bool) → (s.number == canvas.stream) ≡ d
          → outs (change_stream i f (s ∷ ss)) ≡ outs (s ∷ ss)
      by_tests rest true is true here =
          absurd (let no : true ≡ false = sym is ∙ ap (λ n. n == i) (eqb-true s.number canvas.stream here) ∙ other in cc)
      by_tests rest true is false here = rw (is, here) rest
      by_tests rest false is true here = rw (is, here) refl
      by_tests rest false is false here = rw (is, here) rest

  none_out : (ns : List ℕ) → is_in canvas.stream ns ≡ false → (ss : List KeptStream) → outs (filter (λ s. is_in s.number ns) ss) ≡ false
  none_out ns away [] = refl
  none_out ns away (s ∷ ss) = by_tests (none_out ns away ss) (is_in s.number ns) refl (s.number == canvas.stream) refl
    where
      by_tests : outs (filter (λ t. is_in t.number ns) ss) ≡ false → (b : Bool) → is_in s.number ns ≡ b → (d : Bool)
          → (s.number == canvas.stream) ≡ d → outs (filter (λ t. is_in t.number ns) (s ∷ ss)) ≡ false
      by_tests rest true stays true here =
          absurd (let no : true ≡ false = sym stays ∙ ap (λ i. is_in i ns) (eqb-true s.number canvas.stream here) ∙ away in cc)
      by_tests rest true stays false here = rw (stays, here) rest
      by_tests rest false goes d here = rw goes rest

  kept_out : (ns : List ℕ) (ss : List KeptStream) → NamesAll ns ss → outs (filter (λ s. is_in s.number ns) ss) ≡ outs ss
  kept_out ns [] all = refl
  kept_out ns (s ∷ ss) all =
      by_tests (kept_out ns ss (names_rest ns s ss all)) (is_in s.number ns) refl (s.number == canvas.stream) refl s.buffers.out refl
    where
      by_tests : outs (filter (λ t. is_in t.number ns) ss) ≡ outs ss → (b : Bool) → is_in s.number ns ≡ b → (d : Bool)
          → (s.number == canvas.stream) ≡ d → (e : Bool) → s.buffers.out ≡ e
          → outs (filter (λ t. is_in t.number ns) (s ∷ ss)) ≡ outs (s ∷ ss)
      by_tests rest true stays true here e out = rw (stays, here) refl
      by_tests rest true stays false here e out = rw (stays, here) rest
      by_tests rest false goes false here e out = rw (goes, here) rest
      by_tests rest false goes true here true out =
          let own : is_in s.number (flat_map own_names (s ∷ ss)) ≡ true =
          in_front s.number (own_names s) (flat_map own_names ss)
          (in_back s.number (cond (s.handle == 0) [] (s.number ∷ [])) _ (rw out (in_first s.number []))) in
          absurd (let no : true ≡ false = sym (all s.number own) ∙ goes in cc)
      by_tests rest false goes true here false out =
          let away : is_in canvas.stream ns ≡ false = ap (λ i. is_in i ns) (sym (eqb-true s.number canvas.stream here)) ∙ goes in
          rw (goes, here, out) (none_out ns away ss)

  pub outs_settled : (b : Bool) (h : State) → outs (settle_if b h).streams ≡ outs h.streams
  outs_settled false h = refl
  outs_settled true h = kept_out (all_names h) h.streams (names_all h)
