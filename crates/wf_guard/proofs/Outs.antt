-- Which write buffers are out after a call.
use Rattle.std.proofs.Common.{◌≡◌, ◌∙◌, ℕ, Bool, true, false, cond, ◌==◌, ◌||◌, List, [], ◌∷◌, ◌++◌, map, filter, Option, Some}
use Rattle.std.proofs.Common.{None, Result, Ok, Err, flat_map, refl, sym, ap, subst}
use Rattle.std.proofs.lemmas.Bool.{eqb-true}
use Rattle.wf_words.specs.Keyed.{is_in}
use Rattle.wf_words.specs.Refusals.{◌>>=◌}
use Rattle.wf_image.specs.Bitmap.{Bitmap}
use Rattle.wf_image.specs.Contents.{image_of}
use Rattle.wf_scene.specs.declared.Scene.{Scene}
use Rattle.wf_stream.specs.Buffers.{Buffers, acquired, away_if, next_image}
use Rattle.wf_stream.specs.Streams.{KeptStream, change_stream, stream_at, unnamed}
use Rattle.wf_calls.specs.declared.code.Code.TheVariants as code
use Rattle.wf_calls.specs.declared.reply.Refusal.{Refusal}
use Rattle.wf_model.specs.Frames.{Beginning, begin_composed, begin_context, begin_next, begin_port}
use Rattle.wf_model.specs.Frames.{begin_shown, brought_home, context_beginning}
use Rattle.wf_model.specs.Frames.{home_if, is_running, is_short, latch, latched_among, next_context}
use Rattle.wf_model.specs.Frames.{all_begun}
use Rattle.wf_model.specs.Beginnings.{port_is}
use Rattle.wf_model.specs.Composing.{core_side}
use Rattle.wf_model.specs.Composition.{context, device}
use Rattle.wf_model.specs.Named.{in_back, in_first, in_front}
use Rattle.wf_model.specs.Names.{all_names, own_names, settle_if, target_names}
use Rattle.wf_calls.specs.declared.call.Call.{Call}
use Rattle.wf_calls.specs.declared.call.Call.TheVariants as call
use Rattle.wf_model.specs.Calls.{begin_call}
use Rattle.wf_model.specs.Objects.{Context, Device}
use Rattle.wf_model.specs.Outcome.{refuse, refuse_with}
use Rattle.wf_model.specs.Picture.{Images}
use Rattle.wf_model.specs.State.{State}
use Rattle.std.specs.Prelude.{ℤ}
use Rattle.wf_guard.proofs.Seen.{NamesAll, names_all, names_rest}

-- the write buffer of the stream of a number is out

abbrev pub out_of : Option KeptStream → Bool
out_of None = false
out_of (Some s) = s.buffers.out

abbrev pub is_out : ℕ → List KeptStream → Bool
is_out n ss = out_of (stream_at n ss)

module _ (n : ℕ) where
  -- it is out still
  abbrev pub StaysOut : List KeptStream → List KeptStream → Type 0
  StaysOut ss later = is_out n ss ≡ true → is_out n later ≡ true

  -- a change that keeps numbers, and that takes no write buffer of this number back
  record Keeps (g : KeptStream → KeptStream) : Type 0 where
    number : (s : KeptStream) → (g s).number ≡ s.number
    out : (s : KeptStream) → (s.number == n) ≡ true → s.buffers.out ≡ true → (g s).buffers.out ≡ true

  mapped : (g : KeptStream → KeptStream) → Keeps g → (ss : List KeptStream) → StaysOut ss (map g ss)
  mapped g keeps [] out = absurd cc
  mapped g keeps (s ∷ ss) out = by_test (mapped g keeps ss) (s.number == n) refl out
    where
      by_test : StaysOut ss (map g ss) → (b : Bool) → (s.number == n) ≡ b → StaysOut (s ∷ ss) (map g (s ∷ ss))
      by_test later true is out =
          let at : ((g s).number == n) ≡ true = ap (λ i. i == n) (keeps.number s) ∙ is in
          rw at (keeps.out s is (rw is at out))
      by_test later false is out =
          let at : ((g s).number == n) ≡ false = ap (λ i. i == n) (keeps.number s) ∙ is in
          rw at (later (rw is at out))

  pub more_out : (new : KeptStream) (ss : List KeptStream) → StaysOut ss (ss ++ new ∷ [])
  more_out new [] out = absurd cc
  more_out new (s ∷ ss) out =
      elim (s.number == n) as (λ b. out_of (cond b (Some s) (stream_at n ss)) ≡ true
      → out_of (cond b (Some s) (stream_at n (ss ++ new ∷ []))) ≡ true) [
        | true ↦ λ is. is
        | false ↦ λ is. more_out new ss is
      ] out

  -- a change of the buffers of one number, this one's if that keeps it out
  pub changed_out : (i : ℕ) (f : Buffers → Buffers) → ((n == i) ≡ true → (b : Buffers) → b.out ≡ true → (f b).out ≡ true)
      → (ss : List KeptStream) → StaysOut ss (change_stream i f ss)
  changed_out i f keeps ss =
      mapped (λ s. cond (s.number == i) (record s { buffers = f s.buffers }) s)
      (record { number = λ s. number s (s.number == i); out = λ s is out. still s is out (s.number == i) refl }) ss
    where
      number : (s : KeptStream) (b : Bool) → (cond b (record s { buffers = f s.buffers }) s).number ≡ s.number
      number s true = refl
      number s false = refl

      still : (s : KeptStream) → (s.number == n) ≡ true → s.buffers.out ≡ true → (b : Bool) → (s.number == i) ≡ b
          → (cond b (record s { buffers = f s.buffers }) s).buffers.out ≡ true
      still s is out true same = keeps (ap (λ k. k == i) (sym (eqb-true s.number n is)) ∙ same) s.buffers out
      still s is out false other = out

  pub unnamed_keeps : (handle : ℕ) (ss : List KeptStream) → StaysOut ss (map (unnamed handle) ss)
  unnamed_keeps handle ss =
      mapped (unnamed handle) (record {
        number = λ s. number s (s.handle == handle);
        out = λ s is out. still s out
            (s.handle == handle);
      }) ss
    where
      number : (s : KeptStream) (b : Bool) → (cond b (record s { handle = 0 }) s).number ≡ s.number
      number s true = refl
      number s false = refl

      still : (s : KeptStream) → s.buffers.out ≡ true → (b : Bool) → (cond b (record s { handle = 0 }) s).buffers.out ≡ true
      still s out true = out
      still s out false = out

  pub latched_out : (ns : List ℕ) (ss : List KeptStream) → StaysOut ss (latch ns ss)
  latched_out ns ss =
      mapped (latched_among ns)
      (record { number = λ s. number s (is_in s.number ns) refl; out = λ s is out. still s out (is_in s.number ns) refl }) ss
    where
      number : (s : KeptStream) (b : Bool) → is_in s.number ns ≡ b → (latched_among ns s).number ≡ s.number
      number s true is = rw is refl
      number s false is = rw is refl

      taken : (o : Option Bitmap) (b : Buffers) → b.out ≡ true → (away_if o b).out ≡ true
      taken None b out = out
      taken (Some image) b out = out

      still : (s : KeptStream) → s.buffers.out ≡ true → (b : Bool) → is_in s.number ns ≡ b → (latched_among ns s).buffers.out ≡ true
      still s out true is = rw is (taken (next_image s.buffers) s.buffers out)
      still s out false is = rw is out

  pub home_out : (contents : Images) (ss : List KeptStream) → StaysOut ss (brought_home contents ss)
  home_out contents ss =
      mapped (λ s. home_if (image_of s.number contents) s)
      (record { number = λ s. number s (image_of s.number contents); out = λ s is out. still s out (image_of s.number contents) }) ss
    where
      number : (s : KeptStream) (o : Option Bitmap) → (home_if o s).number ≡ s.number
      number s None = refl
      number s (Some image) = refl

      still : (s : KeptStream) → s.buffers.out ≡ true → (o : Option Bitmap) → (home_if o s).buffers.out ≡ true
      still s out None = out
      still s out (Some image) = out

  kept_out : (ns : List ℕ) (ss : List KeptStream) → NamesAll ns ss → StaysOut ss (filter (λ s. is_in s.number ns) ss)
  kept_out ns [] all out = out
  kept_out ns (s ∷ ss) all out =
      by_tests (kept_out ns ss (names_rest ns s ss all)) (is_in s.number ns) refl (s.number == n) refl out
    where
      by_tests : StaysOut ss (filter (λ t. is_in t.number ns) ss) → (b : Bool) → is_in s.number ns ≡ b → (d : Bool) → (s.number == n) ≡ d
          → StaysOut (s ∷ ss) (filter (λ t. is_in t.number ns) (s ∷ ss))
      by_tests later true stays true here out = rw (stays, here) (rw here at out)
      by_tests later true stays false other out = rw (stays, other) (later (rw other at out))
      by_tests later false goes false other out = rw goes (later (rw other at out))
      by_tests later false goes true here out =
          let is : s.buffers.out ≡ true = rw here at out in
          let own : is_in s.number (flat_map own_names (s ∷ ss)) ≡ true =
          in_front s.number (own_names s) (flat_map own_names ss)
          (in_back s.number (cond (s.handle == 0) [] (s.number ∷ [])) _ (rw is (in_first s.number []))) in
          absurd (let no : true ≡ false = sym (all s.number own) ∙ goes in cc)

  pub settled_out : (b : Bool) (h : State) → StaysOut h.streams (settle_if b h).streams
  settled_out false h out = out
  settled_out true h out = kept_out (all_names h) h.streams (names_all h) out

  -- what is taken is out, where it is kept
  pub taken_is_out : (s : KeptStream) (ss : List KeptStream) → stream_at n ss ≡ Some s → is_out n (change_stream n acquired ss) ≡ true
  taken_is_out s [] at = absurd cc
  taken_is_out s (t ∷ ss) at = by_test (taken_is_out s ss) (t.number == n) refl at
    where
      by_test : (stream_at n ss ≡ Some s → is_out n (change_stream n acquired ss) ≡ true) → (b : Bool) → (t.number == n) ≡ b
          → stream_at n (t ∷ ss) ≡ Some s → is_out n (change_stream n acquired (t ∷ ss)) ≡ true
      by_test later true is at = rw (is, is) refl
      by_test later false is at = rw (is, is) (later (rw is at at))

  -- a change that keeps numbers keeps the stream of each
  kept_mapped : (g : KeptStream → KeptStream) → ((s : KeptStream) → (g s).number ≡ s.number) → (s : KeptStream) (ss : List KeptStream)
      → stream_at n ss ≡ Some s → (t : KeptStream) × (stream_at n (map g ss) ≡ Some t)
  kept_mapped g number s [] at = absurd cc
  kept_mapped g number s (x ∷ ss) at = by_test (kept_mapped g number s ss) (x.number == n) refl at
    where
      by_test : (stream_at n ss ≡ Some s → (t : KeptStream) × (stream_at n (map g ss) ≡ Some t)) → (b : Bool) → (x.number == n) ≡ b
          → stream_at n (x ∷ ss) ≡ Some s → (t : KeptStream) × (stream_at n (map g (x ∷ ss)) ≡ Some t)
      by_test later true here at =
          let same : ((g x).number == n) ≡ true = ap (λ i. i == n) (number x) ∙ here in
          (g x, rw same refl)
      by_test later false other at =
          let same : ((g x).number == n) ≡ false = ap (λ i. i == n) (number x) ∙ other in
          rw same (later (rw other at at))

  latched_kept : (ns : List ℕ) (s : KeptStream) (ss : List KeptStream) → stream_at n ss ≡ Some s
      → (t : KeptStream) × (stream_at n (latch ns ss) ≡ Some t)
  latched_kept ns s ss at = kept_mapped (latched_among ns) (λ x. number x (is_in x.number ns) refl) s ss at
    where
      number : (x : KeptStream) (b : Bool) → is_in x.number ns ≡ b → (latched_among ns x).number ≡ x.number
      number x true is = rw is refl
      number x false is = rw is refl

  -- a frame that draws has its target out
  pub drawn_is_out : (ns : List ℕ) (s : KeptStream) (ss : List KeptStream) → stream_at n ss ≡ Some s
      → is_out n (change_stream n acquired (latch ns ss)) ≡ true
  drawn_is_out ns s ss at = let kept = latched_kept ns s ss at in taken_is_out kept.0 (latch ns ss) kept.1

-- the target of a frame that begins: it is kept, and its write buffer was not out

pub record IsFree (h : State) (n : ℕ) : Type 0 where
  pub stream : KeptStream
  pub at : stream_at n h.streams ≡ Some stream
  pub home : stream.buffers.out ≡ false

abbrev pub FreeTarget : State → Beginning → Type 0
FreeTarget h b = (n : ℕ) → is_in n (target_names b.kind) ≡ true → IsFree h n

module _ (h : State) (b : Beginning) where
  of_context : (value handle target : ℕ) (scene : Scene) → begin_context value handle target scene h ≡ Ok (Some b) → FreeTarget h b
  of_context value handle target scene begun = of_stream (stream_at target h.streams) refl
    where
      of_tests : (s : Buffers) (out short all : Bool) → s.out ≡ out
          → ((refuse_with code.Busy value out >>= (λ _. refuse_with code.NoBuffer value short >>= (λ _. refuse_with code.Limit value all)))
          >>= (λ _. Ok (Some (context_beginning handle target scene s h)))) ≡ Ok (Some b)
          → (s.out ≡ false) × (b ≡ context_beginning handle target scene s h)
      of_tests s true short all out is = absurd cc
      of_tests s false true all out is = absurd cc
      of_tests s false false true out is = absurd cc
      of_tests s false false false out is = (out, cc)

      of_stream : (o : Option KeptStream) → stream_at target h.streams ≡ o → FreeTarget h b
      of_stream None none n among = absurd (let no : Ok None ≡ Ok (Some b) = rw none at begun in cc)
      of_stream (Some t) at n among =
          let got = of_tests t.buffers t.buffers.out (is_short target scene t.buffers) (all_begun h) refl (rw at at begun) in
          let only : is_in n (target ∷ []) ≡ true = ap (λ (x : Beginning). is_in n (target_names x.kind)) (sym got.1) ∙ among in
          let same : target ≡ n = of_one (target == n) refl only in
          record { stream = t; at = subst (λ k. stream_at k h.streams ≡ Some t) same at; home = got.0 }
        where
          of_one : (d : Bool) → (target == n) ≡ d → (d || false) ≡ true → target ≡ n
          of_one true is among = eqb-true target n is
          of_one false is among = absurd cc

  of_shown : (o : Option Context) → begin_shown o h ≡ Ok (Some b) → FreeTarget h b
  of_shown None begun = absurd cc
  of_shown (Some c) begun = of_context c.handle c.handle c.target c.committed begun

  next_target : (after : ℕ) → begin_next after h ≡ Ok (Some b) → FreeTarget h b
  next_target after begun = of_running (is_running h) begun
    where
      of_running : (r : Bool) → (refuse code.Busy r >>= (λ _. begin_shown (next_context after h.core.contexts) h)) ≡ Ok (Some b)
          → FreeTarget h b
      of_running true begun = absurd cc
      of_running false begun = of_shown (next_context after h.core.contexts) begun

  composed_target : (d handle : ℕ) → begin_composed d handle h ≡ Ok (Some b) → FreeTarget h b
  composed_target d handle begun = of_device (device d (core_side h)) begun
    where
      of_active : (c : Context) (active running : Bool)
          → (refuse code.Unsupported active >>= (λ _. refuse code.Busy running >>= (λ _.
          begin_context 0 c.handle c.target c.committed h))) ≡ Ok (Some b) → FreeTarget h b
      of_active c true running begun = absurd cc
      of_active c false true begun = absurd cc
      of_active c false false begun = of_context 0 c.handle c.target c.committed begun

      of_found : (r : Result Context Refusal)
          → (r >>= (λ c. refuse code.Unsupported c.active >>= (λ _. refuse code.Busy (is_running h) >>= (λ _.
          begin_context 0 c.handle c.target c.committed h)))) ≡ Ok (Some b) → FreeTarget h b
      of_found (Ok c) begun = of_active c c.active (is_running h) begun
      of_found (Err r) begun = absurd cc

      of_device : (r : Result Device Refusal)
          → (r >>= (λ _. context d handle (core_side h) >>= (λ c. refuse code.Unsupported c.active >>= (λ _.
          refuse code.Busy (is_running h) >>= (λ _. begin_context 0 c.handle c.target c.committed h))))) ≡ Ok (Some b) → FreeTarget h b
      of_device (Ok x) begun = of_found (context d handle (core_side h)) begun
      of_device (Err r) begun = absurd cc

  port_target : (number : ℤ) → begin_port number h ≡ Ok (Some b) → FreeTarget h b
  port_target number begun n among =
      let none : is_in n (target_names b.kind) ≡ false =
      ap (λ (x : Beginning). is_in n (target_names x.kind)) (port_is number h b begun).is in
      absurd (let no : true ≡ false = sym among ∙ none in cc)

  pub begun_target : (c : Call) → begin_call c h ≡ Ok (Some b) → FreeTarget h b
  begun_target (call.BeginNext after) begun = next_target after begun
  begun_target (call.BeginPort port) begun = port_target port begun
  begun_target (call.BeginContext d c) begun = composed_target d c begun
  begun_target _ begun = absurd cc
