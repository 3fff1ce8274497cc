-- The handle that a stream has after a call it had before, or the stream is new.
use Rattle.std.proofs.Common.{◌≡◌, ◌∙◌, ℕ, ◌+◌, ◌≤◌, Bool, true, false, cond, ◌==◌, List, [], ◌∷◌, ◌++◌, map, filter, Option, Some}
use Rattle.std.proofs.Common.{None, option_map, refl, sym, ap, subst, arith}
use Rattle.std.proofs.lemmas.Bool.{eqb-true}
use Rattle.std.proofs.lemmas.Bool.Decides.{nat_tests}
use Rattle.wf_words.specs.Keyed.{is_in}
use Rattle.wf_image.specs.Bitmap.{Bitmap}
use Rattle.wf_image.specs.Contents.{image_of}
use Rattle.wf_stream.specs.Buffers.{Buffers, acquired, posted}
use Rattle.wf_stream.specs.Streams.{KeptStream, change_stream, handle_at, stream_at, unnamed}
use Rattle.wf_calls.specs.Codes.{is_ok_code}
use Rattle.wf_calls.specs.Parts.{Register, no_register, of_device, of_display, register_of}
use Rattle.wf_calls.specs.declared.call.Call.{Call}
use Rattle.wf_calls.specs.declared.call.JobKind.{JobKind}
use Rattle.wf_calls.specs.declared.call.JobKind.TheVariants as kind
use Rattle.wf_calls.specs.declared.code.Code.{Code}
use Rattle.wf_calls.specs.declared.reply.Reply.{Reply}
use Rattle.wf_model.specs.Effects.{Effect, acquires, begins, composes, displays, effect, ends, makes, refuses, returns, tells, unnames}
use Rattle.wf_model.specs.Frames.{brought_home, delivered, drawing, home_if, latch, latched_among, scene_streams}
use Rattle.wf_model.specs.Names.{all_names, settle_if}
use Rattle.wf_model.specs.Picture.{Images}
use Rattle.wf_model.specs.Registers.{offered}
use Rattle.wf_model.specs.State.{State}
use Rattle.wf_model.specs.Step.{act, step}

-- lists of streams

module _ (n : ℕ) where
  -- a live handle that the stream of this number has later it had before
  abbrev pub Comes : List KeptStream → List KeptStream → Type 0
  Comes ss later = (k : ℕ) → handle_at n later ≡ Some k → (k == 0) ≡ false → handle_at n ss ≡ Some k

  -- a change that keeps each number, and each handle that is live after it
  record Keeps (g : KeptStream → KeptStream) : Type 0 where
    number : (s : KeptStream) → (g s).number ≡ s.number
    handle : (s : KeptStream) (k : ℕ) → (g s).handle ≡ k → (k == 0) ≡ false → s.handle ≡ k

  mapped : (g : KeptStream → KeptStream) → Keeps g → (ss : List KeptStream) → Comes ss (map g ss)
  mapped g keeps [] k at live = absurd cc
  mapped g keeps (s ∷ ss) k at live = by_test (mapped g keeps ss k) (s.number == n) refl at
    where
      by_test : (handle_at n (map g ss) ≡ Some k → (k == 0) ≡ false → handle_at n ss ≡ Some k) → (b : Bool) → (s.number == n) ≡ b
          → handle_at n (map g (s ∷ ss)) ≡ Some k → handle_at n (s ∷ ss) ≡ Some k
      by_test later true here at =
          let same : ((g s).number == n) ≡ true = ap (λ i. i == n) (keeps.number s) ∙ here in
          let now : Some (g s).handle ≡ Some k = rw same at at in
          let was : s.handle ≡ k = keeps.handle s k (cc) live in
          rw here (ap Some was)
      by_test later false other at =
          let same : ((g s).number == n) ≡ false = ap (λ i. i == n) (keeps.number s) ∙ other in
          rw other (later (rw same at at) live)

  more : (new : KeptStream) (ss : List KeptStream) → (new.number == n) ≡ false → Comes ss (ss ++ new ∷ [])
  more new [] other k at live = absurd (let no : None ≡ Some k = rw other at at in cc)
  more new (s ∷ ss) other k at live =
      elim (s.number == n)
      as (λ b. option_map (λ (t : KeptStream). t.handle) (cond b (Some s) (stream_at n (ss ++ new ∷ []))) ≡ Some k
      → option_map (λ (t : KeptStream). t.handle) (cond b (Some s) (stream_at n ss)) ≡ Some k) [
        | true ↦ λ is. is
        | false ↦ λ is. more new ss other k is live
      ] at

  none_left : (ns : List ℕ) → is_in n ns ≡ false → (ss : List KeptStream) → handle_at n (filter (λ s. is_in s.number ns) ss) ≡ None
  none_left ns goes [] = refl
  none_left ns goes (s ∷ ss) = by_test (none_left ns goes ss) (is_in s.number ns) refl (s.number == n) refl
    where
      by_test : handle_at n (filter (λ t. is_in t.number ns) ss) ≡ None → (b : Bool) → is_in s.number ns ≡ b → (d : Bool)
          → (s.number == n) ≡ d → handle_at n (filter (λ t. is_in t.number ns) (s ∷ ss)) ≡ None
      by_test later true stays true here =
          absurd (let no : true ≡ false = sym stays ∙ ap (λ i. is_in i ns) (eqb-true s.number n here) ∙ goes in cc)
      by_test later true stays false other = rw (stays, other) later
      by_test later false away d is = rw away later

  left : (ns : List ℕ) (ss : List KeptStream) → Comes ss (filter (λ s. is_in s.number ns) ss)
  left ns [] k at live = at
  left ns (s ∷ ss) k at live = by_tests (left ns ss k) (is_in s.number ns) refl (s.number == n) refl at
    where
      by_tests : (handle_at n (filter (λ t. is_in t.number ns) ss) ≡ Some k → (k == 0) ≡ false → handle_at n ss ≡ Some k) → (b : Bool)
          → is_in s.number ns ≡ b → (d : Bool) → (s.number == n) ≡ d → handle_at n (filter (λ t. is_in t.number ns) (s ∷ ss)) ≡ Some k
          → handle_at n (s ∷ ss) ≡ Some k
      by_tests later true stays true here at = rw here (rw (stays, here) at at)
      by_tests later true stays false other at = rw other (later (rw (stays, other) at at) live)
      by_tests later false goes false other at = rw other (later (rw goes at at) live)
      by_tests later false goes true here at =
          let away : is_in n ns ≡ false = ap (λ i. is_in i ns) (sym (eqb-true s.number n here)) ∙ goes in
          absurd (let no : None ≡ Some k = sym (none_left ns away ss) ∙ rw goes at at in cc)

  -- a change of buffers
  record Steady (g : KeptStream → KeptStream) : Type 0 where
    number : (s : KeptStream) → (g s).number ≡ s.number
    handle : (s : KeptStream) → (g s).handle ≡ s.handle

  steady : (g : KeptStream → KeptStream) → Steady g → (ss : List KeptStream) → Comes ss (map g ss)
  steady g is ss = mapped g (record { number = is.number; handle = λ s k at live. sym (is.handle s) ∙ at }) ss

  changed : (i : ℕ) (f : Buffers → Buffers) (ss : List KeptStream) → Comes ss (change_stream i f ss)
  changed i f ss =
      steady (λ s. cond (s.number == i) (record s { buffers = f s.buffers }) s)
      (record { number = λ s. number s (s.number == i); handle = λ s. handle s (s.number == i) }) ss
    where
      number : (s : KeptStream) (b : Bool) → (cond b (record s { buffers = f s.buffers }) s).number ≡ s.number
      number s true = refl
      number s false = refl

      handle : (s : KeptStream) (b : Bool) → (cond b (record s { buffers = f s.buffers }) s).handle ≡ s.handle
      handle s true = refl
      handle s false = refl

  unnames_one : (handle : ℕ) (ss : List KeptStream) → Comes ss (map (unnamed handle) ss)
  unnames_one handle ss =
      mapped (unnamed handle)
      (record { number = λ s. number s (s.handle == handle); handle = λ s k at live. was s k live (s.handle == handle) at }) ss
    where
      number : (s : KeptStream) (b : Bool) → (cond b (record s { handle = 0 }) s).number ≡ s.number
      number s true = refl
      number s false = refl

      was : (s : KeptStream) (k : ℕ) → (k == 0) ≡ false → (b : Bool) → (cond b (record s { handle = 0 }) s).handle ≡ k → s.handle ≡ k
      was s k live true at = absurd (let no : true ≡ false = ap (λ i. i == 0) at ∙ live in cc)
      was s k live false at = at

  latches : (ns : List ℕ) (ss : List KeptStream) → Comes ss (latch ns ss)
  latches ns ss =
      steady (latched_among ns)
      (record { number = λ s. number s (is_in s.number ns) refl; handle = λ s. handle s (is_in s.number ns) refl }) ss
    where
      number : (s : KeptStream) (b : Bool) → is_in s.number ns ≡ b → (latched_among ns s).number ≡ s.number
      number s true is = rw is refl
      number s false is = rw is refl

      handle : (s : KeptStream) (b : Bool) → is_in s.number ns ≡ b → (latched_among ns s).handle ≡ s.handle
      handle s true is = rw is refl
      handle s false is = rw is refl

  draws : (k : JobKind) (ss : List KeptStream) → Comes ss (drawing k ss)
  draws (kind.Context handle target) ss = changed target acquired ss
  draws (kind.Port port) ss = λ k at live. at

  homes : (contents : Images) (ss : List KeptStream) → Comes ss (brought_home contents ss)
  homes contents ss =
      steady (λ s. home_if (image_of s.number contents) s)
      (record { number = λ s. number s (image_of s.number contents); handle = λ s. handle s (image_of s.number contents) }) ss
    where
      number : (s : KeptStream) (o : Option Bitmap) → (home_if o s).number ≡ s.number
      number s None = refl
      number s (Some image) = refl

      handle : (s : KeptStream) (o : Option Bitmap) → (home_if o s).handle ≡ s.handle
      handle s None = refl
      handle s (Some image) = refl

  delivers : (k : JobKind) (image : Bitmap) (ss : List KeptStream) → Comes ss (delivered k image ss)
  delivers (kind.Context handle target) image ss = changed target (posted image) ss
  delivers (kind.Port port) image ss = λ k at live. at

  -- calls

  offers : (register : Register) (refused : Code) (h : State) → Comes h.streams (offered register refused h).streams
  offers (of_device d) refused h = λ k at live. at
  offers of_display refused h = λ k at live. at
  offers no_register refused h = λ k at live. at

  -- no stream of a number that was given comes anew
  effect_comes : (h : State) (c : Call) (x : State × Reply) → Effect h c x → n ≤ h.numbered → Comes h.streams x.0.streams
  effect_comes h c x (refuses honest gone) old =
      subst (λ (s : State). Comes h.streams s.streams) (sym gone) (offers (register_of c) x.1.code h)
  effect_comes h c x (composes m w value does is) old =
      subst (λ (y : State × Reply). Comes h.streams y.0.streams) (sym is) (λ k at live. at)
  effect_comes h c x (displays m w value does is) old =
      subst (λ (y : State × Reply). Comes h.streams y.0.streams) (sym is) (λ k at live. at)
  effect_comes h c x (makes new is) old =
      let other : (h.numbered + 1 == n) ≡ false = grind (arith, nat_tests) in
      subst (λ (y : State × Reply). Comes h.streams y.0.streams) (sym is)
      (more (record { number = h.numbered + 1; handle = h.made + 1; buffers = new }) h.streams other)
  effect_comes h c x (unnames handle is) old =
      subst (λ (y : State × Reply). Comes h.streams y.0.streams) (sym is) (unnames_one handle h.streams)
  effect_comes h c x (acquires handle s at is) old =
      subst (λ (y : State × Reply). Comes h.streams y.0.streams) (sym is) (changed s.number acquired h.streams)
  effect_comes h c x (returns canvas f way out is) old =
      subst (λ (y : State × Reply). Comes h.streams y.0.streams) (sym is) (changed canvas.stream f h.streams)
  effect_comes h c x (begins b free begun is) old =
      let ns = scene_streams b.scene in
      subst (λ (y : State × Reply). Comes h.streams y.0.streams) (sym is)
      (λ k at live. latches ns h.streams k (draws b.kind (latch ns h.streams) k at live) live)
  effect_comes h c x (ends job f call_is runs own is) old =
      let home = brought_home job.contents h.streams in
      subst (λ (y : State × Reply). Comes h.streams y.0.streams) (sym is)
      (λ k at live. homes job.contents h.streams k (delivers job.kind job.image home k at live) live)
  effect_comes h c x (tells value is) old =
      subst (λ (y : State × Reply). Comes h.streams y.0.streams) (sym is) (λ k at live. at)

  settled : (b : Bool) (h : State) → Comes h.streams (settle_if b h).streams
  settled false h k at live = at
  settled true h k at live = left (all_names h) h.streams k at live

  pub step_comes : (h : State) (client : ℕ) (c : Call) (m : Bool) → n ≤ h.numbered → Comes h.streams (step h client c m).0.streams
  unfolding step
  step_comes h client c m old k at live =
      effect_comes h c (act h c m) (effect h c m) old k (settled (is_ok_code (act h c m).1.code) (act h c m).0 k at live) live

-- and no number is taken back

kept_numbered : (register : Register) (refused : Code) (h : State) → (offered register refused h).numbered ≡ h.numbered
kept_numbered (of_device d) refused h = refl
kept_numbered of_display refused h = refl
kept_numbered no_register refused h = refl

effect_numbers : (h : State) (c : Call) (x : State × Reply) → Effect h c x → h.numbered ≤ x.0.numbered
effect_numbers h c x (refuses honest gone) =
    let same = ap (λ (s : State). s.numbered) gone ∙ kept_numbered (register_of c) x.1.code h in omega (arith, same)
effect_numbers h c x (composes m w value does is) = let same = ap (λ (y : State × Reply). y.0.numbered) is in omega (arith, same)
effect_numbers h c x (displays m w value does is) = let same = ap (λ (y : State × Reply). y.0.numbered) is in omega (arith, same)
effect_numbers h c x (makes new is) = let same = ap (λ (y : State × Reply). y.0.numbered) is in omega (arith, same)
effect_numbers h c x (unnames handle is) = let same = ap (λ (y : State × Reply). y.0.numbered) is in omega (arith, same)
effect_numbers h c x (acquires handle s at is) = let same = ap (λ (y : State × Reply). y.0.numbered) is in omega (arith, same)
effect_numbers h c x (returns canvas f way out is) = let same = ap (λ (y : State × Reply). y.0.numbered) is in omega (arith, same)
effect_numbers h c x (begins b free begun is) = let same = ap (λ (y : State × Reply). y.0.numbered) is in omega (arith, same)
effect_numbers h c x (ends job f call_is runs own is) = let same = ap (λ (y : State × Reply). y.0.numbered) is in omega (arith, same)
effect_numbers h c x (tells value is) = let same = ap (λ (y : State × Reply). y.0.numbered) is in omega (arith, same)

pub step_numbers : (h : State) (client : ℕ) (c : Call) (m : Bool) → h.numbered ≤ (step h client c m).0.numbered
unfolding step
step_numbers h client c m = effect_numbers h c (act h c m) (effect h c m)
