-- What each call keeps of the ports' screens.
use Rattle.wf_turn.proofs.Common.{◌≡◌, ◌∙◌, ℕ, ◌+◌, Bool, true, false, not, ◌&&◌, Option, Some, None, refl, sym, subst, arith, ap, nat_le}
use Rattle.wf_turn.proofs.Common.{and_parts, nat_tests, is_in, same_format, same_size, Canvas, Bitmap, image_of, Buffers, acquired}
use Rattle.wf_turn.proofs.Common.{KeptStream, stream_at, stream_of, Call, Job, Reply, is_ok_code, home_if, is_of_frame, is_target, job_of}
use Rattle.wf_turn.proofs.Common.{same_kind, Running, State, act, step, effect, moves_frame, is_begin, each_mapped, Code}
use Rattle.std.specs.Prelude.{Result, Ok, Err}
use Rattle.wf_stream.specs.Buffers.{is_blocked}
use Rattle.wf_calls.specs.declared.call.Call.TheVariants as call
use Rattle.wf_calls.specs.Replies.{bare, done, gives_back_job}
use Rattle.wf_calls.specs.declared.reply.Refusal.{Refusal}
use Rattle.wf_calls.specs.declared.code.Code.TheVariants as code
use Rattle.wf_model.specs.Frames.{brought_home, end, end_frame}
use Rattle.wf_model.specs.Names.{all_names, settle_if}
use Rattle.wf_model.specs.Outcome.{found, refuse}
use Rattle.wf_model.specs.Streams.{acquirable, is_out_at_client, is_out_of, with_stream, stream_made}
use Rattle.wf_turn.proofs.StreamsOfScreens.{AreFine, AreHome, IsDelivered, Others, at_number, begun_fine, ended_fine, home_fine, of_handle}
use Rattle.wf_turn.proofs.StreamsOfScreens.{others_change, screens_stay, unnamed_fine, Fine}
use Rattle.wf_model.specs.Effects.{Effect, acquires, begins, composes, displays, ends, makes, refuses, returns, tells, unnames}
use Rattle.wf_calls.specs.Parts.{Register, of_device, of_display, register_of, no_register}
use Rattle.wf_words.specs.Each.{each_filtered, each_more}
use Rattle.wf_model.specs.Registers.{offered}
use Rattle.wf_words.specs.Refusals.{◌>>=◌}
use Rattle.wf_words.specs.Options.{not_some}

own_kind : (job : Job) (r : Running) → is_of_frame job r ≡ true → same_kind job.kind r.kind ≡ true
own_kind job r is = grind (arith, is)

pub own_number : (job : Job) (r : Running) → is_of_frame job r ≡ true → job.number ≡ r.number
own_number job r is = grind (arith, nat_tests, is)

-- a call that ends no frame
abbrev pub EndsNone : Call → Type 0
EndsNone c = (job : Job) → c ≡ call.End job → ⊥

pub still_ends_none : (c : Call) → moves_frame c ≡ false → EndsNone c
still_ends_none c still job is = (let no : true ≡ false = rw is at still in cc)

pub begin_ends_none : (c : Call) → is_begin c ≡ true → EndsNone c
begin_ends_none c asks job is = (let no : false ≡ true = rw is at asks in cc)

module _ (n : ℕ) (Composed : ℕ → Bitmap → Type 0) where
  pub record AreScreens (h : State) : Type 0 where
    pub streams : AreFine n Composed h.frame h.streams
    pub numbered : nat_le n h.numbered ≡ true

  offered_keeps : (register : Register) (refused : Code) (h : State) → AreScreens h → AreScreens (offered register refused h)
  offered_keeps (of_device d) refused h are = record { streams = are.streams; numbered = are.numbered }
  offered_keeps of_display refused h are = record { streams = are.streams; numbered = are.numbered }
  offered_keeps no_register refused h are = are

  made_keeps : (new : Buffers) (h : State) → AreScreens h → AreScreens (stream_made new h).0
  made_keeps new h are =
      let made : KeptStream = record { number = h.numbered + 1; handle = h.made + 1; buffers = new } in
      let apart : nat_le (h.numbered + 1) n ≡ false = grind (arith, nat_tests, are.numbered) in
      record {
        streams = each_more (Fine n Composed h.frame) h.streams made are.streams
            (λ screen. absurd (let no : true ≡ false = sym screen ∙ apart in cc));
        numbered = grind (arith, nat_tests, are.numbered);
      }

  changed_keeps : (k : ℕ) (g : Buffers → Buffers) (h : State) → nat_le k n ≡ false → AreScreens h → AreScreens (with_stream k g h)
  changed_keeps k g h apart are = record {
    streams = others_change n Composed k g apart h.frame h.streams are.streams;
    numbered = are.numbered;
  }

  -- a canvas that a client has is no screen's
  clients_canvas : (canvas : Canvas) (h : State) → AreScreens h → is_out_at_client canvas h ≡ true → nat_le canvas.stream n ≡ false
  clients_canvas canvas h are at = of_range (nat_le canvas.stream n) refl
    where
      parts : (not (is_target canvas.stream h.frame) ≡ true) × (is_out_of canvas (stream_at canvas.stream h.streams) ≡ true)
      parts = and_parts (not (is_target canvas.stream h.frame)) (is_out_of canvas (stream_at canvas.stream h.streams)) at

      of_stream : nat_le canvas.stream n ≡ true → (o : Option KeptStream) → stream_at canvas.stream h.streams ≡ o
          → is_out_of canvas o ≡ true → ⊥
      of_stream screen None is out = absurd cc
      of_stream screen (Some s) is out =
          let own = at_number n Composed h.frame canvas.stream h.streams s are.streams is in
          let first = and_parts s.buffers.out (same_size canvas.image.size s.buffers.size)
          (and_parts (s.buffers.out && same_size canvas.image.size s.buffers.size) (same_format canvas.image.format s.buffers.format)
          out).0 in
          let draws : is_target canvas.stream h.frame ≡ true =
          subst (λ k. is_target k h.frame ≡ true) own.1
          ((own.0 (subst (λ k. nat_le k n ≡ true) (sym own.1) screen)).drawn first.0) in
          (let no : not true ≡ true = rw draws at parts.0 in cc)

      of_range : (b : Bool) → nat_le canvas.stream n ≡ b → nat_le canvas.stream n ≡ false
      of_range false is = is
      of_range true is = absurd (of_stream is (stream_at canvas.stream h.streams) refl parts.1)

  -- a stream of which a write buffer is given out has a handle, so it is no screen's
  acquired_apart : (handle : ℕ) (s : KeptStream) (h : State) → AreScreens h → acquirable handle h ≡ Ok s → nat_le s.number n ≡ false
  acquired_apart handle s h are is = of_handle n Composed h.frame handle h.streams s are.streams (live_at (stream_of handle h.streams) is)
    where
      of_tests : (t : KeptStream) (r : Result (Unit {0}) Refusal) (q : Unit {0} → Result (Unit {0}) Refusal)
          → (r >>= (λ _. q tt >>= (λ _. Ok t))) ≡ Ok s → t ≡ s
      of_tests t (Err x) q same = absurd cc
      of_tests t (Ok x) q same = of_second (q tt) same
        where
          of_second : (x : Result (Unit {0}) Refusal) → (x >>= (λ _. Ok t)) ≡ Ok s → t ≡ s
          of_second (Err x) same = absurd cc
          of_second (Ok x) same = cc

      live_at : (o : Option KeptStream)
          → (found code.BadHandle o >>= (λ t. refuse code.Busy t.buffers.out >>=
          (λ _. refuse code.NoBuffer (is_blocked t.buffers) >>= (λ _. Ok t)))) ≡ Ok s
          → o ≡ Some s
      live_at None same = absurd cc
      live_at (Some t) same =
          ap (λ x. Some x) (of_tests t (refuse code.Busy t.buffers.out) (λ _. refuse code.NoBuffer (is_blocked t.buffers))
          same)

  settled : (b : Bool) (h : State) → AreScreens h → AreScreens (settle_if b h)
  settled true h are =
      record {
        streams = each_filtered (Fine n Composed h.frame) (λ s. is_in s.number (all_names h)) h.streams are.streams;
        numbered = are.numbered;
      }
  settled false h are = are

  -- of every kind of effect
  effect_keeps : (h : State) (c : Call) (x : State × Reply) → Effect h c x → EndsNone c → AreScreens h → AreScreens x.0
  effect_keeps h c x (refuses honest left) none are = subst AreScreens (sym left) (offered_keeps (register_of c) x.1.code h are)
  effect_keeps h c x (composes m w value does is) none are =
      subst (λ y. AreScreens y.0) (sym is) (record { streams = are.streams; numbered = are.numbered })
  effect_keeps h c x (displays m w value does is) none are =
      subst (λ y. AreScreens y.0) (sym is) (record { streams = are.streams; numbered = are.numbered })
  effect_keeps h c x (makes new is) none are = subst (λ y. AreScreens y.0) (sym is) (made_keeps new h are)
  effect_keeps h c x (unnames handle is) none are =
      subst (λ y. AreScreens y.0) (sym is)
      (record { streams = unnamed_fine n Composed handle h.frame h.streams are.streams; numbered = are.numbered })
  effect_keeps h c x (acquires handle s at is) none are =
      subst (λ y. AreScreens y.0) (sym is) (changed_keeps s.number acquired h (acquired_apart handle s h are at) are)
  effect_keeps h c x (returns canvas f way out is) none are =
      subst (λ y. AreScreens y.0) (sym is) (changed_keeps canvas.stream f h (clients_canvas canvas h are out) are)
  effect_keeps h c x (begins b free begun is) none are =
      subst (λ y. AreScreens y.0) (sym is)
      (record { streams = begun_fine n Composed (job_of b h) h (not_some h.frame free) are.streams; numbered = are.numbered })
  effect_keeps h c x (ends job r call_is runs own is) none are = absurd (none job call_is)
  effect_keeps h c x (tells value is) none are = subst (λ y. AreScreens y.0) (sym is) are

  pub step_keeps : (h : State) (client : ℕ) (c : Call) (m : Bool) → EndsNone c → AreScreens h → AreScreens (step h client c m).0
  unfolding step
  step_keeps h client c m none are =
      settled (is_ok_code (act h c m).1.code) (act h c m).0 (effect_keeps h c (act h c m) (effect h c m) none are)

-- the end of a frame
module _ (n : ℕ) (Before After : ℕ → Bitmap → Type 0) where
  pub others_stay : (h : State) → ((k : ℕ) (image : Bitmap) → Before k image → After k image) → AreScreens n Before h
      → AreScreens n After h
  others_stay h stay are =
      record { streams = screens_stay n Before After h.frame h.streams stay are.streams; numbered = are.numbered }

  pub ended_keeps : (job : Job) (r : Running) (h : State) → h.frame ≡ Some r → is_of_frame job r ≡ true → AreHome n Before job.contents
      → IsDelivered n Before After job.kind job.image → Others n Before After job.kind → AreScreens n Before h
      → AreScreens n After (settle_if true (end_frame job h))
  ended_keeps job r h runs is contents image others are =
      let back = brought_home job.contents h.streams in
      let fine : AreFine n Before (Some r) h.streams = rw runs at are.streams in
      settled n After true (end_frame job h)
      (record {
        streams = ended_fine n Before After job.kind job.image r (own_kind job r is) image others back
            (each_mapped (Fine n Before (Some r)) (Fine n Before (Some r)) (λ s. home_if (image_of s.number job.contents) s)
            (home_fine n Before (Some r) job.contents contents) h.streams fine);
        numbered = are.numbered;
      })

-- a Job comes back, or it ends the running frame
pub by_end : (P : State × Reply → Type 0) (h : State) (job : Job) → P (h, gives_back_job job)
    → ((r : Running) → h.frame ≡ Some r → is_of_frame job r ≡ true → P (end_frame job h, bare (done 0))) → P (end job h)
by_end P h job back ended = of_frame h.frame refl
  where
    of_own : (r : Running) → h.frame ≡ Some r → (b : Bool) → is_of_frame job r ≡ b → P (end job h)
    of_own r runs true own = rw (runs, own) (ended r runs own)
    of_own r runs false own = subst P (sym other) back
      where
        other : end job h ≡ (h, gives_back_job job)
        other = rw (runs, own) refl

    of_frame : (o : Option Running) → h.frame ≡ o → P (end job h)
    of_frame None none = subst P (sym free) back
      where
        free : end job h ≡ (h, gives_back_job job)
        free = rw none refl
    of_frame (Some r) runs = of_own r runs (is_of_frame job r) refl
