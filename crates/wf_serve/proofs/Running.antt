-- A run, one message more.
use Rattle.std.proofs.Common.{◌≡◌, ◌∙◌, ℕ, Bool, true, false, List, [], ◌∷◌, ◌++◌, take, Option, Some, None, append_assoc, refl, sym, ap}
use Rattle.std.proofs.Common.{subst}
use Rattle.std.proofs.lemmas.List.{append-nil}
use Rattle.std.specs.Prelude.{Ok, Err}
use Rattle.wf_guard.specs.Serving.{Served}
use Rattle.wf_io.specs.Bytes.{Puts}
use Rattle.wf_io.specs.Parts.{puts_both}
use Rattle.wf_serve.specs.Heard.{Hears}
use Rattle.wf_serve.specs.Putting.{PutsFront}
use Rattle.wf_serve.specs.Reading.{ReadsNext}
use Rattle.wf_serve.specs.Runs.{AreFrames, CutOne, HearsContent, Incoming, IsFrame, IsOfSink, ReadSo, Runs, ServedAll, ServedOne}
use Rattle.wf_serve.specs.Runs.{ServesNext, WasCut, content_of}
use Rattle.wf_serve.specs.declared.input.Next.TheVariants as next
use Rattle.wf_serve.specs.declared.serving.ServeStop.{ServeStop}
use Rattle.wf_serve.specs.declared.serving.ServeStop.TheVariants as stop
use Rattle.wf_serve.proofs.Puttings.{nothing_put}

-- the frame of a message was read
pub one_read : (count : ℕ) (buffer content : List ℕ) (old rest : Option (List ℕ)) → ReadsNext old rest buffer (next.Frame count)
    → content ≡ take count buffer → (m : Incoming) → content ≡ content_of m → ReadSo (m ∷ []) old rest
one_read count buffer content None rest reads front m parts = tt
one_read count buffer content (Some bytes) None reads front m parts = absurd reads
one_read count buffer content (Some bytes) (Some rest) reads front m parts =
    let frame : IsFrame (content_of m) reads.first = subst (λ l. IsFrame l reads.first) (sym front ∙ parts) reads.frame in
    (reads.first, (reads.first, [], frame, refl, sym (append-nil reads.first)), reads.parts)

module _ {K F : Type 0} (took : K → List ℕ → Type 0) (showed : F → List ℕ → Type 0) where
  module _ (v w : Served) (input rest : Option (List ℕ)) (out now : K) (frames shown : F) (count : ℕ) (buffer content : List ℕ)
      (reads : ReadsNext input rest buffer (next.Frame count)) (front : content ≡ take count buffer) where
    pub one_served : HearsContent content v w (λ xs. Puts took out now xs) (λ xs. Puts showed frames shown xs)
        → ServedOne took showed v w input rest out now frames shown
    one_served h =
        record {
          message = h.0;
          read = one_read count buffer content input rest reads front h.0 h.1;
          answers = h.2;
          pictures = h.3;
          hears = h.4;
          put = h.5;
          put_shown = h.6;
        }

    cut_one : (x : (after : Served) × HearsContent content v after (λ xs. PutsFront took out now xs)
        (λ xs. PutsFront showed frames shown xs)) → CutOne took showed v input rest out now frames shown
    cut_one x =
        record {
          last = x.1.0;
          read = one_read count buffer content input rest reads front x.1.0 x.1.1;
          after = x.0;
          answers = x.1.2;
          pictures = x.1.3;
          hears = x.1.4;
          put = x.1.5;
          put_shown = x.1.6;
        }

    pub one_cut : (s : ServeStop) → IsOfSink s
        → (after : Served) × HearsContent content v after (λ xs. PutsFront took out now xs) (λ xs. PutsFront showed frames shown xs)
        → ServesNext took showed v w input rest out now frames shown (Err s)
    one_cut stop.AnswersFault of_sink x = cut_one x
    one_cut stop.FramesFault of_sink x = cut_one x
    one_cut stop.ReadFault of_sink x = absurd of_sink
    one_cut stop.BadFrame of_sink x = absurd of_sink
    one_cut stop.Most of_sink x = absurd of_sink

  -- a run

  pub none_served : (v : Served) (input : Option (List ℕ)) (out : K) (frames : F)
      → ServedAll took showed v v input input out out frames frames
  none_served v input out frames =
      record {
        ms = [];
        answers = [];
        pictures = [];
        read = of_input input;
        runs = (refl, refl, refl);
        put = nothing_put took out;
        put_shown = nothing_put showed frames;
      }
    where
      of_input : (o : Option (List ℕ)) → ReadSo [] o o
      of_input None = tt
      of_input (Some bytes) = ([], refl, refl)

  frames_more : (ms ns : List Incoming) (xs ys : List ℕ) → AreFrames ms xs → AreFrames ns ys → AreFrames (ms ++ ns) (xs ++ ys)
  frames_more [] ns xs ys none more = subst (λ l. AreFrames ns (l ++ ys)) (sym none) more
  frames_more (m ∷ ms) ns xs ys frames more = (
    frames.0,
    frames.1 ++ ys,
    frames.2,
    frames_more ms ns frames.1 ys frames.3 more,
    ap (λ l. l ++ ys) frames.4 ∙ append_assoc frames.0 frames.1 ys,
  )

  pub reads_more : (ms ns : List Incoming) (old mid new : Option (List ℕ)) → ReadSo ms old mid → ReadSo ns mid new
      → ReadSo (ms ++ ns) old new
  reads_more ms ns None mid new first second = tt
  reads_more ms ns (Some bytes) None new first second = absurd first
  reads_more ms ns (Some bytes) (Some middle) None first second = absurd second
  reads_more ms ns (Some bytes) (Some middle) (Some rest) first second = (
    first.0 ++ second.0,
    frames_more ms ns first.0 second.0 first.1 second.1,
    first.2 ∙ ap (λ l. first.0 ++ l) second.2 ∙ sym (append_assoc first.0 second.0 rest),
  )

  runs_more : (ms : List Incoming) (m : Incoming) (v w x : Served) (ans more fs others : List ℕ) → Runs v ms w ans fs
      → Hears m.client m.number m.body w x more others → Runs v (ms ++ m ∷ []) x (ans ++ more) (fs ++ others)
  runs_more [] m v w x ans more fs others runs hears = (
    x,
    more,
    [],
    others,
    [],
    subst (λ s. Hears m.client m.number m.body s x more others) runs.0 hears,
    (refl, refl, refl),
    ap (λ l. l ++ more) runs.1 ∙ sym (append-nil more),
    ap (λ l. l ++ others) runs.2 ∙ sym (append-nil others),
  )
  runs_more (n ∷ ms) m v w x ans more fs others runs hears = (
    runs.0,
    runs.1,
    runs.2 ++ more,
    runs.3,
    runs.4 ++ others,
    runs.5,
    runs_more ms m runs.0 w x runs.2 more runs.4 others runs.6 hears,
    ap (λ l. l ++ more) runs.7 ∙ append_assoc runs.1 runs.2 more,
    ap (λ l. l ++ others) runs.8 ∙ append_assoc runs.3 runs.4 others,
  )

  module _ (v w : Served) (input mid rest : Option (List ℕ)) (out before now : K) (frames showing shown : F)
      (all : ServedAll took showed v w input mid out before frames showing) where
    served_more : (x : Served) → ServedOne took showed w x mid rest before now showing shown
        → ServedAll took showed v x input rest out now frames shown
    served_more x one =
        record {
          ms = all.ms ++ one.message ∷ [];
          answers = all.answers ++ one.answers;
          pictures = all.pictures ++ one.pictures;
          read = reads_more all.ms (one.message ∷ []) input mid rest all.read one.read;
          runs = runs_more all.ms one.message v w x all.answers one.answers all.pictures one.pictures all.runs one.hears;
          put = puts_both took out before now all.answers one.answers all.put one.put;
          put_shown = puts_both showed frames showing shown all.pictures one.pictures all.put_shown one.put_shown;
        }

    pub served_on : (x : Served) (b : Bool) → b ≡ true → ServesNext took showed w x mid rest before now showing shown (Ok b)
        → ServedAll took showed v x input rest out now frames shown
    served_on x true is one = served_more x one
    served_on x false is one = absurd cc

    pub served_cut : CutOne took showed w mid rest before now showing shown → WasCut took showed v input rest out now frames shown
    served_cut one =
        record {
          middle = w;
          before = before;
          showing = showing;
          left = mid;
          served = all;
          last = one.last;
          read = one.read;
          after = one.after;
          answers = one.answers;
          pictures = one.pictures;
          hears = one.hears;
          put = one.put;
          put_shown = one.put_shown;
        }
