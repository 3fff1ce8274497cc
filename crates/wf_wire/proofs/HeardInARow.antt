-- Messages that were answered one after another, one more, and what stops after them.
use Rattle.std.proofs.Common.{◌≡◌, ℕ, ◌+◌, ◌-◌, ◌<◌, ◌≤◌, List, [], ◌∷◌, ◌++◌, length, Option, Some, None}
use Rattle.std.proofs.Common.{true, false, Result, Ok, Err, subst, sym, refl, arith}
use Rattle.std.proofs.Common.{length-append}
use Rattle.std.proofs.lemmas.List.{append-nil}
use Rattle.std.specs.Prelude.{IsTrue}
use Rattle.wf_image.specs.declared.canvas.Canvas.{Canvas}
use Rattle.wf_io.specs.Parts.{puts_both}
use Rattle.wf_io.specs.declared.writing.WriteStop.{WriteStop}
use Rattle.wf_calls.specs.declared.call.Call.TheVariants as call
use Rattle.wf_calls.specs.declared.reply.Reply.{Reply}
use Rattle.wf_desk.specs.History.{event}
use Rattle.wf_desk.specs.Pass.{IsOwn, Made}
use Rattle.wf_machine.specs.Object.{MayAnswer, after, is_ready}
use Rattle.wf_wire.specs.declared.message.Message.{Message}
use Rattle.wf_wire.specs.declared.stop.ServeStop.{ServeStop}
use Rattle.wf_wire.specs.declared.stop.ServeStop.TheVariants as stop
use Rattle.wf_wire.specs.Answers.{Answers, Closes}
use Rattle.wf_machine.specs.Histories.{Happening, PlainPass}
use Rattle.wf_wire.specs.Grown.{Grew}
use Rattle.wf_wire.specs.Heard.{Discards, Heard}
use Rattle.wf_wire.specs.Messages.{next}
use Rattle.wf_wire.specs.Served.{Closed, HeardAll, PutsOf, Served}
use Rattle.wf_wire.specs.Taking.{Finds, FindsEnd, FindsNext, is_of_reading}
use Rattle.wf_wire.proofs.AnswersInARow.{answers_more, few_events}
use Rattle.wf_wire.proofs.Growing.{grew_more, grew_once, same_pass}
use Rattle.wf_wire.proofs.Puttings.{body_stops}
use Rattle.wf_wire.proofs.ReadInARow.{cut_there, ends_there, no_message, quota_there, reads_more, stops_there}

module _ {K : Type 0} (took : K → List ℕ → Type 0) (at : ℕ) (input : Option (List ℕ)) where
  pub heard_none : (pass : PlainPass) (k : K) → IsOwn after MayAnswer pass → HeardAll took pass pass k k at input input at None 0
  heard_none pass k own = record {
    ms = [];
    events = [];
    bytes = [];
    reads = no_message at [] input;
    answers = (refl, refl, refl);
    put = λ before t. subst (took k) (sym (append-nil before)) t;
    long = refl;
    grew = same_pass pass own;
  }

  -- `all` were answered, and the sink is `then` and the source has `rest` left from `place` on
  module _ (old middle : PlainPass) (before then : K) (rest : Option (List ℕ)) (place : ℕ) (between : Option Canvas) (written : ℕ)
      (all : HeardAll took old middle before then at input rest place between written) where
    room_is : 3 ≤ middle.left → 3 ≤ old.left - length all.events
    room_is room = omega (arith, room, all.grew.left)

    -- one more is read
    module _ (m : Message) (left : Option (List ℕ)) (now : ℕ) (found : Finds next rest place left now (Ok (Some m))) where
      -- and answered
      module _ (room : 3 ≤ middle.left) (new : PlainPass) (held : Option Canvas) (behind : K) where
        own_answers : (r : Result ℕ WriteStop) (one : Heard took middle new m between held then behind r)
            → Answers old.client m between one.events one.bytes held
        own_answers r one = subst (λ (client : ℕ). Answers client m between one.events one.bytes held) all.grew.client one.answers

        -- a message leaves a call
        pub one_left : (r : Result ℕ WriteStop) → Heard took middle new m between held then behind r → 1 ≤ new.left
        one_left r one =
            omega (arith, room, one.grew.left, few_events middle.client m between held one.events one.bytes one.answers)

        pub heard_more : (n : ℕ) → Heard took middle new m between held then behind (Ok n)
            → HeardAll took old new before behind at input left now held (written + n)
        heard_more n one = record {
          ms = all.ms ++ m ∷ [];
          events = all.events ++ one.events;
          bytes = all.bytes ++ one.bytes;
          reads = reads_more at all.ms m input rest left place now all.reads found;
          answers =
              answers_more old.client all.ms m old.left None between held all.events one.events all.bytes one.bytes all.answers
              (room_is room) (own_answers (Ok n) one);
          put = puts_both took before then behind all.bytes one.bytes all.put one.writes.0;
          long = let sum : length (all.bytes ++ one.bytes) ≡ length all.bytes + length one.bytes = length-append all.bytes one.bytes in
              omega (arith, sum, all.long, one.writes.1);
          grew = grew_more old middle new all.events one.events all.grew one.grew;
        }

        -- its answer is cut
        pub heard_cut : (s : WriteStop) → Heard took middle new m between held then behind (Err s)
            → Served took old new before behind at input left held (Some (stop.WriteFault (written + s.written)))
        heard_cut s one = record {
          ms = all.ms ++ m ∷ [];
          events = all.events ++ one.events;
          bytes = all.bytes ++ one.bytes;
          read = cut_there at (all.ms ++ m ∷ []) (written + s.written) input left now
              (reads_more at all.ms m input rest left place now all.reads found);
          answers =
              answers_more old.client all.ms m old.left None between held all.events one.events all.bytes one.bytes all.answers
              (room_is room) (own_answers (Err s) one);
          put = (
            body_stops took before then behind written all.bytes one.bytes (all.bytes ++ one.bytes) s.written refl all.long all.put
                one.writes,
            record {
              earlier = all.ms;
              last = m;
              first = all.events;
              rest = one.events;
              answers = all.bytes;
              answer = one.bytes;
              middle = between;
              messages = refl;
              events = refl;
              bytes_are = refl;
              answered = all.answers;
              cut = own_answers (Err s) one;
              least = omega (arith, all.long);
            },
          );
          grew = grew_more old middle new all.events one.events all.grew one.grew;
        }

      -- and may not be answered
      pub heard_quota : middle.left < 3
          → Served took old middle before then at input left between (Some (stop.Quota place))
      heard_quota few = record {
        ms = all.ms;
        events = all.events;
        bytes = all.bytes;
        read = quota_there at all.ms m input rest left place now all.reads found;
        answers = all.answers;
        put = (all.put, omega (arith, few, all.grew.left));
        grew = all.grew;
      }

    -- the input ends
    pub heard_end : (left : Option (List ℕ)) (now : ℕ) → FindsEnd next rest place left now
        → Served took old middle before then at input left between None
    heard_end left now found = record {
      ms = all.ms;
      events = all.events;
      bytes = all.bytes;
      read = ends_there at all.ms input rest left place now all.reads found;
      answers = all.answers;
      put = all.put;
      grew = all.grew;
    }

    -- reading stops
    pub heard_stop : (s : ServeStop) (left : Option (List ℕ)) (now : ℕ) → IsTrue (is_of_reading s)
        → FindsNext next rest place left now (Err s) → Served took old middle before then at input left between (Some s)
    heard_stop s left now own found = record {
      ms = all.ms;
      events = all.events;
      bytes = all.bytes;
      read = stops_there at all.ms s input rest left place now own all.reads found;
      answers = all.answers;
      put = put_so s own;
      grew = all.grew;
    }
      where
        put_so : (s : ServeStop) → IsTrue (is_of_reading s)
            → PutsOf took before then old.client old.left all.ms all.events all.bytes between (Some s)
        put_so stop.ReadFault own = all.put
        put_so (stop.BadMessage at rule) own = all.put
        put_so (stop.WriteFault written) own = absurd (let no : false ≡ true = own in cc)
        put_so (stop.Quota at) own = absurd (let no : false ≡ true = own in cc)

-- a canvas that was held is discarded
pub discarded : (old new : PlainPass) (held : Option Canvas) (canvas : Canvas) (reply : Reply) → held ≡ Some canvas
    → Made after MayAnswer (λ h. IsTrue (is_ready h (call.Discard canvas))) old (call.Discard canvas) reply new → IsOwn after MayAnswer new
    → Discards old new held
discarded old new held canvas reply is made own =
    let one : List Happening = event old.client (call.Discard canvas) reply ∷ [] in
    record {
      events = one;
      closes = subst (λ (h : Option Canvas). Closes old.client h one) (sym is) (reply, refl);
      grew = grew_once (call.Discard canvas) reply old new made own;
    }

-- and the session is closed
module _ {K : Type 0} (took : K → List ℕ → Type 0) (at : ℕ) (input rest : Option (List ℕ)) (old middle new : PlainPass) (from to : K)
    (held : Option Canvas) (d : Discards middle new held) where
  module _ (s : Option ServeStop) (served : Served took old middle from to at input rest held s) where
    all_grew : Grew (served.events ++ d.events) old new
    all_grew = grew_more old middle new served.events d.events served.grew d.grew

    closes : Closes old.client held d.events
    closes = subst (λ (client : ℕ). Closes client held d.events) served.grew.client d.closes

  pub closed_ok : (n : ℕ) → n ≡ old.left - new.left → Served took old middle from to at input rest held None
      → Closed took old new from to at input rest (Ok n)
  closed_ok n is served = record {
    middle = middle;
    held = held;
    served = served;
    closing = d.events;
    closes = closes None served;
    grew = all_grew None served;
    count = λ k same.
        let own : n ≡ k = cc in
        omega (arith, own, is, (all_grew None served).left);
  }

  pub closed_err : (s : ServeStop) → Served took old middle from to at input rest held (Some s)
      → Closed took old new from to at input rest (Err s)
  closed_err s served = record {
    middle = middle;
    held = held;
    served = served;
    closing = d.events;
    closes = closes (Some s) served;
    grew = all_grew (Some s) served;
    count = λ k same. absurd cc;
  }
