-- Additions to a text: one after the other, and what is put of it.
use Rattle.std.proofs.Common.{◌≡◌, ℕ, ◌+◌, ◌-◌, ◌^◌, ◌≤◌, ◌<◌, min, true, false, Result, Ok, Err, List, [], ◌++◌, length, sym, ap, ◌∙◌}
use Rattle.std.proofs.Common.{append-nil, append_assoc, subst, arith, length-append, flat_map, get_or, take}
use Rattle.std.proofs.lemmas.List.{flat_map_more, take_more}
use Rattle.wf_io.specs.Bytes.{Puts, PutsPart}
use Rattle.wf_io.specs.Causes.{Rose}
use Rattle.wf_io.specs.declared.writing.WriteStop.{WriteStop}
use Rattle.wf_io.specs.Parts.{puts_both, stops_early, stops_late}
use Rattle.wf_script.specs.Text.{Added, Adds, adding, Ends, IsEnded, IsGoing, IsStopped, extent}
use Rattle.wf_script.specs.declared.text.Text.{Text}

module _ {S : Type 0} (took : S → List ℕ → Type 0) (faults : S → ℕ) where
  -- what was added before, and these bytes
  pub added_by : {t u : Text} {a b : S} {xs : List ℕ} → Adds took faults t a u b xs → (start : S) (added : List ℕ)
      → Added took faults start t a added → Added took faults start u b (added ++ xs)
  added_by (adding more) = more

  -- bytes, and then more bytes
  pub adds_both : (t u v : Text) (a b c : S) (xs ys : List ℕ) → Adds took faults t a u b xs → Adds took faults u b v c ys
      → Adds took faults t a v c (xs ++ ys)
  adds_both t u v a b c xs ys first second =
      adding (λ start added before. subst (λ (bytes : List ℕ). Added took faults start v c bytes) (append_assoc added xs ys)
      (added_by second start (added ++ xs) (added_by first start added before)))

  -- what is told of the first elements of a list, and then what is told of the next one
  pub adds_next : {X : Type 0} (f : X → List ℕ) (xs : List X) (i : ℕ) (d : X) (t u v : Text) (a b c : S) → i < length xs
      → Adds took faults t a u b (flat_map f (take i xs)) → Adds took faults u b v c (f (get_or xs i d))
      → Adds took faults t a v c (flat_map f (take (i + 1) xs))
  adds_next f xs i d t u v a b c within before next =
      subst (λ (bytes : List ℕ). Adds took faults t a v c bytes)
      (flat_map_more f [] (take i xs) (get_or xs i d) ∙ ap (flat_map f) (sym (take_more xs i d within)))
      (adds_both t u v a b c (flat_map f (take i xs)) (f (get_or xs i d)) before next)

  -- where no bytes are added
  none_more : (t u : Text) (a b : S) → ((start : S) (added : List ℕ) → Added took faults start t a added
      → Added took faults start u b added) → Adds took faults t a u b []
  none_more t u a b stay =
      adding (λ start added before.
      subst (λ (bytes : List ℕ). Added took faults start u b bytes) (sym (append-nil added)) (stay start added before))

  pub adds_none : (t : Text) (a : S) → Adds took faults t a t a []
  adds_none t a = none_more t t a a (λ start added before. before)

  -- all that waits is put
  pub puts_all : (t u : Text) (a b : S) → t.stopped ≡ false → u.stopped ≡ false → u.waiting.items ≡ []
      → u.written ≡ min (t.written + length t.waiting.items) (2 ^ 64 - 1) → Puts took a b t.waiting.items → faults a ≤ faults b
      → Adds took faults t a u b []
  puts_all t u a b going still none count puts later =
      none_more t u a b (λ start added before. record {
        later = omega (arith, before.later);
        going = λ counted is-going.
            let was : IsGoing took faults start t a added = before.going (omega arith) going in
            record {
              front = added;
              all = rw none (sym (append-nil added));
              count = rw was.all (omega (arith, was.count, length-append was.front t.waiting.items));
              puts = rw was.all (puts_both took start a b was.front t.waiting.items was.puts puts);
            };
        stopped = λ counted is-stopped. absurd (cc);
      })

  -- a front of what waits is put
  pub puts_part : (t u : Text) (a b : S) (n : ℕ) → t.stopped ≡ false → u.stopped ≡ true
      → u.written ≡ min (t.written + n) (2 ^ 64 - 1) → PutsPart took a b 0 t.waiting.items n → faults a ≤ faults b
      → Rose (faults a) (faults b) → Adds took faults t a u b []
  puts_part t u a b n going stopped count part later rose =
      none_more t u a b (λ start added before. record {
        later = omega (arith, before.later);
        going = λ counted is-going. absurd (cc);
        stopped = λ counted is-stopped.
            let was : IsGoing took faults start t a added = before.going (omega arith) going in
            record {
              part = rw was.all (stops_late took start a b 0 t.written was.front t.waiting.items u.written was.puts
                  (omega (arith, was.count)) (part_from t.written u.written (omega arith)));
              rose = omega (arith, before.later);
            };
      })
    where
      part_from : (middle written : ℕ) → written ≡ middle + n → PutsPart took a b middle t.waiting.items written
      part_from middle written at =
          let past : written - middle ≡ n - 0 = omega arith in
          record { least = omega arith; short = omega (arith, part.short); front = rw past part.front }

  -- after a fault nothing is put
  pub puts_none : (t u : Text) (a : S) → t.stopped ≡ true → u.stopped ≡ true → u.written ≡ t.written → Adds took faults t a u a []
  puts_none t u a stopped still count =
      none_more t u a a (λ start added before. record {
        later = before.later;
        going = λ counted is-going. absurd (cc);
        stopped = λ counted is-stopped.
            let was : IsStopped took faults start t a added = before.stopped (omega arith) stopped in
            record { part = rw count was.part; rose = was.rose };
      })

  -- bytes wait
  pub waits : (t u : Text) (a : S) (xs : List ℕ) → u.waiting.items ≡ t.waiting.items ++ xs → u.written ≡ t.written
      → u.stopped ≡ t.stopped → Adds took faults t a u a xs
  waits t u a xs more count same =
      adding (λ start added before. record {
        later = before.later;
        going = λ counted is-going.
            let was : IsGoing took faults start t a added = before.going (omega arith) (sym same ∙ is-going) in
            record {
              front = was.front;
              all = rw (more, was.all) (append_assoc was.front t.waiting.items xs);
              count = count ∙ was.count;
              puts = was.puts;
            };
        stopped = λ counted is-stopped.
            let was : IsStopped took faults start t a added = before.stopped (omega arith) (sym same ∙ is-stopped) in
            record { part = rw count (stops_early took start a 0 added xs t.written was.part); rose = was.rose };
      })

  -- a text that ends after a fault
  pub ends_stopped : {T : Type 0} (t u : Text) (a b : S) → Adds took faults t a u b [] → extent u ≤ extent t → u.stopped ≡ true
      → Ends took faults {T = T} t a b (Err (record { written = u.written }))
  ends_stopped {T} t u a b more most stopped = record {
    ends = λ start added few before.
        let after : Added took faults start u b added =
        subst (λ (bytes : List ℕ). Added took faults start u b bytes) (append-nil added) (added_by more start added before) in
        let last : IsStopped took faults start u b added = after.stopped (omega arith) stopped in
        record { all = tt; part = last.part; cause = record { later = after.later; failed = last.rose } };
  }

  -- a text that ends, and all of it was put
  pub ends_whole : {T : Type 0} (t u : Text) (a b : S) (x : T) → Adds took faults t a u b [] → extent u ≤ extent t → u.stopped ≡ false
      → u.waiting.items ≡ [] → Ends took faults t a b (Ok x)
  ends_whole t u a b x more most going none = record {
    ends = λ start added few before.
        let after : Added took faults start u b added =
        subst (λ (bytes : List ℕ). Added took faults start u b bytes) (append-nil added) (added_by more start added before) in
        let last : IsGoing took faults start u b added = after.going (omega arith) going in
        let whole : last.front ≡ added = sym (append-nil last.front) ∙ ap (λ rest. last.front ++ rest) (sym none) ∙ sym last.all in
        record {
          all = subst (λ (bytes : List ℕ). Puts took start b bytes) whole last.puts;
          part = tt;
          cause = record { later = after.later; failed = tt };
        };
  }

  -- what a text that was begun empty and ended has put
  pub ends_all : {T : Type 0} (t u : Text) (a b c : S) (xs : List ℕ) (result : Result T WriteStop) → t.waiting.items ≡ []
      → t.written ≡ 0 → t.stopped ≡ false → Adds took faults t a u b xs → extent u < 2 ^ 63 → Ends took faults u b c result
      → IsEnded took faults a c xs result
  ends_all t u a b c xs result none zero going more few last =
      let begun : Added took faults a t a [] = record {
        later = omega arith;
        going = λ counted is-going. record {
          front = [];
          all = sym none;
          count = zero;
          puts = λ before held. subst (took a) (sym (append-nil before)) held;
        };
        stopped = λ counted is-stopped. absurd (cc);
      } in
      last.ends a xs few (added_by more a [] begun)
