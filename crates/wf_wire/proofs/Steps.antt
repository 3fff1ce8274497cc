-- One step of reading, and what is read behind it.
use Rattle.std.proofs.Common.{◌≡◌, ◌∙◌, ℕ, ◌+◌, List, [], ◌++◌, length, Option, Some, None, Result, Ok, Err}
use Rattle.std.proofs.Common.{sym, ap, refl, arith, append_assoc, length-append}
use Rattle.std.proofs.lemmas.List.{append-nil}
use Rattle.wf_wire.specs.declared.stop.ServeStop.{ServeStop}
use Rattle.wf_wire.specs.declared.stop.ServeStop.TheVariants as stop
use Rattle.wf_wire.specs.Reading.{Reader, behind, breaks, broken, cursor, done}
use Rattle.wf_wire.specs.Taking.{Finds, Gives, Tells}

module _ {A B : Type 0} (read : Reader A) (f : ℕ → A → Reader B) where
  -- both steps, of which the second may ask where the first began
  abbrev pub both : Reader B
  both c = behind (f c.at) (read c)

  -- where the first stops, so do both
  pub stops_first : (old new : Option (List ℕ)) (at now : ℕ) (s : ServeStop) → Finds read old at new now (Err s)
      → Finds both old at new now (Err s)
  stops_first None new at now s first = tt
  stops_first (Some bytes) None at now s first = absurd first
  stops_first (Some bytes) (Some rest) at now stop.ReadFault first = record {
    taken = first.taken;
    front = first.front;
    reads = ap (behind (f at)) first.reads;
  }
  stops_first (Some bytes) (Some rest) at now (stop.BadMessage place rule) first = ap (behind (f at)) first
  stops_first (Some bytes) (Some rest) at now (stop.WriteFault written) first = absurd first
  stops_first (Some bytes) (Some rest) at now (stop.Quota place) first = absurd first

  module _ (bytes middle rest : List ℕ) (at then now : ℕ) (x : A) (first : Gives read bytes at middle then x) where
    -- the bytes of the first step and those of the second
    joined : (taken more : List ℕ) → both (cursor at ((first.taken ++ taken) ++ more)) ≡ f at x (cursor then (taken ++ more))
    joined taken more =
        ap (λ (xs : List ℕ). both (cursor at xs)) (append_assoc first.taken taken more) ∙ ap (behind (f at)) (first.reads (taken ++ more))

    front : (taken : List ℕ) → middle ≡ taken ++ rest → bytes ≡ (first.taken ++ taken) ++ rest
    front taken is = first.front ∙ ap (λ xs. first.taken ++ xs) is ∙ sym (append_assoc first.taken taken rest)

    place : (taken : List ℕ) → then + length taken ≡ at + length (first.taken ++ taken)
    place taken = omega (arith, first.place, length-append first.taken taken)

    then_tells : (result : Result B ServeStop) → Tells (f at x) middle then rest now result → Tells both bytes at rest now result
    then_tells (Ok y) second = record {
      taken = first.taken ++ second.taken;
      front = front second.taken second.front;
      place = second.place ∙ place second.taken;
      reads = λ more. joined second.taken more ∙ second.reads more;
    }
    then_tells (Err stop.ReadFault) second =
        let taken = first.taken ++ second.taken in
        record {
          taken = taken;
          front = front second.taken second.front;
          reads =
              ap (λ (xs : List ℕ). both (cursor at xs)) (sym (append-nil taken)) ∙ joined second.taken []
              ∙ ap (λ (xs : List ℕ). f at x (cursor then xs)) (append-nil second.taken) ∙ second.reads
              ∙ ap (λ (n : ℕ). Err (broken n 4 [])) (place second.taken);
        }
    then_tells (Err (stop.BadMessage place rule)) second =
        ap (λ (xs : List ℕ). both (cursor at xs)) first.front ∙ ap (behind (f at)) (first.reads middle) ∙ second
    then_tells (Err (stop.WriteFault written)) second = absurd second
    then_tells (Err (stop.Quota place)) second = absurd second

  -- where the first gives something, the second decides
  pub then_finds : (old mid new : Option (List ℕ)) (at then now : ℕ) (x : A) (result : Result B ServeStop)
      → Finds read old at mid then (Ok x) → Finds (f at x) mid then new now result
      → Finds both old at new now result
  then_finds None mid new at then now x result first second = tt
  then_finds (Some bytes) None new at then now x result first second = absurd first
  then_finds (Some bytes) (Some middle) None at then now x result first second = absurd second
  then_finds (Some bytes) (Some middle) (Some rest) at then now x result first second =
      then_tells bytes middle rest at then now x first result second

-- a step that reads nothing gives what it has
pub finds_here : {A : Type 0} (old : Option (List ℕ)) (at : ℕ) (x : A) → Finds (done x) old at old at (Ok x)
finds_here None at x = tt
finds_here (Some bytes) at x = record { taken = []; front = refl; place = omega arith; reads = λ more. refl }

-- or breaks a rule
pub breaks_here : (A : Type 0) (old : Option (List ℕ)) (at now byte rule : ℕ)
    → Finds (breaks {A = A} byte rule) old at old now (Err (stop.BadMessage byte rule))
breaks_here A None at now byte rule = tt
breaks_here A (Some bytes) at now byte rule = refl
