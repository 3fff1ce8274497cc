-- What a piece that was filled says of the bytes that a source had left, and of the number that is read of them.
use Rattle.std.proofs.Common.{◌≡◌, ◌∙◌, ℕ, ◌+◌, ◌<◌, ◌≤◌, Bool, true, false, List, ◌++◌, length, take, drop, Option, Some}
use Rattle.std.proofs.Common.{None, Ok, Err}
use Rattle.std.proofs.Common.{subst, sym, ap, refl, arith, length-append}
use Rattle.std.proofs.lemmas.List.{append-nil, drop_at, take_all, length-take-le}
use Rattle.std.proofs.lemmas.Bool.{le-ltb, lt-ltb}
use Rattle.std.specs.Prelude.{nat_lt, if◌then◌else◌}
use Rattle.std.specs.Io.KnownBytes.{Consumes, IsAtEnd}
use Rattle.byteorder.specs.Endian.{big_number}
use Rattle.byteorder.specs.Numbers.{big_from-append}
use Rattle.wf_wire.specs.declared.stop.ServeStop.{ServeStop}
use Rattle.wf_wire.specs.declared.stop.ServeStop.TheVariants as stop
use Rattle.wf_wire.specs.Reading.{breaks, cursor, done, ends, number, number_that}
use Rattle.wf_wire.specs.Taking.{Fills, Finds}
use Rattle.wf_wire.proofs.Steps.{stops_first}

-- a piece that was filled
pub fills_whole : (old new : Option (List ℕ)) (at n : ℕ) (into : List ℕ) → Consumes old new (take n into) → length into ≤ n
    → Fills old at new (at + length into) into (Ok tt)
fills_whole old new at n into taken whole = (subst (Consumes old new) (take_all n into whole) taken, refl)

-- and one that the source's end cut
pub fills_short : (old new : Option (List ℕ)) (at now n : ℕ) (into : List ℕ) → Consumes old new (take n into) → n < length into
    → IsAtEnd new → Fills old at new now into (Err (stop.BadMessage (at + n) 4))
fills_short old new at now n into taken short end =
    let long : length (take n into) ≡ n = length-take-le n into (omega arith) in
    (take n into, taken, omega arith, end, omega arith, refl)

-- a number is what the bytes of its field say, whatever follows
number_reads : (n at : ℕ) (into more : List ℕ) → length into ≡ n
    → number n (cursor at (into ++ more)) ≡ Ok (big_number n into, cursor (at + n) more)
unfolding number
number_reads n at into more long =
    let enough : nat_lt (length (into ++ more)) n ≡ false = le-ltb (length (into ++ more)) n (omega (arith, length-append into more)) in
    let same : big_number n (into ++ more) ≡ big_number n into = big_from-append n into more (omega arith) in
    let behind : drop n (into ++ more) ≡ more = drop_at into more n long in
    rw (enough, same, behind) refl

-- and where the bytes end inside of the field, so does the input
number_ends : (n at : ℕ) (bytes : List ℕ) → length bytes < n → number n (cursor at bytes) ≡ Err (ends (cursor at bytes))
unfolding number
number_ends n at bytes short =
    let few : nat_lt (length bytes) n ≡ true = lt-ltb (length bytes) n short in rw few refl

pub number_found : (n : ℕ) (old new : Option (List ℕ)) (at now : ℕ) (into : List ℕ) → length into ≡ n → Fills old at new now into (Ok tt)
    → Finds (number n) old at new now (Ok (big_number n into))
number_found n None new at now into long filled = tt
number_found n (Some bytes) None at now into long filled = absurd filled.0
number_found n (Some bytes) (Some rest) at now into long filled = record {
  taken = into;
  front = filled.0;
  place = filled.1;
  reads = λ more. let place : at + n ≡ now = omega (arith, filled.1) in
      subst (λ (m : ℕ). number n (cursor at (into ++ more)) ≡ Ok (big_number n into, cursor m more)) place
      (number_reads n at into more long);
}

pub number_stops : (n : ℕ) (old new : Option (List ℕ)) (at now : ℕ) (into : List ℕ) (s : ServeStop) → length into ≡ n
    → Fills old at new now into (Err s)
    → Finds (number n) old at new now (Err s)
number_stops n None new at now into s long filled = tt
number_stops n (Some bytes) None at now into stop.ReadFault long filled = absurd filled.1
number_stops n (Some bytes) None at now into (stop.BadMessage place rule) long filled = absurd filled.1
number_stops n (Some bytes) new at now into (stop.WriteFault written) long filled = absurd filled
number_stops n (Some bytes) new at now into (stop.Quota place) long filled = absurd filled
number_stops n (Some bytes) (Some rest) at now into stop.ReadFault long filled = record {
  taken = filled.0;
  front = filled.1;
  reads = number_ends n at filled.0 (omega (arith, filled.2));
}
number_stops n (Some bytes) (Some rest) at now into (stop.BadMessage place rule) long filled =
    let is : bytes ≡ filled.0 = filled.1 ∙ ap (λ xs. filled.0 ++ xs) filled.3 ∙ append-nil filled.0 in
    let same : place ≡ at + length bytes = filled.4 ∙ ap (λ xs. at + length xs) (sym is) in
    let short : length bytes < n = omega (arith, ap length is, filled.2) in
    number_ends n at bytes short ∙ rw (same, filled.5, filled.3) refl

-- a number whose bytes were read in front of others
pub number_in_front : (n : ℕ) (old new : Option (List ℕ)) (at now x : ℕ) (into others : List ℕ) → length into ≡ n
    → x ≡ big_number n (into ++ others) → Fills old at new now into (Ok tt) → Finds (number n) old at new now (Ok x)
number_in_front n old new at now x into others long is filled =
    subst (λ (y : ℕ). Finds (number n) old at new now (Ok y)) (sym (is ∙ big_from-append n into others (omega arith)))
    (number_found n old new at now into long filled)

-- a number that has to pass a test

module _ (passes : ℕ → Bool) (rule n : ℕ) where
  pub that_found : (old new : Option (List ℕ)) (at now x : ℕ) → Finds (number n) old at new now (Ok x) → passes x ≡ true
      → Finds (number_that passes rule n) old at new now (Ok x)
  unfolding number_that
  that_found None new at now x found passed = tt
  that_found (Some bytes) None at now x found passed = absurd found
  that_found (Some bytes) (Some rest) at now x found passed = record {
    taken = found.taken;
    front = found.front;
    place = found.place;
    reads = λ more. rw (found.reads more, passed) refl;
  }

  pub that_refused : (old new : Option (List ℕ)) (at now x : ℕ) → Finds (number n) old at new now (Ok x) → passes x ≡ false
      → Finds (number_that passes rule n) old at new now (Err (stop.BadMessage at rule))
  unfolding number_that
  that_refused None new at now x found failed = tt
  that_refused (Some bytes) None at now x found failed = absurd found
  that_refused (Some bytes) (Some rest) at now x found failed =
      ap (λ (xs : List ℕ). number_that passes rule n (cursor at xs)) found.front ∙ rw (found.reads rest, failed) refl

  pub that_stops : (old new : Option (List ℕ)) (at now : ℕ) (s : ServeStop) → Finds (number n) old at new now (Err s)
      → Finds (number_that passes rule n) old at new now (Err s)
  unfolding number_that
  that_stops old new at now s found =
      stops_first (number n) (λ place x. if passes x then done x else breaks place rule) old new at now s found
