-- How bytes that were put one after the other join.
use Rattle.std.proofs.Common.{◌≡◌, ℕ, ◌+◌, ◌-◌, List, ◌++◌, length, take, append_assoc, subst, arith, length-append}
use Rattle.std.proofs.Math.Seq.{take-append-add}
use Rattle.std.proofs.lemmas.List.{take-append-le}
use Rattle.wf_io.specs.Bytes.{Puts, PutsPart}

module _ {S : Type 0} (took : S → List ℕ → Type 0) where
  -- bytes, and then more bytes
  pub puts_both : (a b c : S) (xs ys : List ℕ) → Puts took a b xs → Puts took b c ys → Puts took a c (xs ++ ys)
  puts_both a b c xs ys first second before t =
      subst (took c) (append_assoc before xs ys) (second (before ++ xs) (first before t))

  -- a stop within the first of two lists
  pub stops_early : (a b : S) (start : ℕ) (xs ys : List ℕ) (written : ℕ) → PutsPart took a b start xs written
      → PutsPart took a b start (xs ++ ys) written
  stops_early a b start xs ys written part = record {
    least = part.least;
    short = omega (arith, length-append xs ys, part.short);
    front = rw (take-append-le (written - start) xs ys (omega (arith, part.least, part.short))) part.front;
  }

  -- a stop within the second of two lists, which begins at `middle`
  pub stops_late : (a b c : S) (start middle : ℕ) (xs ys : List ℕ) (written : ℕ) → Puts took a b xs → middle ≡ start + length xs
      → PutsPart took b c middle ys written → PutsPart took a c start (xs ++ ys) written
  stops_late a b c start middle xs ys written first at part =
      let n : ℕ = written - middle in
      let past : written - start ≡ length xs + n = omega (arith, part.least, at) in
      record {
        least = omega (arith, part.least, at);
        short = omega (arith, length-append xs ys, part.short, at);
        front = rw (past, take-append-add xs ys n) (puts_both a b c xs (take n ys) first part.front);
      }
