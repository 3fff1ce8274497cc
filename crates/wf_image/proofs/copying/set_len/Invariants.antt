use Rattle.std.proofs.Common.{◌≡◌, ◌++◌, ◌-◌, length, replicate, take, None}
use Rattle.wf_image.proofs.copying.set_len.Given as goal

-- the places that stay, and as many empty ones as there are behind them so far
abbrev pub invariant-loop : goal.invariant-loop
invariant-loop l =
    record {
      count : length l.places.items ≡ l.counter;
      places : l.places.items ≡ take l.n l.fn.places.items ++ replicate (l.counter - length l.fn.places.items) None;
    }
