use Rattle.std.proofs.Common.{◌≡◌, ℕ, ◌-◌, ◌/◌, ◌*◌, List, length, take, drop, replicate, arith, ◌∙◌, ap}
use Rattle.std.proofs.lemmas.List.{take_all}
use Rattle.wf_row.specs.Gather.{reversed}
use Rattle.wf_row.proofs.Rows.{pad_length}
use Rattle.wf_row.proofs.Reversals.{padded_reversed, reversed_count}
use Rattle.wf_row.proofs.reversing.reverse_rest.Goals as goal

pub returns : goal.returns
returns c =
    let src : List ℕ = c.args.src.now in
    let n : ℕ = 16 - length src in
    let zeros : List ℕ = drop (length src) (replicate 16 0) in
    let zeros_len : length zeros ≡ n = pad_length 16 (length src) in
    let m : ℕ = length src / 4 in
    let last : drop n c.reverse_lanes.result ≡ reversed src =
    ap (drop n) (c.reverse_lanes.ensures.value ∙ ap reversed c.padded_four.ensures.value)
    ∙ padded_reversed m (4 - m) n src zeros (omega arith) (omega arith) (omega arith) in
    let count : length (reversed src) ≡ 4 * m = reversed_count m src (omega arith) in
    c.copy_from_slice.ensures.after ∙ ap (take (16 - n)) last ∙ take_all (16 - n) (reversed src) (omega arith)
