use Rattle.std.proofs.Common.{◌∙◌, ◌≤◌, ℕ, List, sym, ap, arith}
use Rattle.wf_script.specs.Grammar.{nothing_read, read_lines}
use Rattle.wf_script.specs.Reader.{reading}
use Rattle.wf_script.specs.Words.{lines_of}
use Rattle.wf_script.proofs.LineRow.{ended, line_fault_is, line_taken, no_end, too_many}
use Rattle.wf_script.proofs.reading.read_lines.Goals as goal
use Rattle.wf_script.specs.declared.TheConstants.{MOST_LINES}

pub returns-then-number-gt-MOST_LINES : goal.returns-then-number-gt-MOST_LINES
returns-then-number-gt-MOST_LINES c =
    let n = c.loop-line.number in
    let r = reading c.loop-line.reader in
    sym c.loop-line.invariant.same ∙ ap (λ (ls : List (List ℕ)). read_lines n r ls) c.in-Some.ensures.lines
    ∙ too_many n r c.in-Some.line.now (lines_of c.in-Some.behind.now) c.if-number-gt-MOST_LINES.true

pub returns-in-Err : goal.returns-in-Err
returns-in-Err c =
    let n = c.loop-line.number in
    let r = reading c.loop-line.reader in
    let few : n ≤ MOST_LINES = omega arith in
    rw c.fault_at.ensures
    (line_fault_is n r (reading c.line.new.self) c.in-Err.fault c.in-Some.line.now (lines_of c.in-Some.behind.now)
    (read_lines 2 nothing_read (lines_of c.args.bytes.now)) few c.in-Err.ensures.read
    (sym (ap (λ (ls : List (List ℕ)). read_lines n r ls) c.in-Some.ensures.lines) ∙ c.loop-line.invariant.same))

pub loop-line-preserved : goal.loop-line-preserved
loop-line-preserved c =
    let n = c.loop-line.number in
    let r = reading c.loop-line.reader in
    let few : n ≤ MOST_LINES = omega arith in
    record {
      same = sym (line_taken n r (reading c.line.new.self) c.in-Some.line.now (lines_of c.in-Some.behind.now) few
          c.in_default-line.ensures.read)
          ∙ sym (ap (λ (ls : List (List ℕ)). read_lines n r ls) c.in-Some.ensures.lines) ∙ c.loop-line.invariant.same;
      right = c.in_default-line.ensures.right;
      few = omega arith;
    }

pub returns-then-not-reader : goal.returns-then-not-reader
returns-then-not-reader c =
    let n = c.loop-line.number in
    let r = reading c.loop-line.reader in
    sym c.loop-line.invariant.same ∙ ap (λ (ls : List (List ℕ)). read_lines n r ls) c.in_default.ensures.lines
    ∙ no_end n r c.if-not-reader.true

pub returns : goal.returns
returns c =
    let n = c.loop-line.number in
    let r = reading c.loop-line.reader in
    sym c.loop-line.invariant.same ∙ ap (λ (ls : List (List ℕ)). read_lines n r ls) c.in_default.ensures.lines
    ∙ ended n r c.if-not-reader.false
