use Rattle.std.proofs.Common.{◌<◌, length, arith}
use Rattle.std.proofs.lemmas.Bool.Decides.{nat_tests}
use Rattle.wf_script.proofs.Cuts.{first_line, no_line}
use Rattle.wf_script.proofs.words.next_line.Goals as goal

pub returns-then-is_empty-clause-lines : goal.returns-then-is_empty-clause-lines
returns-then-is_empty-clause-lines c = no_line c.args.text.now (grind (arith, nat_tests))

pub returns-else-is_empty-clause-lines : goal.returns-else-is_empty-clause-lines
returns-else-is_empty-clause-lines c =
    let some : 0 < length c.args.text.now = grind (arith, nat_tests) in
    rw (c.cut_at.ensures.front, c.cut_at.ensures.behind) (first_line c.args.text.now some)
