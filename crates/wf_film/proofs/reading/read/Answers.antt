use Rattle.std.proofs.Common.{arith}
use Rattle.wf_film.proofs.FilmLaws.{no_fault, told_only, told_stands, told_whole}
use Rattle.wf_film.proofs.PlaceLaws.{told_in_film}
use Rattle.wf_film.proofs.reading.read.Goals as goal

pub returns-in-Ok-clause-film : goal.returns-in-Ok-clause-film
returns-in-Ok-clause-film c =
    told_stands c.args.bytes.now c.in-Ok.film (λ i. omega (arith, c.type_inv.bytes i)) c.in-Ok.ensures

pub returns-in-Ok-clause-only : goal.returns-in-Ok-clause-only
returns-in-Ok-clause-only c = λ plain stands. told_only c.args.bytes.now c.in-Ok.film plain c.in-Ok.ensures stands

pub returns-in-Ok-clause-whole : goal.returns-in-Ok-clause-whole
returns-in-Ok-clause-whole c =
    told_whole c.args.bytes.now c.in-Ok.film (λ i. omega (arith, c.type_inv.bytes i)) c.in-Ok.ensures

pub returns-in-Err-Breaks-clause-only : goal.returns-in-Err-Breaks-clause-only
returns-in-Err-Breaks-clause-only c = λ plain stands.
    absurd (no_fault c.args.bytes.now c.in-Err-Breaks.broken plain (rw c.in-Err-Breaks.field-0-is at c.in-Err-Breaks.ensures) stands)

pub of-requires : goal.of-requires
of-requires c = told_in_film c.args.bytes.now c.in-Err-Breaks.broken (rw c.in-Err-Breaks.field-0-is at c.in-Err-Breaks.ensures)
