use Rattle.std.proofs.Common.{subst, List, ℕ, ◌∙◌}
use Rattle.wf_play.specs.Notes.{PutsOrFront}
use Rattle.wf_play.proofs.Fronts.{put_front}
use Rattle.wf_play.proofs.notes.put_line.Goals as goal

pub returns-clause-line : goal.returns-clause-line
returns-clause-line g c =
    let before = g.N.Sink.faults c.args.notes.now in
    let now = g.N.Sink.faults c.write_all.new.k in
    subst (λ (bytes : List ℕ). PutsOrFront g.N.Sink.took c.args.notes.now c.write_all.new.k before now bytes) (c.as_slice.ensures.value
    ∙ c.note_in.ensures)
    (put_front g.N.Sink.took c.args.notes.now c.write_all.new.k before now c.as_slice.result.now c.write_all.result c.write_all.ensures.all
    c.write_all.ensures.part c.write_all.ensures.cause)
