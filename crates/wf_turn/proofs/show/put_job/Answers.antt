use Rattle.wf_film.proofs.PutFrames.{no_frames}
use Rattle.wf_turn.proofs.show.put_job.Goals as goal

pub returns-in-Context-clause-all : goal.returns-in-Context-clause-all
returns-in-Context-clause-all g c =
    rw c.in-Context.is (no_frames g.K.Sink.took c.args.writer.now.form c.args.k.now c.args.writer.now.written)
