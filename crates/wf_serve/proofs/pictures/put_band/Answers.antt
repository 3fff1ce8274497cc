use Rattle.std.proofs.Common.{◌++◌, List, ℕ, subst}
use Rattle.byteorder.specs.Endian.{big_bytes}
use Rattle.wf_host.specs.Reading.{row_bytes}
use Rattle.wf_serve.specs.Bands.{band_in}
use Rattle.wf_serve.specs.Pictures.{head_bytes}
use Rattle.wf_serve.specs.Putting.{Writes}
use Rattle.wf_serve.specs.declared.bands.Band.{Band}
use Rattle.wf_serve.proofs.pictures.put_band.Goals as goal

pub returns-clause-writes : goal.returns-clause-writes
returns-clause-writes g c =
    subst (λ (b : Band). Writes g.K.Sink.took c.args.out.now c.put_three.new.out
    (head_bytes 66 c.args.tick c.args.port c.args.image.now
    ++ ((big_bytes 2 b.first ++ big_bytes 2 b.count) ++ band_in (row_bytes c.args.image.now) b c.args.image.now.bytes))
    c.put_three.result) c.changed_band-band.ensures.band
    (subst (λ (bytes : List ℕ). Writes g.K.Sink.took c.args.out.now c.put_three.new.out bytes c.put_three.result)
    (λ i. c.head_of.ensures i ++ (c.place_of.ensures i ++ c.rows_in.ensures i)) c.put_three.ensures.writes)
