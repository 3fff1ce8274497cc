use Rattle.std.proofs.Common.{◌∙◌, ap, subst, sym}
use Rattle.std.specs.Prelude.{option_map}
use Rattle.wf_serve.specs.Pictures.{band_or_whole}
use Rattle.wf_serve.specs.Putting.{Writes}
use Rattle.wf_serve.proofs.pictures.put_changes.Goals as goal

pub returns-in-Some-clause-writes : goal.returns-in-Some-clause-writes
returns-in-Some-clause-writes g c =
    subst (λ o. Writes g.K.Sink.took c.args.out.now c.put_band.new.out (band_or_whole c.args.tick c.args.port c.args.image.now o)
    c.put_band.result) (sym (ap (option_map (λ b. b.now)) c.in-Some.is) ∙ c.last_of.ensures.last) c.put_band.ensures.writes

pub returns-in-None-clause-writes : goal.returns-in-None-clause-writes
returns-in-None-clause-writes g c =
    subst (λ o. Writes g.K.Sink.took c.args.out.now c.put_film.new.out (band_or_whole c.args.tick c.args.port c.args.image.now o)
    c.put_film.result) (sym (ap (option_map (λ b. b.now)) c.in-None.is) ∙ c.last_of.ensures.last) c.put_film.ensures.writes
