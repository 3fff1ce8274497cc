use Rattle.std.proofs.Common.{◌∙◌, get_or, None}
use Rattle.std.proofs.lemmas.List.{get_or_default}
use Rattle.wf_image.proofs.Copied.{known_as, place_left, place_copied}
use Rattle.wf_image.proofs.copying.copy_places.Goals as goal

pub copy_place-requires : goal.copy_place-requires
copy_place-requires c =
    let i = c.loop-i.i in
    let within = c.loop-i-test.true in
    record {
      known =
          known_as c.args.same.now (get_or c.loop-i.places i c.index-places-i.result) (get_or c.args.places.now i None)
          c.index-from-i.result
          (get_or c.args.from.now i None)
          (place_left c.args.places.now c.args.from.now c.loop-i.places i c.index-places-i.result c.loop-i.invariant c.requires.count
          within)
          (c.index-from-i.is ∙ get_or_default c.args.from.now i c.index-from-i.result None within) (c.requires.known i within);
    }

pub loop-i-preserved : goal.loop-i-preserved
loop-i-preserved c =
    place_copied c.args.places.now c.args.from.now c.loop-i.places c.loop-i.i c.copy_place.new.place c.index-from-i.result
    c.loop-i.invariant c.requires.count c.loop-i-test.true (c.in_ok-copy_place.ensures ∙ c.index-from-i.is)
