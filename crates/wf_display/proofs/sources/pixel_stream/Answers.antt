use Rattle.std.proofs.Common.{◌∙◌, Err, ap, false, sym, true}
use Rattle.std.specs.Option.{option_copied}
use Rattle.wf_pixel.specs.Choice.{is_a8}
use Rattle.wf_display.proofs.SourcesMade.{found_format, is_kept}
use Rattle.wf_display.proofs.sources.pixel_stream.Goals as goal

pub unreachable-requires : goal.unreachable-requires
unreachable-requires c = is_kept c.args.stream c.in-Ok.number _ c.args.store.now.streams c.in-Ok.ensures.numbered c.in-Ok.ensures.number
    (sym c.get.ensures.value ∙ ap option_copied c.in_default-get.is)

pub returns-then-is_a8-clause-found : goal.returns-then-is_a8-clause-found
returns-then-is_a8-clause-found c =
    ap Err c.of-then-is_a8.ensures
    ∙ sym (found_format c.args.stream c.in-Ok.number _ c.args.store.now.streams c.in-Ok.ensures.numbered c.in-Ok.ensures.number
    c.in-Some.found.now true c.in-Some.ensures.value (ap is_a8 (sym c.format.ensures) ∙ sym c.is_a8.ensures ∙ c.if-is_a8.true))

pub returns-clause-found : goal.returns-clause-found
returns-clause-found c =
    sym (found_format c.args.stream c.in-Ok.number _ c.args.store.now.streams c.in-Ok.ensures.numbered c.in-Ok.ensures.number
    c.in-Some.found.now false c.in-Some.ensures.value (ap is_a8 (sym c.format.ensures) ∙ sym c.is_a8.ensures ∙ c.if-is_a8.false))
