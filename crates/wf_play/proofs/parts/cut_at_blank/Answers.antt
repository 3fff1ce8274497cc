use Rattle.std.proofs.Common.{◌∙◌, ◌+◌, take, drop, length, unwrap_or, ap}
use Rattle.wf_script.proofs.Cuts.{place_or_end}
use Rattle.wf_script.specs.Words.{is_blank}
use Rattle.wf_play.proofs.parts.cut_at_blank.Goals as goal

pub returns-clause-front : goal.returns-clause-front
returns-clause-front c =
    let text = c.args.text.now in
    c.cut_out.ensures.front ∙ ap (λ n. take n text) (c.unwrap_or-place.ensures ∙ ap (λ o. unwrap_or o (length text)) c.blank_in.ensures
    ∙ place_or_end is_blank text)

pub returns-clause-behind : goal.returns-clause-behind
returns-clause-behind c =
    let text = c.args.text.now in
    c.cut_out.ensures.behind ∙ ap (λ n. drop (n + 1) text) (c.unwrap_or-place.ensures
    ∙ ap (λ o. unwrap_or o (length text)) c.blank_in.ensures ∙ place_or_end is_blank text)
