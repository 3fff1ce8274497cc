use Rattle.std.proofs.Common.{◌∙◌, ◌==◌, take, length, unwrap_or, ap}
use Rattle.wf_script.proofs.Cuts.{place_or_end}
use Rattle.wf_play.proofs.parts.without_comment.Goals as goal

pub returns : goal.returns
returns c =
    let line = c.args.line.now in
    c.cut_out.ensures.front ∙ ap (λ n. take n line) (c.unwrap_or-place.ensures ∙ ap (λ o. unwrap_or o (length line)) c.comment_in.ensures
    ∙ place_or_end (λ b. b == 35) line)
