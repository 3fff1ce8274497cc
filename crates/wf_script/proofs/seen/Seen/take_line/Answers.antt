use Rattle.std.proofs.Common.{◌∙◌, ◌==◌, ◌||◌, ◌&&◌, ℕ, List, Option, sym, ap}
use Rattle.wf_script.specs.Seen.{sees}
use Rattle.wf_script.specs.Visible.{is_name_in}
use Rattle.wf_script.proofs.Sight.{sees_more}
use Rattle.wf_script.proofs.seen.Seen.take_line.Goals as goal

pub returns-clause-right : goal.returns-clause-right
returns-clause-right c = λ lines line client name right.
    let seen = c.args.self.now in
    let in_setup = c.stays_setup-in_setup.result in
    sees_more seen (record { clients = c.bind.new.self.clients; in_setup = in_setup }) lines line
    (c.stays_setup-in_setup.ensures ∙ ap (λ k. seen.in_setup && (k == 0)) (sym client))
    (λ other word small.
    c.in_ok-taken.ensures.more other word small
    ∙ ap (λ (n : Option (List ℕ)). sees seen other word || (is_name_in word n && (in_setup || (c.args.client == other)))) (sym name)
    ∙ ap (λ k. sees seen other word || (is_name_in word line.name && (in_setup || (k == other)))) (sym client))
    right
