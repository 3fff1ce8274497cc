use Rattle.std.proofs.Common.{◌∙◌, ◌==◌, ◌||◌, ◌&&◌, ℕ, List, Bor, Option, option_map, option_to_list, sym, ap}
use Rattle.std.proofs.lemmas.Slice.Eq.{bytes_eq-Decides}
use Rattle.std.specs.List.{list_any}
use Rattle.std.specs.Str.{bytes_eq}
use Rattle.wf_script.specs.Seen.{clients_of, is_among, sees}
use Rattle.wf_script.specs.Visible.{is_name_in}
use Rattle.wf_script.proofs.Sight.{among_more, or_none}
use Rattle.wf_script.proofs.seen.Seen.bind.Goals as goal

pub returns-clause-more : goal.returns-clause-more
returns-clause-more c = λ other word small.
    let seen = c.args.self.now in
    let name = c.in-Some.name.now in
    let clients = c.clients_with-clients in
    let extra = c.args.in_setup || (c.args.client == other) in
    ap (is_among other) (c.in_ok-before.ensures.told word)
    ∙ among_more other (bytes_eq name word) extra (clients_of seen word) clients.result
    (λ hit. clients.ensures.seen other small ∙ ap (λ w. sees seen other w || extra) ((bytes_eq-Decides name word).0 hit))
    ∙ ap (λ (o : Option (Bor (List ℕ))). sees seen other word || (is_name_in word (option_map (λ w. w.now) o) && extra)) (sym c.in-Some.is)

pub returns-clause-taken : goal.returns-clause-taken
returns-clause-taken c =
    let seen = c.args.self.now in
    let client = c.args.client in
    c.is_among.ensures
    ∙ ap (is_among client) c.in_ok-before.ensures.before
    ∙ or_none (sees seen client c.in-Some.name.now)
    ∙ ap (λ (o : Option (Bor (List ℕ))). list_any (sees seen client) (option_to_list (option_map (λ w. w.now) o))) (sym c.in-Some.is)
