use Rattle.wf_turn.proofs.Common.{◌∙◌, ap, sym, slice_get, names_of, known, value_of}
use Rattle.wf_turn.proofs.Values.{found_at, value_at}
use Rattle.wf_turn.proofs.names.Names.value.Goals as goal

pub returns-in-Some : goal.returns-in-Some
returns-in-Some c =
    let t = c.self.inside in
    c.value_at.ensures ∙ ap (λ xs. slice_get xs c.in-Some.place) c.deref.ensures.value
    ∙ ap (value_at t.values.items) (sym c.in-Some.is ∙ c.place_from.ensures) ∙ found_at _ (names_of t.index) t.values.items
    ∙ ap (λ s. value_of c.args.name.now (known s)) c.self.view_is

pub returns-in-None : goal.returns-in-None
returns-in-None c =
    let t = c.self.inside in
    ap (value_at t.values.items) (sym c.in-None.is ∙ c.place_from.ensures) ∙ found_at _ (names_of t.index) t.values.items
    ∙ ap (λ s. value_of c.args.name.now (known s)) c.self.view_is
