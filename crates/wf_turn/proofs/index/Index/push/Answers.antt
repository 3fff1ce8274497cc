use Rattle.wf_turn.proofs.Common.{◌≡◌, ◌∙◌, ◌++◌, ◌∷◌, [], List, Name, ap, arith, length, length-append, map, names_of, place_in, subst}
use Rattle.wf_turn.proofs.Common.{sym}
use Rattle.std.proofs.lemmas.List.{map-append}
use Rattle.wf_turn.proofs.Places.{AreFirsts, firsts_more}
use Rattle.wf_turn.proofs.index.Index.push.Goals as goal

pub returns-clause-index : goal.returns-clause-index
returns-clause-index c =
    let self = c.args.self.now in
    let name = c.args.name in
    let names : map (λ n. n.now) c.push.new.self.items ≡ names_of self ++ name.now ∷ [] =
    ap (map (λ n. n.now)) (c.in_ok-push.ensures.items ∙ ap (λ ns. ns.items ++ name ∷ []) c.in_ok-first.ensures.names)
    ∙ map-append (λ n. n.now) self.names.items (name ∷ []) in
    let firsts : c.push-2.new.self.items ≡ self.firsts.items ++ c.in_ok-first.first ∷ [] =
    c.in_ok-push-2.ensures.items ∙ ap (λ fs. fs.items ++ c.in_ok-first.first ∷ []) c.in_ok-first.ensures.firsts in
    record {
      places = λ q. c.in_ok-first.ensures.places q ∙ ap (place_in q) (sym names);
      count = ap length firsts ∙ omega (
        arith,
        length-append self.firsts.items (c.in_ok-first.first ∷ []),
        length-append (names_of self) (name.now ∷ []),
        c.requires.index.count,
      ) ∙ ap length (sym names);
      firsts = subst (λ (ns : List Name). AreFirsts ns c.push-2.new.self.items) (sym names)
          (subst (AreFirsts (names_of self ++ name.now ∷ [])) (sym firsts)
          (firsts_more name.now (names_of self) self.firsts.items c.in_ok-first.first c.requires.index.count c.requires.index.firsts
          c.in_ok-first.ensures.first));
    }
