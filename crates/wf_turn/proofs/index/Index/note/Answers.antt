use Rattle.wf_turn.proofs.Common.{◌≡◌, ◌∙◌, ◌++◌, ◌∷◌, [], Some, ap, arith, bytes_eq, cond, is_some, false, true, length, length-map}
use Rattle.wf_turn.proofs.Common.{names_of, sym}
use Rattle.wf_turn.specs.Index.{told}
use Rattle.wf_turn.proofs.Places.{put_back, put_first, told_again, told_new}
use Rattle.wf_turn.proofs.index.Index.note.Goals as goal

pub returns-in-None-clause-places : goal.returns-in-None-clause-places
returns-in-None-clause-places c =
    let self = c.args.self.now in
    let name = c.args.name.now in
    let is : is_some (told self name) ≡ false = ap is_some (sym c.in_ok-put.ensures.before ∙ c.in-None.is) in
    let place : c.len-place.result ≡ length (names_of self) =
    omega (arith, c.len-place.ensures, length-map self.names.items (λ n. n.now)) in
    told_new (told self) (told c.put.new.self) name (names_of self) c.requires.index.places is
    (λ q. c.in_ok-put.ensures.places q ∙ ap (λ k. cond (bytes_eq name q) (Some k) (told self q)) place)

pub returns-in-None-clause-first : goal.returns-in-None-clause-first
returns-in-None-clause-first c =
    let self = c.args.self.now in
    let name = c.args.name.now in
    put_first (told c.put.new.self) name (names_of self ++ name ∷ []) c.len-place.result (told self name) (returns-in-None-clause-places c)
    (c.in_ok-put.ensures.places name)

pub returns-in_ok-put-in-Some-clause-places : goal.returns-in_ok-put-in-Some-clause-places
returns-in_ok-put-in-Some-clause-places c = λ q.
    let self = c.args.self.now in
    let name = c.args.name.now in
    let stood = sym c.in-Some.is ∙ c.in_ok-put.ensures.before in
    let is : is_some (told self name) ≡ true = ap is_some (sym stood) in
    put_back (told self) (told c.put.new.self) (told c.put-in-Some.new.self) name c.len-place.result c.in-Some.first stood
    c.in_ok-put.ensures.places c.in_ok-put-in-Some.ensures.places q
    ∙ told_again (told self) name (names_of self) c.requires.index.places is q

pub returns-in_ok-put-in-Some-clause-first : goal.returns-in_ok-put-in-Some-clause-first
returns-in_ok-put-in-Some-clause-first c =
    let self = c.args.self.now in
    let name = c.args.name.now in
    put_first (told c.put-in-Some.new.self) name (names_of self ++ name ∷ []) c.in-Some.first (told c.put.new.self name)
    (returns-in_ok-put-in-Some-clause-places c) (c.in_ok-put-in-Some.ensures.places name)
