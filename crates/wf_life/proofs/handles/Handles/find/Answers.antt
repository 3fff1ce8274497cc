use Rattle.std.proofs.Common.{◌≡◌, true, false, refl, sym, ap, ◌∙◌}
use Rattle.std.specs.Option.{option_copied}
use Rattle.wf_life.specs.Handles.{same_kind}
use Rattle.wf_life.proofs.Tables.{key_of_lookup, is_live_lookup, same_test}
use Rattle.wf_life.proofs.handles.Handles.find.Goals as goal

pub returns-in-Some-clause-found : goal.returns-in-Some-clause-found
returns-in-Some-clause-found c =
    let by_map = key_of_lookup 0 c.self.inside.made c.args.handle c.args.kind c.self.inside.live.entries c.self.invariant.rising in
    let same : same_kind c.in-Some.object.now.kind c.args.kind ≡ true = sym (same_test c.in-Some.object.now.kind c.args.kind)
    ∙ sym c.eq.ensures ∙ c.if-eq.true in
    rw (← c.self.view_is, by_map, ← c.in-Some.ensures.value, same) refl

pub returns-in-Some-clause-live : goal.returns-in-Some-clause-live
returns-in-Some-clause-live c =
    rw (← c.self.view_is, is_live_lookup c.args.handle c.self.inside.live.entries, ← c.in-Some.ensures.value) refl

pub returns-in_default-clause-found : goal.returns-in_default-clause-found
returns-in_default-clause-found c =
    let by_map = key_of_lookup 0 c.self.inside.made c.args.handle c.args.kind c.self.inside.live.entries c.self.invariant.rising in
    let other : same_kind c.in-Some.object.now.kind c.args.kind ≡ false = sym (same_test c.in-Some.object.now.kind c.args.kind)
    ∙ sym c.eq.ensures ∙ c.if-eq.false in
    rw (← c.self.view_is, by_map, ← c.in-Some.ensures.value, other) refl

pub returns-in_default-2-clause-found : goal.returns-in_default-2-clause-found
returns-in_default-2-clause-found c =
    let by_map = key_of_lookup 0 c.self.inside.made c.args.handle c.args.kind c.self.inside.live.entries c.self.invariant.rising in
    let none = sym (ap option_copied c.in_default.is) ∙ c.get.ensures.value in
    rw (← c.self.view_is, by_map, ← none) refl
