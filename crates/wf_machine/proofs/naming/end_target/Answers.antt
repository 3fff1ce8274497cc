use Rattle.std.proofs.Common.{◌≡◌, ℕ, [], ◌∷◌, sym, subst}
use Rattle.wf_calls.specs.declared.call.JobKind.{JobKind}
use Rattle.wf_calls.specs.declared.call.JobKind.TheVariants as kind
use Rattle.wf_stream.specs.Streams.{StoreView}
use Rattle.wf_stream.specs.Names.{NamesFit}
use Rattle.wf_stream.specs.Renames.{Renames, same_names}
use Rattle.wf_machine.specs.Naming.{drawn_names}
use Rattle.wf_machine.proofs.FrameNames.{first_fit, may_end, more_ended, others_left}
use Rattle.wf_machine.proofs.naming.end_target.Goals as goal

-- the target is named twice
twice : (v : StoreView) (k : JobKind) (handle target : ℕ) → k ≡ kind.Context handle target → NamesFit (drawn_names k) v
    → NamesFit (target ∷ target ∷ []) v
twice v k handle target is fit = subst (λ j. NamesFit (drawn_names j) v) is fit

pub end_name-requires : goal.end_name-requires
end_name-requires c = record {
  counted = c.requires.counted;
  named = may_end _ _ (first_fit _ (c.in-Context.target ∷ []) (c.in-Context.target ∷ []) (twice _ _ _ _ c.in-Context.is c.requires));
}

pub end_name-requires-in-Context : goal.end_name-requires-in-Context
end_name-requires-in-Context c =
    let first = c.end_name.ensures in
    let left = others_left _ _ (c.in-Context.target ∷ []) (c.in-Context.target ∷ []) (twice _ _ _ _ c.in-Context.is c.requires)
    (record { names = first.names; none = first.none; rest = first.rest }) in
    record { counted = left.counted; named = may_end _ _ left }

pub returns-in-Context : goal.returns-in-Context
returns-in-Context c =
    let first = c.end_name.ensures in
    let second = c.end_name-in-Context.ensures in
    subst (λ k. Renames (drawn_names k) [] c.args.store.now c.end_name-in-Context.new.store) (sym c.in-Context.is)
    (more_ended _ _ _ _ _ c.requires.counted (record { names = first.names; none = first.none; rest = first.rest })
    (record { names = second.names; none = second.none; rest = second.rest }))

pub returns-in_default : goal.returns-in_default
returns-in_default c =
    subst (λ k. Renames (drawn_names k) [] c.args.store.now c.args.store.now) (sym c.in_default.is) (same_names _)
