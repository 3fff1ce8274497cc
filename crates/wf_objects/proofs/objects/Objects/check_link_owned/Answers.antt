use Rattle.std.proofs.Common.{◌≡◌, ◌∙◌, ℕ, ◌&&◌, ◌==◌, Bool, List, Err, sym, ap, refl}
use Rattle.std.specs.List.{list_any}
use Rattle.wf_words.specs.Found.{any_first, none_at, some_at}
use Rattle.wf_model.specs.Objects.{Context, Source}
use Rattle.wf_model.specs.Composition.{device, is_of_device}
use Rattle.wf_model.specs.Core.{owned_source}
use Rattle.wf_objects.specs.Links.{links}
use Rattle.wf_objects.specs.Owners.{passed}
use Rattle.wf_objects.specs.Sides.{core_side_of}
use Rattle.wf_model.specs.Outcome.{without_value}
use Rattle.wf_objects.proofs.objects.Objects.check_link_owned.Goals as goal
use Rattle.wf_objects.proofs.objects.Objects.check_link_owned.Goals.{After-is_owned}

-- the link of the device that is sought, where the device has these contexts
abbrev sought_in : ℕ → ℕ → List Context → Source → Bool
sought_in link device contexts s = (s.handle == link) && list_any (λ c. (c.handle == s.context) && (c.device == device)) contexts

abbrev is_sought : After-is_owned → Source → Bool
is_sought c = sought_in c.args.link c.args.device c.args.self.now.contexts

-- what was asked of the links
asked : (c : After-is_owned) → c.is_owned.result ≡ list_any (is_sought c) (links c.args.mask c.args.self.now)
asked c =
    let contexts = c.deref.ensures.value ∙ ap (λ k. k.contexts) c.self.view_is in
    c.is_owned.ensures ∙ ap (list_any (sought_in c.args.link c.args.device c.deref.result.now)) c.links.ensures
    ∙ ap (λ cs. list_any (sought_in c.args.link c.args.device cs) (links c.args.mask c.args.self.now)) contexts

pub returns-then-not-is_owned-clause-owned : goal.returns-then-not-is_owned-clause-owned
returns-then-not-is_owned-clause-owned c =
    let a = c.args in
    let k = (goal.at.returns-then-not-is_owned-clause-owned c).After-is_owned in
    let xs = links a.mask a.self.now in
    let w = core_side_of a.self.now a.store.now in
    ap Err c.of.ensures
    ∙ sym (ap without_value (passed (device a.device w) (owned_source a.device a.link xs w) c.in_ok-check_device.ensures)
    ∙ rw (none_at (is_sought k) xs (sym (asked k) ∙ c.if-not-is_owned.true)) refl)

pub returns-clause-owned : goal.returns-clause-owned
returns-clause-owned c =
    let a = c.args in
    let k = (goal.at.returns-clause-owned c).After-is_owned in
    let xs = links a.mask a.self.now in
    let w = core_side_of a.self.now a.store.now in
    let s = some_at (is_sought k) xs (sym (asked k) ∙ c.if-not-is_owned.false) in
    sym (ap without_value (passed (device a.device w) (owned_source a.device a.link xs w) c.in_ok-check_device.ensures) ∙ rw s.1 refl)

pub returns-clause-live : goal.returns-clause-live
returns-clause-live c =
    let a = c.args in
    let k = (goal.at.returns-clause-live c).After-is_owned in
    any_first (λ s. s.handle == a.link) (λ s. is_of_device a.device a.self.now s.context) (links a.mask a.self.now)
    (sym (asked k) ∙ c.if-not-is_owned.false)
