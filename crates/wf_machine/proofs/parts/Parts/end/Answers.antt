use Rattle.std.proofs.lemmas.Option.{none-some, same_Some}
use Rattle.wf_machine.proofs.Common.{◌≡◌, [], true, ap, sym, ◌∙◌, refl, subst, option_map, StoreView, brought_home, delivered, Inside}
use Rattle.std.specs.Prelude.{if◌then◌else◌}
use Rattle.wf_machine.proofs.Common.{IfSome, IsDue, Job, Option, Some, State, end, Reply, Bool, None, Bitmap, Frame}
use Rattle.std.specs.Option.{IsSome, option_copied}
use Rattle.wf_machine.proofs.Common.{bare, Holds, IsSound, is_of_running, running_of, settled_so, state_of}
use Rattle.wf_calls.specs.declared.reply.Answer.{Answer}
use Rattle.wf_calls.specs.Places.{Place, is_held, job_in, says_held}
use Rattle.wf_calls.specs.Replies.{with_job}
use Rattle.wf_stream.specs.Names.{NamesFit}
use Rattle.wf_stream.specs.Renames.{Renames}
use Rattle.wf_machine.specs.Naming.{held_names}
use Rattle.wf_machine.proofs.ActsAreTheModels.{as_settled}
use Rattle.wf_machine.proofs.FrameEndedKeepsInvariant.{HasEnded, ending_awaited, ending_due, left_ended, none_of, ran_fits, ran_kind}
use Rattle.wf_machine.proofs.FrameEndedKeepsInvariant.{sound_ended}
use Rattle.wf_machine.proofs.FrameEndedKeepsInvariant.{stays_running}
use Rattle.wf_machine.proofs.FrameEndedKeepsInvariant.{was_running}
use Rattle.wf_machine.proofs.FrameCounts.{ended_fit, sound_untold, untold_seen}
use Rattle.wf_machine.proofs.parts.Parts.end.Goals as goal

-- the Job that stands in the place is ended
of_job : (h left : State) (answer : Answer) (before after : Option Job) (job : Job) → before ≡ Some job
    → settled_so (end job h) ≡ (left, with_job answer after) → IfSome before (λ j. settled_so (end j h) ≡ (left, with_job answer after))
of_job h left answer before after job is ends = rw is ends

-- the image that is taken out of a place is its Job's
image_is_own : (image : Bitmap) (there : Bool) (job : Job) → there ≡ true
    → Some image ≡ option_map (λ (j : Job). j.image) (if there then Some job else None) → image ≡ job.image
image_is_own image there job is_there is = same_Some image job.image (rw is_there at is)

-- the Job that is lent is the one that stands there, also once it came back
job_stands : (place : Place) (job : Job) → IsSome (job_in place) → job ≡ place.job → job_in place ≡ Some job
job_stands place job there is = is_held place there ∙ ap (λ j. Some j) (sym is)

back_stands : (place : Place) (job : Job) → IsSome (job_in place) → job_in (record place { job = job }) ≡ Some job
back_stands place job there = ap (λ b. if b then Some job else None) (says_held place there)

pub returns-then-not-is_of_running : goal.returns-then-not-is_of_running
returns-then-not-is_of_running c =
    let place = c.args.place.now in
    let job = c.job_mut-job.result.now in
    let back = back_stands place job c.requires in
    of_job _ _ _ _ _ job (job_stands place job c.requires c.job_mut-job.ensures.job)
    (as_settled _ _ _ (stays_running job c.args.self.now (with_job c.refuse.result (job_in (record place { job = job })))
    (sym c.is_of_running.ensures ∙ c.if-not-is_of_running.true) (λ i. with_job (c.refuse.ensures i) (back i))) c.prove_all_named.ensures)

pub unreachable-requires : goal.unreachable-requires
unreachable-requires c =
    none_of c.self.inside c.job_mut-job.result.now (sym c.running.ensures ∙ ap option_copied c.in_default.is)
    (was_running c.self.inside c.job_mut-job.result.now _ c.self.view_is (sym c.is_of_running.ensures ∙ c.if-not-is_of_running.false))

pub bring_home-requires-clause-awaited : goal.bring_home-requires-clause-awaited
bring_home-requires-clause-awaited c =
    ending_awaited c.self.inside c.job_mut-job.result.now (was_running c.self.inside c.job_mut-job.result.now _ c.self.view_is
    (sym c.is_of_running.ensures ∙ c.if-not-is_of_running.false)) c.self.invariant.holds

-- the Job still stands there when its images are home
pub unreachable-requires-in_default-end : goal.unreachable-requires-in_default-end
unreachable-requires-in_default-end c =
    none_held (c.args.place.now.held) _ (says_held c.args.place.now c.requires)
    (sym c.in_default-end.is ∙ c.end.ensures.image)
  where
    none_held : (there : Bool) (job : Job) → there ≡ true
        → None ≡ option_map (λ (j : Job). j.image) (if there then Some job else None) → ⊥
    none_held there job is_there is = none-some job.image (rw is_there at is)

-- the streams once the images of a Job, and then the one that it drew into, came home
came_home : (m : Inside) (job : Job) (image : Bitmap) (home now : StoreView) → image ≡ job.image
    → home ≡ record m.store { streams = brought_home job.contents m.store.streams }
    → now ≡ record home { streams = delivered job.kind image home.streams }
    → now ≡ record m.store { streams = delivered job.kind job.image (brought_home job.contents m.store.streams) }
came_home m job image home now own home_is now_is =
    now_is ∙ (λ i. record (home_is i) { streams = delivered job.kind (own i) (home_is i).streams })

pub deliver-requires : goal.deliver-requires
deliver-requires c =
    let m = c.self.inside in
    let job = c.job_mut-job.result.now in
    let own = image_is_own c.in-Some-end.image (c.args.place.now.held) _ (says_held c.args.place.now c.requires)
    (sym c.in-Some-end.is ∙ c.end.ensures.image) in
    subst (λ image. IsDue c.bring_home.new.store.streams m.ports.items c.in-Some.frame.now.mode job.kind image) (sym own)
    (subst (λ ss. IsDue ss m.ports.items c.in-Some.frame.now.mode job.kind job.image) (sym (ap (λ v. v.streams) c.bring_home.ensures))
    (ending_due m job (was_running m job c.args.self.now c.self.view_is (sym c.is_of_running.ensures ∙ c.if-not-is_of_running.false))
    c.self.invariant.holds c.in-Some.frame.now
    (sym c.running.ensures ∙ ap option_copied c.in-Some.is)))

pub end_names-requires : goal.end_names-requires
end_names-requires c =
    let m = c.self.inside in
    let job = c.job_mut-job.result.now in
    let f = c.in-Some.frame.now in
    let is = was_running m job c.args.self.now c.self.view_is (sym c.is_of_running.ensures ∙ c.if-not-is_of_running.false) in
    let ran = sym c.running.ensures ∙ ap option_copied c.in-Some.is in
    let own = image_is_own c.in-Some-end.image (c.args.place.now.held) _ (says_held c.args.place.now c.requires)
    (sym c.in-Some-end.is ∙ c.end.ensures.image) in
    let now : Inside = record m { store = c.deliver.new.store; ports = c.deliver.new.ports; frame = None } in
    subst (λ cs. NamesFit (held_names cs job.kind) c.deliver.new.store) (sym c.as_slice.ensures.value)
    (ended_fit m now job f c.self.invariant ran (ran_kind m job is c.self.invariant.holds f ran)
    (ran_fits m job is c.self.invariant.holds f ran)
    (came_home m job c.in-Some-end.image c.bring_home.new.store c.deliver.new.store own c.bring_home.ensures c.deliver.ensures.store)
    refl refl refl)

module _ (c : goal.After-done) where
  abbrev m : Inside
  m = c.self.inside

  abbrev job : Job
  job = c.job_mut-job.result.now

  is : is_of_running job (option_map running_of m.frame) ≡ true
  is = was_running m job c.args.self.now c.self.view_is (sym c.is_of_running.ensures ∙ c.if-not-is_of_running.false)

  abbrev frame : Frame
  frame = c.in-Some.frame.now

  ran : m.frame ≡ Some frame
  ran = sym c.running.ensures ∙ ap option_copied c.in-Some.is

  own : c.in-Some-end.image ≡ job.image
  own = image_is_own c.in-Some-end.image (c.args.place.now.held) _ (says_held c.args.place.now c.requires)
      (sym c.in-Some-end.is ∙ c.end.ensures.image)

  -- the machine before the store is told that the names ended
  abbrev now : Inside
  now = record m { store = c.deliver.new.store; ports = c.deliver.new.ports; frame = None }

  store_is : now.store ≡ record m.store { streams = delivered job.kind job.image (brought_home job.contents m.store.streams) }
  store_is = came_home m job c.in-Some-end.image c.bring_home.new.store c.deliver.new.store own c.bring_home.ensures
      c.deliver.ensures.store

  -- what is answered, and nothing is left in the place
  abbrev reply : Reply
  reply = with_job c.done.result (job_in c.end.new.self)

  ended : HasEnded m job is c.self.invariant.holds c.deliver.new.store c.deliver.new.ports.items reply
  ended =
      record {
        store = store_is;
        modes = c.deliver.ensures.modes;
        fit = c.deliver.ensures.there;
        reply_is = ap (with_job c.done.result) c.end.ensures.none ∙ ap bare c.done.ensures;
      }

  holds : Holds now
  holds = sound_ended m job is c.self.invariant.holds _ c.deliver.new.ports.items reply now refl refl refl refl refl
      refl ended

  told : Renames (held_names frame.contents.items job.kind) [] now.store c.end_names.new.store
  told =
      subst (λ cs. Renames (held_names cs job.kind) [] now.store c.end_names.new.store) c.as_slice.ensures.value
      c.end_names.ensures

-- the machine that is left, by what stands in the frame's place
abbrev left_with : goal.After-done → Option Frame → Inside
left_with c o = record (now c) { store = c.end_names.new.store; frame = o }

pub invariant_of-self : goal.invariant_of-self
invariant_of-self c =
    subst (λ o. IsSound (left_with c o)) (sym c.clear.ensures)
    (sound_untold (m c) (now c) (job c) (frame c) c.self.invariant (ran c)
    (ran_kind (m c) (job c) (is c) c.self.invariant.holds (frame c) (ran c))
    (ran_fits (m c) (job c) (is c) c.self.invariant.holds (frame c) (ran c)) (store_is c) refl refl refl
    (holds c) c.end_names.new.store (told c))

pub returns : goal.returns
returns c =
    of_job _ _ _ _ _ (job c) (job_stands c.args.place.now (job c) c.requires c.job_mut-job.ensures.job)
    (ap settled_so (left_ended (m c) (job c) (is c) c.self.invariant.holds _ _ (reply c) (now c) refl refl refl refl refl
    refl (ended c) c.args.self.now c.self.view_is)
    ∙ ap (λ s. (s, reply c)) (sym (untold_seen (m c) (now c) (job c) (frame c) c.self.invariant (ran c)
    (ran_kind (m c) (job c) (is c) c.self.invariant.holds (frame c) (ran c))
    (ran_fits (m c) (job c) (is c) c.self.invariant.holds (frame c) (ran c)) (store_is c) refl refl refl
    (holds c) c.end_names.new.store (told c)))
    ∙ ap (λ o. (state_of (left_with c o), reply c)) (sym c.clear.ensures))
