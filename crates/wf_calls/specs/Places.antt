-- The Job that stands in a place.
use Rattle.std.proofs.Common.{refl}
use Rattle.std.specs.Prelude.{◌≡◌, Bool, true, false, Option, Some, None, if◌then◌else◌}
use Rattle.std.specs.Option.{IsSome}
use Rattle.wf_calls.specs.declared.call.Job.{Job}

-- what a place has: the Job that stands there, or what the next one begins with
pub record Place : Type 0 where
  pub job : Job
  pub held : Bool

-- the Job that stands in a place, if one does
abbrev pub job_in : Place → Option Job
job_in place = if place.held then Some place.job else None

-- where a Job stands, the place says so
pub says_held : (place : Place) → IsSome (job_in place) → place.held ≡ true
says_held place there = of_held place.held there
  where
    of_held : (b : Bool) → IsSome (if b then Some place.job else None) → b ≡ true
    of_held false none = none
    of_held true some = refl

-- and it is the Job that is kept there
pub is_held : (place : Place) → IsSome (job_in place) → job_in place ≡ Some place.job
is_held place there = rw (says_held place there) refl
