-- The status of an exit.
use Rattle.std.proofs.Common.{◌≡◌, ℕ, List, Option, Some, None, refl, arith}
use Rattle.std.specs.Prelude.{IfSome}
use Rattle.wf_play.specs.Report.{exit_of}
use Rattle.wf_play.specs.declared.report.Status.{Status}
use Rattle.wf_play.specs.declared.report.Status.TheVariants as status

pub done_at_0 : (s : Status) → exit_of s ≡ 0 → s ≡ status.Done
done_at_0 status.Done is = refl
done_at_0 status.Usage is = absurd (omega (arith, is))
done_at_0 status.ReadFault is = absurd (omega (arith, is))
done_at_0 status.TooLong is = absurd (omega (arith, is))
done_at_0 (status.Refused line rule) is = absurd (omega (arith, is))
done_at_0 (status.WriteFault written) is = absurd (omega (arith, is))
done_at_0 (status.Differs at) is = absurd (omega (arith, is))
done_at_0 (status.BadOrder entry) is = absurd (omega (arith, is))
done_at_0 (status.BadFilm at rule) is = absurd (omega (arith, is))
done_at_0 (status.BadMessage at rule) is = absurd (omega (arith, is))
done_at_0 (status.Quota at) is = absurd (omega (arith, is))
done_at_0 status.NoMemory is = absurd (omega (arith, is))

pub usage_at_2 : (s : Status) → exit_of s ≡ 2 → s ≡ status.Usage
usage_at_2 status.Done is = absurd (omega (arith, is))
usage_at_2 status.Usage is = refl
usage_at_2 status.ReadFault is = absurd (omega (arith, is))
usage_at_2 status.TooLong is = absurd (omega (arith, is))
usage_at_2 (status.Refused line rule) is = absurd (omega (arith, is))
usage_at_2 (status.WriteFault written) is = absurd (omega (arith, is))
usage_at_2 (status.Differs at) is = absurd (omega (arith, is))
usage_at_2 (status.BadOrder entry) is = absurd (omega (arith, is))
usage_at_2 (status.BadFilm at rule) is = absurd (omega (arith, is))
usage_at_2 (status.BadMessage at rule) is = absurd (omega (arith, is))
usage_at_2 (status.Quota at) is = absurd (omega (arith, is))
usage_at_2 status.NoMemory is = absurd (omega (arith, is))

-- with Done, what is said of it holds of the input
pub done_says : (o : Option (List ℕ)) (IsPut Puts : List ℕ → Type 0) (s : Status) → ((bytes : List ℕ) → IsPut bytes → Puts bytes)
    → s ≡ status.Done → IfSome o (λ bytes. s ≡ status.Done → IsPut bytes) → IfSome o Puts
done_says None IsPut Puts s so done says = tt
done_says (Some bytes) IsPut Puts s so done says = so bytes (says done)
