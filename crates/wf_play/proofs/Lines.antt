-- The line of a mode's status.
use Rattle.std.proofs.Common.{◌≡◌, refl, codes}
use Rattle.wf_command.specs.declared.asked.Mode.{Mode}
use Rattle.wf_command.specs.declared.asked.Mode.TheVariants as mode
use Rattle.wf_play.specs.Notes.{note_in, note_of}
use Rattle.wf_play.specs.declared.report.Status.{Status}
use Rattle.wf_play.specs.declared.report.Status.TheVariants as status

-- of all but a check that found no fault, it is that of the status
pub plain_note : (m : Mode) (s : Status) → (m ≡ mode.Check → s ≡ status.Done → ⊥) → note_in m s ≡ note_of s
plain_note mode.Film s other = refl
plain_note mode.Print s other = refl
plain_note mode.Big s other = refl
plain_note mode.Events s other = refl
plain_note mode.Session s other = refl
plain_note mode.Check status.Done other = absurd (other refl refl)
plain_note mode.Check status.Usage other = refl
plain_note mode.Check status.ReadFault other = refl
plain_note mode.Check status.TooLong other = refl
plain_note mode.Check (status.Refused line rule) other = refl
plain_note mode.Check (status.WriteFault written) other = refl
plain_note mode.Check (status.Differs at) other = refl
plain_note mode.Check (status.BadOrder entry) other = refl
plain_note mode.Check (status.BadFilm at rule) other = refl
plain_note mode.Check (status.BadMessage at rule) other = refl
plain_note mode.Check (status.Quota at) other = refl
plain_note mode.Check status.NoMemory other = refl

pub same_note : (m : Mode) (s : Status) → m ≡ mode.Check → s ≡ status.Done → note_in m s ≡ codes "same\n"
same_note m s is done = λ i. note_in (is i) (done i)
