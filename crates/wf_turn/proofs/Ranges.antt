-- The numbers of a legal order, and so of its film, are in the ranges of a film.
use Rattle.wf_turn.proofs.Common.{◌≡◌, ◌∙◌, ◌<◌, ◌≤◌, true, false, not, cond, ◌&&◌, List, [], ◌∷◌, length, Option, None, Some, refl}
use Rattle.wf_turn.proofs.Common.{sym}
use Rattle.wf_turn.proofs.Common.{ap, suc, arith, length-map, IsSome, Turn, FilmForm, PlainScript, step, is_marked, replay}
use Rattle.wf_turn.proofs.Common.{replay_from}
use Rattle.wf_turn.proofs.Common.{Program, Show, all_taught, frames_after, inherited, is_setting_up, opening_show, taught, took, worked}
use Rattle.wf_turn.proofs.Common.{set}
use Rattle.std.proofs.Common.{◌^◌}
use Rattle.std.specs.List.{AllByRecursion}
use Rattle.std.proofs.lemmas.List.{length-set}
use Rattle.std.proofs.lemmas.Option.{slice_get_within}
use Rattle.wf_calls.specs.declared.code.Code.{Code}
use Rattle.wf_calls.specs.declared.code.Code.TheVariants as code
use Rattle.wf_calls.specs.Codes.{code_number}
use Rattle.wf_calls.specs.Orders.{IsEntry, IsTurn}
use Rattle.wf_film.specs.Stands.{IsFilm, IsFrameIn, as_read}
use Rattle.wf_film.proofs.PutFrames.{read_frames_stand}
use Rattle.wf_turn.specs.Play.{IsLegal, plain_film}
use Rattle.wf_turn.proofs.Replays.{next_show, replay_step, taken_turn, turn_of}

code_small : (c : Code) → code_number c ≤ 12
code_small code.Ok = omega arith
code_small code.OutOfMemory = omega arith
code_small code.IllegalArgument = omega arith
code_small code.Unsupported = omega arith
code_small code.NotSupported = omega arith
code_small code.BadAttribute = omega arith
code_small code.InUse = omega arith
code_small code.Busy = omega arith
code_small code.NoBuffer = omega arith
code_small code.BadDevice = omega arith
code_small code.BadHandle = omega arith
code_small code.Inconsistency = omega arith
code_small code.Limit = omega arith

-- no turn makes programs more or fewer
taught_length : (ps : List Program) → length (all_taught ps) ≡ length ps
taught_length [] = refl
taught_length (clock ∷ others) = ap suc (length-map others (taught clock))

inherited_length : (before now : List Program) → length (inherited before now) ≡ length now
inherited_length before now =
    elim (is_setting_up before && not (is_setting_up now)) as (λ b. length (cond b (all_taught now) now) ≡ length now)
    [ true ↦ taught_length now | false ↦ refl ]

-- the client and the code of an entry are in range
abbrev IsInRange : Turn → Type 0
IsInRange t = (t.client ≤ 7) × (t.code ≤ 12)

-- an entry that is a turn of one of eight programs
one_in_range : (show after : Show) (t : Turn) → length show.programs ≡ 8 → next_show show t ≡ Some after
    → IsInRange t × (length after.programs ≡ 8)
one_in_range show after t eight next =
    let taken = turn_of show t.client (is_marked t) (after, t) (taken_turn t _ after next) in
    let reply = (step show.state t.client taken.wanted.call (is_marked t)).1 in
    let code : code_number reply.code ≡ t.code = ap (λ done. done.1.code) taken.is in
    let now : List Program = set show.programs t.client (worked (took taken.program reply)) in
    let programs : inherited show.programs now ≡ after.programs = ap (λ done. done.0.programs) taken.is in (
      (
        omega (arith, slice_get_within show.programs t.client taken.program taken.own, eight),
        omega (arith, code, code_small reply.code),
      ),
      sym (ap length programs) ∙ inherited_length show.programs now ∙ length-set show.programs t.client _ ∙ eight,
    )

all_in_range : (show last : Show) (ts : List Turn) → length show.programs ≡ 8 → replay_from show ts ≡ Some last
    → AllByRecursion IsInRange ts
all_in_range show last [] eight is = tt
all_in_range show last (t ∷ ts) eight is =
    elim (next_show show t) as (λ o. next_show show t ≡ o → AllByRecursion IsInRange (t ∷ ts)) [
      | None ↦ λ none. absurd (let no : None ≡ Some last = sym (replay_step show t ts None none) ∙ is in cc)
      | Some after ↦ λ some. (
          let one = one_in_range show after t eight some in
          (one.0, all_in_range after last ts one.1 (sym (replay_step show t ts (Some after) some) ∙ is)))
    ] refl

are_turns : (ts : List Turn) → AllByRecursion IsInRange ts → AllByRecursion IsEntry ts → AllByRecursion IsTurn ts
are_turns [] within values = tt
are_turns (t ∷ ts) within values = (
  record { client = within.0.0; code = within.0.1; value = values.0 },
  are_turns ts within.1 values.1,
)

-- the film of a legal order whose frames stand in it, and whose values have four bytes, stands as it is read
pub film_stands : (form : FilmForm) (script : PlainScript) (order : List Turn) → IsLegal script order
    → AllByRecursion (IsFrameIn form) (frames_after (replay script order)) → AllByRecursion IsEntry order → length order < 2 ^ 32
    → IsFilm (as_read (plain_film form script order))
film_stands form script order legal frames values few =
    record {
      frames = read_frames_stand form (frames_after (replay script order)) frames;
      turns = are_turns order (of_replay (replay script order) refl legal) values;
      few = few;
    }
  where
    of_replay : (o : Option Show) → replay script order ≡ o → IsSome o → AllByRecursion IsInRange order
    of_replay None is some = absurd cc
    of_replay (Some last) is some = all_in_range (opening_show script) last order refl is
