-- Histories in two parts.
use Rattle.std.proofs.Common.{◌≡◌, ◌∙◌, ℕ, ◌+◌, List, [], ◌∷◌, ◌++◌, refl, sym, ap, append_assoc, arith, length}
use Rattle.wf_calls.specs.Codes.{entry}
use Rattle.wf_desk.specs.History.{IsLegal, replay}
use Rattle.wf_film.specs.Film.{Frame}
use Rattle.wf_machine.specs.Object.{MayAnswer, after}
use Rattle.wf_model.specs.State.{State}
use Rattle.wf_turn.specs.Program.{Program}
use Rattle.wf_show.specs.Played.{IsPlayed, after_event, program_after}
use Rattle.wf_machine.specs.Histories.{Happening}
use Rattle.wf_show.specs.Shown.{frames_by, frames_in, order_of}

pub order_of-append : (xs ys : List Happening) → order_of (xs ++ ys) ≡ order_of xs ++ order_of ys
order_of-append [] ys = refl
order_of-append (x ∷ xs) ys = ap (λ ts. entry x.client x.reply ∷ ts) (order_of-append xs ys)

pub legal_parts : (h : State) (xs ys : List Happening) → IsLegal after MayAnswer h (xs ++ ys)
    → IsLegal after MayAnswer h xs × IsLegal after MayAnswer (replay after h xs) ys
legal_parts h [] ys legal = (tt, legal)
legal_parts h (x ∷ xs) ys legal =
    let rest = legal_parts (after h x.client x.call x.reply) xs ys legal.1 in ((legal.0, rest.0), rest.1)

pub played_parts : (c : ℕ) (h : State) (p : Program) (xs ys : List Happening) → IsPlayed c h p (xs ++ ys)
    → IsPlayed c h p xs × IsPlayed c (replay after h xs) (program_after c p xs) ys
played_parts c h p [] ys played = (tt, played)
played_parts c h p (x ∷ xs) ys played =
    let rest = played_parts c (after h x.client x.call x.reply) (after_event c p x) xs ys played.1 in
    ((played.0, rest.0), rest.1)

pub frames_by-append : (begin c : ℕ) (p : Program) (xs ys : List Happening)
    → frames_by begin c p (xs ++ ys) ≡ frames_by begin c p xs ++ frames_by (begin + length xs) c (program_after c p xs) ys
frames_by-append begin c p [] ys = (let same : begin ≡ begin + 0 = omega arith in ap (λ n. frames_by n c p ys) same)
frames_by-append begin c p (x ∷ xs) ys =
    let q : Program = after_event c p x in
    let count : begin + 1 + length xs ≡ begin + length (x ∷ xs) = omega arith in
    ap (λ (fs : List Frame). frames_in begin c p x ++ fs) (frames_by-append (begin + 1) c q xs ys)
    ∙ sym (append_assoc (frames_in begin c p x) (frames_by (begin + 1) c q xs)
    (frames_by (begin + 1 + length xs) c (program_after c q xs) ys))
    ∙ ap (λ n. frames_by begin c p (x ∷ xs) ++ frames_by n c (program_after c q xs) ys) count
