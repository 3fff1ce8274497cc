-- A function over the elements of a list, one by one.
use Rattle.wf_turn.proofs.Common.{◌≡◌, ℕ, zero, suc, ◌<◌, List, [], ◌∷◌, length, get_or, arith, All, PlainScript, Program}
use Rattle.std.proofs.lemmas.List.Elements.{All-head, All-tail}

-- of programs of one script each is
pub script_at : (script : PlainScript) (ps : List Program) (i : ℕ) (d : Program) → i < length ps → All (λ p. p.script ≡ script) ps
    → (get_or ps i d).script ≡ script
script_at script [] i d within all = absurd (omega (arith, within))
script_at script (p ∷ ps) zero d within all = All-head (λ q. q.script ≡ script) p ps all
script_at script (p ∷ ps) (suc i) d within all = script_at script ps i d (omega (arith, within))
    (All-tail (λ q. q.script ≡ script) p ps all)
