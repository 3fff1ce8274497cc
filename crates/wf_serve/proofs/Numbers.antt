-- The numbers of a body.
use Rattle.std.proofs.Common.{◌≡◌, ◌∙◌, ℕ, zero, suc, ◌+◌, List, [], ◌∷◌, length, length-append, refl, ap, arith}
use Rattle.wf_serve.specs.Bodies.{word_at, words}

pub length-words : (n : ℕ) (body : List ℕ) → length (words n body) ≡ n
length-words zero body = refl
length-words (suc n) body =
    length-append (words n body) (word_at body n ∷ []) ∙ ap (λ k. k + 1) (length-words n body) ∙ omega arith
