-- The sizes of a port, read one by one.
use Rattle.std.proofs.Common.{◌≡◌, Some, None, Ok, Err, List, [], ◌∷◌, ◌++◌, refl, append-nil}
use Rattle.wf_pixel.specs.declared.Size.{Size}
use Rattle.wf_script.specs.declared.rule.Rule.TheVariants as rule
use Rattle.wf_script.proofs.Behind.{joined}
use Rattle.wf_script.specs.Items.{behind}
use Rattle.wf_script.specs.Grammar.{sizes}
use Rattle.wf_script.specs.Words.{Word, size_of}

-- one more size
pub size_more : (done : List Size) (size : Size) (w : Word) (ws : List Word) → size_of w ≡ Some size
    → behind done (sizes (w ∷ ws)) ≡ behind (done ++ size ∷ []) (sizes ws)
unfolding sizes
size_more done size w ws is = rw is (joined done size (sizes ws))

-- a word that is no size
pub no_size : (done : List Size) (w : Word) (ws : List Word) → size_of w ≡ None → behind done (sizes (w ∷ ws)) ≡ Err rule.Word
unfolding sizes
no_size done w ws isnt = rw isnt refl

-- no word is left
pub sizes_end : (done : List Size) (ws : List Word) → ws ≡ [] → behind done (sizes ws) ≡ Ok done
unfolding sizes
sizes_end done ws none = rw (none, append-nil done) refl
