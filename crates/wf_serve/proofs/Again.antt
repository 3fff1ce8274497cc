-- A run is played again.
use Rattle.std.proofs.Common.{◌≡◌, ◌∙◌, ℕ, Bool, List, [], ◌∷◌, ◌++◌, sym, ap}
use Rattle.wf_guard.specs.Serving.{Served}
use Rattle.wf_serve.specs.Heard.{Heard}
use Rattle.wf_serve.specs.Runs.{Incoming, Runs, ran}
use Rattle.wf_serve.proofs.HeardSo.{heard_so}

pub again : (ms : List Incoming) (v w : Served) (ans fs : List ℕ) → Runs v ms w ans fs
    → (marks : List Bool) × (ran ms marks v ≡ heard_so w ans fs)
again [] v w ans fs (same, told, shown) = ([], λ i. heard_so (sym same i) (sym told i) (sym shown i))
again (m ∷ ms) v w ans fs (u, a, b, f, g, hears, rest, told, shown) =
    let others = again ms u w b g rest in (
      hears.refuses ∷ others.0,
      ap (λ (x : Heard). let y : Heard = ran ms others.0 x.now in heard_so y.now (x.answers ++ y.answers) (x.frames ++ y.frames)) hears.is
          ∙ ap (λ (y : Heard). heard_so y.now (a ++ y.answers) (f ++ y.frames)) others.1 ∙ λ i. heard_so w (sym told i) (sym shown i),
    )
