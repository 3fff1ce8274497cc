-- One port more.
use Rattle.std.proofs.Common.{◌≡◌, ℕ, suc, ◌+◌, List, [], ◌∷◌, ◌++◌, refl, arith}
use Rattle.wf_host.specs.declared.declaring.Mode.{Mode}
use Rattle.wf_host.specs.PortsOf.{modes_of, ports_to}

pub next_port : (n : ℕ) (modes : List Mode) → ports_to (n + 1) modes ≡ ports_to n modes ++ modes_of (n + 1) modes ∷ []
next_port n modes = let e : n + 1 ≡ suc n = omega arith in rw e refl
