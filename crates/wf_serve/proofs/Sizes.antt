-- The size of a stream that was found.
use Rattle.std.proofs.Common.{◌≡◌, ℕ, ◌==◌, ◌&&◌, ◌||◌, List, find, Some, refl, true}
use Rattle.wf_guard.specs.Serving.{Served}
use Rattle.wf_guard.specs.declared.clients.TheConstants.{MANAGER}
use Rattle.wf_guard.specs.declared.owners.Owned.{Owned}
use Rattle.wf_serve.specs.Bodies.{word_at}
use Rattle.wf_serve.specs.Heard.{is_handle, one, size_told, sized}
use Rattle.wf_serve.specs.declared.kind.TheConstants.{SIZE}

pub sized_so : (client : ℕ) (body : List ℕ) (v : Served) (o : Owned) → is_handle body ≡ true
    → find (λ x. (x.stream == word_at body 0) && ((client == MANAGER) || (x.client == client))) v.owned ≡ Some o
    → one client SIZE (size_told o) ≡ sized client body v
sized_so client body v o handle found = rw (handle, found) refl
