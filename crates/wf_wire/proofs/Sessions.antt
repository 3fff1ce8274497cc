-- What a reader finds, by the messages of the whole session.
use Rattle.std.proofs.Common.{◌≡◌, ◌∙◌, ℕ, zero, suc, List, [], Option, Some, None, Result, Ok, Err, refl, ap}
use Rattle.wf_calls.specs.declared.ports.Ports.{Ports}
use Rattle.wf_wire.specs.declared.message.Message.{Message}
use Rattle.wf_wire.specs.declared.stop.ServeStop.{ServeStop}
use Rattle.wf_wire.specs.declared.stop.ServeStop.TheVariants as stop
use Rattle.wf_wire.specs.Header.{header}
use Rattle.wf_wire.specs.Messages.{next}
use Rattle.wf_wire.specs.Reading.{cursor}
use Rattle.wf_wire.specs.Session.{Begins, Continues, messages, session, told}
use Rattle.wf_wire.specs.Taking.{Finds, FindsNext, Opens}

-- the next message
pub continues : (old new : Option (List ℕ)) (at now : ℕ) (result : Result (Option Message) ServeStop)
    → FindsNext next old at new now result → Continues old at new now result
unfolding messages
continues None new at now result found = none new result
  where
    none : (new : Option (List ℕ)) (result : Result (Option Message) ServeStop) → Continues None at new now result
    none new (Ok None) = tt
    none new (Ok (Some m)) = tt
    none new (Err stop.ReadFault) = tt
    none new (Err (stop.BadMessage place rule)) = tt
    none new (Err (stop.WriteFault written)) = tt
    none new (Err (stop.Quota place)) = tt
continues (Some bytes) None at now (Ok None) found = absurd found
continues (Some bytes) None at now (Ok (Some m)) found = absurd found
continues (Some bytes) None at now (Err (stop.BadMessage place rule)) found = absurd found
continues (Some bytes) None at now (Err stop.ReadFault) found = tt
continues (Some bytes) None at now (Err (stop.WriteFault written)) found = tt
continues (Some bytes) None at now (Err (stop.Quota place)) found = tt
continues (Some bytes) (Some rest) at now (Ok None) found = λ most. by_most most
  where
    by_most : (most : ℕ) → messages most (cursor at bytes) ≡ told [] None
    by_most zero = refl
    by_most (suc most) = rw found refl
continues (Some bytes) (Some rest) at now (Ok (Some m)) found = λ most. rw (found.front, found.reads rest) refl
continues (Some bytes) (Some rest) at now (Err (stop.BadMessage place rule)) found = λ most. rw found refl
continues (Some bytes) (Some rest) at now (Err stop.ReadFault) found = tt
continues (Some bytes) (Some rest) at now (Err (stop.WriteFault written)) found = tt
continues (Some bytes) (Some rest) at now (Err (stop.Quota place)) found = tt

-- the header
pub begins : (old new : Option (List ℕ)) (result : Result (ℕ × Ports) ServeStop) → Opens header old new result → Begins old new result
unfolding session
begins None new (Ok (at, ports)) found = tt
begins None new (Err stop.ReadFault) found = tt
begins None new (Err (stop.BadMessage place rule)) found = tt
begins None new (Err (stop.WriteFault written)) found = tt
begins None new (Err (stop.Quota place)) found = tt
begins (Some bytes) None (Ok (at, ports)) found = absurd found
begins (Some bytes) None (Err s) found = absurd found
begins (Some bytes) (Some rest) (Ok (at, ports)) found =
    let is : header (cursor 0 bytes) ≡ Ok (ports, cursor at rest) =
    ap (λ (xs : List ℕ). header (cursor 0 xs)) found.front ∙ found.reads rest
    in
    rw is refl
begins (Some bytes) (Some rest) (Err (stop.BadMessage place rule)) found = rw found refl
begins (Some bytes) (Some rest) (Err stop.ReadFault) found = tt
begins (Some bytes) (Some rest) (Err (stop.WriteFault written)) found = tt
begins (Some bytes) (Some rest) (Err (stop.Quota place)) found = tt

-- where nothing is read to its end, no matter how far it was read
pub begins_not : (old new : Option (List ℕ)) (now : ℕ) (s : ServeStop) → Finds header old 0 new now (Err s) → Begins old new (Err s)
begins_not None new now s found = begins None new (Err s) tt
begins_not (Some bytes) None now s found = absurd found
begins_not (Some bytes) (Some rest) now stop.ReadFault found = tt
begins_not (Some bytes) (Some rest) now (stop.BadMessage place rule) found =
    begins (Some bytes) (Some rest) (Err (stop.BadMessage place rule)) found
begins_not (Some bytes) (Some rest) now (stop.WriteFault written) found = tt
begins_not (Some bytes) (Some rest) now (stop.Quota place) found = tt
