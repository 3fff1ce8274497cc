-- What was read in a row is what is told.
use Rattle.std.proofs.Common.{◌≡◌, ◌∙◌, ℕ, suc, ◌+◌, List, [], ◌∷◌, ◌++◌, length, Option, Some, None, Ok, Err, sym, ap, refl, arith}
use Rattle.wf_wire.specs.declared.message.Message.{Message}
use Rattle.wf_wire.specs.declared.stop.ServeStop.{ServeStop}
use Rattle.wf_wire.specs.declared.stop.ServeStop.TheVariants as stop
use Rattle.wf_wire.specs.Messages.{next}
use Rattle.wf_wire.specs.Reading.{Cursor, broken, cursor}
use Rattle.wf_wire.specs.Served.{AreTold, IsRead, Reads, Stops}
use Rattle.wf_wire.specs.Session.{Told, WireFault, before, fault, messages, told}
use Rattle.wf_wire.proofs.Within.{tells_all}

-- messages in front of others
before_all : List Message → Told → Told
before_all [] t = t
before_all (m ∷ ms) t = before m (before_all ms t)

before_none : (ms : List Message) (fault : Option WireFault) → before_all ms (told [] fault) ≡ told ms fault
unfolding before_all
before_none [] fault = refl
before_none (m ∷ ms) fault = ap (before m) (before_none ms fault)

before_some : (ms : List Message) (t : Told) → (before_all ms t).messages ≡ ms ++ t.messages
unfolding before_all
before_some [] t = refl
before_some (m ∷ ms) t = ap (λ (xs : List Message). m ∷ xs) (before_some ms t)

-- one message of those that are told
one_told : (m : Message) (c e : Cursor) (n : ℕ) → next c ≡ Ok (Some m, e) → messages (suc n) c ≡ before m (messages n e)
unfolding messages
one_told m c e n found = rw found refl

reads_told : (ms : List Message) (c d : Cursor) (n : ℕ) → Reads ms c d → messages (length ms + n) c ≡ before_all ms (messages n d)
unfolding before_all
reads_told [] c d n reads =
    let none : 0 + n ≡ n = omega arith in ap (λ (k : ℕ). messages k c) none ∙ ap (messages n) (sym reads)
reads_told (m ∷ ms) c d n reads =
    let more : suc (length ms) + n ≡ suc (length ms + n) = omega arith in
    ap (λ (k : ℕ). messages k c) more ∙ one_told m c reads.0 (length ms + n) reads.1
    ∙ ap (before m) (reads_told ms reads.0 d n reads.2)

-- none more is told at the end, and after a fault none but the fault
none_told : (d e : Cursor) (n : ℕ) → next d ≡ Ok (None, e) → messages (suc n) d ≡ told [] None
unfolding messages
none_told d e n found = rw found refl

broken_told : (d : Cursor) (place rule : ℕ) (left : List ℕ) (n : ℕ) → next d ≡ Err (broken place rule left)
    → messages (suc n) d ≡ told [] (Some (fault place rule))
unfolding messages
broken_told d place rule left n found = rw found refl

-- all that is told from the place of the first message on
module _ (at : ℕ) (ms : List Message) (bytes : List ℕ) (d : Cursor) (reads : Reads ms (cursor at bytes) d) where
  parted : messages (length bytes + 1) (cursor at bytes) ≡ before_all ms (messages (length bytes + 1) d)
  parted =
      sym (tells_all (cursor at bytes) (length bytes + 1) (length ms + (length bytes + 1)) (omega arith) (omega arith))
      ∙ reads_told ms (cursor at bytes) d (length bytes + 1) reads

  at_suc : (t : Told) → messages (suc (length bytes)) d ≡ t → messages (length bytes + 1) d ≡ t
  at_suc t is = let more : length bytes + 1 ≡ suc (length bytes) = omega arith in ap (λ (k : ℕ). messages k d) more ∙ is

  some_told : (others : List Message) × ((messages (length bytes + 1) (cursor at bytes)).messages ≡ ms ++ others)
  some_told = (
    (messages (length bytes + 1) d).messages,
    ap (λ (t : Told). t.messages) parted ∙ before_some ms (messages (length bytes + 1) d),
  )

  by_stop : (end : List ℕ) (s : Option ServeStop) → Stops d end s → AreTold ms (messages (length bytes + 1) (cursor at bytes)) s
  by_stop end None stops =
      parted ∙ ap (before_all ms) (at_suc (told [] None) (none_told d (cursor stops.0 end) (length bytes) stops.1)) ∙ before_none ms None
  by_stop end (Some (stop.BadMessage place rule)) stops =
      parted
      ∙ ap (before_all ms)
      (at_suc (told [] (Some (fault place rule))) (broken_told d place rule end (length bytes) stops))
      ∙ before_none ms (Some (fault place rule))
  by_stop end (Some stop.ReadFault) stops = some_told
  by_stop end (Some (stop.WriteFault written)) stops = some_told
  by_stop end (Some (stop.Quota place)) stops = some_told

pub are_told : (at : ℕ) (ms : List Message) (bytes end : List ℕ) (s : Option ServeStop) → IsRead at ms bytes end s
    → AreTold ms (messages (length bytes + 1) (cursor at bytes)) s
are_told at ms bytes end s is = by_stop at ms bytes is.place is.reads end s is.stops
