-- One message more that is read, and what stops after it.
use Rattle.std.proofs.Common.{◌≡◌, ◌∙◌, ℕ, List, [], ◌∷◌, ◌++◌, Option, Some, None, true, false, Ok, Err, inl, inr, subst, ap, refl}
use Rattle.std.specs.Prelude.{IsTrue}
use Rattle.wf_wire.specs.declared.message.Message.{Message}
use Rattle.wf_wire.specs.declared.stop.ServeStop.{ServeStop}
use Rattle.wf_wire.specs.declared.stop.ServeStop.TheVariants as stop
use Rattle.wf_wire.specs.Messages.{next}
use Rattle.wf_wire.specs.Reading.{Cursor, cursor}
use Rattle.wf_wire.specs.Served.{IsReadOf, Reads, ReadsTo, Stops}
use Rattle.wf_wire.specs.Taking.{Finds, FindsEnd, FindsNext, Gives, is_of_reading}

reads_one : (ms : List Message) (m : Message) (c d e : Cursor) → Reads ms c d → next d ≡ Ok (Some m, e) → Reads (ms ++ m ∷ []) c e
reads_one [] m c d e is found = (e, subst (λ (x : Cursor). next x ≡ Ok (Some m, e)) is found, refl)
reads_one (n ∷ ms) m c d e reads found = (reads.0, reads.1, reads_one ms m reads.0 d e reads.2 found)

gives_next : (bytes rest : List ℕ) (at now : ℕ) (x : Option Message) → Gives next bytes at rest now x
    → next (cursor at bytes) ≡ Ok (x, cursor now rest)
gives_next bytes rest at now x gives = ap (λ (xs : List ℕ). next (cursor at xs)) gives.front ∙ gives.reads rest

module _ (at : ℕ) (ms : List Message) where
  pub no_message : (input : Option (List ℕ)) → ReadsTo at [] input input at
  no_message None = tt
  no_message (Some bytes) = refl

  -- a message
  pub reads_more : (m : Message) (input rest left : Option (List ℕ)) (place now : ℕ) → ReadsTo at ms input rest place
      → Finds next rest place left now (Ok (Some m)) → ReadsTo at (ms ++ m ∷ []) input left now
  reads_more m None rest left place now reads found = tt
  reads_more m (Some bytes) None left place now reads found = absurd reads
  reads_more m (Some bytes) (Some rest) None place now reads found = absurd found
  reads_more m (Some bytes) (Some rest) (Some end) place now reads found =
      reads_one ms m (cursor at bytes) (cursor place rest) (cursor now end) reads (gives_next rest end place now (Some m) found)

  -- the end
  pub ends_there : (input rest left : Option (List ℕ)) (place now : ℕ) → ReadsTo at ms input rest place
      → FindsEnd next rest place left now → IsReadOf at ms input left None
  ends_there None rest left place now reads found = tt
  ends_there (Some bytes) None left place now reads found = absurd reads
  ends_there (Some bytes) (Some rest) None place now reads found = absurd found
  ends_there (Some bytes) (Some rest) (Some end) place now reads found =
      record { place = cursor place rest; reads = reads; stops = (now, found) }

  -- a stop of reading
  pub stops_there : (s : ServeStop) (input rest left : Option (List ℕ)) (place now : ℕ) → IsTrue (is_of_reading s)
      → ReadsTo at ms input rest place → FindsNext next rest place left now (Err s) → IsReadOf at ms input left (Some s)
  stops_there s None rest left place now own reads found = tt
  stops_there s (Some bytes) None left place now own reads found = absurd reads
  stops_there s (Some bytes) (Some rest) None place now own reads found = absurd (nothing s own found)
    where
      nothing : (s : ServeStop) → IsTrue (is_of_reading s) → FindsNext next (Some rest) place None now (Err s) → ⊥
      nothing stop.ReadFault own found = elim found [
        | inl kept ↦ kept
        | inr cut ↦ cut
      ]
      nothing (stop.BadMessage at rule) own found = found
      nothing (stop.WriteFault written) own found = absurd (let no : false ≡ true = own in cc)
      nothing (stop.Quota at) own found = absurd (let no : false ≡ true = own in cc)
  stops_there s (Some bytes) (Some rest) (Some end) place now own reads found =
      record { place = cursor place rest; reads = reads; stops = by_stop s own found }
    where
      by_stop : (s : ServeStop) → IsTrue (is_of_reading s) → FindsNext next (Some rest) place (Some end) now (Err s)
          → Stops (cursor place rest) end (Some s)
      by_stop stop.ReadFault own found = (now, found)
      by_stop (stop.BadMessage at rule) own found = found
      by_stop (stop.WriteFault written) own found = absurd (let no : false ≡ true = own in cc)
      by_stop (stop.Quota at) own found = absurd (let no : false ≡ true = own in cc)

  -- a message that may not be answered
  pub quota_there : (m : Message) (input rest left : Option (List ℕ)) (place now : ℕ) → ReadsTo at ms input rest place
      → Finds next rest place left now (Ok (Some m)) → IsReadOf at ms input left (Some (stop.Quota place))
  quota_there m None rest left place now reads found = tt
  quota_there m (Some bytes) None left place now reads found = absurd reads
  quota_there m (Some bytes) (Some rest) None place now reads found = absurd found
  quota_there m (Some bytes) (Some rest) (Some end) place now reads found =
      record { place = cursor place rest; reads = reads; stops = (refl, m, now, gives_next rest end place now (Some m) found) }

  -- a message whose answer was cut is the last of those that were read
  pub cut_there : (written : ℕ) (input left : Option (List ℕ)) (now : ℕ) → ReadsTo at ms input left now
      → IsReadOf at ms input left (Some (stop.WriteFault written))
  cut_there written None left now reads = tt
  cut_there written (Some bytes) None now reads = absurd reads
  cut_there written (Some bytes) (Some end) now reads = record { place = cursor now end; reads = reads; stops = refl }
