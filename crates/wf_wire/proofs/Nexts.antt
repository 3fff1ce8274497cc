-- The next message, behind its first byte.
use Rattle.std.proofs.Common.{◌≡◌, ◌∙◌, ℕ, List, Option, Some, None, Result, Ok, Err, inl, inr, refl, ap}
use Rattle.wf_words.specs.Keyed.{nth}
use Rattle.wf_wire.specs.declared.form.Form.{Form}
use Rattle.wf_wire.specs.declared.stop.ServeStop.{ServeStop}
use Rattle.wf_wire.specs.declared.stop.ServeStop.TheVariants as stop
use Rattle.wf_wire.specs.Forms.{forms, kinds_of}
use Rattle.std.specs.Prelude.{option_map}
use Rattle.wf_wire.specs.declared.message.Message.{Message}
use Rattle.wf_wire.specs.Messages.{Spelled, arguments, behind_number, first, meaning, next, spelled}
use Rattle.wf_wire.specs.Reading.{Cursor, Reader, behind, cursor, done}
use Rattle.wf_wire.specs.Taking.{Finds, FindsEnd, FindsNext}
use Rattle.wf_wire.proofs.Steps.{both, breaks_here, finds_here, stops_first, then_finds}

module _ {A : Type 0} (read : Reader (Option A)) where
  -- what was found is found as well where it may be missing
  finds_end : (old new : Option (List ℕ)) (at now : ℕ) → Finds read old at new now (Ok None) → FindsEnd read old at new now
  finds_end None new at now found = tt
  finds_end (Some bytes) None at now found = absurd found
  finds_end (Some bytes) (Some rest) at now found = ap (λ (xs : List ℕ). read (cursor at xs)) found.front ∙ found.reads rest

  finds_next : (old new : Option (List ℕ)) (at now : ℕ) (result : Result (Option A) ServeStop)
      → Finds read old at new now result → FindsNext read old at new now result
  finds_next old new at now (Ok None) found = finds_end old new at now found
  finds_next old new at now (Ok (Some x)) found = found
  finds_next old new at now (Err stop.ReadFault) found = inr found
  finds_next old new at now (Err (stop.BadMessage byte rule)) found = found
  finds_next old new at now (Err (stop.WriteFault written)) found = found
  finds_next old new at now (Err (stop.Quota byte)) found = found

  module _ {B : Type 0} (f : ℕ → Option A → Reader (Option B)) where
    -- where the first of two steps stops, so do both
    pub stops_next : (old new : Option (List ℕ)) (at now : ℕ) (s : ServeStop) → FindsNext read old at new now (Err s)
        → FindsNext (both read f) old at new now (Err s)
    stops_next old new at now stop.ReadFault (inl kept) = inl kept
    stops_next old new at now stop.ReadFault (inr cut) = inr (stops_first read f old new at now stop.ReadFault cut)
    stops_next old new at now (stop.BadMessage byte rule) found = stops_first read f old new at now (stop.BadMessage byte rule) found
    stops_next old new at now (stop.WriteFault written) found = stops_first read f old new at now (stop.WriteFault written) found
    stops_next old new at now (stop.Quota byte) found = stops_first read f old new at now (stop.Quota byte) found

    -- and where it finds the end of the input, and the second reads nothing then, so do both
    pub ends_next : (old new : Option (List ℕ)) (at now : ℕ) → ((c : Cursor) → f at None c ≡ Ok (None, c)) → FindsEnd read old at new now
        → FindsEnd (both read f) old at new now
    ends_next None new at now none found = tt
    ends_next (Some bytes) None at now none found = absurd found
    ends_next (Some bytes) (Some rest) at now none found = ap (behind (f at)) found ∙ none (cursor now rest)

-- the input ends
pub no_next : (old new : Option (List ℕ)) (at now : ℕ) → FindsEnd first old at new now → FindsEnd spelled old at new now
unfolding spelled
no_next old new at now found = ends_next first behind_number old new at now (λ c. refl) found

-- or the number is not read
pub no_first : (old new : Option (List ℕ)) (at now : ℕ) (s : ServeStop) → FindsNext first old at new now (Err s)
    → FindsNext spelled old at new now (Err s)
unfolding spelled
no_first old new at now s found = stops_next first behind_number old new at now s found

module _ (old mid new : Option (List ℕ)) (at then now number : ℕ) (found : FindsNext first old at mid then (Ok (Some number))) where
  behind_first : (result : Result (Option Spelled) ServeStop) → Finds (behind_number at (Some number)) mid then new now result
      → FindsNext spelled old at new now result
  unfolding spelled
  behind_first result second =
      finds_next spelled old new at now result
      (then_finds first behind_number old mid new at then now (Some number) result found second)

  module _ (form : Form) (is : nth number forms ≡ Some form) where
    -- what the bits of the arguments make of it
    abbrev message : List ℕ → Reader (Option Spelled)
    message bits = done (Some (record { form = form; bits = bits }))

    -- its arguments are read, or not
    pub whole_next : (bits : List ℕ) → Finds (arguments (kinds_of form)) mid then new now (Ok bits)
        → FindsNext spelled old at new now (Ok (Some (record { form = form; bits = bits })))
    whole_next bits second =
        behind_first (Ok (Some (record { form = form; bits = bits })))
        (rw is (then_finds (arguments (kinds_of form)) (λ _ bits. message bits) mid new new then now now bits
        (Ok (Some (record { form = form; bits = bits }))) second (finds_here new now (Some (record { form = form; bits = bits })))))

    pub cut_next : (s : ServeStop) → Finds (arguments (kinds_of form)) mid then new now (Err s)
        → FindsNext spelled old at new now (Err s)
    cut_next s second =
        behind_first (Err s) (rw is (stops_first (arguments (kinds_of form)) (λ _ bits. message bits) mid new then now s second))

-- there is no message of this number
pub no_number : (old mid : Option (List ℕ)) (at then number : ℕ) → FindsNext first old at mid then (Ok (Some number))
    → nth number forms ≡ None
    → FindsNext spelled old at mid then (Err (stop.BadMessage at 2))
no_number old mid at then number found none =
    behind_first old mid mid at then then number found (Err (stop.BadMessage at 2))
    (rw none (breaks_here (Option Spelled) mid then then at 2))

-- what a message asks for

abbrev meant : ℕ → Option Spelled → Reader (Option Message)
meant _ found = done (option_map meaning found)

pub asks_none : (old new : Option (List ℕ)) (at now : ℕ) → FindsEnd spelled old at new now → FindsEnd next old at new now
unfolding next
asks_none old new at now found = ends_next spelled meant old new at now (λ c. refl) found

pub asks_nothing : (old new : Option (List ℕ)) (at now : ℕ) (s : ServeStop) → FindsNext spelled old at new now (Err s)
    → FindsNext next old at new now (Err s)
unfolding next
asks_nothing old new at now s found = stops_next spelled meant old new at now s found

pub asks : (old new : Option (List ℕ)) (at now : ℕ) (m : Spelled) → FindsNext spelled old at new now (Ok (Some m))
    → FindsNext next old at new now (Ok (Some (meaning m)))
unfolding next
asks old new at now m found =
    then_finds spelled meant old new new at now now (Some m) (Ok (Some (meaning m))) found (finds_here new now (Some (meaning m)))
