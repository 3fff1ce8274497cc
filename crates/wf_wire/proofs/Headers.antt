-- The header, field by field.
use Rattle.std.proofs.Common.{ℕ, ◌+◌, ◌<◌, ◌≤◌, List, [], ◌∷◌, ◌++◌, length, drop, replicate, Option, Result, Ok}
use Rattle.std.proofs.Common.{Err, arith}
use Rattle.std.proofs.lemmas.List.{length-replicate}
use Rattle.wf_pixel.specs.declared.TheConstants.{MOST_SIDE}
use Rattle.wf_calls.specs.declared.ports.Modes.{Modes}
use Rattle.wf_calls.specs.declared.ports.Ports.{Ports}
use Rattle.wf_calls.specs.declared.TheConstants.{MOST_PIPELINES}
use Rattle.wf_wire.specs.declared.stop.ServeStop.{ServeStop}
use Rattle.wf_wire.specs.Header.{declared, header, magic, mode_of, port, ports_of}
use Rattle.wf_wire.specs.Reading.{Reader, ◌>>=◌, done, number_within}
use Rattle.wf_wire.specs.Taking.{Finds}
use Rattle.wf_wire.proofs.Eaches.{GoesOn, goes_further_at, goes_to_end_at, goes_to_stop_at}
use Rattle.wf_wire.proofs.Steps.{finds_here, stops_first, then_finds}

-- a port

abbrev side : Reader ℕ
side = number_within 1 MOST_SIDE 2

abbrev pub behind_width : ℕ → Reader Modes
behind_width w = side >>= λ h. done (mode_of w h)

pub no_width : (old new : Option (List ℕ)) (at now : ℕ) (s : ServeStop) → Finds side old at new now (Err s)
    → Finds port old at new now (Err s)
unfolding port
no_width old new at now s found = stops_first side (λ _ w. behind_width w) old new at now s found

module _ (old mid new : Option (List ℕ)) (at then now w : ℕ) (width : Finds side old at mid then (Ok w)) where
  pub no_height : (s : ServeStop) → Finds side mid then new now (Err s) → Finds port old at new now (Err s)
  unfolding port
  no_height s found =
      then_finds side (λ _ w. behind_width w) old mid new at then now w (Err s) width
      (stops_first side (λ _ h. done (mode_of w h)) mid new then now s found)

  pub whole_port : (h : ℕ) → Finds side mid then new now (Ok h) → Finds port old at new now (Ok (mode_of w h))
  unfolding port
  whole_port h found =
      then_finds side (λ _ w. behind_width w) old mid new at then now w (Ok (mode_of w h)) width
      (then_finds side (λ _ h. done (mode_of w h)) mid new new then now now h (Ok (mode_of w h)) found (finds_here new now (mode_of w h)))

-- the ports, of which each is read as the others

abbrev pub ports : Unit {0} → Reader Modes
ports _ = port

abbrev pub units : ℕ → List (Unit {0})
units n = replicate n (tt {0})

module _ (old mid new : Option (List ℕ)) (at then now : ℕ) (so_far : List Modes) (n i : ℕ) (inside : i < n)
    (goes : GoesOn ports old at mid then so_far (units n) (drop i (units n))) where
  within : i < length (units n)
  within = omega (arith, length-replicate n (tt {0}))

  pub ports_further : (x : Modes) → Finds port mid then new now (Ok x)
      → GoesOn ports old at new now (so_far ++ x ∷ []) (units n) (drop (i + 1) (units n))
  ports_further x found = goes_further_at ports old mid new at then now so_far (units n) i (tt {0}) within goes x found

  pub ports_to_stop : (s : ServeStop) → Finds port mid then new now (Err s) → Finds (ports_of n) old at new now (Err s)
  ports_to_stop s found = goes_to_stop_at ports old mid new at then now so_far (units n) i (tt {0}) within goes s found

pub ports_to_end : (old new : Option (List ℕ)) (at now : ℕ) (so_far : List Modes) (n i : ℕ) → n ≤ i
    → GoesOn ports old at new now so_far (units n) (drop i (units n))
    → Finds (ports_of n) old at new now (Ok so_far)
ports_to_end old new at now so_far n i past goes =
    goes_to_end_at ports old new at now so_far (units n) i (omega (arith, length-replicate n (tt {0}))) goes

-- all fields

abbrev pub behind_modes : List Modes → Reader Ports
behind_modes modes = number_within 0 MOST_PIPELINES 1 >>= λ pipes. done (declared modes pipes)

abbrev pub behind_count : ℕ → Reader Ports
behind_count count = ports_of count >>= behind_modes

abbrev pub behind_magic : Reader Ports
behind_magic = number_within 1 4 1 >>= behind_count

pub no_magic : (old new : Option (List ℕ)) (at now : ℕ) (s : ServeStop) → Finds (number_within magic magic 4) old at new now (Err s)
    → Finds header old at new now (Err s)
unfolding header
no_magic old new at now s found = stops_first (number_within magic magic 4) (λ _ _. behind_magic) old new at now s found

module _ (start old : Option (List ℕ)) (from at m : ℕ) (first : Finds (number_within magic magic 4) start from old at (Ok m)) where
  with_magic : (new : Option (List ℕ)) (now : ℕ) (result : Result Ports ServeStop) → Finds behind_magic old at new now result
      → Finds header start from new now result
  unfolding header
  with_magic new now result second =
      then_finds (number_within magic magic 4) (λ _ _. behind_magic) start old new from at now m result first second

  pub no_count : (new : Option (List ℕ)) (now : ℕ) (s : ServeStop) → Finds (number_within 1 4 1) old at new now (Err s)
      → Finds header start from new now (Err s)
  no_count new now s found =
      with_magic new now (Err s) (stops_first (number_within 1 4 1) (λ _ count. behind_count count) old new at now s found)

  module _ (mid : Option (List ℕ)) (then count : ℕ) (counted : Finds (number_within 1 4 1) old at mid then (Ok count)) where
    with_count : (new : Option (List ℕ)) (now : ℕ) (result : Result Ports ServeStop) → Finds (behind_count count) mid then new now result
        → Finds header start from new now result
    with_count new now result second =
        with_magic new now result
        (then_finds (number_within 1 4 1) (λ _ count. behind_count count) old mid new at then now count result counted second)

    pub no_ports : (new : Option (List ℕ)) (now : ℕ) (s : ServeStop) → Finds (ports_of count) mid then new now (Err s)
        → Finds header start from new now (Err s)
    no_ports new now s found =
        with_count new now (Err s) (stops_first (ports_of count) (λ _ modes. behind_modes modes) mid new then now s found)

    module _ (late : Option (List ℕ)) (further : ℕ) (modes : List Modes) (told : Finds (ports_of count) mid then late further (Ok modes))
      where
        with_ports : (new : Option (List ℕ)) (now : ℕ) (result : Result Ports ServeStop)
            → Finds (behind_modes modes) late further new now result
            → Finds header start from new now result
        with_ports new now result second =
            with_count new now result
            (then_finds (ports_of count) (λ _ modes. behind_modes modes) mid late new then further now modes result told second)

        pub no_pipes : (new : Option (List ℕ)) (now : ℕ) (s : ServeStop)
            → Finds (number_within 0 MOST_PIPELINES 1) late further new now (Err s)
            → Finds header start from new now (Err s)
        no_pipes new now s found =
            with_ports new now (Err s)
            (stops_first (number_within 0 MOST_PIPELINES 1) (λ _ pipes. done (declared modes pipes)) late new further now s found)

        pub whole_header : (new : Option (List ℕ)) (now pipes : ℕ)
            → Finds (number_within 0 MOST_PIPELINES 1) late further new now (Ok pipes)
            → Finds header start from new now (Ok (declared modes pipes))
        whole_header new now pipes found =
            with_ports new now (Ok (declared modes pipes))
            (then_finds (number_within 0 MOST_PIPELINES 1) (λ _ pipes. done (declared modes pipes)) late new new further now now pipes
            (Ok (declared modes pipes)) found (finds_here new now (declared modes pipes)))
