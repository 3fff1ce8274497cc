-- What a session that ended says of its input.
use Rattle.std.proofs.Common.{◌≡◌, ◌≢◌, ◌∙◌, ℕ, zero, suc, ◌+◌, ◌≤◌, ◌==◌, Bool, true, false, cond, List, [], ◌∷◌, ◌++◌, length}
use Rattle.std.proofs.Common.{Option, Some, None, Result, Ok, Err, inl, inr, refl, sym, ap, subst, arith, length-append, ne_eqb}
use Rattle.std.proofs.lemmas.Bool.{eq-eqb}
use Rattle.std.specs.Prelude.{IfSome, IsErrOf, IsTrue}
use Rattle.wf_io.specs.Causes.{Rose}
use Rattle.wf_calls.specs.Codes.{entry}
use Rattle.wf_calls.specs.declared.ports.Ports.{Ports}
use Rattle.atomic_table.specs.Seated.{TableId}
use Rattle.wf_desk.specs.Desk.{AreAll, AreAll-in_order, IsClosing, Opened}
use Rattle.wf_desk.specs.History.{IsLegal, events_of}
use Rattle.wf_machine.specs.Object.{MayAnswer, after}
use Rattle.wf_model.specs.State.{State, opening}
use Rattle.wf_wire.specs.declared.stop.ServeStop.{ServeStop}
use Rattle.wf_wire.specs.declared.stop.ServeStop.TheVariants as stop
use Rattle.wf_machine.specs.Histories.{Happening, PlainPass}
use Rattle.wf_wire.specs.Header.{header}
use Rattle.wf_wire.specs.Reading.{cursor, number, number_that}
use Rattle.wf_wire.specs.Served.{Closed, IsRead, IsReadOf, PutsOf, is_write_fault, stop_of}
use Rattle.wf_wire.specs.Session.{Begins, PlainSession, Told, fault, messages, session, told}
use Rattle.wf_wire.specs.Taking.{Gives, Opens, is_of_reading}
use Rattle.wf_wire.proofs.ToldInARow.{are_told}
use Rattle.wf_wire.proofs.Within.{tells_all}
use Rattle.wf_play.specs.Report.{IsCaused}
use Rattle.wf_play.specs.Serving.{IsClosed, IsOpened, first_pass, status_of_end}
use Rattle.wf_play.specs.Sessions.{AnswersEach, PutsAnswers, Runs, SaysOfSession, session_calls}
use Rattle.wf_play.specs.declared.report.Status.{Status}
use Rattle.wf_play.specs.declared.report.Status.TheVariants as status

-- causes

pub end_caused : (a b c d : ℕ) (end : Result ℕ ServeStop) → (IsErrOf end stop.ReadFault → Rose a b)
    → (IsTrue (is_write_fault (stop_of end)) → Rose c d) → IsCaused a b c d (status_of_end end)
end_caused a b c d (Ok n) read write = tt
end_caused a b c d (Err stop.ReadFault) read write = read refl
end_caused a b c d (Err (stop.WriteFault written)) read write = write refl
end_caused a b c d (Err (stop.BadMessage at rule)) read write = tt
end_caused a b c d (Err (stop.Quota at)) read write = tt

pub end_used : (end : Result ℕ ServeStop) → status_of_end end ≢ status.Usage
end_used (Ok n) is = absurd cc
end_used (Err stop.ReadFault) is = absurd cc
end_used (Err (stop.WriteFault written)) is = absurd cc
end_used (Err (stop.BadMessage at rule)) is = absurd cc
end_used (Err (stop.Quota at)) is = absurd cc

-- the history of one client

all_own : (es : List Happening) → ((client : ℕ) → 1 ≤ client → events_of client es ≡ []) → events_of 0 es ≡ es
all_own [] none = refl
all_own (e ∷ es) none = of_client e.client refl (λ own. all_own es (others own))
  where
    others : e.client ≡ 0 → (client : ℕ) → 1 ≤ client → events_of client es ≡ []
    others own client some =
        let apart : (e.client == client) ≡ false = ne_eqb e.client client (λ same. omega (arith, own, same, some)) in
        ap (λ (b : Bool). cond b (e ∷ events_of client es) (events_of client es)) (sym apart) ∙ none client some

    of_client : (n : ℕ) → e.client ≡ n → (e.client ≡ 0 → events_of 0 es ≡ es) → events_of 0 (e ∷ es) ≡ e ∷ es
    of_client zero own rest =
        ap (λ (b : Bool). cond b (e ∷ events_of 0 es) (events_of 0 es)) (eq-eqb e.client 0 own)
        ∙ ap (λ (xs : List Happening). e ∷ xs) (rest own)
    of_client (suc n) own rest =
        let here : events_of (suc n) (e ∷ es) ≡ e ∷ events_of (suc n) es =
        ap (λ (b : Bool). cond b (e ∷ events_of (suc n) es) (events_of (suc n) es)) (eq-eqb e.client (suc n) own) in
        absurd (let no : e ∷ events_of (suc n) es ≡ [] = sym here ∙ none (suc n) (omega arith) in cc)

-- the session of an input whose header declares these ports
session_of : (bytes : List ℕ) (ports : Ports) (at : ℕ) (rest : List ℕ) → header (cursor 0 bytes) ≡ Ok (ports, cursor at rest)
    → session bytes ≡ record { ports = Some ports; told = messages (length bytes) (cursor at rest) }
unfolding session
session_of bytes ports at rest is = rw is refl

-- the one pass of a desk is all
pub one_pass_all : (desk : TableId) (k : PlainPass) (quotas : List ℕ) (q : ℕ) → quotas ≡ q ∷ [] → k.desk ≡ desk → k.client ≡ 0
    → AreAll desk (length quotas) (k ∷ [])
one_pass_all desk k quotas q one of_desk first =
    let counted : 1 ≡ length quotas = sym (ap length one) in
    AreAll-in_order desk (length quotas) (k ∷ []) counted (of_desk, first, tt)

module _ {O : Type 0} (took : O → List ℕ → Type 0) (from to : O) (opened : Opened State) (new : PlainPass) (at : ℕ)
    (rest : List ℕ) (left : Option (List ℕ)) (end : Result ℕ ServeStop)
    (closed : Closed took (first_pass opened.id opened.opening) new from to at (Some rest) left end)
    (one : opened.quotas ≡ session_calls ∷ []) (is_closed : IsClosed opened (new ∷ [])) (ports : Ports)
    (is_opened : opened.opening ≡ opening ports) where
  ended : IsClosing after MayAnswer entry opened (new ∷ []) is_closed.0 is_closed.1
  ended = is_closed.2

  all_mine : closed.served.events ++ closed.closing ≡ ended.history
  all_mine =
      let mine : new.mine ≡ events_of new.client ended.history = ended.mine 0 new (omega arith) in
      sym closed.grew.mine ∙ mine ∙ ap (λ (client : ℕ). events_of client ended.history) closed.grew.client
      ∙ all_own ended.history (λ client some.
      let counted : length opened.quotas ≡ 1 = ap length one in ended.no_other client (omega (arith, counted, some)))

  run : Runs ports closed.served.ms closed.served.bytes
  run = record {
    events = closed.served.events;
    closing = closed.closing;
    held = closed.held;
    answers = closed.served.answers;
    closes = closed.closes;
    legal =
        subst (λ (es : List Happening). IsLegal after MayAnswer (opening ports) es) (sym all_mine)
        (subst (λ (h : State). IsLegal after MayAnswer h ended.history) is_opened ended.legal);
  }

  -- what is told of the whole input
  module _ (bytes : List ℕ) (is : IsOpened bytes ports at rest) where
    whole : (t : Told) → messages (length rest + 1) (cursor at rest) ≡ t → session bytes ≡ record { ports = Some ports; told = t }
    whole t told_is =
        session_of bytes ports at rest is.header_is
        ∙ ap (λ (t : Told). record { ports = Some ports; told = t })
        (tells_all (cursor at rest) (length rest + 1) (length bytes) (omega arith) (omega (arith, is.shorter)) ∙ told_is)

    -- what was put, by how the session ended
    says_by : (stays : List ℕ) (e : Result ℕ ServeStop) → IsRead at closed.served.ms rest stays (stop_of e)
        → PutsOf took from to 0 session_calls closed.served.ms closed.served.events closed.served.bytes closed.held (stop_of e)
        → SaysOfSession took from to bytes (status_of_end e)
    unfolding run
    says_by stays (Ok n) read put =
        let told_is : session bytes ≡ record { ports = Some ports; told = told closed.served.ms None } =
        whole (told closed.served.ms None) (are_told at closed.served.ms rest stays None read) in
        subst (λ (s : PlainSession). (s.told.fault ≡ None) × ((p : Ports) × (s.ports ≡ Some p))
        × PutsAnswers took from to s.ports s.told.messages) (sym told_is) (refl, (ports, refl), (closed.served.bytes, run, put))
    says_by stays (Err (stop.BadMessage place rule)) read put =
        let told_is : session bytes ≡ record { ports = Some ports; told = told closed.served.ms (Some (fault place rule)) } =
        whole (told closed.served.ms (Some (fault place rule)))
        (are_told at closed.served.ms rest stays (Some (stop.BadMessage place rule)) read) in
        subst (λ (s : PlainSession). (s.told.fault ≡ Some (fault place rule)) × PutsAnswers took from to s.ports s.told.messages)
        (sym told_is) (refl, (closed.served.bytes, run, put))
    says_by stays (Err stop.ReadFault) read put =
        let others = are_told at closed.served.ms rest stays (Some stop.ReadFault) read in
        let told_is : session bytes ≡ record { ports = Some ports; told = messages (length rest + 1) (cursor at rest) } =
        whole (messages (length rest + 1) (cursor at rest)) refl in
        inr (
          closed.served.ms,
          others.0,
          ap (λ (s : PlainSession). s.told.messages) told_is ∙ others.1,
          subst (λ (s : PlainSession). PutsAnswers took from to s.ports closed.served.ms) (sym told_is) (closed.served.bytes, run, put),
        )
    says_by stays (Err (stop.Quota place)) read put = (
      closed.served.bytes,
      record {
        ports = ports;
        ms = closed.served.ms;
        message = read.stops.1;
        place = read.place;
        now = cursor read.stops.2 stays;
        leads = record { first = cursor at rest; header_is = is.header_is; reads = read.reads };
        place_is = sym read.stops.0;
        whole = read.stops.3;
        spent = record { run = run; few = put.1 };
      },
      put.0,
    )
    says_by stays (Err (stop.WriteFault written)) read put = (
      ports,
      closed.served.ms,
      read.place,
      closed.served.bytes,
      record { first = cursor at rest; header_is = is.header_is; reads = read.reads },
      record { run = run; cut = put.1 },
      put.0,
    )

    by_left : (o : Option (List ℕ)) → IsReadOf at closed.served.ms (Some rest) o (stop_of end)
        → SaysOfSession took from to bytes (status_of_end end)
    by_left None read = absurd read
    by_left (Some stays) read = says_by stays end read closed.served.put

    pub says_all : SaysOfSession took from to bytes (status_of_end end)
    says_all = by_left left closed.served.read

-- the header

some_taken : (taken : List ℕ) (at : ℕ) (ports : Ports) → header (cursor 0 (taken ++ [])) ≡ Ok (ports, cursor at []) → 1 ≤ length taken
unfolding header number_that number
some_taken [] at ports read = absurd cc
some_taken (b ∷ bs) at ports read = omega arith

gives_header : (bytes rest : List ℕ) (at : ℕ) (ports : Ports) → Gives header bytes 0 rest at ports → IsOpened bytes ports at rest
gives_header bytes rest at ports gives = record {
  header_is = ap (λ (xs : List ℕ). header (cursor 0 xs)) gives.front ∙ gives.reads rest;
  shorter =
      let long : length bytes ≡ length gives.taken + length rest = ap length gives.front ∙ length-append gives.taken rest in
      omega (arith, long, some_taken gives.taken at ports (gives.reads []));
}

-- what is said of an input whose header was read
pub after_header : (Says : List ℕ → Type 0) (old new : Option (List ℕ)) (at : ℕ) (ports : Ports) → Opens header old new (Ok (at, ports))
    → ((bytes rest : List ℕ) → new ≡ Some rest → IsOpened bytes ports at rest → Says bytes) → IfSome old Says
after_header Says None new at ports opens says = tt
after_header Says (Some bytes) None at ports opens says = absurd opens
after_header Says (Some bytes) (Some rest) at ports opens says = says bytes rest refl (gives_header bytes rest at ports opens)

-- and of one whose header was not
pub no_header : {O : Type 0} (took : O → List ℕ → Type 0) (k : O) (old new : Option (List ℕ)) (s : ServeStop) → IsTrue (is_of_reading s)
    → Opens header old new (Err s) → Begins old new (Err s) → IfSome old (λ bytes. SaysOfSession took k k bytes (status_of_end (Err s)))
no_header took k None new s own opens begins = tt
no_header took k (Some bytes) None s own opens begins = absurd opens
no_header took k (Some bytes) (Some rest) stop.ReadFault own opens begins = inl (λ before t. t)
no_header took k (Some bytes) (Some rest) (stop.BadMessage place rule) own opens begins =
    subst (λ (s : PlainSession). (s.told.fault ≡ Some (fault place rule)) × PutsAnswers took k k s.ports s.told.messages) (sym begins)
    (refl, λ before t. t)
no_header took k (Some bytes) (Some rest) (stop.WriteFault written) own opens begins = absurd (let no : false ≡ true = own in cc)
no_header took k (Some bytes) (Some rest) (stop.Quota place) own opens begins = absurd (let no : false ≡ true = own in cc)

-- without a fault all is answered, unless memory runs out
module _ {O : Type 0} (took : O → List ℕ → Type 0) (old new : O) where
  one_answered : (a b c d : ℕ) (bytes : List ℕ) (s : Status) → (s ≡ status.Usage → ⊥) → SaysOfSession took old new bytes s
      → IsCaused a b c d s → AnswersEach bytes a b c d s
  one_answered a b c d bytes status.Done accepted says caused = λ whole calm quiet room. inl refl
  one_answered a b c d bytes status.Usage accepted says caused = absurd says
  one_answered a b c d bytes status.ReadFault accepted says caused = λ whole calm quiet room. absurd (calm caused)
  one_answered a b c d bytes status.TooLong accepted says caused = absurd says
  one_answered a b c d bytes (status.Refused line rule) accepted says caused = absurd says
  one_answered a b c d bytes (status.WriteFault written) accepted says caused = λ whole calm quiet room. absurd (quiet caused)
  one_answered a b c d bytes (status.Differs at) accepted says caused = absurd says
  one_answered a b c d bytes (status.BadOrder entry) accepted says caused = absurd says
  one_answered a b c d bytes (status.BadFilm at rule) accepted says caused = absurd says
  one_answered a b c d bytes (status.BadMessage at rule) accepted says caused =
      λ whole calm quiet room. absurd (let no : None ≡ Some (fault at rule) = sym whole ∙ says.0 in cc)
  one_answered a b c d bytes (status.Quota at) accepted says caused = λ whole calm quiet room. absurd (room at says.0 says.1)
  one_answered a b c d bytes status.NoMemory accepted says caused = λ whole calm quiet room. inr refl

  pub all_answered : (a b c d : ℕ) (o : Option (List ℕ)) (s : Status) → (s ≡ status.Usage → ⊥)
      → IfSome o (λ bytes. SaysOfSession took old new bytes s) → IsCaused a b c d s → IfSome o (λ bytes. AnswersEach bytes a b c d s)
  all_answered a b c d None s accepted says caused = tt
  all_answered a b c d (Some bytes) s accepted says caused = one_answered a b c d bytes s accepted says caused
