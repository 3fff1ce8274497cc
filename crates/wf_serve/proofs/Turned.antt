-- What a run of messages leaves is what turns lead to.
use Rattle.std.proofs.Common.{◌≡◌, ◌∙◌, ℕ, zero, suc, ◌+◌, ◌==◌, ◌&&◌, Bool, true, false, not, List, [], ◌∷◌, ◌++◌, drop, length, Option}
use Rattle.std.proofs.Common.{Some, None}
use Rattle.std.proofs.Common.{refl, sym, ap, subst}
use Rattle.std.specs.Prelude.{pos, get_or, nat_le, set, if◌then◌else◌}
use Rattle.wf_image.specs.declared.canvas.Canvas.{Canvas}
use Rattle.wf_calls.specs.Parts.{is_begin}
use Rattle.wf_calls.specs.Requests.{call_of}
use Rattle.wf_calls.specs.declared.call.Call.{Call}
use Rattle.wf_calls.specs.declared.call.Call.TheVariants as call
use Rattle.wf_calls.specs.declared.call.Job.{Job}
use Rattle.wf_calls.specs.declared.code.Code.{Code}
use Rattle.wf_calls.specs.declared.code.Code.TheVariants as code
use Rattle.wf_calls.specs.declared.ports.Ports.{Ports}
use Rattle.wf_calls.specs.declared.reply.Reply.{Reply}
use Rattle.wf_calls.specs.declared.request.Request.{Request}
use Rattle.wf_host.specs.Held.{canvas_of}
use Rattle.wf_host.specs.Made.{not_made}
use Rattle.wf_host.specs.declared.told.Told.{Told}
use Rattle.wf_model.specs.State.{State}
use Rattle.wf_model.specs.Step.{step}
use Rattle.wf_model.specs.declared.TheConstants.{MOST_CONTEXTS}
use Rattle.wf_wire.specs.declared.message.Message.{Message}
use Rattle.wf_wire.specs.declared.message.Message.TheVariants as message
use Rattle.wf_guard.specs.LiveStreams.{Turn, after_turn, after_turns, destroyed_by, destroying, is_of_frames, opened}
use Rattle.wf_guard.specs.LiveStreams.Turn.{asks, frames}
use Rattle.wf_guard.specs.Policy.{left_by, refusal_of}
use Rattle.wf_guard.specs.Serving.{Asked, Served, allowed, drawn, given, lacks_place, made, refused_by, served, with_held}
use Rattle.wf_guard.specs.Serving.Asked.{discard, draw, plain, post}
use Rattle.wf_guard.specs.declared.clients.TheConstants.{OUTPUT}
use Rattle.wf_guard.specs.declared.form.Form.{Form}
use Rattle.wf_guard.specs.declared.form.Form.TheVariants as form
use Rattle.wf_guard.specs.declared.screen.Screen.{Screen}
use Rattle.wf_serve.specs.Bodies.{message_in, word_at}
use Rattle.wf_serve.specs.Drawing.{asked_of, put_by, put_on}
use Rattle.wf_serve.specs.Heard.{Heard, begin_in, calls, heard_as, left, one, quietly, rectangle_in}
use Rattle.wf_serve.specs.Kinds.{kind_of}
use Rattle.wf_serve.specs.Pixels.{may_put, put}
use Rattle.wf_serve.specs.Runs.{Incoming, Runs, ServesSame}
use Rattle.wf_serve.specs.Ticks.{Framed, composed, composed_all, ended, framed, next_tick, pictured, played, shown, ticked}
use Rattle.wf_serve.specs.declared.kind.Kind.{Kind}
use Rattle.wf_serve.specs.declared.kind.Kind.TheVariants as kind
use Rattle.wf_serve.specs.declared.kind.TheConstants.{TICK, WAIT}
use Rattle.wf_serve.specs.declared.pixels.Rectangle.{Rectangle}

-- what turns see of what is served
abbrev bare : Served → Served
bare v = record v { waiting = []; ticks = 0; form = form.Film; shown = [] }

-- the same turn leaves the same

held_bare : (f : Served → Canvas → Served × Told) (v : Served) → ((canvas : Canvas) → bare (f v canvas).0 ≡ (f (bare v) canvas).0)
    → (o : Option Canvas) → bare (with_held (f v) v o).0 ≡ (with_held (f (bare v)) (bare v) o).0
held_bare f v same None = refl
held_bare f v same (Some canvas) = same canvas

place_bare : (client : ℕ) (r : Request) (m : Bool) (v : Served) (b : Bool)
    → bare (if b then (v, not_made) else made client r v (step v.machine client (call_of r) m)).0
    ≡ (if b then (bare v, not_made) else made client r (bare v) (step v.machine client (call_of r) m)).0
place_bare client r m v true = refl
place_bare client r m v false = refl

plain_bare : (client : ℕ) (r : Request) (m : Bool) (v : Served) (o : Option Code)
    → bare (allowed client r m v o).0 ≡ (allowed client r m (bare v) o).0
plain_bare client r m v (Some why) = refl
plain_bare client r m v None = place_bare client r m v (lacks_place client r v.held)

asked_bare : (client : ℕ) (x : Asked) (m : Bool) (v : Served) → bare (served client x m v).0 ≡ (served client x m (bare v)).0
asked_bare client (plain r) m v = plain_bare client r m v (refusal_of client r v.owned)
asked_bare client post m v = held_bare (λ u. given client call.Post m u) v (λ canvas. refl) (canvas_of client v.held)
asked_bare client discard m v = held_bare (λ u. given client call.Discard m u) v (λ canvas. refl) (canvas_of client v.held)
asked_bare client (draw paint) m v = held_bare (λ u. drawn client paint u) v (λ canvas. refl) (canvas_of client v.held)

framed_bare : (c : Call) (v : Served) (b : Bool)
    → bare (if b then record v { machine = (step v.machine OUTPUT c false).0 } else v)
    ≡ (if b then record (bare v) { machine = (step v.machine OUTPUT c false).0 } else bare v)
framed_bare c v true = refl
framed_bare c v false = refl

bare_after : (t : Turn) (v : Served) → bare (after_turn t v) ≡ after_turn t (bare v)
bare_after (asks client x m) v = asked_bare client x m v
bare_after (frames c) v = framed_bare c v (is_of_frames c)

bare_turns : (ts : List Turn) (v : Served) → bare (after_turns v ts) ≡ after_turns (bare v) ts
bare_turns [] v = refl
bare_turns (t ∷ ts) v = bare_turns ts (after_turn t v) ∙ ap (λ u. after_turns u ts) (bare_after t v)

joined : (ts us : List Turn) (v : Served) → after_turns v (ts ++ us) ≡ after_turns (after_turns v ts) us
joined [] us v = refl
joined (t ∷ ts) us v = joined ts us (after_turn t v)

-- turns lead from one state to another
abbrev Leads : Served → Served → Type 0
Leads v w = (ts : List Turn) × (after_turns (bare v) ts ≡ bare w)

stays : (v : Served) → Leads v v
stays v = ([], refl)

then_leads : (u v w : Served) → Leads u v → Leads v w → Leads u w
then_leads u v w (ts, one) (us, two) = (ts ++ us, joined ts us (bare u) ∙ ap (λ s. after_turns s us) one ∙ two)

asks_leads : (client : ℕ) (x : Asked) (m : Bool) (v : Served) → Leads v (served client x m v).0
asks_leads client x m v = (asks client x m ∷ [], sym (asked_bare client x m v))

-- frames

alike : (h : State) (client : ℕ) (c : Call) → step h OUTPUT c false ≡ step h client c false
unfolding step
alike h client c = refl

begin_leads : (client : ℕ) (c : Call) (v : Served) → is_begin c ≡ true
    → Leads v (record v { machine = (step v.machine client c false).0 })
begin_leads client c v begins =
    (frames c ∷ [], rw begins (λ i. record (bare v) { machine = (alike v.machine client c i).0 }))

end_leads : (client : ℕ) (o : Option Job) (v : Served) → Leads v (record v { machine = ended client o v.machine })
end_leads client None v = stays v
end_leads client (Some job) v =
    (frames (call.End job) ∷ [], λ i. record (bare v) { machine = (alike v.machine client (call.End job) i).0 })

framed_leads : (client : ℕ) (c : Call) (v : Served) → is_begin c ≡ true → Leads v (record v { machine = (framed client c v.machine).now })
framed_leads client c v begins =
    let x : State × Reply = step v.machine client c false in
    then_leads v (record v { machine = x.0 }) (record v { machine = (framed client c v.machine).now }) (begin_leads client c v begins)
    (end_leads client (pictured x.1) (record v { machine = x.0 }))

next_leads : (n : ℕ) (v : Served) (x : Framed) → ((u : Served) → Leads u (record u { machine = composed n x.told.value u.machine }))
    → (b : Bool) → Leads (record v { machine = x.now }) (record v { machine = (if b then x.now else composed n x.told.value x.now) })
next_leads n v x others true = stays (record v { machine = x.now })
next_leads n v x others false = others (record v { machine = x.now })

composed_leads : (n after : ℕ) (v : Served) → Leads v (record v { machine = composed n after v.machine })
composed_leads zero after v = stays v
composed_leads (suc n) after v =
    let x : Framed = framed OUTPUT (call.BeginNext after) v.machine in
    then_leads v (record v { machine = x.now }) (record v { machine = composed (suc n) after v.machine })
    (framed_leads OUTPUT (call.BeginNext after) v refl) (next_leads n v x (λ u. composed_leads n x.told.value u) (x.told.value == 0))

shown_leads : (f : Form) (tick n : ℕ) (v : Served) (screens : List Screen)
    → Leads v (record v { machine = (shown f tick n v.machine screens).machine })
shown_leads f tick zero v screens = stays v
shown_leads f tick (suc n) v screens =
    let u : Served = record v { machine = (shown f tick n v.machine screens).machine } in
    then_leads v u (record v { machine = (shown f tick (suc n) v.machine screens).machine }) (shown_leads f tick n v screens)
    (framed_leads OUTPUT (call.BeginPort (pos (n + 1))) u refl)

tick_leads : (v : Served) → Leads v (ticked v).now
unfolding played composed_all
tick_leads v =
    let u : Served = record v { machine = composed MOST_CONTEXTS 0 v.machine } in
    then_leads v u (ticked v).now (composed_leads MOST_CONTEXTS 0 v)
    (shown_leads v.form (next_tick v.ticks) (length v.shown) u v.shown)

-- what messages ask for

begun_leads : (client number : ℕ) (r : Request) (m : Bool) (v : Served) (b : Bool) → is_begin (call_of r) ≡ b
    → Leads v (calls (if b then Some (call_of r) else None) client number (Some (message.Ask r)) m v).now
begun_leads client number r m v true begins = framed_leads client (call_of r) v begins
begun_leads client number r m v false begins = asks_leads client (plain r) m v

call_leads : (client number : ℕ) (o : Option Message) (m : Bool) (v : Served) → Leads v (calls (begin_in o) client number o m v).now
call_leads client number None m v = stays v
call_leads client number (Some (message.Ask r)) m v = begun_leads client number r m v (is_begin (call_of r)) refl
call_leads client number (Some message.Post) m v = asks_leads client post m v
call_leads client number (Some message.Discard) m v = asks_leads client discard m v
call_leads client number (Some (message.Paint paint)) m v = asks_leads client (asked_of (message.Paint paint)) m v

same_drawn : (x : Served × Told) (t : Told) (b : Bool) → (if b then x else (x.0, t)).0 ≡ x.0
same_drawn x t true = refl
same_drawn x t false = refl

put_held : (client : ℕ) (r : Rectangle) (pixels : List ℕ) (v : Served) (o : Option Canvas)
    → (with_held (drawn client (put r pixels) v) v o).0 ≡ (with_held (put_on client r pixels v) v o).0
put_held client r pixels v None = refl
put_held client r pixels v (Some canvas) =
    sym (same_drawn (drawn client (put r pixels) v canvas) (refused_by code.IllegalArgument) (may_put canvas.image r (length pixels)))

put_leads : (client : ℕ) (body : List ℕ) (v : Served) (b : Bool)
    → Leads v (if b then put_by client (rectangle_in body) (drop 32 body) v else (v, refused_by code.IllegalArgument)).0
put_leads client body v true =
    let r : Rectangle = rectangle_in body in
    subst (λ w. Leads v w) (put_held client r (drop 32 body) v (canvas_of client v.held))
    (asks_leads client (draw (put r (drop 32 body))) false v)
put_leads client body v false = stays v

wait_leads : (client : ℕ) (v : Served) (ans other : List ℕ) (b c : Bool)
    → Leads v (let x : Served × List ℕ = if b then (v, ans)
    else if c then (v, other) else (record v { waiting = set v.waiting client true }, []) in x.0)
wait_leads client v ans other true c = stays v
wait_leads client v ans other false true = stays v
wait_leads client v ans other false false = ([], refl)

ticks_lead : (client : ℕ) (body : List ℕ) (v : Served) (b : Bool)
    → Leads v (if b
    then (let x : Heard = record { now = (ticked v).now; answers = (ticked v).answers; frames = (ticked v).frames } in x)
    else quietly v (one client TICK (refused_by code.IllegalArgument))).now
ticks_lead client body v true = tick_leads v
ticks_lead client body v false = stays v

-- runs from the opening on

module _ (form : Form) (ports : Ports)
    (leaving : (ts : List Turn) (k : ℕ) → let v : Served = after_turns (opened form ports) ts in
    after_turns v (destroying k v.owned) ≡ record v { machine = destroyed_by k v.owned v.machine; owned = left_by k v.owned }) where
  abbrev first : Served
  first = opened form ports

  left_reached : (k : ℕ) (m : Bool) (v : Served) → Leads first v → Leads first (left k m v)
  left_reached k m v here =
      let x : Served = (served k discard m v).0 in
      let there : Leads first x = then_leads first v x here (asks_leads k discard m v) in
      let r : Served = after_turns first there.0 in
      let same : bare r ≡ bare x = bare_turns there.0 first ∙ there.1 in (
        there.0 ++ destroying k r.owned,
        joined there.0 (destroying k r.owned) (bare first)
            ∙ ap (λ s. after_turns s (destroying k r.owned)) (sym (bare_turns there.0 first))
            ∙ sym (bare_turns (destroying k r.owned) r) ∙ ap bare (leaving there.0 k)
            ∙ ap (λ (s : Served). let u : Served =
            record s { machine = destroyed_by k s.owned s.machine; owned = left_by k s.owned } in u) same,
      )

  leaves_reached : (client number : ℕ) (body : List ℕ) (m : Bool) (v : Served) (ans other : List ℕ) → Leads first v → (b : Bool)
      → Leads first (if b then quietly (left (word_at body 0) m v) ans else quietly v other).now
  leaves_reached client number body m v ans other here true = left_reached (word_at body 0) m v here
  leaves_reached client number body m v ans other here false = here

  on : (v w : Served) → Leads first v → Leads v w → Leads first w
  on v w here leads = then_leads first v w here leads

  kind_reached : (k : Kind) (client number : ℕ) (body : List ℕ) (m : Bool) (v : Served) → Leads first v
      → Leads first (heard_as k client number body m v).now
  kind_reached kind.Refused client number body m v here = here
  kind_reached kind.Call client number body m v here =
      on v (heard_as kind.Call client number body m v).now here (call_leads client number (message_in number body) m v)
  kind_reached kind.Put client number body m v here =
      on v (heard_as kind.Put client number body m v).now here (put_leads client body v (nat_le 32 (length body)))
  kind_reached kind.Size client number body m v here = here
  kind_reached kind.Wait client number body m v here =
      on v (heard_as kind.Wait client number body m v).now here
      (wait_leads client v (one client WAIT (refused_by code.IllegalArgument)) (one client WAIT not_made) (not (length body == 0))
      (get_or v.waiting client false))
  kind_reached kind.Tell client number body m v here = here
  kind_reached kind.Gone client number body m v here =
      leaves_reached client number body m v _ _ here (length body == 8 && nat_le (word_at body 0) OUTPUT)
  kind_reached kind.Tick client number body m v here =
      on v (heard_as kind.Tick client number body m v).now here (ticks_lead client body v (length body == 0))

  run_reached : (ms : List Incoming) (v w : Served) (ans fs : List ℕ) → Leads first v → Runs v ms w ans fs → Leads first w
  run_reached [] v w ans fs here (same, told, put) = subst (λ u. Leads first u) (sym same) here
  run_reached (m ∷ ms) v w ans fs here (u, a, b, f, g, hears, rest, told, put) =
      run_reached ms u w b g
      (subst (λ s. Leads first s) (ap (λ (x : Heard). x.now) hears.is)
      (kind_reached (kind_of m.client m.number) m.client m.number m.body hears.refuses v here)) rest

  pub turned : (ms : List Incoming) (w : Served) (ans fs : List ℕ) → Runs first ms w ans fs
      → (ts : List Turn) × ServesSame (after_turns first ts) w
  turned ms w ans fs runs =
      let there : Leads first w = run_reached ms first w ans fs (stays first) runs in
      let same : bare (after_turns first there.0) ≡ bare w = bare_turns there.0 first ∙ there.1 in (
        there.0,
        record {
          machine = ap (λ (s : Served). s.machine) same;
          owned = ap (λ (s : Served). s.owned) same;
          held = ap (λ (s : Served). s.held) same;
        },
      )
