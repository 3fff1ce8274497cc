-- What the functions that hear a message say of it is what the definition makes of it.
use Rattle.std.proofs.Common.{◌≡◌, ◌∙◌, ℕ, ◌==◌, ◌&&◌, Bool, true, false, List, [], ◌++◌, drop, length, Option, Some, None, sym, ap}
use Rattle.std.specs.Prelude.{OnErr, OnOk, Result, Ok, Err, nat_le, set, if◌then◌else◌}
use Rattle.wf_calls.specs.declared.call.Call.{Call}
use Rattle.wf_calls.specs.declared.code.Code.TheVariants as code
use Rattle.wf_guard.specs.LiveStreams.{destroyed_by}
use Rattle.wf_guard.specs.Policy.{left_by}
use Rattle.wf_guard.specs.Serving.{Served, refused_by}
use Rattle.wf_guard.specs.declared.clients.TheConstants.{MANAGER, OUTPUT}
use Rattle.wf_host.specs.declared.told.Told.{Told}
use Rattle.wf_io.specs.Bytes.{Puts}
use Rattle.wf_wire.specs.declared.message.Message.{Message}
use Rattle.wf_serve.specs.AnswerBytes.{answer_bytes, answer_to}
use Rattle.wf_serve.specs.Bodies.{message_in, word_at}
use Rattle.wf_serve.specs.Drawing.{put_by}
use Rattle.wf_serve.specs.Heard.{Heard, Hears, answered, asks, begin_in, calls, done, heard_as, left, left_shown, one}
use Rattle.wf_serve.specs.Heard.{quietly, rectangle_in}
use Rattle.wf_serve.specs.Kinds.{kind_of}
use Rattle.wf_serve.specs.Putting.{PutsFront}
use Rattle.wf_serve.specs.Steps.{Asks, Calls, HasLeft, HearsKind, LeavesIf, PutsIf, TicksIf}
use Rattle.wf_serve.specs.Ticks.{ticked}
use Rattle.wf_serve.specs.declared.kind.Kind.{Kind}
use Rattle.wf_serve.specs.declared.kind.Kind.TheVariants as kind
use Rattle.wf_serve.specs.declared.kind.TheConstants.{LEFT, TICK}

-- what is left, answered and shown
abbrev pub heard_so : Served → List ℕ → List ℕ → Heard
heard_so new ans fs = record { now = new; answers = ans; frames = fs }

module _ (client number : ℕ) (old new : Served) where
  asks_so : (m : Option Message) (t : Told) → Asks client m old new t → (refuses : Bool) × (asks client m refuses old ≡ (new, t))
  asks_so None t (same, told) = (false, λ i. (sym same i, sym told i))
  asks_so (Some m) t serves = serves

  answered_so : (x : Served × Told) (t : Told) (ans fs : List ℕ) → x ≡ (new, t) → ans ≡ one client number t → fs ≡ []
      → answered client number x ≡ heard_so new ans fs
  answered_so x t ans fs is told shown = ap (answered client number) is ∙ λ i. heard_so new (sym told i) (sym shown i)

  calls_so : (o : Option Call) (m : Option Message) (ans fs : List ℕ) → Calls o client number m old new ans → fs ≡ []
      → (refuses : Bool) × (calls o client number m refuses old ≡ heard_so new ans fs)
  calls_so (Some c) m ans fs (now, told) shown = (false, λ i. heard_so (sym now i) (sym told i) (sym shown i))
  calls_so None m ans fs (t, asked, told) shown =
      let so = asks_so m t asked in (so.0, answered_so (asks client m so.0 old) t ans fs so.1 told shown)

  puts_so : (is_whole : Bool) (body : List ℕ) (t : Told) → PutsIf is_whole client body old new t
      → (if is_whole then put_by client (rectangle_in body) (drop 32 body) old else (old, refused_by code.IllegalArgument)) ≡ (new, t)
  puts_so true body t put = put
  puts_so false body t (same, told) = λ i. (sym same i, sym told i)

  left_so : (k : ℕ) → HasLeft k old new → (refuses : Bool) × (left k refuses old ≡ new)
  left_so k (middle, t, (refuses, is), now) = (
    refuses,
    ap (λ (x : Served × Told). let v : Served = x.0 in
        record v {
          machine = destroyed_by k v.owned v.machine;
          owned = left_by k v.owned;
          waiting = set v.waiting k false;
          shown = left_shown k v.shown;
        })
        is ∙ sym now,
  )

  leaves_so : (is_one : Bool) (body ans fs : List ℕ) → LeavesIf is_one client number body old new ans → fs ≡ []
      → (refuses : Bool)
      × ((if is_one
      then quietly (left (word_at body 0) refuses old)
      (answer_bytes (answer_to MANAGER LEFT (record { code = 0; value = word_at body 0 }) []) ++ one client number done)
      else quietly old (one client number (refused_by code.IllegalArgument)))
      ≡ heard_so new ans fs)
  leaves_so true body ans fs (gone, told) shown =
      let so = left_so (word_at body 0) gone in (so.0, λ i. heard_so (so.1 i) (sym told i) (sym shown i))
  leaves_so false body ans fs (same, told) shown = (false, λ i. heard_so (sym same i) (sym told i) (sym shown i))

  ticks_so : (is_bare : Bool) (ans fs : List ℕ) → TicksIf is_bare client old new ans fs
      → (if is_bare
      then heard_so (ticked old).now (ticked old).answers (ticked old).frames
      else quietly old (one client TICK (refused_by code.IllegalArgument)))
      ≡ heard_so new ans fs
  ticks_so true ans fs (now, told, shown) = λ i. heard_so (sym now i) (sym told i) (sym shown i)
  ticks_so false ans fs (same, told, shown) = λ i. heard_so (sym same i) (sym told i) (sym shown i)

  kind_so : (k : Kind) (body ans fs : List ℕ) → HearsKind k client number body old new ans fs
      → (refuses : Bool) × (heard_as k client number body refuses old ≡ heard_so new ans fs)
  kind_so kind.Refused body ans fs (t, (same, is), told, shown) =
      (false, answered_so (old, refused_by code.Unsupported) t ans fs (λ i. (sym same i, sym is i)) told shown)
  kind_so kind.Call body ans fs (called, shown) =
      calls_so (begin_in (message_in number body)) (message_in number body) ans fs called shown
  kind_so kind.Put body ans fs (t, put, told, shown) =
      (false, answered_so _ t ans fs (puts_so (nat_le 32 (length body)) body t put) told shown)
  kind_so kind.Size body ans fs (same, told, shown) = (false, λ i. heard_so (sym same i) (sym told i) (sym shown i))
  kind_so kind.Wait body ans fs (waits, shown) = (false, λ i. heard_so (sym waits i).0 (sym waits i).1 (sym shown i))
  kind_so kind.Tell body ans fs (same, told, shown) = (false, λ i. heard_so (sym same i) (sym told i) (sym shown i))
  kind_so kind.Gone body ans fs (gone, shown) =
      leaves_so (length body == 8 && nat_le (word_at body 0) OUTPUT) body ans fs gone shown
  kind_so kind.Tick body ans fs ticks = (false, ticks_so (length body == 0) ans fs ticks)

module _ (k : Kind) (client number : ℕ) (body : List ℕ) (old : Served) (of_client : k ≡ kind_of client number) where
  hears_so : (new : Served) (ans fs : List ℕ) → HearsKind k client number body old new ans fs → Hears client number body old new ans fs
  hears_so new ans fs hears =
      let so = kind_so client number old new k body ans fs hears in
      record { refuses = so.0; is = ap (λ j. heard_as j client number body so.0 old) (sym of_client) ∙ so.1 }

  module _ {K E : Type 0} (took : K → List ℕ → Type 0) (frames now : K) where
    pub heard_ok : (new : Served) (ans : List ℕ) (r : Result (Unit {0}) E)
        → OnOk r ((fs : List ℕ) × HearsKind k client number body old new ans fs × Puts took frames now fs)
        → OnOk r ((fs : List ℕ) × Hears client number body old new ans fs × Puts took frames now fs)
    heard_ok new ans (Ok x) (fs, hears, put) = (fs, hears_so new ans fs hears, put)
    heard_ok new ans (Err stop) none = tt

    pub heard_cut : (r : Result (Unit {0}) E)
        → OnErr r ((after : Served) × (ans : List ℕ) × (fs : List ℕ) × HearsKind k client number body old after ans fs
        × PutsFront took frames now fs)
        → OnErr r ((after : Served) × (ans : List ℕ) × (fs : List ℕ) × Hears client number body old after ans fs
        × PutsFront took frames now fs)
    heard_cut (Ok x) none = tt
    heard_cut (Err stop) (after, ans, fs, hears, cut) = (after, ans, fs, hears_so after ans fs hears, cut)
