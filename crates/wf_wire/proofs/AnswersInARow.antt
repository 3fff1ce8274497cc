-- One message more that is answered.
use Rattle.std.proofs.Common.{◌≡◌, ◌∙◌, ℕ, suc, ◌+◌, ◌-◌, ◌≤◌, List, [], ◌∷◌, ◌++◌, length, Option, Some, None, subst, sym, ap, refl, arith}
use Rattle.std.proofs.Common.{append_assoc, length-append}
use Rattle.std.proofs.lemmas.List.{append-nil}
use Rattle.wf_image.specs.declared.canvas.Canvas.{Canvas}
use Rattle.wf_calls.specs.declared.call.Call.{Call}
use Rattle.wf_calls.specs.declared.call.Job.{Job}
use Rattle.wf_wire.specs.declared.message.Message.{Message}
use Rattle.wf_wire.specs.Answers.{AnswersAll, AreEnds, Answers, begun}
use Rattle.wf_machine.specs.Histories.{Happening}
use Rattle.wf_wire.specs.Asked.{asked}

-- a message makes two events at most

ends_few : (client : ℕ) (o : Option Job) (ends : List Happening) → AreEnds client o ends → length ends ≤ 1
ends_few client None ends is = let none : length ends ≡ 0 = ap length is in omega arith
ends_few client (Some job) ends is = let one : length ends ≡ 1 = ap length is.1 in omega arith

pub few_events : (client : ℕ) (m : Message) (held now : Option Canvas) (es : List Happening) (bytes : List ℕ)
    → Answers client m held es bytes now → length es ≤ 2
few_events client m held now es bytes answers = by_asked (asked held m) refl
  where
    by_asked : (o : Option Call) → asked held m ≡ o → length es ≤ 2
    by_asked None is = let q = rw is at answers in let none : length es ≡ 0 = ap length q.events in omega arith
    by_asked (Some c) is =
        let made = rw is at answers in
        let long : length es ≡ suc (length made.ends) = ap length made.events in
        let few : length made.ends ≤ 1 = ends_few client (begun made.reply) made.ends made.ended in
        omega arith

pub answers_more : (client : ℕ) (ms : List Message) (m : Message) (left : ℕ) (held middle now : Option Canvas) (es more : List Happening)
    (bytes answer : List ℕ) → AnswersAll client ms left held es bytes middle → 3 ≤ left - length es
    → Answers client m middle more answer now → AnswersAll client (ms ++ m ∷ []) left held (es ++ more) (bytes ++ answer) now
answers_more client [] m left held middle now es more bytes answer so_far room last =
    let none : length es ≡ 0 = ap length so_far.0 in
    record {
      room = omega (arith, room, none);
      first = more;
      rest = [];
      answer = answer;
      answers = [];
      middle = now;
      events = ap (λ (xs : List Happening). xs ++ more) so_far.0 ∙ sym (append-nil more);
      bytes_are = ap (λ (xs : List ℕ). xs ++ answer) so_far.1 ∙ sym (append-nil answer);
      answered = subst (λ (h : Option Canvas). Answers client m h more answer now) so_far.2 last;
      others = (refl, refl, refl);
    }
answers_more client (n ∷ ms) m left held middle now es more bytes answer so_far room last =
    let long : length es ≡ length so_far.first + length so_far.rest =
    ap length so_far.events ∙ length-append so_far.first so_far.rest in
    record {
      room = so_far.room;
      first = so_far.first;
      rest = so_far.rest ++ more;
      answer = so_far.answer;
      answers = so_far.answers ++ answer;
      middle = so_far.middle;
      events = ap (λ (xs : List Happening). xs ++ more) so_far.events ∙ append_assoc so_far.first so_far.rest more;
      bytes_are = ap (λ (xs : List ℕ). xs ++ answer) so_far.bytes_are ∙ append_assoc so_far.answer so_far.answers answer;
      answered = so_far.answered;
      others = answers_more client ms m (left - length so_far.first) so_far.middle middle now so_far.rest more so_far.answers answer
          so_far.others (omega (arith, room, long)) last;
    }
