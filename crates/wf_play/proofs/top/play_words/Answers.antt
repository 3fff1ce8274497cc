use Rattle.std.proofs.Common.{◌≡◌, ◌∙◌, ℕ, List, ap, sym, subst}
use Rattle.wf_command.specs.Meaning.{one_meaning}
use Rattle.wf_command.specs.declared.asked.Asked.{Asked}
use Rattle.wf_command.specs.declared.asked.Mode.TheVariants as mode
use Rattle.wf_play.specs.Big.{SaysOfBig}
use Rattle.wf_play.specs.Events.{IsLogged}
use Rattle.wf_play.specs.Notes.{PutsOrFront, note_of}
use Rattle.wf_play.specs.declared.report.Status.TheVariants as status
use Rattle.wf_play.proofs.Lines.{plain_note, same_note}
use Rattle.wf_play.proofs.top.play_words.Goals as goal

pub returns-in-Ok-clause-made : goal.returns-in-Ok-clause-made
returns-in-Ok-clause-made g c = λ asked asks is.
    let done = c.play_asked-report in
    let same = one_meaning c.args.words.now c.in-Ok.asked asked c.in-Ok.ensures.asked asks in
    subst (λ a. a.mode ≡ mode.Big → (done.new.input ≡ c.args.input.now)
    × SaysOfBig g.O.Sink.took c.args.film.now done.new.film a.form a.size done.result.order done.result.status) same
    done.ensures.made is

pub returns-in-Ok-clause-checked : goal.returns-in-Ok-clause-checked
returns-in-Ok-clause-checked g c = λ asked asks is.
    let done = c.play_asked-report in
    let same = one_meaning c.args.words.now c.in-Ok.asked asked c.in-Ok.ensures.asked asks in
    done.ensures.checked (ap (λ (a : Asked). a.mode) same ∙ is)

pub returns-in-Ok-clause-logged : goal.returns-in-Ok-clause-logged
returns-in-Ok-clause-logged g c = λ asked asks is.
    let done = c.play_asked-report in
    let same = one_meaning c.args.words.now c.in-Ok.asked asked c.in-Ok.ensures.asked asks in
    subst (λ a. a.mode ≡ mode.Events
    → IsLogged g.O.Sink.took c.args.film.now done.new.film a.depth done.result.order (g.I.Source.left c.args.input.now) done.result.status)
    same done.ensures.logged is

pub returns-in-Ok-clause-served : goal.returns-in-Ok-clause-served
returns-in-Ok-clause-served g c = λ asked asks is.
    let same = one_meaning c.args.words.now c.in-Ok.asked asked c.in-Ok.ensures.asked asks in
    c.play_asked-report.ensures.served (ap (λ (a : Asked). a.mode) same ∙ is)

pub returns-in-Ok-clause-film : goal.returns-in-Ok-clause-film
returns-in-Ok-clause-film g c = λ other. c.play_asked-report.ensures.film (other c.in-Ok.asked c.in-Ok.ensures.asked)

pub returns-in-Ok-clause-notes : goal.returns-in-Ok-clause-notes
returns-in-Ok-clause-notes g c = λ other.
    let s = c.play_asked-report.result.status in
    subst (λ (line : List ℕ). PutsOrFront g.N.Sink.took c.args.notes.now c.put_line.new.notes (g.N.Sink.faults c.args.notes.now)
    (g.N.Sink.faults c.put_line.new.notes) line)
    (plain_note c.in-Ok.asked.mode s
    (λ is done. other (record { asked = c.in-Ok.asked; asks = c.in-Ok.ensures.asked; mode_is = is; done = done })))
    c.put_line.ensures.line

pub returns-in-Ok-clause-same : goal.returns-in-Ok-clause-same
returns-in-Ok-clause-same g c = λ found.
    let same = one_meaning c.args.words.now c.in-Ok.asked found.asked c.in-Ok.ensures.asked found.asks in
    subst (λ (line : List ℕ). PutsOrFront g.N.Sink.took c.args.notes.now c.put_line.new.notes (g.N.Sink.faults c.args.notes.now)
    (g.N.Sink.faults c.put_line.new.notes) line)
    (same_note c.in-Ok.asked.mode c.play_asked-report.result.status (ap (λ (a : Asked). a.mode) same ∙ found.mode_is) found.done)
    c.put_line.ensures.line

pub returns-in-Err-Usage-clause-notes : goal.returns-in-Err-Usage-clause-notes
returns-in-Err-Usage-clause-notes g c = λ other.
    subst (λ s. PutsOrFront g.N.Sink.took c.args.notes.now c.refuse_words.new.notes (g.N.Sink.faults c.args.notes.now)
    (g.N.Sink.faults c.refuse_words.new.notes) (note_of s)) (sym c.refuse_words.ensures.status) c.refuse_words.ensures.notes

pub returns-in-Err-Usage-clause-same : goal.returns-in-Err-Usage-clause-same
returns-in-Err-Usage-clause-same g c = λ found.
    let no : status.Usage ≡ status.Done = sym c.refuse_words.ensures.status ∙ found.done in absurd cc

pub returns-in-Err-NoMemory-clause-notes : goal.returns-in-Err-NoMemory-clause-notes
returns-in-Err-NoMemory-clause-notes g c = λ other.
    let told = c.refuse_words-in-Err-NoMemory in
    subst (λ s. PutsOrFront g.N.Sink.took c.args.notes.now told.new.notes (g.N.Sink.faults c.args.notes.now)
    (g.N.Sink.faults told.new.notes) (note_of s)) (sym told.ensures.status) told.ensures.notes
