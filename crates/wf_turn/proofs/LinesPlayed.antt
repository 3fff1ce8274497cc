-- Lines of a script that are played: one that is one call, one that paints a frame, and a tick of one context and one port.
use Rattle.wf_turn.proofs.Common.{◌≡◌, ◌∙◌, ℕ, ◌+◌, ◌<◌, ◌==◌, true, false, not, List, [], ◌∷◌, ◌++◌, length, Option}
use Rattle.wf_turn.proofs.Common.{Some, refl, sym, ap, arith, append-nil, length-append, list_all, pos, Turn, PlainScript, Line}
use Rattle.wf_turn.proofs.Common.{Name, Canvas, Job, Call, Paint, Frame, State, is_running, step, is_marked, IsNextTurn, IsRun, Show}
use Rattle.wf_turn.proofs.Common.{frames_of}
use Rattle.wf_turn.proofs.Common.{Program, line_done, next, plain, painted_job, setup_lines, took, worked, bound, bound_name}
use Rattle.wf_turn.proofs.Common.{entry, bare, frame_of, subst, waiting, Scene, Images, Bitmap}
use Rattle.std.proofs.lemmas.Bool.{and_from}
use Rattle.std.proofs.lemmas.List.Folds.{list_all-append}
use Rattle.wf_calls.specs.declared.call.Call.TheVariants as call
use Rattle.wf_calls.specs.declared.call.JobKind.TheVariants as kind
use Rattle.wf_calls.specs.Replies.{done, gives_canvas, gives_job}
use Rattle.wf_script.specs.declared.line.Verb.TheVariants as verb
use Rattle.wf_script.specs.Generator.{made_ports, plain_line}
use Rattle.wf_turn.specs.Program.{handle}
use Rattle.wf_image.specs.Paints.{painted_canvas}
use Rattle.wf_turn.specs.declared.stage.Phase.TheVariants as phase
use Rattle.wf_turn.specs.declared.stage.Stage.TheVariants as stage
use Rattle.wf_turn.proofs.TurnsOfLines.{Here, all_wait, events, here_now, here_put, next_turn, none_skipped, own_lines, program_now}
use Rattle.wf_turn.proofs.TurnsOfLines.{programs_by}
use Rattle.wf_turn.proofs.TurnsOfLines.{put, same, showing, through, waits}

-- a number of turns of serial play from one show to another, of which none marks a creation without memory
pub record Plays (start after : Show) (count : ℕ) : Type 0 where
  pub order : List Turn
  pub run : IsRun start order after
  pub long : length order ≡ count
  pub unmarked : list_all (λ t. not (is_marked t)) order ≡ true

pub nothing_played : (show : Show) → Plays show show 0
nothing_played show = record { order = []; run = refl; long = refl; unmarked = refl }

run_both : (s m e : Show) (ts us : List Turn) → IsRun s ts m → IsRun m us e → IsRun s (ts ++ us) e
run_both s m e [] us first second = subst (λ (x : Show). IsRun x us e) (sym first) second
run_both s m e (t ∷ ts) us first second = (first.0, (first.1.0, run_both first.0 m e ts us first.1.1 second))

pub and_then : {s m e : Show} {n k : ℕ} → Plays s m n → Plays m e k → Plays s e (n + k)
and_then {s} {m} {e} {n} {k} first second = record {
  order = first.order ++ second.order;
  run = run_both s m e first.order second.order first.run second.run;
  long = omega (arith, length-append first.order second.order, first.long, second.long);
  unmarked = list_all-append (λ t. not (is_marked t)) first.order second.order
      ∙ and_from (list_all (λ t. not (is_marked t)) first.order) (list_all (λ t. not (is_marked t)) second.order) first.unmarked
      second.unmarked;
}

pub plays_to : {s m e : Show} {n : ℕ} → Plays s m n → m ≡ e → Plays s e n
plays_to {s} {m} {e} {n} first is = subst (λ (x : Show). Plays s x n) is first

-- one turn
pub one_turn : {s e : Show} (t : Turn) → is_marked t ≡ false → IsNextTurn s t e → Plays s e 1
one_turn {s} {e} t fine next = record { order = t ∷ []; run = (e, (next, refl)); long = refl; unmarked = rw fine refl }

-- lines of the script with one port and one pipeline
abbrev pub with_lines : List Line → PlainScript
with_lines lines = record { ports = made_ports; lines = lines }

pub same_show : (state : State) (f g : ℕ → Program) (before after : List Frame) (turns : ℕ) → programs_by f ≡ programs_by g → before ≡ after
    → showing state f before turns ≡ showing state g after turns
same_show state f g before after turns programs frames =
    ap (λ (ps : List Program). record { state = state; programs = ps; frames = before; turns = turns }) programs
    ∙ ap (λ (fs : List Frame). record { state = state; programs = programs_by g; frames = fs; turns = turns }) frames

module _ (lines : List Line) (three : setup_lines lines ≡ 3) (a : ℕ) (late : 2 < a) (ls : List Line) (all : events ls ≡ true)
    (own learned : ℕ → List (Name × ℕ)) (ticks : ℕ → ℕ) (frames : List Frame) (turns : ℕ) where
  abbrev script : PlainScript
  script = with_lines lines

  -- a program behind its line
  behind : (k : ℕ) (l : Line) (mine known : List (Name × ℕ)) (v : ℕ)
      → line_done (waits script k ((a, l) ∷ own_lines k (a + 1) ls) mine known (ticks k)) v
      ≡ waits script k (own_lines k (a + 1) ls) (bound (bound_name l) v mine) known (ticks k)
  behind k l mine known v =
      ap (λ (s : Option Canvas × List (ℕ × Line)).
      record (waits script k s.1 (bound (bound_name l) v mine) known (ticks k)) { canvas = s.0 })
      (none_skipped k (a + 1) ls all)

  -- a line that is one call
  module _ (k : ℕ) (small : k < 8) (l : Line) (mine : l.client ≡ k) (names known : List (Name × ℕ)) (own_is : own k ≡ names)
      (learned_is : learned k ≡ known) where
    abbrev now : ℕ → Program
    now = all_wait script a (l ∷ ls) own learned ticks

    abbrev its_program : Program
    its_program = waits script k ((a, l) ∷ own_lines k (a + 1) ls) names known (ticks k)

    is_its : now k ≡ its_program
    is_its =
        program_now script a k l ls mine own learned ticks
        ∙ ap (λ (o : List (Name × ℕ)). waits script k ((a, l) ∷ own_lines k (a + 1) ls) o (learned k) (ticks k)) own_is
        ∙ ap (λ (o : List (Name × ℕ)). waits script k ((a, l) ∷ own_lines k (a + 1) ls) names o (ticks k)) learned_is

    here : Here now k a
    here = here_now script three a k late l ls mine own learned ticks

    pub one_call : (state after : State) (c : Call) (v : ℕ) (own_next : ℕ → List (Name × ℕ)) → next its_program ≡ Some (plain c)
        → step state k c false ≡ (after, bare (done v)) → took its_program (bare (done v)) ≡ line_done its_program v
        → own_next k ≡ bound (bound_name l) v names → ((j : ℕ) → (j == k) ≡ false → own_next j ≡ own j)
        → Plays (showing state now frames turns) (showing after (all_wait script (a + 1) ls own_next learned ticks) frames (turns + 1)) 1
    one_call state after c v own_next asks stepped took_is next_is kept =
        let r = bare (done v) in
        let q : Program = waits script k (own_lines k (a + 1) ls) (own_next k) (learned k) (ticks k) in
        let left : took its_program r ≡ q =
        took_is ∙ behind k l names known v
        ∙ ap (λ (o : List (Name × ℕ)). waits script k (own_lines k (a + 1) ls) o known (ticks k)) (sym next_is)
        ∙ ap (λ (o : List (Name × ℕ)). waits script k (own_lines k (a + 1) ls) (own_next k) o (ticks k)) (sym learned_is) in
        plays_to
        (one_turn (entry k r) refl
        (next_turn state after now frames turns k a small here its_program is_its (plain c) r asks refl stepped refl))
        (same_show after (put now k (worked (took its_program r))) (all_wait script (a + 1) ls own_next learned ticks)
        (frames ++ frames_of turns (took its_program r)) frames (turns + 1)
        (through script a k l ls mine own learned ticks (put now k (worked (took its_program r))) own_next ticks
        (λ j other. rw other refl) (rw (same k) (ap worked left)) kept (λ j other. refl))
        (ap (λ (p : Program). frames ++ frames_of turns p) left ∙ append-nil frames))

  -- a line that acquires a stream's write buffer, paints and posts it
  pub one_frame : (k : ℕ) → k < 8 → (s : Option Name) (paint : Paint) (names known : List (Name × ℕ)) → own k ≡ names → learned k ≡ known
      → (s0 s1 s2 : State) (h : ℕ) (canvas : Canvas)
      → (let l : Line = plain_line k (verb.Frame s paint) in
      handle (waits script k ((a, l) ∷ own_lines k (a + 1) ls) names known (ticks k)) s ≡ h
      → step s0 k (call.Acquire h) false ≡ (s1, gives_canvas canvas)
      → step s1 k (call.Post (painted_canvas paint canvas)) false ≡ (s2, bare (done 0))
      → Plays (showing s0 (all_wait script a (l ∷ ls) own learned ticks) frames turns)
      (showing s2 (all_wait script (a + 1) ls own learned ticks) frames ((turns + 1) + 1)) 2)
  one_frame k small s paint names known own_is learned_is s0 s1 s2 h canvas means acquired posted =
      let l : Line = plain_line k (verb.Frame s paint) in
      let f0 : ℕ → Program = all_wait script a (l ∷ ls) own learned ticks in
      let p0 : Program = waits script k ((a, l) ∷ own_lines k (a + 1) ls) names known (ticks k) in
      let is0 : f0 k ≡ p0 = is_its k small l refl names known own_is learned_is in
      let here0 : Here f0 k a = here k small l refl names known own_is learned_is in
      let p1 : Program = record p0 { canvas = Some (painted_canvas paint canvas); stage = stage.Posting } in
      let f1 : ℕ → Program = put f0 k p1 in
      let here1 : Here f1 k a = here_put script three a late k f0 here0 p1 refl refl in
      let asks : next p0 ≡ Some (plain (call.Acquire h)) = ap (λ (n : ℕ). Some (plain (call.Acquire n))) means in
      let r = bare (done 0) in
      let f2 : ℕ → Program = put f1 k (worked (took p1 r)) in
      let q : Program = waits script k (own_lines k (a + 1) ls) (own k) (learned k) (ticks k) in
      let left : took p1 r ≡ q =
      ap (λ (x : Option Canvas × List (ℕ × Line)). record (waits script k x.1 names known (ticks k)) { canvas = x.0 })
      (none_skipped k (a + 1) ls all)
      ∙ ap (λ (o : List (Name × ℕ)). waits script k (own_lines k (a + 1) ls) o known (ticks k)) (sym own_is)
      ∙ ap (λ (o : List (Name × ℕ)). waits script k (own_lines k (a + 1) ls) (own k) o (ticks k)) (sym learned_is) in
      let first : Plays (showing s0 f0 frames turns) (showing s1 f1 (frames ++ []) (turns + 1)) 1 =
      one_turn (entry k (gives_canvas canvas)) refl
      (next_turn s0 s1 f0 frames turns k a small here0 p0 is0 (plain (call.Acquire h)) (gives_canvas canvas) asks refl acquired refl) in
      let second : Plays (showing s1 f1 (frames ++ []) (turns + 1))
      (showing s2 f2 ((frames ++ []) ++ frames_of (turns + 1) (took p1 r)) ((turns + 1) + 1)) 1 =
      one_turn (entry k r) refl
      (next_turn s1 s2 f1 (frames ++ []) (turns + 1) k a small here1 p1 (rw (same k) refl) (plain (call.Post (painted_canvas paint canvas)))
      r refl refl posted refl) in
      plays_to (and_then first second)
      (same_show s2 f2 (all_wait script (a + 1) ls own learned ticks) ((frames ++ []) ++ frames_of (turns + 1) (took p1 r)) frames
      ((turns + 1) + 1)
      (through script a k l ls refl own learned ticks f2 own ticks (λ j other. rw other refl) (rw (same k) (ap worked left))
      (λ j other. refl) (λ j other. refl))
      (ap (λ (p : Program). (frames ++ []) ++ frames_of (turns + 1) p) left ∙ append-nil (frames ++ []) ∙ append-nil frames))

  -- a tick of one context and one port
  module _ (number shown_number : ℕ) (scene shown_scene : Scene) (contents shown_contents : Images) (image shown_image : Bitmap) where
    abbrev its_job : Job
    its_job = record { number = number; kind = kind.Context 2 1; scene = scene; contents = contents; image = image }

    abbrev port_job : Job
    port_job = record {
      number = shown_number;
      kind = kind.Port 1;
      scene = shown_scene;
      contents = shown_contents;
      image = shown_image;
    }

    pub one_tick : (s0 s1 s2 s3 s4 : State) (ticks_next : ℕ → ℕ) → is_running s0 ≡ false → is_running s2 ≡ false
        → step s0 0 (call.BeginNext 0) false ≡ (s1, gives_job 2 its_job)
        → step s1 0 (call.End (painted_job its_job)) false ≡ (s2, bare (done 0))
        → step s2 0 (call.BeginNext 2) false ≡ (s2, bare (done 0))
        → step s2 0 (call.BeginPort (pos 1)) false ≡ (s3, gives_job 1 port_job)
        → step s3 0 (call.End (painted_job port_job)) false ≡ (s4, bare (done 0))
        → ticks_next 0 ≡ ticks 0 + 1 → ((j : ℕ) → (j == 0) ≡ false → ticks_next j ≡ ticks j)
        → Plays (showing s0 (all_wait script a (plain_line 0 verb.Tick ∷ ls) own learned ticks) frames turns)
        (showing s4 (all_wait script (a + 1) ls own learned ticks_next)
        (frames ++ frame_of 1 (ticks 0 + 1) (((turns + 1) + 1) + 1) (painted_job port_job).image ∷ [])
        (((((turns + 1) + 1) + 1) + 1) + 1)) 5
    one_tick s0 s1 s2 s3 s4 ticks_next idle idle_again begun ended no_more shown shown_to_end tick_is kept =
        let l : Line = plain_line 0 verb.Tick in
        let f0 : ℕ → Program = all_wait script a (l ∷ ls) own learned ticks in
        let p0 : Program = waits script 0 ((a, l) ∷ own_lines 0 (a + 1) ls) (own 0) (learned 0) (ticks 0) in
        let few : 0 < 8 = omega arith in
        let r = bare (done 0) in
        let is0 : f0 0 ≡ p0 = refl in
        let here0 : Here f0 0 a = here_now script three a 0 late l ls refl own learned ticks in
        let t0 : Program = record p0 { tick = ticks 0 + 1 } in
        let p1 : Program =
        record t0 { job = Some (painted_job its_job); stage = stage.Ending (Some (phase.Contexts 1 2)) } in
        let f1 : ℕ → Program = put f0 0 p1 in
        let here1 : Here f1 0 a = here_put script three a late 0 f0 here0 p1 refl refl in
        let p2 : Program = record t0 { stage = stage.Ticking (phase.Contexts 1 2) } in
        let f2 : ℕ → Program = put f1 0 p2 in
        let here2 : Here f2 0 a = here_put script three a late 0 f1 here1 p2 refl refl in
        let p3 : Program = record t0 { stage = stage.Ticking (phase.Ports 1) } in
        let f3 : ℕ → Program = put f2 0 p3 in
        let here3 : Here f3 0 a = here_put script three a late 0 f2 here2 p3 refl refl in
        let p4 : Program = record t0 { job = Some (painted_job port_job); stage = stage.Ending (Some (phase.Ports 2)) } in
        let f4 : ℕ → Program = put f3 0 p4 in
        let here4 : Here f4 0 a = here_put script three a late 0 f3 here3 p4 refl refl in
        let f5 : ℕ → Program = put f4 0 (worked (took p4 r)) in
        let q : Program = waits script 0 (own_lines 0 (a + 1) ls) (own 0) (learned 0) (ticks_next 0) in
        let left : took p4 r ≡ q =
        ap (λ (x : Option Canvas × List (ℕ × Line)). record (waits script 0 x.1 (own 0) (learned 0) (ticks 0 + 1)) { canvas = x.0 })
        (none_skipped 0 (a + 1) ls all)
        ∙ ap (λ (n : ℕ). waits script 0 (own_lines 0 (a + 1) ls) (own 0) (learned 0) n) (sym tick_is) in
        let fs1 : List Frame = frames ++ [] in
        let fs2 : List Frame = fs1 ++ [] in
        let fs3 : List Frame = fs2 ++ [] in
        let fs4 : List Frame =
        fs3 ++ frame_of 1 (ticks 0 + 1) (((turns + 1) + 1) + 1) (painted_job port_job).image ∷ [] in
        let n1 : ℕ = turns + 1 in
        let n2 : ℕ = n1 + 1 in
        let n3 : ℕ = n2 + 1 in
        let n4 : ℕ = n3 + 1 in
        let first : Plays (showing s0 f0 frames turns) (showing s1 f1 fs1 n1) 1 =
        one_turn (entry 0 (gives_job 2 its_job)) refl
        (next_turn s0 s1 f0 frames turns 0 a few here0 p0 is0 (waiting (call.BeginNext 0)) (gives_job 2 its_job) refl idle begun refl) in
        let second : Plays (showing s1 f1 fs1 n1) (showing s2 f2 fs2 n2) 1 =
        one_turn (entry 0 r) refl
        (next_turn s1 s2 f1 fs1 n1 0 a few here1 p1 refl (plain (call.End (painted_job its_job))) r refl refl ended refl) in
        let third : Plays (showing s2 f2 fs2 n2) (showing s2 f3 fs3 n3) 1 =
        one_turn (entry 0 r) refl
        (next_turn s2 s2 f2 fs2 n2 0 a few here2 p2 refl (waiting (call.BeginNext 2)) r refl idle_again no_more refl) in
        let fourth : Plays (showing s2 f3 fs3 n3) (showing s3 f4 fs4 n4) 1 =
        one_turn (entry 0 (gives_job 1 port_job)) refl
        (next_turn s2 s3 f3 fs3 n3 0 a few here3 p3 refl (waiting (call.BeginPort (pos 1))) (gives_job 1 port_job) refl idle_again shown
        refl) in
        let fifth : Plays (showing s3 f4 fs4 n4) (showing s4 f5 (fs4 ++ frames_of n4 (took p4 r)) (n4 + 1)) 1 =
        one_turn (entry 0 r) refl
        (next_turn s3 s4 f4 fs4 n4 0 a few here4 p4 refl (plain (call.End (painted_job port_job))) r refl refl shown_to_end refl) in
        plays_to (and_then first (and_then second (and_then third (and_then fourth fifth))))
        (same_show s4 f5 (all_wait script (a + 1) ls own learned ticks_next) (fs4 ++ frames_of n4 (took p4 r))
        (frames ++ frame_of 1 (ticks 0 + 1) n3 (painted_job port_job).image ∷ []) (n4 + 1)
        (through script a 0 l ls refl own learned ticks f5 own ticks_next (λ j other. rw other refl) (ap worked left) (λ j other. refl)
        kept)
        (ap (λ (p : Program). fs4 ++ frames_of n4 p) left ∙ simp append-nil))
