-- The values of names that a program sees.
use Rattle.wf_turn.proofs.Common.{◌≡◌, ◌∙◌, ℕ, true, false, cond, List, [], ◌∷◌, ◌++◌, Option, Some, None, refl, ap, find, option_map}
use Rattle.wf_turn.proofs.Common.{unwrap_or, bytes_eq, Name, Table, known, value_of, Canvas, PlainScript, Job, Program, handle, lines_from}
use Rattle.wf_turn.proofs.Common.{program, skipped}
use Rattle.wf_turn.specs.declared.stage.Stage.TheVariants as stage

-- without values no name is known
pub known_none : (t : Table) → t.values ≡ [] → known t ≡ []
known_none t none = ap (λ values. known (record t { values = values })) none ∙ nothing t.names
  where
    nothing : (names : List Name) → known (record { names = names; values = [] }) ≡ []
    nothing [] = refl
    nothing (n ∷ names) = refl

abbrev or_else : Option ℕ → Option ℕ → Option ℕ
or_else None second = second
or_else (Some v) second = Some v

value_either : (name : Name) (xs ys : List (Name × ℕ)) → value_of name (xs ++ ys) ≡ or_else (value_of name xs) (value_of name ys)
value_either name [] ys = refl
value_either name (x ∷ xs) ys =
    elim (bytes_eq x.0 name) as (λ b. option_map (λ row. row.1)
    (cond b (Some x) (find (λ row. bytes_eq row.0 name) (xs ++ ys)))
    ≡ or_else (option_map (λ row. row.1) (cond b (Some x) (find (λ row. bytes_eq row.0 name) xs)))
    (value_of name ys)) [
      | true ↦ refl
      | false ↦ value_either name xs ys
    ]

-- a name that the client bound, and one that it did not bind
pub own_handle : (p : Program) (name : Name) (v : ℕ) → value_of name p.own ≡ Some v → handle p (Some name) ≡ v
own_handle p name v is = ap (λ o. unwrap_or o 0) (value_either name p.own p.learned
    ∙ ap (λ o. or_else o (value_of name p.learned)) is)

pub learned_handle : (p : Program) (name : Name) → value_of name p.own ≡ None → handle p (Some name) ≡ unwrap_or (value_of name p.learned) 0
learned_handle p name none = ap (λ o. unwrap_or o 0) (value_either name p.own p.learned
    ∙ ap (λ o. or_else o (value_of name p.learned)) none)

-- the program before the first event of its lines
pub opened : (script : PlainScript) (client at : ℕ) (own learned : List (Name × ℕ)) (canvas : Option Canvas)
    (job : Option Job) → own ≡ [] → learned ≡ [] → job ≡ None
    → skipped None (lines_from client 0 script.lines) ≡ (canvas, lines_from client at script.lines)
    → record {
      script = script;
      client = client;
      lines = lines_from client at script.lines;
      own = own;
      learned = learned;
      canvas = canvas;
      job = job;
      unpainted = false;
      stage = stage.Fresh;
      tick = 0;
    } ≡ program script client
opened script client at own learned canvas job no_own no_learned no_job is = rw (no_own, no_learned, no_job, is) refl
