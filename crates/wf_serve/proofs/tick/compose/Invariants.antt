use Rattle.std.proofs.Common.{◌≡◌, ◌-◌, ◌≤◌}
use Rattle.std.specs.Prelude.{None}
use Rattle.wf_calls.specs.Places.{job_in}
use Rattle.wf_model.specs.declared.TheConstants.{MOST_CONTEXTS}
use Rattle.wf_serve.specs.Ticks.{composed}
use Rattle.wf_serve.proofs.tick.compose.Given as goal

-- what is left composes the rest
abbrev pub invariant-loop : goal.invariant-loop
invariant-loop l = record {
  rest : composed MOST_CONTEXTS 0 l.initial.machine ≡ composed (MOST_CONTEXTS - l.counter) l.after l.machine;
  free : job_in l.place ≡ None;
  few : l.counter ≤ MOST_CONTEXTS;
}
