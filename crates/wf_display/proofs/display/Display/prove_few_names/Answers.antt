use Rattle.std.proofs.Common.{◌≤◌, arith, length, subst}
use Rattle.wf_model.specs.Names.{display_names}
use Rattle.wf_display.specs.Inside.{display_of}
use Rattle.wf_display.proofs.NameCounts.{names_in_all}
use Rattle.wf_display.proofs.display.Display.prove_few_names.Goals as goal
use Rattle.wf_model.specs.declared.TheConstants.{MOST_SOURCES, MOST_DISPLAY_NAMES}

pub returns : goal.returns
returns c =
    let inside = c.self.inside in
    let holds = c.self.invariant in
    let room : length inside.sources.items ≤ MOST_SOURCES = omega (arith, inside.sources.ok.0, holds.room) in
    subst (λ d. length (display_names d) ≤ MOST_DISPLAY_NAMES) c.self.view_is
    (names_in_all (display_of inside) holds.display.few_ports room holds.display.few_pipelines)
