use Rattle.std.proofs.Common.{◌≡◌}
use Rattle.wf_stream.specs.Names.{Recounts}
use Rattle.wf_model.specs.Names.{core_names}
use Rattle.wf_objects.specs.Fits.{Fits}
use Rattle.wf_objects.specs.Losses.{Loses, but_links}
use Rattle.wf_objects.proofs.ObjectsLoseTheirs.{link_count}
use Rattle.wf_objects.proofs.objects.Objects.drop_links.Given as goal

-- objects and store fit, only handles and names went, and of what went each was of the context
abbrev pub invariant-loop-link : goal.invariant-loop-link
invariant-loop-link l =
    record {
      fits : Fits l.self l.store;
      loses : Loses l.fn.store l.store;
      names : Recounts (core_names l.fn.self) (core_names l.self) l.fn.store l.store;
      rest : but_links l.context l.self ≡ but_links l.context l.fn.self;
    }

-- one goes each time
abbrev pub decreases-loop-link : goal.decreases-loop-link
decreases-loop-link l = link_count l.self
