use Rattle.std.proofs.Common.{List, map, take}
use Rattle.tree_laws.specs.declared.history.Entry.{Entry}
use Rattle.flush_core.specs.NodeSets.{has_node}
use Rattle.cut_laws.specs.Closure.{every_entry, AreRaised}
use Rattle.flush_core.specs.Past.{IsPast}
use Rattle.flush_core.specs.Flights.{flight_as}
use Rattle.flush_core.specs.State.{kept_flushes}
use Rattle.flush_core.proofs.state.commits.raised_all.Given as goal

abbrev pub invariant-loop-flight : goal.invariant-loop-flight
invariant-loop-flight l = (history : List Entry) → IsPast l.first history l.past
    → AreRaised l.first history every_entry l.fn.from.cut (has_node l.fn.from.inodes)
    (kept_flushes (map flight_as (take l.flight-index l.flights)) l.kept) l.raise.cut (has_node l.raise.inodes)
