use Rattle.std.proofs.Common.{None, false, map}
use Rattle.flush_core.specs.State.{tree_has}
use Rattle.flush_core.specs.Flights.{flight_as}
use Rattle.flush_core.proofs.state.State.new.Goals as goal

pub returns : goal.returns
returns c = λ i. record {
  first = (c.new.ensures i).first;
  history = (c.new.ensures i).history;
  cut = c.new-2.ensures.none i;
  inodes = tree_has (c.new.ensures i).first;
  flights = map flight_as (c.new-3.ensures.items i);
  used = c.new-4.ensures.items i;
  failed = None;
  crashed = false;
}
