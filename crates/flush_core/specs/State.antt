-- How a state is kept, and what the code of an event owes.
use Rattle.std.specs.Prelude.{◌≡◌, ◌==◌, ◌⊎◌, ◌↔◌, ℕ, Bool, ◌&&◌, List, map, filter, Option, Some, None, is_some, IsSome, IsTrue, Result, Ok, Err}
use Rattle.std.specs.List.{list_any}
use Rattle.std.specs.FinMap.{get}
use Rattle.tree_laws.specs.declared.history.Entry.{Entry}
use Rattle.tree_laws.specs.declared.reply.Reply.{Reply}
use Rattle.tree_laws.specs.Tree.{TreeState}
use Rattle.tree_laws.specs.History.{IsDue, is_ok_reply}
use Rattle.flush_core.specs.declared.flight.InFlight.{InFlight}
use Rattle.flush_core.specs.declared.sets.NodeSet.{NodeSet}
use Rattle.flush_core.specs.declared.raise.Raise.{Raise}
use Rattle.cut_laws.specs.declared.event.Event.{Event}
use Rattle.cut_laws.specs.declared.event.Refused.{Refused}
use Rattle.cut_laws.specs.declared.event.Refused.TheVariants as refused
use Rattle.cut_laws.specs.Cut.{Cut}
use Rattle.flush_core.specs.Flights.{flight_as}
use Rattle.flush_core.specs.NodeSets.{has_node}
use Rattle.cut_laws.specs.Closure.{every_entry, Flush, IsRaised, AreInodesAfter}
use Rattle.cut_laws.specs.Machine.{Flight, MachineState, IsRefused, Accepts}

-- whether a tree has a node
abbrev pub tree_has : TreeState → ℕ → Bool
tree_has tree node = is_some (get tree.nodes node)

-- the nodes with an inode, as they are kept: those of the first tree where no others are
abbrev pub inodes_of : TreeState → Option NodeSet → ℕ → Bool
inodes_of first None = tree_has first
inodes_of first (Some inodes) = has_node inodes

-- An entry's reply is one that may come where this one is due, and it has a moment of acknowledgement exactly where it is an fsync
-- of a live node that is answered Ok.
pub record HasDueAnswer (is_flush : Bool) (due : Reply) (entry : Entry) : Type 0 where
  pub reply : IsDue is_flush due entry.reply
  pub acknowledged : IsSome entry.ack ↔ IsTrue (is_flush && is_ok_reply entry.reply)

-- A state as it is kept, but for what its calls have changed.
pub record KeptState : Type 0 where
  pub first : TreeState
  pub entries : List Entry
  pub cut : Cut
  pub inodes : Option NodeSet
  pub flights : List InFlight
  pub used : List ℕ
  pub failed : Option ℕ
  pub crashed : Bool

-- the machine's state that it is
abbrev pub machine_of : KeptState → MachineState
machine_of kept = record {
  first = kept.first;
  history = kept.entries;
  cut = kept.cut;
  inodes = inodes_of kept.first kept.inodes;
  flights = map flight_as kept.flights;
  used = kept.used;
  failed = kept.failed;
  crashed = kept.crashed;
}

-- An event was taken, or it was refused for its first reason or for want of memory and the state is as it was.
abbrev pub Answers : KeptState → Event → Result (Unit {0}) Refused → KeptState → Type 0
Answers old e (Ok done) new = Accepts (machine_of old) e (machine_of new)
Answers old e (Err why) new = ((why ≡ refused.NoMemory) ⊎ IsRefused (machine_of old) e why) × (new ≡ old)

-- A cut and nodes with an inode are those that an fsync leaves of a state's.
pub record IsRaisedTo (state : KeptState) (flush : Flush) (raise : Raise) : Type 0 where
  pub raised : IsRaised state.first state.entries every_entry state.cut (inodes_of state.first state.inodes) flush raise.cut
  pub inodes : AreInodesAfter state.first state.entries every_entry state.cut (inodes_of state.first state.inodes) flush raise.cut (has_node raise.inodes)

-- the fsyncs of the flights whose commits are listed, in the flights' order
abbrev pub kept_flushes : List Flight → List ℕ → List Flush
kept_flushes flights kept = map (λ flight. flight.flush) (filter (λ flight. list_any (λ commit. commit == flight.commit) kept) flights)
