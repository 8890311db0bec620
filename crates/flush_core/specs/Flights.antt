-- Flights as they are kept.
use Rattle.std.specs.Prelude.{◌≡◌, ◌==◌, ◌||◌, ℕ, ◌≤◌, Bool, true, false, List, Option, Some, None, is_some, nat_le, if◌then◌else◌}
use Rattle.std.specs.List.{find}
use Rattle.std.specs.Option.{option_map_or}
use Rattle.sfs_base.specs.declared.numbers.NodeId.{NodeId}
use Rattle.sfs_base.specs.declared.numbers.Stamp.{Stamp}
use Rattle.flush_core.specs.declared.sets.NodeSet.{NodeSet}
use Rattle.flush_core.specs.declared.flight.InFlight.{InFlight}
use Rattle.flush_core.specs.NodeSets.{has_node}
use Rattle.cut_laws.specs.Rules.{IsOneOf}
use Rattle.cut_laws.specs.Closure.{Flush}
use Rattle.cut_laws.specs.Machine.{Flight}

-- a flight as it is kept
abbrev pub flight_as : InFlight → Flight
flight_as flight = record {
  commit = flight.commit;
  flush = record { node = flight.node.0; stamp = flight.stamp.0 };
  members = has_node flight.members;
  concerned = has_node flight.concerned;
  opened = flight.opened;
}

-- a flight as it is kept, opened where it is this commit's
abbrev pub kept_opened : ℕ → InFlight → InFlight
kept_opened commit flight = record flight { opened = flight.opened || flight.commit == commit }

-- the flight of a commit
abbrev pub flight_in : List Flight → ℕ → Option Flight
flight_in flights commit = find (λ flight. flight.commit == commit) flights

-- the fsync of a node at a stamp
abbrev pub flush_as : NodeId × Stamp → Flush
flush_as flush = record { node = flush.0.0; stamp = flush.1.0 }

-- the fsync of a flight
abbrev pub flush_in : Flight → Flush
flush_in flight = flight.flush

-- whether a commit is in flight
abbrev pub is_flying_in : List Flight → ℕ → Bool
is_flying_in flights commit = is_some (flight_in flights commit)

-- whether a commit is in flight and was opened
abbrev pub is_opened_in : List Flight → ℕ → Bool
is_opened_in flights commit = option_map_or (λ flight. flight.opened) (flight_in flights commit) false

-- A flight concerns a node.
pub record IsTaken (flights : List Flight) (node : ℕ) : Type 0 where
  pub flight : Flight
  pub flies : IsOneOf flights flight
  pub concerned : flight.concerned node ≡ true

-- the lesser of two nodes, of which one may be missing
abbrev pub lesser_of : Option ℕ → ℕ → Option ℕ
lesser_of None node = Some node
lesser_of (Some other) node = if nat_le other node then Some other else Some node

-- The least node of a set that a flight concerns, or that there is none.
pub record IsLeastTaken (flights : List Flight) (nodes : NodeSet) (least : Option ℕ) : Type 0 where
  pub is_in : (node : ℕ) → least ≡ Some node → has_node nodes node ≡ true
  pub taken : (node : ℕ) → least ≡ Some node → IsTaken flights node
  pub least_of : (node other : ℕ) → least ≡ Some node → has_node nodes other ≡ true → IsTaken flights other → node ≤ other
  pub none : (other : ℕ) → least ≡ None → has_node nodes other ≡ true → IsTaken flights other → ⊥
