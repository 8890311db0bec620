-- The machine of calls and commits: its states, why it refuses an event, and what an event does.
use Rattle.std.specs.Prelude.{◌≡◌, ◌≢◌, ◌↔◌, ℕ, ◌<◌, ◌≤◌, ◌==◌, Bool, true, false, not, ◌||◌, List, [], ◌∷◌, ◌++◌, length, map, filter, Option, Some, None, is_some}
use Rattle.std.specs.List.{find, list_any}
use Rattle.std.specs.Option.{option_map_or, option_or}
use Rattle.std.specs.FinMap.{get, empty}
use Rattle.tree_laws.specs.declared.history.Entry.{Entry}
use Rattle.tree_laws.specs.Tree.{TreeState}
use Rattle.tree_laws.specs.Step.{IsReadable}
use Rattle.tree_laws.specs.Verdict.{verdict}
use Rattle.tree_laws.specs.History.{tree_after, MayCome}
use Rattle.cut_laws.specs.declared.event.Event.{Event}
use Rattle.cut_laws.specs.declared.event.Event.TheVariants as event
use Rattle.cut_laws.specs.declared.event.Refused.{Refused}
use Rattle.cut_laws.specs.declared.event.Refused.TheVariants as refused
use Rattle.cut_laws.specs.Cut.{Cut}
use Rattle.cut_laws.specs.Rules.{IsOneOf}
use Rattle.cut_laws.specs.Closure.{every_entry, Flush, Closure, IsConcerned, AreRaised}

-- A commit in flight: its number, its fsync, its members and the nodes that it concerns as it began, and whether it was opened.
pub record Flight : Type 0 where
  pub commit : ℕ
  pub flush : Flush
  pub members : ℕ → Bool
  pub concerned : ℕ → Bool
  pub opened : Bool

-- A state: the first tree, the calls so far, the cut, which nodes have an inode, the flights in the order in which they began, the
-- numbers of all commits that have begun, the first commit that was left in doubt, and whether the run has ended.
pub record MachineState : Type 0 where
  pub first : TreeState
  pub history : List Entry
  pub cut : Cut
  pub inodes : ℕ → Bool
  pub flights : List Flight
  pub used : List ℕ
  pub failed : Option ℕ
  pub crashed : Bool

-- the state in which a run begins: no calls, the cut 0, the first tree's nodes with an inode, and no flights
abbrev pub start_of : TreeState → MachineState
start_of first = record {
  first = first;
  history = [];
  cut = empty;
  inodes = λ node. is_some (get first.nodes node);
  flights = [];
  used = [];
  failed = None;
  crashed = false;
}

-- the tree after the calls so far
abbrev pub tree_now : MachineState → TreeState
tree_now state = tree_after state.first state.history

-- the flight of a commit, where it is in flight
abbrev pub flight_of : MachineState → ℕ → Option Flight
flight_of state commit = find (λ flight. flight.commit == commit) state.flights

-- whether a commit is in flight
abbrev pub is_flying : MachineState → ℕ → Bool
is_flying state commit = is_some (flight_of state commit)

-- whether a commit is in flight and was opened
abbrev pub is_opened : MachineState → ℕ → Bool
is_opened state commit = option_map_or (λ flight. flight.opened) (flight_of state commit) false

-- the commits that must be in flight for an event
abbrev pub named_by : Event → List ℕ
named_by (event.Opened commit) = commit ∷ []
named_by (event.Durable commit) = commit ∷ []
named_by (event.Fail commit) = commit ∷ []
named_by (event.Crash kept) = kept.items
named_by _ = []

-- whether those commits must have been opened
abbrev pub needs_opened : Event → Bool
needs_opened (event.Durable commit) = true
needs_opened (event.Crash kept) = true
needs_opened _ = false

-- whether an event can't come once a commit was left in doubt
abbrev pub goes_on : Event → Bool
goes_on (event.CutAt commit node stamp) = true
goes_on (event.Opened commit) = true
goes_on (event.Durable commit) = true
goes_on _ = false

-- What an event may be told with: a call's core is one of the first tree's, and a read asks for at most 65,536 bytes.
abbrev pub MayBeTold : MachineState → Event → Type 0
MayBeTold state (event.Call entry) = (entry.core.0 < length state.first.made) × IsReadable entry.call
MayBeTold _ _ = Unit {0}

-- A node that a commit would concern, and that a flight concerns.
pub record IsShared (state : MachineState) (flush : Flush) (node : ℕ) : Type 0 where
  pub concerned : IsConcerned state.first state.history every_entry state.cut state.inodes flush node
  pub flight : Flight
  pub flies : IsOneOf state.flights flight
  pub theirs : flight.concerned node ≡ true

-- When each reason to refuse an event holds by itself.
abbrev pub Refuses : MachineState → Event → Refused → Type 0
Refuses state e refused.Crashed = state.crashed ≡ true
Refuses state (event.Call entry) (refused.NotNext want) = (entry.stamp.0 ≢ length state.history) × (want.0 ≡ length state.history)
Refuses state (event.Call entry) (refused.NotLegal reply) =
    (MayCome (tree_now state) (length state.history) entry → ⊥) × (reply ≡ (verdict (tree_now state) entry.core.0 entry.call).reply)
Refuses state e (refused.Stopped commit) = (goes_on e ≡ true) × (state.failed ≡ Some commit)
Refuses state (event.CutAt commit node stamp) (refused.Used used) = IsOneOf state.used commit × (used ≡ commit)
Refuses state (event.CutAt commit node stamp) (refused.Meets met) =
    IsShared state (record { node = node.0; stamp = stamp.0 }) met.0
    × ((other : ℕ) → IsShared state (record { node = node.0; stamp = stamp.0 }) other → met.0 ≤ other)
Refuses state (event.CutAt commit node stamp) (refused.Late late) = (length state.history < stamp.0) × (late ≡ stamp)
Refuses state e (refused.NotFlying commit) = find (λ named. not (is_flying state named)) (named_by e) ≡ Some commit
Refuses state e (refused.NotOpened commit) = (needs_opened e ≡ true) × (find (λ named. not (is_opened state named)) (named_by e) ≡ Some commit)
Refuses state (event.Opened opened) (refused.AlreadyOpened commit) = (is_opened state opened ≡ true) × (commit ≡ opened)
Refuses _ _ _ = ⊥

-- the place of a reason in the order in which they are looked for
abbrev pub reason_place : Refused → ℕ
reason_place refused.Crashed = 1
reason_place (refused.NotNext want) = 2
reason_place (refused.NotLegal reply) = 3
reason_place (refused.Stopped commit) = 4
reason_place (refused.Used commit) = 5
reason_place (refused.Meets node) = 6
reason_place (refused.Late stamp) = 7
reason_place (refused.NotFlying commit) = 8
reason_place (refused.NotOpened commit) = 9
reason_place (refused.AlreadyOpened commit) = 10
reason_place refused.NoMemory = 11

-- An event is refused for the first reason that holds.
pub record IsRefused (state : MachineState) (e : Event) (why : Refused) : Type 0 where
  pub holds : Refuses state e why
  pub first : (other : Refused) → Refuses state e other → reason_place why ≤ reason_place other

-- A flight as it begins.
pub record BeginsFlight (state : MachineState) (commit : ℕ) (flush : Flush) (flight : Flight) : Type 0 where
  pub number : flight.commit ≡ commit
  pub own : flight.flush ≡ flush
  pub members : (node : ℕ) → (flight.members node ≡ true) ↔ Closure state.first state.history every_entry state.cut state.inodes flush node
  pub concerned : (node : ℕ) → (flight.concerned node ≡ true) ↔ IsConcerned state.first state.history every_entry state.cut state.inodes flush node
  pub closed : flight.opened ≡ false

-- the fsyncs of the flights that a crash keeps, in the order in which they began
abbrev pub flushes_kept_by : MachineState → List ℕ → List Flush
flushes_kept_by state kept = map (λ flight. flight.flush) (filter (λ flight. list_any (λ commit. commit == flight.commit) kept) state.flights)

-- a flight, opened where it is this commit's
abbrev pub opened_for : ℕ → Flight → Flight
opened_for commit flight = record flight { opened = flight.opened || flight.commit == commit }

-- A state with the cut and the nodes with an inode that some fsyncs leave, one after the other.
pub record IsRaisedBy (old : MachineState) (flushes : List Flush) (new : MachineState) : Type 0 where
  pub raised : AreRaised old.first old.history every_entry old.cut old.inodes flushes new.cut new.inodes
  pub others : record new { cut = old.cut; inodes = old.inodes } ≡ old

-- What an event does that is not refused.
abbrev pub Moves : MachineState → Event → MachineState → Type 0
-- a legal call joins the history
Moves old (event.Call entry) new = MayCome (tree_now old) (length old.history) entry × (new ≡ record old { history = old.history ++ entry ∷ [] })
-- a commit begins
Moves old (event.CutAt commit node stamp) new =
    (flight : Flight) × BeginsFlight old commit (record { node = node.0; stamp = stamp.0 }) flight
    × (new ≡ record old { flights = old.flights ++ flight ∷ []; used = old.used ++ commit ∷ [] })
-- its flight is marked
Moves old (event.Opened commit) new = new ≡ record old { flights = map (opened_for commit) old.flights }
-- its fsync raises the cut, and its flight ends
Moves old (event.Durable commit) new =
    (flight : Flight) × (raised : MachineState) × (flight_of old commit ≡ Some flight) × IsRaisedBy old (flight.flush ∷ []) raised
    × (new ≡ record raised { flights = filter (λ other. not (other.commit == commit)) old.flights })
-- the first commit that was left in doubt is kept in mind; its flight stays
Moves old (event.Fail commit) new = new ≡ record old { failed = option_or old.failed (Some commit) }
-- the fsyncs of the flights that are kept raise the cut, no flight is left, and the run ends
Moves old (event.Crash kept) new =
    (raised : MachineState) × IsRaisedBy old (flushes_kept_by old kept.items) raised × (new ≡ record raised { flights = []; crashed = true })

-- A state takes an event: no reason to refuse it holds, and it does what it does.
pub record Accepts (old : MachineState) (e : Event) (new : MachineState) : Type 0 where
  pub free : (why : Refused) → Refuses old e why → ⊥
  pub moves : Moves old e new
