-- The laws of runs, of what their commits raise and cover, each of which a function of the module laws proves.
use Rattle.std.specs.Prelude.{◌≡◌, ℕ, ◌<◌, ◌≤◌, Bool, true, false, List, [], ◌∷◌, ◌++◌, length, take, map, slice_get, nat_lt, Some, None, if◌then◌else◌}
use Rattle.sfs_base.specs.declared.numbers.NodeId.{NodeId}
use Rattle.sfs_base.specs.declared.numbers.Stamp.{Stamp}
use Rattle.tree_laws.specs.declared.history.Entry.{Entry}
use Rattle.tree_laws.specs.Tree.{TreeState}
use Rattle.tree_laws.specs.History.{IsLegal}
use Rattle.tree_laws.specs.Laws.{IsSoundTree}
use Rattle.cut_laws.specs.declared.event.Event.{Event}
use Rattle.cut_laws.specs.declared.event.Event.TheVariants as event
use Rattle.cut_laws.specs.Cut.{Cut}
use Rattle.cut_laws.specs.Rules.{IsOneOf}
use Rattle.cut_laws.specs.Closure.{every_entry, Flush, IsRaised, AreInodesAfter, AreFlushed}
use Rattle.cut_laws.specs.Covers.{IsCovered}
use Rattle.cut_laws.specs.Machine.{Flight, MachineState, start_of, BeginsFlight, Accepts}
use Rattle.cut_laws.specs.Runs.{IsRun, IsBegun, AreAlive, AreTied, CountEnough, durable_of}

-- every commit
abbrev pub every_commit : ℕ → Bool
every_commit _ = true

-- Before a crash a run's state has the cut and the nodes with an inode that its durable commits have raised, in the order in which
-- they became durable; they raise the same over the history of each later state.
abbrev pub RunsAreFlushed : Type 0
RunsAreFlushed = (first : TreeState) (events : List Event) (states : ℕ → MachineState) (place later : ℕ) → IsSoundTree first → IsRun first events states
    → AreAlive first events states
    → place ≤ later → later ≤ length events → (states place).crashed ≡ false
    → AreFlushed first (states later).history every_entry (durable_of (take place events) every_commit) (states place).cut (states place).inodes

-- A commit that became durable before a place is covered by the cut of the state there.
abbrev pub DurablesAreCovered : Type 0
DurablesAreCovered = (first : TreeState) (events : List Event) (states : ℕ → MachineState) (begin durable place commit : ℕ) (flush : Flush)
    → IsSoundTree first → IsRun first events states → AreAlive first events states
    → IsBegun events begin commit flush → slice_get events durable ≡ Some (event.Durable commit)
    → durable < place → place ≤ length events
    → IsCovered first (states place).history (states place).cut flush

-- A state has the cut and the nodes with an inode of another one.
pub record HasSameCut (old new : MachineState) : Type 0 where
  pub cut : new.cut ≡ old.cut
  pub inodes : new.inodes ≡ old.inodes

-- Once a commit was left in doubt, nothing but a crash moves the cut.
abbrev pub FailuresStopCuts : Type 0
FailuresStopCuts = (first : TreeState) (events : List Event) (states : ℕ → MachineState) (place later commit : ℕ) → IsRun first events states
    → place ≤ later → later ≤ length events → (states place).failed ≡ Some commit → (states later).crashed ≡ false
    → HasSameCut (states place) (states later)

-- no events: the state in which runs begin is a run of them
abbrev pub EmptyRuns : Type 0
EmptyRuns = (first : TreeState) → IsRun first [] (λ place. start_of first)

-- some states up to a place, and then another one
abbrev pub then_state : (ℕ → MachineState) → ℕ → MachineState → ℕ → MachineState
then_state states last new place = if nat_lt last place then new else states place

-- A run is lengthened by an event that its last state accepts.
abbrev pub RunsLengthen : Type 0
RunsLengthen = (first : TreeState) (events : List Event) (states : ℕ → MachineState) (e : Event) (new : MachineState) → IsRun first events states
    → Accepts (states (length events)) e new
    → IsRun first (events ++ e ∷ []) (then_state states (length events) new)

-- the state once the first calls of a history were told
abbrev pub told : TreeState → List Entry → ℕ → MachineState
told first history count = record (start_of first) { history = take count history }

-- The calls of a legal history are a run.
abbrev pub CallsAreARun : Type 0
CallsAreARun = (first : TreeState) (history : List Entry) → IsLegal first history → IsRun first (map event.Call history) (told first history)

-- A commit that a state can make alone: no other is in flight, it begins for an fsync not above the calls so far, and its number is new.
pub record MayCommit (state : MachineState) (commit : ℕ) (stamp : Stamp) : Type 0 where
  pub goes : state.crashed ≡ false
  pub failed : state.failed ≡ None
  pub flights : state.flights ≡ []
  pub number : IsOneOf state.used commit → ⊥
  pub low : stamp.0 ≤ length state.history

-- the state with a flight, opened or not
abbrev pub with_flight : MachineState → ℕ → Flight → Bool → MachineState
with_flight state commit flight opened = record state { flights = (record flight { opened = opened }) ∷ []; used = state.used ++ commit ∷ [] }

-- the state once a commit has raised the cut
abbrev pub committed : MachineState → ℕ → Cut → (ℕ → Bool) → MachineState
committed state commit raised after = record state { cut = raised; inodes = after; used = state.used ++ commit ∷ [] }

-- The three events of such a commit are accepted, and raise the cut.
pub record AcceptsCommit (state : MachineState) (commit : ℕ) (node : NodeId) (stamp : Stamp) (flight : Flight) (raised : Cut) (after : ℕ → Bool) : Type 0 where
  pub begins : Accepts state (event.CutAt commit node stamp) (with_flight state commit flight false)
  pub opens : Accepts (with_flight state commit flight false) (event.Opened commit) (with_flight state commit flight true)
  pub ends : Accepts (with_flight state commit flight true) (event.Durable commit) (committed state commit raised after)

abbrev pub CommitsAreAccepted : Type 0
CommitsAreAccepted = (state : MachineState) (commit : ℕ) (node : NodeId) (stamp : Stamp) (flight : Flight) (raised : Cut) (after : ℕ → Bool)
    → MayCommit state commit stamp
    → BeginsFlight state commit (record { node = node.0; stamp = stamp.0 }) flight
    → IsRaised state.first state.history every_entry state.cut state.inodes (record { node = node.0; stamp = stamp.0 }) raised
    → AreInodesAfter state.first state.history every_entry state.cut state.inodes (record { node = node.0; stamp = stamp.0 }) raised after
    → AcceptsCommit state commit node stamp flight raised after

-- what the law of tied commits asks, where all commits are tied and all entries count
pub record MayTieAll (first : TreeState) (events : List Event) (states : ℕ → MachineState) (commit : ℕ) (flush : Flush) : Type 0 where
  pub tied : AreTied first events states commit every_commit
  pub counted : CountEnough events commit flush every_commit every_entry

-- It holds of each commit of a run.
abbrev pub AllAreTied : Type 0
AllAreTied = (first : TreeState) (events : List Event) (states : ℕ → MachineState) (commit : ℕ) (flush : Flush) → MayTieAll first events states commit flush
