-- The machine along a record of several open commits.
use Rattle.std.specs.Prelude.{◌≡◌, ℕ, ◌≤◌, Bool, true, false, List, [], ◌∷◌, ◌++◌, length, map, None}
use Rattle.sfs_base.specs.Listed.{is_listed}
use Rattle.tree_laws.specs.History.{IsLegal}
use Rattle.tree_laws.specs.Laws.{IsSoundTree}
use Rattle.cut_laws.specs.declared.event.Event.{Event}
use Rattle.cut_laws.specs.declared.event.Event.TheVariants as event
use Rattle.cut_laws.specs.Cut.{Cut}
use Rattle.cut_laws.specs.Machine.{Flight, MachineState, Accepts}
use Rattle.cut_laws.specs.Rules.{IsOneOf}
use Rattle.beside_laws.specs.Commits.{CoreCommit, commit_fsync}
use Rattle.beside_laws.specs.Laws.{AreReady, RaisesTo, with_done}
use Rattle.beside_laws.specs.Progress.{Progress, Standing}

-- A commit that has begun, opened or not.
pub record Flown : Type 0 where
  pub commit : CoreCommit
  pub opened : Bool

-- its flight
abbrev pub flight_of_flown : Flown → Flight
flight_of_flown flown = record {
  commit = flown.commit.number;
  flush = commit_fsync flown.commit;
  members = is_listed flown.commit.members;
  concerned = flown.commit.holds;
  opened = flown.opened;
}

-- their commits
abbrev pub commits_of : List Flown → List CoreCommit
commits_of flying = map (λ flown. flown.commit) flying

-- A place in the record: the run so far, the commits that have reserved and wait, those that fly, and all numbers under which one has begun.
pub record RecordPlace : Type 0 where
  pub run : Progress
  pub waiting : List CoreCommit
  pub flying : List Flown
  pub used : List ℕ

-- those that are open there
abbrev pub open_at : RecordPlace → List CoreCommit
open_at place = place.waiting ++ commits_of place.flying

-- the machine there, while no commit has failed
abbrev pub machine_amid : RecordPlace → MachineState
machine_amid place = record {
  first = place.run.first;
  history = place.run.history;
  cut = place.run.cut;
  inodes = place.run.inodes;
  flights = map flight_of_flown place.flying;
  used = place.used;
  failed = None;
  crashed = false;
}

-- The midst of a record: all stands that is done; the open commits are ready beside one another, and none is of a stamp past the history; and each
-- number that was used is that of one that is done or flies.
pub record IsMidst (place : RecordPlace) : Type 0 where
  pub standing : Standing place.run
  pub ready : AreReady place.run (open_at place)
  pub low : (commit : CoreCommit) → IsOneOf (open_at place) commit → (commit_fsync commit).stamp ≤ length place.run.history
  pub used_by : (number : ℕ) → IsOneOf place.used number
      → (commit : CoreCommit) × IsOneOf (place.run.done ++ commits_of place.flying) commit × (commit.number ≡ number)

-- A run's history is legal, from a sound tree on.
pub record IsLegalRun (run : Progress) : Type 0 where
  pub sound : IsSoundTree run.first
  pub legal : IsLegal run.first run.history

-- A step from one place to another: the machine takes the event, and it is the midst of the record again.
pub record TakesEvent (from : RecordPlace) (e : Event) (to : RecordPlace) : Type 0 where
  pub taken : Accepts (machine_amid from) e (machine_amid to)
  pub midst : IsMidst to

-- the event by which a commit begins
abbrev pub begins : CoreCommit → Event
begins commit = event.CutAt commit.number (record { 0 = (commit_fsync commit).node }) (record { 0 = (commit_fsync commit).stamp })

-- A commit that waits begins.
abbrev pub CommitsBegin : Type 0
CommitsBegin = (place : RecordPlace) (before behind : List CoreCommit) (commit : CoreCommit) → IsLegalRun place.run → place.waiting ≡ before ++ commit ∷ behind → IsMidst place
    → TakesEvent place (begins commit) (record place {
      waiting = before ++ behind;
      flying = place.flying ++ record { commit = commit; opened = false } ∷ [];
      used = place.used ++ commit.number ∷ [];
    })

-- One that flies is opened.
abbrev pub CommitsOpen : Type 0
CommitsOpen = (place : RecordPlace) (before behind : List Flown) (commit : CoreCommit)
    → place.flying ≡ before ++ record { commit = commit; opened = false } ∷ behind → IsMidst place
    → TakesEvent place (event.Opened commit.number) (record place { flying = before ++ record { commit = commit; opened = true } ∷ behind })

-- What the end of a commit asks: the history is legal, the commit flies and was opened, and its fsync raises this cut and leaves these inodes.
pub record MayEnd (place : RecordPlace) (before behind : List Flown) (commit : CoreCommit) (raised : Cut) (after : ℕ → Bool) : Type 0 where
  pub legal : IsLegalRun place.run
  pub flies : place.flying ≡ before ++ record { commit = commit; opened = true } ∷ behind
  pub raises : RaisesTo place.run commit raised after

-- One that was opened becomes durable, with whichever cut and inodes its fsync leaves.
abbrev pub CommitsEnd : Type 0
CommitsEnd = (place : RecordPlace) (before behind : List Flown) (commit : CoreCommit) (raised : Cut) (after : ℕ → Bool)
    → MayEnd place before behind commit raised after → IsMidst place
    → TakesEvent place (event.Durable commit.number) (record place { run = with_done place.run commit raised after; flying = before ++ behind })
