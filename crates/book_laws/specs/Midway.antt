-- The books at a place of a record, by the volume as it is imagined there: the disk as if exactly the commits that are done were on it.
use Rattle.std.specs.Prelude.{◌≡◌, ℕ, false, List, [], None}
use Rattle.cut_laws.specs.Machine.{Flight, MachineState}
use Rattle.flush_laws.specs.Volume.{Volume}
use Rattle.tree_laws.specs.declared.turns.Turn.{Turn}
use Rattle.turn_laws.specs.Books.{Grant, Waiting, Books, flush_at}
use Rattle.turn_ties.specs.Plans.{image_held, Planning, HasPlan, HasTouchedPages}

-- A place in the midst of a record: the volume, the commits in flight, the numbers of all commits that have begun, what is reserved, and which
-- fsyncs wait.
pub record Midway : Type 0 where
  pub volume : Volume
  pub flights : List Flight
  pub used : List ℕ
  pub grants : List Grant
  pub waiting : List Waiting

-- the machine there, while no commit has failed
abbrev pub machine_beside : Midway → MachineState
machine_beside midway = record {
  first = midway.volume.first;
  history = midway.volume.history;
  cut = midway.volume.cut;
  inodes = midway.volume.inodes;
  flights = midway.flights;
  used = midway.used;
  failed = None;
  crashed = false;
}

-- the books there
abbrev pub books_beside : Midway → Books
books_beside midway = record {
  machine = machine_beside midway;
  image = image_held midway.volume;
  grants = midway.grants;
  waiting = midway.waiting;
  failed = None;
}

-- the books of a volume by what is reserved alone
abbrev pub books_granted : Volume → List Grant → Books
books_granted volume grants = books_beside (record { volume = volume; flights = []; used = []; grants = grants; waiting = [] })

-- A turn's fsync has this plan for a volume, with the pages of touched blocks.
pub record PlansTurn (volume : Volume) (planning : Planning) (turn : Turn) : Type 0 where
  pub has : HasPlan volume planning
  pub touched : HasTouchedPages volume planning
  pub own : planning.flush ≡ flush_at turn
