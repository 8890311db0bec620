-- What each of two cores makes as it flushes one of two directories in which nothing changed.
use Rattle.std.specs.Prelude.{ℕ, ◌==◌, ◌∷◌, false, List, [], None, if◌then◌else◌}
use Rattle.sfs_base.specs.Lists.{Roomy}
use Rattle.space_map.specs.Space.{GrantedNumbers}
use Rattle.disk_nodes.specs.declared.old.OldEntry.{OldEntry}
use Rattle.block_map.specs.Kept.{kept_of}
use Rattle.disk_change.specs.Planned.{planned}
use Rattle.commit_laws.specs.CommitOfPlan.{CommitPlan}
use Rattle.cut_laws.specs.Closure.{every_entry}
use Rattle.dep_closure.specs.declared.gathered.Gathered.{Gathered}
use Rattle.dep_closure.specs.Gathered.{look_of}
use Rattle.beside_laws.specs.Commits.{CoreCommit}
use Rattle.flush_plan.specs.declared.concern.Concern.{Concern}
use Rattle.flush_plan.specs.declared.plans.FsyncPlan.{FsyncPlan}
use Rattle.plan_laws.specs.Leads.{found_from}
use Rattle.plan_laws.specs.Plans.{Sources}
use Rattle.book_laws.specs.Pairs.{Pair}
use Rattle.book_laws.specs.Walk.{Bookkeeping}
use Rattle.reserve_laws.specs.Plans.{parts_given}
use Rattle.example_laws.specs.Image.{TWO_PARTS, TWO_DIRECTORIES}

-- a list without room for more
abbrev pub roomless : {T : Type 0} → List T → Roomy T
roomless items = record { items = items; spare = 0 }

-- what memory keeps of a node, whose inode has its number
abbrev pub entry_at : ℕ → OldEntry
entry_at node = record { node = record { 0 = node }; old = record { number = node; kept = kept_of (TWO_PARTS node) } }

-- An fsync of a node at a stamp, with its commit's number.
pub record Flushing : Type 0 where
  pub node : ℕ
  pub stamp : ℕ
  pub number : ℕ

-- the first core flushes the directory at stamp 0, and the second one the root at stamp 1
abbrev pub FIRST_FLUSH : Flushing
FIRST_FLUSH = record { node = 1; stamp = 0; number = 1 }

abbrev pub SECOND_FLUSH : Flushing
SECOND_FLUSH = record { node = 0; stamp = 1; number = 2 }

-- what its core gathers: no change, and that the node has an inode
abbrev pub gathered_by : Flushing → Gathered
gathered_by flushing =
    record { logs = roomless []; cuts = roomless []; births = roomless []; inodes = roomless (record { 0 = flushing.node } ∷ []) }

-- it concerns its node alone
abbrev pub concern_by : Flushing → Concern
concern_by flushing = record {
  members = roomless (record { 0 = flushing.node } ∷ []);
  nodes = roomless (record { 0 = flushing.node } ∷ []);
  nets = roomless [];
}

-- its plan changes nothing
abbrev pub plan_by : Flushing → FsyncPlan
plan_by flushing = record {
  members = roomless (record { 0 = flushing.node } ∷ []);
  nodes = roomless (record { 0 = flushing.node } ∷ []);
  leave = roomless [];
  change = planned (entry_at flushing.node ∷ []) [] [] [] [];
}

-- what it is planned from
abbrev pub sources_by : Flushing → Sources
sources_by flushing = record {
  entries = entry_at 0 ∷ entry_at 1 ∷ [];
  start = record { 0 = flushing.node };
  below = record { 0 = flushing.stamp };
  gathered = gathered_by flushing;
  concern = concern_by flushing;
  old = entry_at flushing.node ∷ [];
  is_file = false;
  change = None;
  plan = plan_by flushing;
}

-- its commit
abbrev pub core_commit_of : Flushing → CoreCommit
core_commit_of flushing = record {
  number = flushing.number;
  look = look_of (record { 0 = flushing.node }) (record { 0 = flushing.stamp }) (gathered_by flushing);
  counts = every_entry;
  late = 2;
  mark = λ _ _. 0;
  members = flushing.node ∷ [];
  holds = λ node. node == flushing.node;
  last = λ _. 0;
  makes = record {
    lifted = λ node. if node == flushing.node then flushing.stamp else 0;
    found = found_from (sources_by flushing);
    gets = λ _. false;
    loses = λ _. false;
  };
}

-- the commit's plan, and an empty grant
abbrev pub commit_plan : Flushing → CommitPlan
commit_plan flushing = record { old = entry_at flushing.node ∷ []; nets = []; files = []; enter = []; leave = [] }

abbrev pub NO_GRANT : GrantedNumbers
NO_GRANT = record { inodes = []; blocks = [] }

-- its pair
abbrev pub pair_by : Flushing → Pair
pair_by flushing = record {
  commit = core_commit_of flushing;
  one = record {
    flush = record { node = flushing.node; stamp = flushing.stamp };
    nodes = flushing.node ∷ [];
    plan = commit_plan flushing;
    grant = NO_GRANT;
    parts = parts_given TWO_DIRECTORIES (commit_plan flushing) NO_GRANT;
  };
}

-- what the books of the two are kept from
abbrev pub TWO_KEPT : Bookkeeping
TWO_KEPT = record {
  start = TWO_DIRECTORIES;
  pairs = λ stamp. pair_by (if stamp == 0 then FIRST_FLUSH else SECOND_FLUSH);
  cores = λ stamp. if stamp == 0 then 0 else 1;
}
