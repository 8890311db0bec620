-- The commit of a file that has an inode, which holds its own file alone and notes nothing: by the look that it would have had.
use Rattle.std.specs.Prelude.{◌≡◌, ◌↔◌, ℕ, ◌==◌, ◌&&◌, Bool, true, false, not, [], ◌∷◌, length, map, filter, max, if◌then◌else◌}
use Rattle.tree_laws.specs.Tree.{is_directory}
use Rattle.tree_laws.specs.Changes.{RowChange, changes_of}
use Rattle.tree_laws.specs.History.{tree_after}
use Rattle.cut_laws.specs.Closure.{every_entry, Flush, HasLiveNode, IsNamedIn}
use Rattle.cut_laws.specs.Cut.{cut_of, is_within, rows_at_cut}
use Rattle.cut_laws.specs.Rules.{Birth, births_of}
use Rattle.look_laws.specs.Look.{Born, Look, Noted}
use Rattle.beside_laws.specs.Commits.{CoreCommit, IsByItsLook}
use Rattle.beside_laws.specs.Laws.{KnowsRun, FindsAlways}
use Rattle.beside_laws.specs.Progress.{Progress, Standing}
use Rattle.beside_laws.specs.Steps.{IsLegalRun}

-- a birth as a look has it
abbrev pub born_at : Birth → Born
born_at birth = record { node = birth.node; directory = birth.directory }

-- a change as a look notes it that records nothing above it
abbrev pub noted_alone : RowChange → Noted
noted_alone change = record { change = change; above = [] }

-- whether a change names a node and is not flushed
abbrev pub is_open_naming : Progress → ℕ → RowChange → Bool
is_open_naming run node change = change.child == node && not (is_within run.cut change)

-- The look of an fsync of a file in a run: it has the file's stamp, its inode and its births, and of the whole history the changes that name the
-- file and are not flushed.
abbrev pub own_look : Progress → Flush → Look
own_look run flush = record {
  flush = flush;
  cut = λ node. if node == flush.node then cut_of run.cut node else 0;
  inodes = λ node. node == flush.node;
  born = map born_at (filter (λ birth. birth.node == flush.node) (births_of run.first run.history));
  noted = map noted_alone (filter (is_open_naming run flush.node) (changes_of run.first run.history));
}

-- What its core knows of the commit besides: its number, the number of the file's last commit, and whether a row names the file.
pub record OwnNumbers : Type 0 where
  pub number : ℕ
  pub last : ℕ
  pub named : Bool

-- The commit by that look: the file's stamp becomes the fsync's at least, and no node gets or loses an inode.
abbrev pub own_commit : Progress → Flush → OwnNumbers → CoreCommit
own_commit run flush own = record {
  number = own.number;
  look = own_look run flush;
  counts = every_entry;
  late = max (length run.history) flush.stamp;
  mark = λ _ _. 0;
  members = flush.node ∷ [];
  holds = λ node. node == flush.node;
  last = λ _. own.last;
  makes = record {
    lifted = λ node. if node == flush.node then max (cut_of run.cut node) flush.stamp else 0;
    found = record { named = λ _. own.named; directory = false };
    gets = λ _. false;
    loses = λ _. false;
  };
}

-- An fsync of a live file that has an inode, and whether a row at the cut names it.
pub record IsOwnFsync (run : Progress) (flush : Flush) (own : OwnNumbers) : Type 0 where
  pub live : HasLiveNode run.first run.history flush
  pub file : is_directory (tree_after run.first run.history) flush.node ≡ false
  pub has : run.inodes flush.node ≡ true
  pub named : (own.named ≡ true) ↔ IsNamedIn (rows_at_cut run.first run.history run.cut) flush.node

-- A commit may be open beside others: it is made by its look, knows enough, and what it found is so wherever it does.
pub record MayBeOpen (run : Progress) (commit : CoreCommit) : Type 0 where
  pub made : IsByItsLook commit
  pub knows : KnowsRun run commit
  pub finds : FindsAlways run.first run.history commit

-- So may that of each such fsync.
abbrev pub OwnFilesMayBeOpen : Type 0
OwnFilesMayBeOpen = (run : Progress) (flush : Flush) (own : OwnNumbers) → IsLegalRun run → Standing run → IsOwnFsync run flush own
    → MayBeOpen run (own_commit run flush own)
