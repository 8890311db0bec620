-- What an fsync planned, in the words of what a core makes for its commit.
use Rattle.std.specs.Prelude.{◌≡◌, ◌<◌, ◌≤◌, ◌∷◌, ℕ, true, false, Option, Some, None, length, is_some, map, List, [], All}
use Rattle.std.specs.List.Sorted.{IsStrictlyIncreasing}
use Rattle.sfs_base.specs.declared.numbers.NodeId.{NodeId}
use Rattle.mem_files.specs.File.{File}
use Rattle.tree_laws.specs.Tree.{is_directory}
use Rattle.tree_laws.specs.History.{tree_after, IsLegal}
use Rattle.tree_laws.specs.NameRow.{node_number}
use Rattle.disk_nodes.specs.OldKept.{OldKept}
use Rattle.disk_nodes.specs.declared.old.OldEntry.{OldEntry}
use Rattle.disk_change.specs.declared.files.FileChange.{FileChange}
use Rattle.disk_change.specs.Planned.{planned}
use Rattle.stamp_table.specs.Events.{calls_in}
use Rattle.stamp_table.specs.Table.{values_in}
use Rattle.mem_values.specs.Start.{FileHand}
use Rattle.mem_values.specs.declared.cell.Pending.{Pending}
use Rattle.mem_values.specs.Stands.{StandsPending}
use Rattle.mem_values.specs.Account.{account_of}
use Rattle.mem_values.specs.Facts.{IsLawfulLog}
use Rattle.note_laws.specs.Joined.{CopiedFile}
use Rattle.note_laws.specs.Run.{TableRun, calls_of}
use Rattle.made_laws.specs.Made.{CoreMaking, MadeEitherWay}
use Rattle.mem_calls.specs.Held.{pending_held}
use Rattle.fsync_values.specs.Lending.{entries_of, lent_value}
use Rattle.fsync_values.specs.Renewing.{boxes_asked}
use Rattle.fsync_look.specs.Look.{HoldsNodes, IsBelow}
use Rattle.fsync_catch.specs.Catch.{IsCaught, run_seen, HasItsFsync, saw_of}
use Rattle.fsync_catch.specs.declared.looking.Caught.{Caught}
use Rattle.fsync_catch.specs.declared.looking.WaitingFsync.{WaitingFsync}
use Rattle.fsync_draft.specs.Drafting.{IsDraftOf, seens_of, IsDraftedAlone}
use Rattle.fsync_draft.specs.declared.lending.DraftedFsync.{DraftedFsync}

-- What an fsync copied of its own node, told of a run: a directory has no file; the copy of a file is the value that its cell had as the stamp was drawn.
pub data IsOwnCopy (run : TableRun) (fsync : WaitingFsync) : Option File → Type 0 where
  of_directory : is_directory (tree_after run.first (calls_of run)) fsync.node.0 ≡ true → IsOwnCopy run fsync None
  of_file : (copy : CopiedFile run) → is_directory (tree_after run.first (calls_of run)) fsync.node.0 ≡ false → copy.node ≡ fsync.node.0
      → length (calls_in copy.at) ≡ fsync.stamp.0 → IsOwnCopy run fsync (Some copy.value.file)

-- An fsync that was planned: what the disk had of nodes at the table's begin, the number of its nodes, the fsync, what its core held, what it caught, the copy
-- of its own file, and what it planned.
pub record PlannedFsync : Type 0 where
  pub given : ℕ → Option OldKept
  pub nodes : ℕ
  pub fsync : WaitingFsync
  pub hand : FileHand
  pub caught : Caught
  pub file : Option File
  pub drafted : DraftedFsync

-- the run as far as its core has seen it
abbrev pub run_planned : PlannedFsync → TableRun
run_planned s = run_seen s.given s.hand

-- What was lent to a plan, over the values of the cells that a core holds of its nodes: what the disk has of them; there are boxes enough for what a commit
-- leaves of them; of each node its last commit was seen; and the plan has these nodes and these members.
pub record IsLentPlan (s : PlannedFsync) : Type 0 where
  pub lent : s.drafted.values.items ≡ map lent_value (values_in s.hand.held)
  pub boxes : (after : List OldEntry) (nodes : List NodeId) → boxes_asked after nodes (values_in s.hand.held) ≤ length s.drafted.draft.spares.items
  pub seen : s.drafted.draft.seen.items ≡ seens_of s.caught.concern.nodes.items (values_in s.hand.held)
  pub old : s.drafted.draft.plan.change.old ≡ entries_of s.caught.concern.nodes.items (values_in s.hand.held)
  pub members : s.drafted.draft.plan.members.items ≡ s.caught.concern.members.items
  pub nodes : s.drafted.draft.plan.nodes.items ≡ s.caught.concern.nodes.items

-- A file that has an inode was planned by its own value alone: this is all that the core holds, and it stood for all that the core had seen, which has the
-- fsync's call; the fsync concerns the file and no other node; and the plan changes nothing but the file.
pub record IsPlannedAlone (s : PlannedFsync) : Type 0 where
  pub value : Pending
  pub kept : OldKept
  pub file : File
  pub file_is : s.file ≡ Some file
  pub concerns : s.caught.concern.nodes.items ≡ s.fsync.node ∷ []
  pub members_are : s.caught.concern.members.items ≡ s.fsync.node ∷ []
  pub held : pending_held s.nodes s.hand.held s.fsync.node ≡ Some value
  pub has : value.old ≡ Some kept
  pub stamped : HasItsFsync s.hand s.fsync
  pub stands : StandsPending s.given s.hand.view.first (account_of s.hand.view.seen) s.fsync.node.0 value
  pub table : IsLegal s.hand.view.first (calls_of (run_planned s)) × IsLawfulLog s.given s.hand.view.first s.hand.view.seen
  pub files : List FileChange
  pub files_are : IsDraftedAlone s.fsync value.cut file files
  pub change_is : s.drafted.draft.plan.change ≡ planned (entries_of s.caught.concern.nodes.items (values_in s.hand.held)) [] files [] []

-- It was planned by what was caught by a look at all logs, or by its own file alone.
pub data IsPlannedSo (s : PlannedFsync) : Type 0 where
  by_look : IsCaught s.given s.nodes s.fsync s.hand s.caught → IsDraftOf s.fsync s.caught s.file s.hand s.drafted → IsPlannedSo s
  alone : IsPlannedAlone s → IsPlannedSo s

-- It was planned on a table with some core whose disk had something of the root, by what was copied of its file; the core holds what was flushed of exactly
-- the nodes that it concerns, which are nodes of the table, and lent what the disk has of them.
pub record IsDraftedFsync (s : PlannedFsync) : Type 0 where
  pub root : is_some (s.given 0) ≡ true
  pub some_core : 0 < length s.hand.view.first.made
  pub holds : HoldsNodes s.nodes s.caught.concern.nodes.items s.hand
  pub ascend : IsStrictlyIncreasing (map node_number s.caught.concern.nodes.items)
  pub members_ascend : IsStrictlyIncreasing (map node_number s.caught.concern.members.items)
  pub within : All (IsBelow s.nodes) s.caught.concern.nodes.items
  pub copied : IsOwnCopy (run_planned s) s.fsync s.file
  pub lent : IsLentPlan s
  pub how : IsPlannedSo s

-- A core made this for its fsync: the plan, over what the disk has of the nodes by the values that it held.
pub record MakesPlanned (s : PlannedFsync) : Type 0 where
  pub making : CoreMaking
  pub made : MadeEitherWay (run_planned s) making
  pub core_is : making.noted.core ≡ s.hand.view.core
  pub node_is : making.noted.node ≡ s.fsync.node.0
  pub stamp_is : making.noted.stamp ≡ s.fsync.stamp.0
  pub gathered_is : making.gathered ≡ s.caught.gathered
  pub concern_is : making.concern ≡ s.caught.concern
  pub old_is : making.old ≡ entries_of s.caught.concern.nodes.items (values_in s.hand.held)
  pub plan_is : making.plan ≡ s.drafted.draft.plan
  pub saw : making.noted.pending ≡ saw_of s.nodes s.caught.concern.nodes.items s.hand

-- So it is.
abbrev pub DraftsAreMade : Type 0
DraftsAreMade = (s : PlannedFsync) → IsDraftedFsync s → MakesPlanned s
