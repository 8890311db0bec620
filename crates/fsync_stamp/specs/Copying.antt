-- An fsync that copies its file as it draws its stamp.
use Rattle.std.specs.Prelude.{◌≡◌, ◌<◌, ℕ, Bool, true, false, List, Option, Some, None, MatchOption}
use Rattle.sfs_base.specs.declared.numbers.NodeId.{NodeId}
use Rattle.mem_files.specs.File.{File}
use Rattle.tree_laws.specs.Tree.{TreeState, is_directory}
use Rattle.tree_laws.specs.declared.call.Call.TheVariants as call
use Rattle.tree_laws.specs.declared.reply.Code.TheVariants as code
use Rattle.tree_laws.specs.declared.reply.Reply.TheVariants as reply
use Rattle.tree_laws.specs.declared.history.Entry.{Entry}
use Rattle.tree_laws.specs.History.{tree_after}
use Rattle.stamp_table.specs.Events.{calls_in}
use Rattle.mem_values.specs.Places.{node_count}
use Rattle.mem_values.specs.Start.{FileHand, FileState}
use Rattle.mem_values.specs.Stands.{StandsFile}
use Rattle.mem_values.specs.declared.cell.FileCell.{FileCell}
use Rattle.mem_calls.specs.Outcome.{IsAnswered}
use Rattle.fsync_stamp.specs.Stamping.{StampsFsync}
use Rattle.fsync_stamp.specs.declared.copying.Copied.{Copied}
use Rattle.fsync_stamp.specs.declared.copying.Copied.TheVariants as copied
use Rattle.fsync_stamp.specs.declared.copying.StampedFsync.{StampedFsync}

-- what was copied, by whether the node is a directory: of a file its bytes, where there was memory
abbrev pub copied_as : Bool → Option File → Copied
copied_as true bytes = copied.Directory
copied_as false (Some bytes) = copied.File bytes
copied_as false None = copied.Refused

-- A file's bytes and marks are those that it has behind these calls.
pub record IsFileThere (first : TreeState) (calls : List Entry) (node : ℕ) (bytes : File) : Type 0 where
  pub value : FileCell
  pub stands : StandsFile first calls node value
  pub bytes_are : value.file ≡ bytes

-- what was copied of a node behind these calls
abbrev pub IsCopied : TreeState → List Entry → ℕ → Copied → Type 0
IsCopied first calls node copied.Directory = is_directory (tree_after first calls) node ≡ true
IsCopied first calls node (copied.File bytes) = (is_directory (tree_after first calls) node ≡ false) × IsFileThere first calls node bytes
IsCopied first calls node copied.Refused = is_directory (tree_after first calls) node ≡ false

-- A core's fsync of a live node, which is one of the table's, has its stamp and waits, and what was copied is as it was there.
pub record StampsCopied (t : FileState) (node : NodeId) (stamped : StampedFsync) (before after : FileHand) : Type 0 where
  pub stamps : StampsFsync t node stamped.stamp.0 before after
  pub copied_is : IsCopied t.first (calls_in stamps.log) node.0 stamped.copied
  pub within : node.0 < node_count t.first

-- what it comes to: the fsync of a live node waits, and that of a dead one has its answer
abbrev pub ComesToCopy : FileState → NodeId → FileHand → FileHand → Option StampedFsync → Type 0
ComesToCopy t node before after result =
    MatchOption result (IsAnswered t (call.Fsync node) (reply.Error code.NoEntry) before after) (λ stamped. StampsCopied t node stamped before after)
