-- The laws of the crate, each of which a function of the module laws proves.
use Rattle.std.specs.Prelude.{◌≡◌, ℕ, true, Option}
use mathlib.Core.List.{IsPrefix}
use Rattle.sfs_base.specs.declared.numbers.NodeId.{NodeId}
use Rattle.disk_nodes.specs.OldKept.{OldKept}
use Rattle.mem_values.specs.declared.cell_id.CellId.TheVariants.{Pending}
use Rattle.mem_values.specs.Inode.{SawInode}
use Rattle.mem_values.specs.Places.{cell_place}
use Rattle.mem_values.specs.Start.{FileHand}
use Rattle.fsync_file.specs.Saw.{HasSeenInode}

-- A core has seen so once it was answered that the file has an inode.
abbrev pub AnsweredCoresHaveSeen : Type 0
AnsweredCoresHaveSeen = (given : ℕ → Option OldKept) (nodes : ℕ) (node : NodeId) (before after : FileHand)
    → SawInode given (cell_place nodes (Pending node)) before true after → HasSeenInode given nodes node after

-- And it has seen so for good: as it sees more of the same history.
abbrev pub SeenStaysSeen : Type 0
SeenStaysSeen = (given : ℕ → Option OldKept) (nodes : ℕ) (node : NodeId) (hand later : FileHand) → later.view.first ≡ hand.view.first
    → IsPrefix hand.view.seen later.view.seen → HasSeenInode given nodes node hand → HasSeenInode given nodes node later
