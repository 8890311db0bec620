-- Where fsyncs are served, and what is asked of a core and its pen there.
use Rattle.std.specs.Prelude.{◌≡◌, ℕ, filter_map, length, is_some}
use Rattle.std.specs.FinMap.{get}
use Rattle.cut_laws.specs.Rules.{IsOneOf}
use Rattle.mem_values.specs.Account.{Commitment, commit_told}
use Rattle.mem_values.specs.Facts.{IsBelowInodes}
use Rattle.mem_values.specs.Start.{FileHand, FileState, given_by}
use Rattle.mem_calls.specs.Table.{IsFileTable}
use Rattle.disk_box.specs.Pens.{PenHand}
use Rattle.disk_box.specs.declared.key.BoxKey.{BoxKey}
use Rattle.journal_set.specs.Numbering.{numbers_reserved}
use Rattle.fsync_commit.specs.Asked.{IsSpaceOn}

-- A table over a file tree, of so many nodes and cores, and the disk in a box: this has an inode for each number of the first tree, and its free space is
-- its own; as the table began it had something of exactly the nodes of the first tree.
pub record IsSite {D : Type 0} (t : FileState) (nodes cores : ℕ) (key : BoxKey D) : Type 0 where
  pub table : IsFileTable t nodes
  pub cores_are : cores ≡ length t.first.made
  pub inodes : key.layout.inodes ≡ t.first.first
  pub space : IsSpaceOn key.layout key.space
  pub disk : (node : ℕ) → is_some (given_by t node) ≡ is_some (get t.first.nodes node)
  pub below : (node : ℕ) → IsBelowInodes t.first.first (given_by t node)

-- A core and its pen have one number, and each commit that the core has told has a number that the pen reserved.
pub record ToldAsReserved {D : Type 0} (hand : FileHand) (pen : PenHand D) : Type 0 where
  pub one : pen.view.core ≡ hand.view.core
  pub reserved : (commit : Commitment) → IsOneOf (filter_map commit_told hand.view.mine) commit → IsOneOf (numbers_reserved pen.view.mine) commit.number
