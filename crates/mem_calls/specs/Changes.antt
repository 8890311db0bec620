-- What a call changes of the cells that its core holds.
use Rattle.std.specs.Prelude.{◌≡◌, ℕ, ◌+◌, ◌*◌, ◌<◌, ◌≤◌, true, false, List, [], length, IsSome, Some, None, is_some, if◌then◌else◌}
use Rattle.std.specs.FinMap.{get, insert, remove}
use Rattle.sfs_base.specs.declared.numbers.NodeId.{NodeId}
use Rattle.sfs_base.specs.declared.numbers.Kind.{Kind}
use Rattle.tree_laws.specs.Tree.{is_directory_kind}
use Rattle.mem_cells.specs.Part.{IsSamePart, room_kept}
use Rattle.stamp_table.specs.declared.held.HeldCell.{HeldCell}
use Rattle.stamp_table.specs.Ascending.{LiesAbove}
use Rattle.stamp_table.specs.Table.{with_value}
use Rattle.sfs_base.specs.Name.{bucket}
use Rattle.tree_laws.specs.declared.reply.Code.{Code}
use Rattle.tree_laws.specs.declared.reply.Code.TheVariants.{IsDir, NotPermitted}
use Rattle.mem_values.specs.Start.{FileHand}
use Rattle.mem_values.specs.declared.cell.Cell.{Cell}
use Rattle.mem_values.specs.declared.cell.FileCell.{FileCell}
use Rattle.mem_values.specs.declared.cell.PartCell.{PartCell}
use Rattle.mem_values.specs.declared.bucket.Bucket.{Bucket}
use Rattle.mem_values.specs.declared.cell_id.CellId.{CellId}
use Rattle.mem_values.specs.declared.cell_id.CellId.TheVariants as id
use Rattle.mem_values.specs.Places.{cell_place}
use Rattle.mem_calls.specs.Held.{as_bucket, as_file, bucket_held, file_held, part_held, is_standing, HoldsDirectory, HoldsFile}
use Rattle.mem_calls.specs.declared.ready.Ready.{Ready}
use Rattle.mem_calls.specs.declared.coming.Coming.{Coming}

-- a core holds another value of a cell, and nothing else changes
abbrev pub PutsValue : ℕ → CellId → Cell → FileHand → FileHand → Type 0
PutsValue nodes which value before after = after ≡ record before { held = with_value (cell_place nodes which) value before.held }

-- A bucket that is held is another one.
pub record ReplacesBucket (nodes : ℕ) (node : NodeId) (number : ℕ) (before after : FileHand) : Type 0 where
  pub old : Bucket
  pub was : bucket_held nodes before.held node number ≡ Some old
  pub value : Cell
  pub new : Bucket
  pub is : as_bucket value ≡ Some new
  pub puts : PutsValue nodes (id.Bucket node number) value before after

-- A file that is held is another one.
pub record ReplacesFile (nodes : ℕ) (node : NodeId) (before after : FileHand) : Type 0 where
  pub old : FileCell
  pub was : file_held nodes before.held node ≡ Some old
  pub value : Cell
  pub new : FileCell
  pub is : as_file value ≡ Some new
  pub puts : PutsValue nodes (id.File node) value before after

-- A bucket without the row of a name.
pub record IsWithoutRow (name : List ℕ) (old new : Bucket) : Type 0 where
  pub rows : new.rows ≡ remove old.rows name
  pub directories : new.directories ≡ (if is_some (get old.directories name) then remove old.directories name else old.directories)
  pub stands : new.stands ≡ old.stands

-- a row goes from a bucket that is held
pub record RemovesRow (nodes : ℕ) (node : NodeId) (number : ℕ) (name : List ℕ) (before after : FileHand) : Type 0 where
  pub change : ReplacesBucket nodes node number before after
  pub row : IsWithoutRow name change.old change.new

-- a file that is held has one name less
pub record LowersLinks (nodes : ℕ) (node : NodeId) (before after : FileHand) : Type 0 where
  pub change : ReplacesFile nodes node before after
  pub links : change.new.links + 1 ≡ change.old.links
  pub file : change.new.file ≡ change.old.file

-- A row of a bucket that is held names a file, in a directory that stands.
pub record NamesFile (nodes : ℕ) (held : List (HeldCell Cell)) (node : NodeId) (number : ℕ) (name : List ℕ) (child : NodeId) : Type 0 where
  pub within : node.0 < nodes
  pub bucket : Bucket
  pub held_is : bucket_held nodes held node number ≡ Some bucket
  pub stands : is_standing node bucket ≡ true
  pub row : get bucket.rows name ≡ Some child.0
  pub file : is_some (get bucket.directories name) ≡ false

-- The place of a name is held, and where its row names a file that is held too, all below the logs.
pub record HoldsNamed (nodes : ℕ) (node : NodeId) (name : List ℕ) (hand : FileHand) : Type 0 where
  pub directory : HoldsDirectory nodes hand.held node (bucket name)
  pub file : (child : NodeId) → NamesFile nodes hand.held node (bucket name) name child → (child.0 < nodes) × IsSome (file_held nodes hand.held child)
  pub below : LiesAbove (32 + 10 * nodes) hand.view.held
  pub few : length hand.held ≤ 4

-- The own log is out of its cell, with room for one more change of a directory, and the name is copied.
pub record IsReadyForRow (nodes : ℕ) (node : NodeId) (name : List ℕ) (before : FileHand) (ready : Ready) (after : FileHand) : Type 0 where
  pub name_is : ready.name ≡ name
  pub none : ready.changes.items ≡ []
  pub spare : 1 ≤ ready.changes.spare
  pub part : PartCell
  pub was : part_held nodes before.held before.view.core ≡ Some part
  pub same : IsSamePart part.log ready.part.value.log
  pub made : ready.part.value.made ≡ part.made
  pub room : 1 ≤ room_kept ready.part.value.log node.0
  pub out : (value : Cell) × PutsValue nodes (id.Part (record { 0 = before.view.core })) value before after

-- The place of a name is held, and has no row.
pub record IsFreePlace (nodes : ℕ) (held : List (HeldCell Cell)) (node : NodeId) (name : List ℕ) : Type 0 where
  pub within : node.0 < nodes
  pub bucket_of : Bucket
  pub bucket_is : bucket_held nodes held node (bucket name) ≡ Some bucket_of
  pub free : get bucket_of.rows name ≡ None

-- A bucket with a row more, whose child is of this kind.
pub record IsWithRow (name : List ℕ) (child : ℕ) (kind : Kind) (old new : Bucket) : Type 0 where
  pub rows : new.rows ≡ insert old.rows name child
  pub directories : new.directories ≡ (if is_directory_kind kind then insert old.directories name child else old.directories)
  pub stands : new.stands ≡ old.stands

-- The own log and the bucket of a name are out of their cells: the log has room for one more change of the directory, and the bucket has
-- the row of a child.
pub record IsComing (nodes : ℕ) (node : NodeId) (name : List ℕ) (child : ℕ) (kind : Kind) (before : FileHand) (coming : Coming)
    (after : FileHand) : Type 0 where
  pub mid : FileHand
  pub ready : IsReadyForRow nodes node name before coming.ready mid
  pub out : (value : Cell) × PutsValue nodes (id.Bucket node (bucket name)) value mid after
  pub old : Bucket
  pub was : bucket_held nodes before.held node (bucket name) ≡ Some old
  pub row : IsWithRow name child kind old coming.bucket.value

-- a file that is held has one name more
pub record RaisesLinks (nodes : ℕ) (node : NodeId) (before after : FileHand) : Type 0 where
  pub change : ReplacesFile nodes node before after
  pub links : change.new.links ≡ change.old.links + 1
  pub file : change.new.file ≡ change.old.file

-- A file that is held has names, and may have one more; the place of a name is free.
pub record MayLink (nodes : ℕ) (held : List (HeldCell Cell)) (file node : NodeId) (name : List ℕ) : Type 0 where
  pub file_within : file.0 < nodes
  pub place : IsFreePlace nodes held node name
  pub file_of : FileCell
  pub file_is : file_held nodes held file ≡ Some file_of
  pub linked : 0 < file_of.links
  pub few : file_of.links < 65535

-- What tells of a file and of the place of a row is held; where the two are one node, what tells whether that is a directory.
pub record HoldsLink (nodes : ℕ) (file node : NodeId) (name : List ℕ) (hand : FileHand) : Type 0 where
  pub place : HoldsDirectory nodes hand.held node (bucket name)
  pub other : (file.0 ≡ node.0 → ⊥) → HoldsFile nodes hand.held file

-- why a node can't be linked that can't be used as a file: it is a directory, or not alive
abbrev pub link_code : Code → Code
link_code IsDir = NotPermitted
link_code code = code
