-- Where directories stand, and a directory that ends: its row goes, and it stands nowhere.
use Rattle.std.specs.Prelude.{◌≡◌, ℕ, ◌+◌, ◌*◌, ◌<◌, ◌≤◌, true, List, length, Option, Some}
use Rattle.std.specs.FinMap.{get}
use Rattle.sfs_base.specs.Name.{bucket}
use Rattle.sfs_base.specs.declared.numbers.NodeId.{NodeId}
use Rattle.stamp_table.specs.declared.held.HeldCell.{HeldCell}
use Rattle.stamp_table.specs.Hand.{places_of}
use Rattle.stamp_table.specs.Ascending.{LiesAbove}
use Rattle.mem_values.specs.Start.{FileHand}
use Rattle.mem_values.specs.declared.cell.Cell.{Cell}
use Rattle.mem_values.specs.declared.bucket.Bucket.{Bucket}
use Rattle.mem_values.specs.declared.cell_id.CellId.{CellId}
use Rattle.mem_values.specs.declared.cell_id.CellId.TheVariants as id
use Rattle.mem_values.specs.Places.{cell_place}
use Rattle.mem_calls.specs.Held.{value_held, bucket_held, is_standing, HoldsDirectory}
use Rattle.mem_calls.specs.Sums.{HoldsBuckets}
use Rattle.mem_calls.specs.Changes.{ReplacesBucket}

-- A row of a bucket that is held names a directory, in a directory that stands.
pub record NamesDirectory (nodes : ℕ) (held : List (HeldCell Cell)) (node : NodeId) (number : ℕ) (name : List ℕ) (child : NodeId) : Type 0 where
  pub within : node.0 < nodes
  pub bucket : Bucket
  pub held_is : bucket_held nodes held node number ≡ Some bucket
  pub stands : is_standing node bucket ≡ true
  pub row : get bucket.directories name ≡ Some child.0

-- all buckets of the directory are held that the row of a name names, where that is one
abbrev pub HoldsNamedBuckets : ℕ → List (HeldCell Cell) → NodeId → List ℕ → Type 0
HoldsNamedBuckets nodes held node name =
    (child : NodeId) → NamesDirectory nodes held node (bucket name) name child → (child.0 < nodes) × HoldsBuckets nodes held child

-- The place of a name is held, and where its row names a directory all buckets of that, all below the logs.
pub record HoldsEnding (nodes : ℕ) (node : NodeId) (name : List ℕ) (hand : FileHand) : Type 0 where
  pub directory : HoldsDirectory nodes hand.held node (bucket name)
  pub child : HoldsNamedBuckets nodes hand.held node name
  pub below : LiesAbove (32 + 10 * nodes) hand.view.held
  pub few : length hand.held ≤ 10

-- A bucket of a directory that stands here, with the same rows.
pub record IsPlacedBucket (place : Option NodeId) (old new : Bucket) : Type 0 where
  pub rows : new.rows ≡ old.rows
  pub directories : new.directories ≡ old.directories
  pub stands : new.stands ≡ place

-- by a bucket that is held its directory stands here
pub record PlacesBucket (nodes : ℕ) (node : NodeId) (number : ℕ) (place : Option NodeId) (before after : FileHand) : Type 0 where
  pub change : ReplacesBucket nodes node number before after
  pub placed : IsPlacedBucket place change.old change.new

-- By so many buckets that are held a directory stands here, and nothing else changes.
pub record PlacesDirectory (nodes : ℕ) (node : NodeId) (count : ℕ) (place : Option NodeId) (before after : FileHand) : Type 0 where
  pub frame : record after { held = before.held } ≡ before
  pub places : places_of after.held ≡ places_of before.held
  pub placed : (number : ℕ) (old : Bucket) → number < count → bucket_held nodes before.held node number ≡ Some old
      → (new : Bucket) × (bucket_held nodes after.held node number ≡ Some new) × IsPlacedBucket place old new
  pub rest : (which : CellId) → ((number : ℕ) → number < count → cell_place nodes (id.Bucket node number) ≡ cell_place nodes which → ⊥)
      → value_held nodes after.held which ≡ value_held nodes before.held which
