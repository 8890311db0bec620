-- What recovery knows of a disk while it brings the records of open slots home and closes the slots.
use Rattle.std.specs.Prelude.{◌≡◌, ◌≢◌, ◌⊎◌, ℕ, ◌<◌, ◌≤◌, nat_lt, Bool, true, false, List, [], length, slice_index_or, Option, None, Some, Result, OnOk}
use Rattle.std.specs.List.{flat_map}
use Rattle.sfs_image.specs.ImageOf.{Transaction, with_opened, given, IsImageOf, transaction_in, table_parts}
use Rattle.sfs_image.specs.ImageWrites.{IsFullTable}
use Rattle.sfs_image.specs.Part.{Part}
use Rattle.sfs_image.specs.Settled.{slot_count, table_byte, table_record}
use Rattle.sfs_image.specs.Super.{Layout}
use Rattle.sfs_dev.specs.Disk.{View}
use Rattle.journal_one.specs.Job.{Piece}
use Rattle.journal_one.specs.Known.{EachLeft, Reads}
use Rattle.commit_one.specs.Carried.{Keeps, LaterLeaves, GoesOnTelling}
use Rattle.commit_one.specs.Change.{nothing_open}
use Rattle.recovery.specs.Open.{AreOpen}
use Rattle.recovery.specs.declared.journals.OpenSlot.{OpenSlot}

-- the records of inodes from a first one on at their place in the table, one behind another
abbrev pub records_piece : Layout → ℕ → List (List ℕ) → Piece
records_piece layout first records = record { at = table_byte layout first; bytes = flat_map (λ bytes. bytes) records }

-- Of the inodes from a first one to below an end each has a commit stamp; where there are none, the first one has none.
pub record IsEndOfNeighbours (stamps : List (Option ℕ)) (first end : ℕ) : Type 0 where
  pub from : first ≤ end
  pub within : end ≤ length stamps
  pub stamped : (i : ℕ) → first ≤ i → i < end → slice_index_or stamps i None ≢ None
  pub none : end ≡ first → slice_index_or stamps first None ≡ None

-- Newest records are those of the parts that an image stands for: an inode has a commit stamp where an open slot gives it one.
pub record AreNewestOf (layout : Layout) (opened : ℕ → Option Transaction) (parts : ℕ → Part) (stamps : List (Option ℕ))
    (records : List (List ℕ)) : Type 0 where
  pub given_one : (i : ℕ) → i < layout.inodes → slice_index_or stamps i None ≢ None → given layout opened i ≢ None
  pub given_none : (i : ℕ) → i < layout.inodes → slice_index_or stamps i None ≡ None → given layout opened i ≡ None
  pub each : (i : ℕ) → i < layout.inodes → slice_index_or records i [] ≡ (with_opened layout opened parts i).raw

-- of the first n inodes the table that a read gives has the newest records, where an open slot has them
abbrev pub AreHome : Layout → List (Option ℕ) → List (List ℕ) → ℕ → View → Type 0
AreHome layout stamps records n disk =
    (i : ℕ) → i < n → slice_index_or stamps i None ≢ None → Reads disk (λ image. table_record layout image i ≡ slice_index_or records i [])

-- The newest records were brought home: each image goes on standing for the parts, and at the end the table has all their records.
pub record BringsHome {V E : Type 0} (layout : Layout) (opened : ℕ → Option Transaction) (parts : ℕ → Part) (old new : View)
    (result : Result V E) : Type 0 where
  pub keeps : Keeps (IsImageOf layout opened parts) old new
  pub full : OnOk result (EachLeft new (IsFullTable layout opened parts))

-- An image settles as parts, whatever slots are open in it.
pub record SettlesAs (layout : Layout) (parts : ℕ → Part) (image : List ℕ) : Type 0 where
  pub opened : ℕ → Option Transaction
  pub stands : IsImageOf layout opened parts image
  pub same : (i : ℕ) → with_opened layout opened parts i ≡ parts i

-- whether a commit stamp is greater than the last one, if there is one
abbrev pub is_above : Option ℕ → ℕ → Bool
is_above None stamp = true
is_above (Some last) stamp = nat_lt last stamp

-- a slot that was found has this place among them
pub record IsAt (found : List OpenSlot) (place : ℕ) (one : OpenSlot) : Type 0 where
  pub within : place < length found
  pub is : one ≡ slice_index_or found place one

-- Of the first n slots that were found this one, at that place, has the least commit stamp of those that are greater than the last one.
pub record IsOldestAbove (found : List OpenSlot) (n : ℕ) (last : Option ℕ) (place : ℕ) (one : OpenSlot) : Type 0 where
  pub at : IsAt found place one
  pub above : is_above last one.stamp ≡ true
  pub least : (k : ℕ) (other : OpenSlot) → k < n → IsAt found k other → is_above last other.stamp ≡ true → one.stamp ≤ other.stamp

-- none of the first n slots that were found has a greater commit stamp than the last one
abbrev pub HasNoneAbove : List OpenSlot → ℕ → Option ℕ → Type 0
HasNoneAbove found n last = (k : ℕ) (one : OpenSlot) → k < n → IsAt found k one → is_above last one.stamp ≡ false

-- what is found of the oldest slot above the last one: its place, or none where there is none
abbrev pub FindsOldest : List OpenSlot → ℕ → Option ℕ → Option ℕ → Type 0
FindsOldest found n last None = HasNoneAbove found n last
FindsOldest found n last (Some place) =
    (place < length found) × ((one : OpenSlot) → one ≡ slice_index_or found place one → IsOldestAbove found n last place one)

-- the slot of an open slot's number is open with a transaction under its commit stamp
pub record IsFoundAt (opened : ℕ → Option Transaction) (one : OpenSlot) : Type 0 where
  pub transaction : Transaction
  pub is_open : opened one.number ≡ Some transaction
  pub stamp : transaction.stamp ≡ one.stamp

-- Of the slots that were found open those are still open whose commit stamps are greater than the last one, and no other slot is.
pub record AreOpenAbove (layout : Layout) (found : List OpenSlot) (last : Option ℕ) (opened : ℕ → Option Transaction) : Type 0 where
  pub still : (k : ℕ) (one : OpenSlot) → IsAt found k one → is_above last one.stamp ≡ true → IsFoundAt opened one
  pub others : (j : ℕ) → j < slot_count layout → (opened j ≡ None)
      ⊎ ((k : ℕ) × (one : OpenSlot) × IsAt found k one × (one.number ≡ j) × (is_above last one.stamp ≡ true))

-- An image whose table has the records of all parts, and in which only those slots are open that are still to be closed.
pub record IsToBeClosed (layout : Layout) (parts : ℕ → Part) (found : List OpenSlot) (last : Option ℕ) (image : List ℕ) : Type 0 where
  pub settles : SettlesAs layout parts image
  pub full : IsFullTable layout settles.opened parts image
  pub still_open : AreOpenAbove layout found last settles.opened

-- All open slots were closed: each image of each later moment settles as the parts, and after Ok it stands for them with no slot open.
pub record ClosesAll {V E : Type 0} (layout : Layout) (parts : ℕ → Part) (old new : View) (result : Result V E) : Type 0 where
  pub told : GoesOnTelling old new
  pub later : LaterLeaves (λ _ image. SettlesAs layout parts image) old new
  pub closed : OnOk result (EachLeft new (IsImageOf layout nothing_open parts))

-- Slots were closed: each image of each later moment settles as the parts, and after Ok those are closed up to a last one.
pub record ClosesUpTo {V E : Type 0} (layout : Layout) (parts : ℕ → Part) (found : List OpenSlot) (last : Option ℕ) (old new : View)
    (result : Result V E) : Type 0 where
  pub told : GoesOnTelling old new
  pub later : LaterLeaves (λ _ image. SettlesAs layout parts image) old new
  pub closed : OnOk result (EachLeft new (IsToBeClosed layout parts found last))

-- Slots were closed up to a last one, and no call failed.
pub record ClosesSoFar (layout : Layout) (parts : ℕ → Part) (found : List OpenSlot) (last : Option ℕ) (old new : View) : Type 0 where
  pub told : GoesOnTelling old new
  pub later : LaterLeaves (λ _ image. SettlesAs layout parts image) old new
  pub closed : EachLeft new (IsToBeClosed layout parts found last)

-- the parts that an image settles as
abbrev pub settled_parts : Layout → List ℕ → ℕ → Part
settled_parts layout image = with_opened layout (transaction_in layout image) (table_parts layout image)

-- An image was read in which nothing is wrong up to where its pointers point: these are its open slots, and its newest records.
pub record IsReadyToSettle (layout : Layout) (found : List OpenSlot) (stamps : List (Option ℕ)) (records : List (List ℕ)) (image : List ℕ) : Type 0 where
  pub stands : IsImageOf layout (transaction_in layout image) (table_parts layout image) image
  pub open_slots : AreOpen layout image (slot_count layout) found
  pub newest : AreNewestOf layout (transaction_in layout image) (table_parts layout image) stamps records
