-- The numbers that a commit gives, and its rows with them.
use Rattle.std.specs.Prelude.{◌≡◌, ℕ, is_some, List, [], ◌∷◌, map, drop, fold, slice_get, Option, Some, None, option_map, if◌then◌else◌}
use Rattle.std.specs.Option.{unwrap_or, option_or}
use Rattle.std.specs.Ordering.{nat_cmp, is_eq}
use Rattle.sfs_image.specs.Slot.{Row}
use Rattle.absorb.specs.declared.nets.NetRow.{NetRow}
use Rattle.image_laws.specs.Commit.{row_in_net}
use Rattle.disk_change.specs.Seated.{Seated}
use Rattle.disk_change.specs.declared.numbers.NodeNumber.{NodeNumber}

-- the number of a node in a commit: its own, or the first one that a grant has left
abbrev pub number_given : Option ℕ → List ℕ → Option ℕ
number_given own grant = option_or own (slice_get grant 0)

-- what a node leaves of a grant
abbrev pub grant_left : Option ℕ → List ℕ → List ℕ
grant_left own grant = if is_some own then grant else drop 1 grant

-- the numbers of a commit's nodes: each keeps its own, and those that enter get those of a grant, in their order
abbrev pub numbers_given : List Seated → List ℕ → List NodeNumber
numbers_given [] grant = []
numbers_given (seat ∷ seats) grant = record { node = seat.node; number = number_given seat.number grant } ∷ numbers_given seats (grant_left seat.number grant)

-- what some nodes leave of a grant
abbrev pub grant_behind : List Seated → List ℕ → List ℕ
grant_behind [] grant = grant
grant_behind (seat ∷ seats) grant = grant_behind seats (grant_left seat.number grant)

-- the number of a node: that of its last entry, and none for one that the commit does not have
abbrev pub number_in : List NodeNumber → ℕ → Option ℕ
number_in numbers node = fold (λ found one. if is_eq (nat_cmp one.node node) then one.number else found) None numbers

-- a row that names another inode
abbrev pub row_with_inode : ℕ → Row → Row
row_with_inode inode row = record row { inode = inode }

-- a row with its child's number, where a net has its name: it has named its child by its node so far
abbrev pub row_numbered : (ℕ → Option ℕ) → List NetRow → Row → Row
row_numbered number net row = if is_some (row_in_net row.name net) then row_with_inode (unwrap_or (number row.inode) 0) row else row

-- a slot and a block of slots with numbers
abbrev pub slot_numbered : (ℕ → Option ℕ) → List NetRow → Option Row → Option Row
slot_numbered number net slot = option_map (row_numbered number net) slot

abbrev pub block_numbered : (ℕ → Option ℕ) → List NetRow → List (Option Row) → List (Option Row)
block_numbered number net block = map (slot_numbered number net) block

-- What is done to a slot: it gets this row, or stays where there is none.
abbrev pub IsPut : Option Row → Option Row → Option Row → Type 0
IsPut before None after = after ≡ before
IsPut before (Some row) after = after ≡ Some row
