-- What is asked of the journals for an fsync, and of which changes it may be asked.
use Rattle.std.specs.Prelude.{◌≡◌, ◌<◌, ◌≤◌, ◌^◌, ◌-◌, ℕ, List, Some, Contains, is_some, true, count_by, sum_by}
use Rattle.sfs_image.specs.Super.{Layout, data_start}
use Rattle.space_map.specs.declared.grant.Need.{Need}
use Rattle.space_map.specs.Pool.{status_of}
use Rattle.space_map.specs.Space.{Space}
use Rattle.cut_laws.specs.Closure.{Flush}
use Rattle.disk_nodes.specs.declared.old.OldEntry.{OldEntry}
use Rattle.disk_change.specs.Planned.{Planned, as_u32, blocks_taken, enters}
use Rattle.disk_change.specs.Seated.{Seated}
use Rattle.slot_laws.specs.declared.label.Seen.{Seen}
use Rattle.journal_set.specs.Emptying.{NOTHING}
use Rattle.journal_set.specs.Reserving.{ReserveRequest}

-- What is asked: for which fsync, for which nodes as they were seen, and what was planned.
pub record CommitRequest : Type 0 where
  pub flush : Flush
  pub seen : List Seen
  pub change : Planned

-- how many inodes and fresh blocks a change needs, as far as words have room for it
abbrev pub need_planned : Planned → Need
need_planned change = record { inodes = as_u32 (count_by enters change.seats); blocks = as_u32 (sum_by blocks_taken change.seats) }

-- a reserving of what the change needs, and that of a commit that writes nothing
abbrev pub reserving_of : CommitRequest → ReserveRequest
reserving_of asked = record { flush = asked.flush; seen = asked.seen; need = need_planned asked.change }

abbrev pub emptying_of : CommitRequest → ReserveRequest
emptying_of asked = record { flush = asked.flush; seen = asked.seen; need = NOTHING }

-- A block lies in a disk's data area.
pub record LiesInArea (layout : Layout) (block : ℕ) : Type 0 where
  pub low : data_start layout ≤ block
  pub high : block < layout.blocks

-- A map of free space is of a disk of this layout: its numbers are those of inodes, and of blocks of the data area.
pub record IsSpaceOn (layout : Layout) (space : Space) : Type 0 where
  pub inodes : (number : ℕ) → is_some (status_of space.inodes number) ≡ true → number < layout.inodes
  pub blocks : (number : ℕ) → is_some (status_of space.blocks number) ≡ true → LiesInArea layout number

-- The nodes of a change that have an inode have one of the disk's, and no more nodes enter than a word counts.
pub record IsChangeOn (layout : Layout) (change : Planned) : Type 0 where
  pub own : (seat : Seated) (number : ℕ) → Contains change.seats seat → seat.number ≡ Some number → number < layout.inodes
  pub gone : (entry : OldEntry) → Contains change.gone entry → entry.old.number < layout.inodes
  pub few : count_by enters change.seats ≤ 2 ^ 32 - 1
