-- A map of free space before and after an fsync ends, while other grants are out.
use Rattle.std.specs.Prelude.{ℕ, List, ◌∷◌, ◌++◌}
use Rattle.fmt_journal.specs.declared.tx.Tx.{Tx}
use Rattle.space_map.specs.Space.{Space}
use Rattle.disk_nodes.specs.declared.old.OldEntry.{OldEntry}
use Rattle.flush_laws.specs.Laws.{AreEntriesAfter}
use Rattle.flush_laws.specs.Planned.{IsPlannedFsync}
use Rattle.flush_laws.specs.Volume.{Volume, OneFsync, volume_left}
use Rattle.space_laws.specs.Map.{WasUsed}
use Rattle.volume_laws.specs.Volume.{IsVolumeStanding}
use Rattle.book_laws.specs.Out.{GrantOut, Beside, IsMapWithOut}

-- An fsync that ends: the volume before it, its stamp, the grants that are out before and behind its own, and the blocks and the entries that there
-- are once it is on the disk.
pub record Ending : Type 0 where
  pub volume : Volume
  pub one : OneFsync
  pub stamp : ℕ
  pub front : List GrantOut
  pub back : List GrantOut
  pub store : ℕ → List ℕ
  pub later : List OldEntry

-- what stands beside a map before it
abbrev pub beside_before : Ending → Beside
beside_before ending = record {
  volume = ending.volume;
  entries = ending.one.entries;
  outs = ending.front ++ (record { stamp = ending.stamp; numbers = ending.one.grant }) ∷ ending.back;
}

-- and after it
abbrev pub beside_after : Ending → Beside
beside_after ending = record {
  volume = volume_left ending.volume ending.one ending.store;
  entries = ending.later;
  outs = ending.front ++ ending.back;
}

-- The fsync is planned for the volume, leaves one that stands, memory keeps what it leaves, and its grant has ended with its commit.
pub record EndsRight (ending : Ending) (old new : Space) : Type 0 where
  pub planned : IsPlannedFsync ending.volume ending.one
  pub stands : IsVolumeStanding (volume_left ending.volume ending.one ending.store)
  pub keeps : AreEntriesAfter ending.one ending.later
  pub tx : Tx
  pub used : WasUsed ending.one.plan tx old ending.one.grant new

-- A right map is right beside what an fsync leaves, and all other grants are out.
abbrev pub MapsGoOn : Type 0
MapsGoOn = (ending : Ending) (old new : Space) → IsMapWithOut (beside_before ending) old → EndsRight ending old new
    → IsMapWithOut (beside_after ending) new
