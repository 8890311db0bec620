-- What memory keeps of the disk, once an fsync is on it.
use Rattle.std.specs.Prelude.{◌≡◌, ◌↔◌, ◌++◌, ℕ, true, false, not, List, filter, Contains}
use Rattle.sfs_image.specs.Part.{Part}
use Rattle.space_map.specs.Space.{GrantedNumbers}
use Rattle.image_laws.specs.Renamed.{Numbering}
use Rattle.disk_nodes.specs.Nodes.{entry_node}
use Rattle.disk_nodes.specs.declared.old.OldEntry.{OldEntry}
use Rattle.disk_change.specs.AllBuilt.{after_commit}
use Rattle.disk_change.specs.Directory.{is_among}
use Rattle.disk_change.specs.Lists.{ascending_by}
use Rattle.commit_laws.specs.CommitOfPlan.{change_planned, CommitPlan}
use Rattle.flush_laws.specs.Laws.{AreEntriesAfter}
use Rattle.flush_laws.specs.Planned.{IsPlannedFsync, HasOldEntries}
use Rattle.flush_laws.specs.Ready.{KeepsEntries}
use Rattle.flush_laws.specs.Volume.{Volume, OneFsync}

-- An fsync of a volume is on the disk, memory then has these entries, and none of these nodes was concerned by it.
pub record LeavesEntries (volume : Volume) (theirs : OneFsync) (later : List OldEntry) (nodes : List ℕ) : Type 0 where
  pub planned : IsPlannedFsync volume theirs
  pub after : AreEntriesAfter theirs later
  pub apart : (node : ℕ) → is_among nodes node ≡ true → is_among theirs.nodes node ≡ false

-- The old entries of a plan of these nodes are those that memory then has of them.
abbrev pub EntriesStay : Type 0
EntriesStay = (volume : Volume) (theirs : OneFsync) (later : List OldEntry) (nodes : List ℕ) (old : List OldEntry)
    → LeavesEntries volume theirs later nodes → HasOldEntries nodes theirs.entries old → HasOldEntries nodes later old

-- the entries that memory has behind an fsync of these nodes, where it had these: those of other nodes, and what the disk then has of its own
abbrev pub entries_behind : List ℕ → CommitPlan → GrantedNumbers → List OldEntry → List OldEntry
entries_behind nodes plan grant entries =
    ascending_by entry_node (filter (λ entry. not (is_among nodes (entry_node entry))) entries ++ after_commit (change_planned plan) grant)

-- the same of an fsync of a volume
abbrev pub entries_left : OneFsync → List OldEntry
entries_left one = entries_behind one.nodes one.plan one.grant one.entries

-- They are such as there are after a planned fsync.
abbrev pub EntriesGoOn : Type 0
EntriesGoOn = (volume : Volume) (one : OneFsync) → IsPlannedFsync volume one → AreEntriesAfter one (entries_left one)

-- Two lists that keep the entries of one disk have the same entries.
abbrev pub EntriesAreThose : Type 0
EntriesAreThose = (num : Numbering) (parts : ℕ → Part) (entries others : List OldEntry) → KeepsEntries num parts entries → KeepsEntries num parts others
    → (entry : OldEntry) → Contains entries entry ↔ Contains others entry

-- A planned fsync is planned with each list that keeps the entries of the disk.
abbrev pub PlannedWithEach : Type 0
PlannedWithEach = (volume : Volume) (one : OneFsync) (entries : List OldEntry) → IsPlannedFsync volume one
    → KeepsEntries volume.num volume.parts entries → IsPlannedFsync volume (record one { entries = entries })
