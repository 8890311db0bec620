-- Volumes imagined along a record: the disk as if exactly some fsyncs were on it.
use Rattle.std.specs.Prelude.{◌++◌, ◌∷◌, ◌≡◌, if◌then◌else◌, ◌↔◌, List, [], ℕ, map, Option, None, Some, Contains}
use Rattle.std.specs.Option.{option_or}
use Rattle.sfs_image.specs.Part.{Part}
use Rattle.image_laws.specs.Renamed.{Numbering}
use Rattle.disk_nodes.specs.declared.old.OldEntry.{OldEntry}
use Rattle.disk_change.specs.Directory.{is_among}
use Rattle.disk_change.specs.AllBuilt.{after_commit}
use Rattle.commit_laws.specs.PartsMade.{store_planned}
use Rattle.commit_laws.specs.CommitOfPlan.{numbers_planned, change_planned}
use Rattle.commit_laws.specs.PartsStand.{part_next}
use Rattle.cut_laws.specs.Rules.{IsOneOf}
use Rattle.cut_laws.specs.Closure.{Flush}
use Rattle.flush_laws.specs.Volume.{Volume, OneFsync, volume_left}
use Rattle.flush_laws.specs.Ready.{KeepsEntries}
use Rattle.volume_laws.specs.Volume.{IsVolumeStanding}
use Rattle.book_laws.specs.Brings.{Bringing, Brings, brought_by, BringApart}
use Rattle.book_laws.specs.Entries.{entries_behind}

-- a volume once an fsync is on its disk: its blocks are those before, with the fresh ones over them
abbrev pub volume_then : Volume → OneFsync → Volume
volume_then volume one = volume_left volume one (store_planned volume.store one.plan one.grant)

-- the fsync of what one brings
abbrev pub flush_brought : Bringing → Flush
flush_brought one = one.flush

-- A volume as it is imagined once some fsyncs have brought what they bring to another one, one after another.
pub data Imagines (start : Volume) : List Bringing → Volume → Type 0 where
  none_brought : Imagines start [] start
  one_brought : (brought : List Bringing) (volume : Volume) (one : Bringing) → Imagines start brought volume → (brings : Brings volume one)
      → Imagines start (brought ++ one ∷ []) (volume_then volume (brought_by one brings))

-- What of a volume is told by what was brought to its disk: the numbers of its nodes, its blocks and its parts.
pub record OnDisk : Type 0 where
  pub num : Numbering
  pub store : ℕ → List ℕ
  pub parts : ℕ → Part

-- what a volume has of it
abbrev pub on_disk : Volume → OnDisk
on_disk volume = record { num = volume.num; store = volume.store; parts = volume.parts }

-- the same once something was brought
abbrev pub with_brought : Bringing → OnDisk → OnDisk
with_brought one was = record {
  num = numbers_planned was.num one.plan one.grant.inodes;
  store = store_planned was.store one.plan one.grant;
  parts = part_next was.store was.parts one.plan one.grant;
}

-- and once several things were, one after another
abbrev pub all_brought : List Bringing → OnDisk → OnDisk
all_brought [] was = was
all_brought (one ∷ rest) was = all_brought rest (with_brought one was)

-- What is so of an imagined volume: it stands; it is of the same mount, history and layout as the first one; its fsyncs are the first one's and those
-- that have brought something, in their order; and its disk is the first one's with what they brought.
pub record IsImagined (start : Volume) (brought : List Bringing) (volume : Volume) : Type 0 where
  pub stands : IsVolumeStanding volume
  pub first : volume.first ≡ start.first
  pub history : volume.history ≡ start.history
  pub layout : volume.layout ≡ start.layout
  pub flushes : volume.flushes ≡ start.flushes ++ map flush_brought brought
  pub disk : on_disk volume ≡ all_brought brought (on_disk start)

-- So it is of each one, where the first one stands.
abbrev pub ImaginedAreThose : Type 0
ImaginedAreThose = (start volume : Volume) (brought : List Bringing) → IsVolumeStanding start → Imagines start brought volume
    → IsImagined start brought volume

-- none of these shares anything with one behind it
abbrev pub AllApart : List Bringing → Type 0
AllApart [] = Unit {0}
AllApart (one ∷ rest) = ((other : Bringing) → IsOneOf rest other → BringApart other one) × AllApart rest

-- Each of these fsyncs brings something to an imagined volume, and no two of them share anything.
pub record MayAllEnd (start : Volume) (brought : List Bringing) (volume : Volume) (kept : List Bringing) : Type 0 where
  pub imagines : Imagines start brought volume
  pub brings : (one : Bringing) → IsOneOf kept one → Brings volume one
  pub apart : AllApart kept

-- Then there is the volume that is imagined once all of them have brought it, one after another.
abbrev pub AllEnd : Type 0
AllEnd = (start volume : Volume) (brought kept : List Bringing) → MayAllEnd start brought volume kept
    → (later : Volume) × Imagines start (brought ++ kept) later

-- what memory keeps once some fsyncs have brought what they bring, one after another, where it kept these entries
abbrev pub entries_once : List Bringing → List OldEntry → List OldEntry
entries_once [] entries = entries
entries_once (one ∷ rest) entries = entries_once rest (entries_behind one.nodes one.plan one.grant entries)

-- That keeps the entries of the imagined volume.
abbrev pub EntriesAreKept : Type 0
EntriesAreKept = (start volume : Volume) (brought : List Bringing) (entries : List OldEntry) → KeepsEntries start.num start.parts entries
    → Imagines start brought volume → KeepsEntries volume.num volume.parts (entries_once brought entries)

-- the last of some fsyncs that concerns a node, where one does
abbrev pub last_of : ℕ → List Bringing → Option Bringing
last_of node [] = None
last_of node (one ∷ rest) = option_or (last_of node rest) (if is_among one.nodes node then Some one else None)

-- what the disk has of nodes by the last fsync that concerned them, or as it had them at first
abbrev pub entries_by : List OldEntry → Option Bringing → List OldEntry
entries_by entries None = entries
entries_by entries (Some one) = after_commit (change_planned one.plan) one.grant

-- Memory keeps of each node exactly what the last fsync left that concerned it.
abbrev pub EntriesAreLeft : Type 0
EntriesAreLeft = (start volume : Volume) (brought : List Bringing) (entries : List OldEntry) (entry : OldEntry) → KeepsEntries start.num start.parts entries
    → Imagines start brought volume
    → Contains (entries_once brought entries) entry ↔ Contains (entries_by entries (last_of entry.node.0 brought)) entry
