-- What the fsync of a file that has an inode brings: it gathers nothing, and writes the file alone.
use Rattle.std.specs.Prelude.{◌∷◌, ◌≤◌, ◌<◌, ◌≡◌, List, [], ℕ, Contains, length}
use Rattle.space_map.specs.Space.{GrantedNumbers}
use Rattle.mem_files.specs.File.{File}
use Rattle.disk_nodes.specs.declared.old.OldEntry.{OldEntry}
use Rattle.disk_change.specs.declared.files.FileChange.{FileChange}
use Rattle.commit_laws.specs.CommitOfPlan.{CommitPlan}
use Rattle.cut_laws.specs.Closure.{Flush}
use Rattle.cut_laws.specs.Cut.{cut_of}
use Rattle.beside_laws.specs.Commits.{CoreCommit}
use Rattle.beside_laws.specs.OwnFile.{OwnNumbers, IsOwnFsync, own_commit}
use Rattle.beside_laws.specs.Progress.{Standing, IsLater}
use Rattle.flush_laws.specs.Volume.{Volume}
use Rattle.flush_laws.specs.Ready.{KeepsEntries}
use Rattle.space_laws.specs.Laws.{ServesAt}
use Rattle.flush_plan.specs.Touched.{IsFileChange}
use Rattle.mark_laws.specs.FileAt.{IsFileAt}
use Rattle.mark_laws.specs.Changed.{HasShortFiles}
use Rattle.volume_laws.specs.Volume.{IsVolumeStanding}
use Rattle.book_laws.specs.Brings.{Bringing, Brings}
use Rattle.book_laws.specs.Pairs.{run_with, Pair, IsOpenBeside}
use Rattle.reserve_laws.specs.Plans.{parts_given}
use Rattle.reserve_laws.specs.Looks.{ServesPair}

-- its plan: of what memory has it has the file's entry, and it changes nothing but the file
abbrev pub own_plan : OldEntry → List FileChange → CommitPlan
own_plan entry files = record { old = entry ∷ []; nets = []; files = files; enter = []; leave = [] }

-- what it brings, with a grant
abbrev pub bringing_own : Volume → Flush → OldEntry → List FileChange → GrantedNumbers → Bringing
bringing_own volume flush entry files grant = record {
  flush = flush;
  nodes = flush.node ∷ [];
  plan = own_plan entry files;
  grant = grant;
  parts = parts_given volume (own_plan entry files) grant;
}

-- It changes its file by what this is at the fsync's stamp, from its cut on; and of a file of which something later was flushed it changes nothing.
pub data ChangesOwn (volume : Volume) (flush : Flush) : List FileChange → Type 0 where
  in_time : (file : File) (change : FileChange) → cut_of volume.cut flush.node ≤ flush.stamp
      → IsFileAt volume.first volume.history flush.node flush.stamp file
      → IsFileChange (record { 0 = flush.node }) (cut_of volume.cut flush.node) file change → ChangesOwn volume flush (change ∷ [])
  too_late : flush.stamp < cut_of volume.cut flush.node → ChangesOwn volume flush []

-- Memory keeps the entries of a volume, and this is the one of a node.
pub record IsEntryKept (volume : Volume) (node : ℕ) (entry : OldEntry) : Type 0 where
  pub entries : List OldEntry
  pub keeps : KeepsEntries volume.num volume.parts entries
  pub there : Contains entries entry
  pub own : entry.node.0 ≡ node

-- An fsync of a live file that has an inode, beside a volume where some commits are done: it has the file's entry and changes of the file, and its stamp
-- is at most the count of entries so far.
pub record OwnFileMakes (volume : Volume) (done : List CoreCommit) (flush : Flush) (own : OwnNumbers) (entry : OldEntry) (files : List FileChange)
    : Type 0 where
  pub stands : IsVolumeStanding volume
  pub short : HasShortFiles volume.first
  pub standing : Standing (run_with volume done)
  pub is_own : IsOwnFsync (run_with volume done) flush own
  pub low : flush.stamp ≤ length volume.history
  pub entry_is : IsEntryKept volume flush.node entry
  pub changes : ChangesOwn volume flush files

-- What an own file's fsync is made of: the fsync, its commit's numbers, the file's entry, and the changes of the file.
pub record OwnMaking : Type 0 where
  pub flush : Flush
  pub numbers : OwnNumbers
  pub entry : OldEntry
  pub files : List FileChange

-- an fsync makes its own file of these
abbrev pub MakesOwnFile : Volume → List CoreCommit → OwnMaking → Type 0
MakesOwnFile volume done own = OwnFileMakes volume done own.flush own.numbers own.entry own.files

-- With each grant that serves its plan it brings that.
abbrev pub OwnFilesBring : Type 0
OwnFilesBring = (volume : Volume) (done : List CoreCommit) (own : OwnMaking) (grant : GrantedNumbers) → MakesOwnFile volume done own
    → ServesAt volume.layout volume.parts (own_plan own.entry own.files) grant
    → Brings volume (bringing_own volume own.flush own.entry own.files grant)

-- its pair: the commit by the look that it would have had, with what it brings
abbrev pub own_pair : Volume → List CoreCommit → OwnMaking → GrantedNumbers → Pair
own_pair volume done own grant = record {
  commit = own_commit (run_with volume done) own.flush own.numbers;
  one = bringing_own volume own.flush own.entry own.files grant;
}

-- The pair is open beside the volume, where its commit is later than those that are done.
abbrev pub OwnFilesOpen : Type 0
OwnFilesOpen = (volume : Volume) (done : List CoreCommit) (own : OwnMaking) (grant : GrantedNumbers) → MakesOwnFile volume done own
    → ServesPair volume (own_pair volume done own grant)
    → IsLater done (own_commit (run_with volume done) own.flush own.numbers) → IsOpenBeside volume done (own_pair volume done own grant)
