-- A map of free space from which grants are out, beside the books.
use Rattle.std.specs.Prelude.{◌≡◌, ◌↔◌, ℕ, ◌<◌, ◌≤◌, ◌^◌, true, List, length, map, Some, take}
use Rattle.std.specs.List.{flat_map}
use Rattle.sfs_base.specs.declared.numbers.SpaceKind.{SpaceKind}
use Rattle.sfs_base.specs.Listed.{is_listed}
use Rattle.fmt_journal.specs.declared.tx.Tx.{Tx}
use Rattle.space_map.specs.Pool.{Pool, status_of, free_count, free_numbers}
use Rattle.space_map.specs.Space.{Space, GrantedNumbers, shortage}
use Rattle.space_map.specs.declared.fault.SpaceFault.TheVariants.{NoSpace}
use Rattle.space_map.specs.declared.status.Status.TheVariants.{Granted}
use Rattle.disk_change.specs.Planned.{as_u32}
use Rattle.disk_nodes.specs.declared.old.OldEntry.{OldEntry}
use Rattle.commit_laws.specs.CommitOfPlan.{CommitPlan}
use Rattle.flush_laws.specs.Ready.{KeepsEntries}
use Rattle.flush_laws.specs.Volume.{Volume}
use Rattle.space_laws.specs.Map.{IsMapOf, WasGranted, WasUsed}
use Rattle.volume_laws.specs.Volume.{IsVolumeStanding}
use Rattle.turn_laws.specs.Books.{Grant, Books, free_in, least_open, FitsFree}
use Rattle.turn_laws.specs.LawsNeed.{AreOnce}
use Rattle.turn_ties.specs.Plans.{amount_planned, need_planned}
use Rattle.book_laws.specs.Midway.{books_granted}

-- A grant that is out, by its fsync's stamp.
pub record GrantOut : Type 0 where
  pub stamp : ℕ
  pub numbers : GrantedNumbers

-- the same as the books have it: it was as much as was needed
abbrev pub grant_out : GrantOut → Grant
grant_out out = record {
  stamp = out.stamp;
  need = record { inodes = length out.numbers.inodes; blocks = length out.numbers.blocks };
  inodes = out.numbers.inodes;
}

-- the inodes that are out
abbrev pub inodes_out : List GrantOut → List ℕ
inodes_out outs = flat_map (λ out. out.numbers.inodes) outs

-- the blocks that are out
abbrev pub blocks_out : List GrantOut → List ℕ
blocks_out outs = flat_map (λ out. out.numbers.blocks) outs

-- A list has exactly the granted numbers of a row, each once.
pub record ListsGranted (pool : Pool) (numbers : List ℕ) : Type 0 where
  pub each : (number : ℕ) → (status_of pool number ≡ Some Granted) ↔ (is_listed numbers number ≡ true)
  pub once : AreOnce numbers

-- Exactly these grants are out of a map.
pub record AreOut (space : Space) (outs : List GrantOut) : Type 0 where
  pub inodes : ListsGranted space.inodes (inodes_out outs)
  pub blocks : ListsGranted space.blocks (blocks_out outs)

-- What stands beside a map: a volume, what memory keeps of its nodes, and the grants that are out.
pub record Beside : Type 0 where
  pub volume : Volume
  pub entries : List OldEntry
  pub outs : List GrantOut

-- The volume stands, memory keeps these entries of it, and a map is right beside them from which exactly these grants are out.
pub record IsMapWithOut (beside : Beside) (space : Space) : Type 0 where
  pub stands : IsVolumeStanding beside.volume
  pub keeps : KeepsEntries beside.volume.num beside.volume.parts beside.entries
  pub right : IsMapOf beside.volume.layout beside.entries space
  pub are_out : AreOut space beside.outs

-- A map of free space counts what the books have free, and has their least open inodes first.
pub record CountsBooks (space : Space) (books : Books) : Type 0 where
  pub inodes : free_count space.inodes ≡ (free_in books).inodes
  pub blocks : free_count space.blocks ≡ (free_in books).blocks
  pub least : (count : ℕ) → take (as_u32 count) (free_numbers space.inodes) ≡ least_open books count

-- the books of the volume, by the grants that are out
abbrev pub books_out : Beside → Books
books_out beside = books_granted beside.volume (map grant_out beside.outs)

-- A grant was reserved for a plan: it was taken from a map, and its inodes were the least free ones.
pub record WasReserved (plan : CommitPlan) (old : Space) (grant : GrantedNumbers) (new : Space) : Type 0 where
  pub taken : WasGranted plan old grant new
  pub least : grant.inodes ≡ take (as_u32 (amount_planned plan).inodes) (free_numbers old.inodes)

-- A grant has ended with the commit of some plan.
pub record GrantHasEnded (old : Space) (grant : GrantedNumbers) (new : Space) : Type 0 where
  pub plan : CommitPlan
  pub tx : Tx
  pub used : WasUsed plan tx old grant new

-- 32 bits have room for what a plan needs.
pub record NeedsFitWords (plan : CommitPlan) : Type 0 where
  pub inodes : (amount_planned plan).inodes < 2 ^ 32
  pub blocks : (amount_planned plan).blocks < 2 ^ 32

-- A map has too little for a plan: of this kind, with both numbers. A word has room for the inodes that it needs, and where there are as many of these, for the
-- blocks too.
pub record IsLacking (space : Space) (plan : CommitPlan) (kind : SpaceKind) (asked have : ℕ) : Type 0 where
  pub inodes : (amount_planned plan).inodes < 2 ^ 32
  pub blocks : (amount_planned plan).inodes ≤ free_count space.inodes → (amount_planned plan).blocks < 2 ^ 32
  pub short : shortage space (need_planned plan) ≡ Some (NoSpace kind asked have)

-- What a plan needs fits what books have free, the inodes of a grant are their least open ones, and the grant is out as so much as the plan needs.
pub record ReservedOfBooks (books : Books) (plan : CommitPlan) (out : GrantOut) : Type 0 where
  pub fits : FitsFree (amount_planned plan) (free_in books)
  pub least : out.numbers.inodes ≡ least_open books (amount_planned plan).inodes
  pub as_needed : grant_out out ≡ record { stamp = out.stamp; need = amount_planned plan; inodes = out.numbers.inodes }
