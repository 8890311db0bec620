-- What a run of device calls owes: those of a mount, of a commit, and of none.
use Rattle.std.specs.Prelude.{◌≡◌, ◌⊎◌, ℕ, ◌<◌, ◌≤◌, Bool, List, Option, Some, None}
use Rattle.sfs_dev.specs.Disk.{View, images}
use Rattle.sfs_dev.specs.Run.{EachMoment}
use Rattle.sfs_dev.specs.Steps.{IfTold}
use Rattle.tree_laws.specs.declared.history.Entry.{Entry}
use Rattle.tree_laws.specs.Tree.{TreeState}
use Rattle.cut_laws.specs.Closure.{every_entry, Flush, IsRaised, AreInodesAfter}
use Rattle.cut_laws.specs.Cut.{Cut}
use Rattle.image_laws.specs.Image.{IsReadAsTree}
use Rattle.crash_laws.specs.Listed.{IsFsyncOf}
use Rattle.crash_laws.specs.SoFar.{HoldsTree}

-- Time goes on, and a crash before it leaves nothing that it did not leave before.
pub record KeepsPast (old new : View) : Type 0 where
  pub later : old.now ≤ new.now
  pub past : (k : ℕ) (image : List ℕ) → k < old.now → new.crash_images k image → old.crash_images k image

-- A mount was made of a tree: each image that a crash at a moment since `from` may leave is read as it, and so is what a read gives.
pub record Mounts (share from : ℕ) (tree : TreeState) (disk : View) : Type 0 where
  pub later : from ≤ disk.now
  pub moments : (k : ℕ) (image : List ℕ) → from ≤ k → k ≤ disk.now → disk.crash_images k image → IsReadAsTree image share tree
  pub told : IfTold disk.content (λ content. IsReadAsTree content share tree)

-- Nothing was written: a crash at each moment leaves what it left at first, and what a read gives is the same.
pub record WroteNothing (old new : View) : Type 0 where
  pub keeps : KeepsPast old new
  pub moments : EachMoment old new (λ _ image. images old image)
  pub content : new.content ≡ old.content

-- A moment lies before that at which a commit is durable, if it ever is.
abbrev pub IsBeforeDurable : Option ℕ → ℕ → Type 0
IsBeforeDurable (Some durable) k = k < durable
IsBeforeDurable None k = Unit {0}

-- A commit is durable at a moment of its device calls, and at their end the disk holds its tree.
pub record MakesDurable (share : ℕ) (after : TreeState) (old new : View) (durable : ℕ) : Type 0 where
  pub not_before : old.now ≤ durable
  pub not_after : durable ≤ new.now
  pub holds : HoldsTree share after new

-- where a commit is durable at a moment, it makes its tree
abbrev pub MakesIfDurable : ℕ → TreeState → View → View → Option ℕ → Type 0
MakesIfDurable share after old new (Some durable) = MakesDurable share after old new durable
MakesIfDurable share after old new None = Unit {0}

-- The device calls of a commit from one tree to the next: a crash at each moment leaves the next one, or before the commit is durable
-- the old one.
pub record Wrote (share : ℕ) (before after : TreeState) (old new : View) (durable : Option ℕ) : Type 0 where
  pub keeps : KeepsPast old new
  pub moments : EachMoment old new (λ k image. IsReadAsTree image share after ⊎ (IsReadAsTree image share before × IsBeforeDurable durable k))
  pub makes : MakesIfDurable share after old new durable

-- An entry is an fsync, which raises the cut over the history before it.
pub record RaisesNext (first : TreeState) (history : List Entry) (cut : Cut) (inodes : ℕ → Bool) (entry : Entry) (flush : Flush)
    (raised : Cut) (after : ℕ → Bool) : Type 0 where
  pub fsync : IsFsyncOf entry flush
  pub raise : IsRaised first history every_entry cut inodes flush raised
  pub inodes_after : AreInodesAfter first history every_entry cut inodes flush raised after
