-- Orphans, which a mount frees: files that no row names.
use Rattle.std.specs.Prelude.{◌≡◌, ℕ, ◌<◌, ◌==◌, ◌&&◌, Bool, true, false}
use Rattle.tree_laws.specs.Tree.{count_of}
use Rattle.sfs_image.specs.Seen.{SeenInodes}
use Rattle.image_laws.specs.ImageTree.{Making, shows_file, image_rows, image_tree}
use Rattle.image_laws.specs.Stands.{IsUnused}
use Rattle.image_laws.specs.Keeps.{KeepsRules}
use Rattle.image_laws.specs.Mount.{ShowsByKind, HasNoOrphans}

-- whether an inode is an orphan
abbrev pub is_orphan : SeenInodes → ℕ → Bool
is_orphan image i = shows_file (image.seen i) && count_of (image_rows image) i == 0

-- The orphans of an image are freed, and all else stays.
pub record FreesOrphans (image next : SeenInodes) : Type 0 where
  pub count : next.count ≡ image.count
  pub freed : (i : ℕ) → i < image.count → is_orphan image i ≡ true → IsUnused (next.seen i)
  pub others : (i : ℕ) → i < image.count → is_orphan image i ≡ false → next.seen i ≡ image.seen i

-- What freeing its orphans leaves of an image: it keeps the rules, has no orphan, and its tree is the same.
pub record IsFreed (image next : SeenInodes) (making : Making) : Type 0 where
  pub rules : KeepsRules next
  pub kinds : ShowsByKind next
  pub none_left : HasNoOrphans next
  pub tree : image_tree next making ≡ image_tree image making
