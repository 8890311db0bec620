-- The law of indirect blocks that a commit rewrites, which a function of the module laws proves.
use Rattle.std.specs.Prelude.{◌≡◌, ◌≢◌, ◌↔◌, ℕ, ◌+◌, ◌*◌, ◌<◌, ◌≤◌, false}
use Rattle.sfs_image.specs.Seen.{FILE_BLOCKS}
use Rattle.image_laws.specs.Need.{Rewrite, rewrites_table, pointer_after}

-- An indirect block stays: each of its 1,024 pointers does, and where it is there, one of its blocks is below the size.
pub record StaysTable (rewrite : Rewrite) (fresh : ℕ → ℕ) (table : ℕ) : Type 0 where
  pub pointers : (n : ℕ) → 108 + 1024 * table ≤ n → n < 108 + 1024 * table + 1024 → pointer_after rewrite fresh n ≡ rewrite.pointers n
  pub covers : rewrite.pointers (FILE_BLOCKS + table) ≢ 0 → 108 + 1024 * table < rewrite.blocks

-- no fresh block stands at its place already
abbrev pub AreElsewhere : Rewrite → (ℕ → ℕ) → Type 0
AreElsewhere rewrite fresh = (place : ℕ) → fresh place ≢ rewrite.pointers place

-- An indirect block is not rewritten exactly where it stays, whichever fresh blocks are taken.
abbrev pub TablesAreRewrittenWhereTheyChange : Type 0
TablesAreRewrittenWhereTheyChange = (rewrite : Rewrite) (fresh : ℕ → ℕ) (table : ℕ) → table < 16 → AreElsewhere rewrite fresh
    → (rewrites_table rewrite table ≡ false) ↔ StaysTable rewrite fresh table
