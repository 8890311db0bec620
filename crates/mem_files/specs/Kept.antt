-- What a file in memory keeps.
use Rattle.std.specs.Prelude.{◌≡◌, ℕ, ◌≤◌, List, [], map, take, Option, Some, None, Vec}
use Rattle.std.specs.Arc.{arc_value}
use Rattle.std.specs.declared.sync.Arc.{Arc}
use Rattle.std.specs.List.{range_with_len}
use Rattle.mem_files.specs.Pages.{byte_at}

module _ {Z W : Type 0} where
  -- the bytes that a page shares with its copies, none where it has none
  abbrev pub shared_bytes : Option (Arc (Vec ℕ Z) W) → List ℕ
  shared_bytes None = []
  shared_bytes (Some bytes) = (arc_value bytes).items

  -- those of them that it keeps
  abbrev pub kept_bytes : Option (Arc (Vec ℕ Z) W) → ℕ → List ℕ
  kept_bytes bytes kept = take kept (shared_bytes bytes)

-- the bytes in the pages, up to a size
abbrev pub bytes_in : List (List ℕ) → ℕ → List ℕ
bytes_in pages size = map (byte_at pages) (range_with_len 0 size)

-- a size in range, with zeros in the pages from it on
pub record KeepsPages (pages : List (List ℕ)) (size : ℕ) : Type 0 where
  pub within : size ≤ 8796093022208
  pub clean : (place : ℕ) → size ≤ place → byte_at pages place ≡ 0

-- The same, and the marks of so many first blocks as a file may have.
pub record KeepsFile (pages : List (List ℕ)) (size marked : ℕ) : Type 0 where
  pub kept : KeepsPages pages size
  pub few : marked ≤ 2147483648
