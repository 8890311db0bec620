-- What each of two cores makes as it flushes a file to which it has written one byte.
use Rattle.std.specs.Prelude.{ℕ, ◌==◌, ◌∷◌, List, [], Some, true, if◌then◌else◌}
use Rattle.sfs_image.specs.Bytes.{zeros}
use Rattle.space_map.specs.Space.{GrantedNumbers}
use Rattle.mem_files.specs.File.{File}
use Rattle.disk_nodes.specs.declared.old.OldEntry.{OldEntry}
use Rattle.block_map.specs.Kept.{kept_of}
use Rattle.disk_change.specs.declared.files.FileChange.{FileChange}
use Rattle.disk_change.specs.declared.pages.Page.{Page}
use Rattle.commit_laws.specs.CommitOfPlan.{CommitPlan}
use Rattle.book_laws.specs.Pairs.{Pair}
use Rattle.book_laws.specs.Walk.{Bookkeeping}
use Rattle.reserve_laws.specs.OwnFile.{OwnMaking, own_plan, own_pair}
use Rattle.example_laws.specs.Fsyncs.{roomless}
use Rattle.example_grants.specs.Image.{FIRST_PARTS, TWO_FILES}

-- A file to which a core writes one byte, with the stamps of its write and of its fsync, and the number and the one block of its commit.
pub record Writer : Type 0 where
  pub file : ℕ
  pub written : ℕ
  pub flushed : ℕ
  pub byte : ℕ
  pub number : ℕ
  pub block : ℕ

-- the first core's commit takes block 11, and the second one's block 13, since block 12 is the root's
abbrev pub OWN : Writer
OWN = record {
  file = 1;
  written = 0;
  flushed = 2;
  byte = 65;
  number = 1;
  block = 11;
}

abbrev pub OTHER : Writer
OTHER = record {
  file = 2;
  written = 1;
  flushed = 3;
  byte = 66;
  number = 2;
  block = 13;
}

-- what memory keeps of a node, whose inode has its number
abbrev pub entry_for_node : ℕ → OldEntry
entry_for_node node = record { node = record { 0 = node }; old = record { number = node; kept = kept_of (FIRST_PARTS node) } }

-- what memory keeps of all three
abbrev pub ENTRIES : List OldEntry
ENTRIES = entry_for_node 0 ∷ entry_for_node 1 ∷ entry_for_node 2 ∷ []

-- the file in memory: its one byte, and its one block was touched by the write
abbrev pub file_by : Writer → File
file_by writer = record { bytes = writer.byte ∷ []; marks = Some (record { 0 = writer.written }) ∷ [] }

-- its one page
abbrev pub page_by : Writer → Page
page_by writer = record { block = 0; bytes = writer.byte ∷ zeros 4095 }

-- its change: it has one byte then, and its first block is rewritten
abbrev pub change_by : Writer → FileChange
change_by writer = record { node = record { 0 = writer.file }; size = 1; pages = roomless (page_by writer ∷ []) }

-- what its fsync is made of: no commit has held the file before, and a row names it
abbrev pub making_by : Writer → OwnMaking
making_by writer = record {
  flush = record { node = writer.file; stamp = writer.flushed };
  numbers = record { number = writer.number; last = 0; named = true };
  entry = entry_for_node writer.file;
  files = change_by writer ∷ [];
}

-- its plan, and a grant of one block
abbrev pub plan_of_writer : Writer → CommitPlan
plan_of_writer writer = own_plan (entry_for_node writer.file) (change_by writer ∷ [])

abbrev pub grant_by : Writer → GrantedNumbers
grant_by writer = record { inodes = []; blocks = writer.block ∷ [] }

-- its pair
abbrev pub pair_made : Writer → Pair
pair_made writer = own_pair TWO_FILES [] (making_by writer) (grant_by writer)

-- what the books of the two are kept from
abbrev pub FILES_KEPT : Bookkeeping
FILES_KEPT = record {
  start = TWO_FILES;
  pairs = λ stamp. pair_made (if stamp == 2 then OWN else OTHER);
  cores = λ stamp. if stamp == 2 then 0 else 1;
}
