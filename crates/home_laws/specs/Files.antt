-- What the value of a file cell has to do with the file of a history, of which an fsync writes what was touched.
use Rattle.std.specs.Prelude.{ℕ, List, length}
use Rattle.tree_laws.specs.declared.history.Entry.{Entry}
use Rattle.tree_laws.specs.Tree.{TreeState}
use Rattle.raise_laws.specs.Next.{IsMountedHistory}
use Rattle.mark_laws.specs.FileAt.{IsFileAt}
use Rattle.mem_values.specs.declared.cell.FileCell.{FileCell}
use Rattle.mem_values.specs.Stands.{StandsFile}

-- The value of a file cell that stands for some calls is the file of their history at its end: a block's mark is at or above a stamp exactly
-- where a change since that stamp touches it.
abbrev pub ValuesAreFiles : Type 0
ValuesAreFiles =
    (first : TreeState) (calls : List Entry) (node : ℕ) (value : FileCell) → IsMountedHistory first calls → StandsFile first calls node value
    → IsFileAt first calls node (length calls) value.file
