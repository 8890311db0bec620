-- Cells begin with values that stand for them.
use Rattle.std.proofs.Common.{[], option_map, sym, ap, subst, inl}
use Rattle.sfs_base.specs.declared.numbers.Stamp.{Stamp}
use Rattle.tree_laws.specs.NameRow.{number_of}
use Rattle.mem_cells.specs.Laws.{IsLeftOf}
use Rattle.mem_cells.specs.Part.{mark_kept}
use Rattle.mem_cells.proofs.Left.{parts_begin}
use Rattle.mem_values.specs.declared.cell.Cell.TheVariants as cell
use Rattle.mem_values.specs.declared.cell_id.CellId.TheVariants as id
use Rattle.mem_values.specs.Home.{CellsBegin}

pub cells_begin : CellsBegin
cells_begin given first id.Lock (cell.Lock lock) begins = ap (option_map (λ (s : Stamp). s.0)) begins
cells_begin given first id.Lock (cell.Bucket b) begins = begins
cells_begin given first id.Lock (cell.File f) begins = begins
cells_begin given first id.Lock (cell.Pending p) begins = begins
cells_begin given first id.Lock (cell.Part p) begins = begins
cells_begin given first (id.Bucket node number) (cell.Lock lock) begins = begins
cells_begin given first (id.Bucket node number) (cell.Bucket b) begins = begins
cells_begin given first (id.Bucket node number) (cell.File f) begins = begins
cells_begin given first (id.Bucket node number) (cell.Pending p) begins = begins
cells_begin given first (id.Bucket node number) (cell.Part p) begins = begins
cells_begin given first (id.File node) (cell.Lock lock) begins = begins
cells_begin given first (id.File node) (cell.Bucket b) begins = begins
cells_begin given first (id.File node) (cell.File f) begins = record { links = begins.0; bytes = begins.1; marks = begins.2 }
cells_begin given first (id.File node) (cell.Pending p) begins = begins
cells_begin given first (id.File node) (cell.Part p) begins = begins
cells_begin given first (id.Pending node) (cell.Lock lock) begins = begins
cells_begin given first (id.Pending node) (cell.Bucket b) begins = begins
cells_begin given first (id.Pending node) (cell.File f) begins = begins
cells_begin given first (id.Pending node) (cell.Pending p) begins =
    record { flushed = begins.0; made_in = ap number_of begins.1; trimmed = λ writer member is has part lt. absurd (cc (is)) }
cells_begin given first (id.Pending node) (cell.Part p) begins = begins
cells_begin given first (id.Part core) (cell.Lock lock) begins = begins
cells_begin given first (id.Part core) (cell.Bucket b) begins = begins
cells_begin given first (id.Part core) (cell.File f) begins = begins
cells_begin given first (id.Part core) (cell.Pending p) begins = begins
cells_begin given first (id.Part core) (cell.Part p) begins = record {
  left = subst (λ l. IsLeftOf [] 0 l) (sym begins.0) parts_begin;
  made = begins.1;
  kept = record { capped = λ d. inl (ap (λ l. mark_kept l d) begins.0); trimmed = λ commit d among trimmed member. absurd among };
}
