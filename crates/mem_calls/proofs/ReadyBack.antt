-- The own log is put back with more room.
use Rattle.std.proofs.Common.{◌≡◌, ℕ, Option, Some}
use Rattle.std.proofs.lemmas.Option.{option_and_then_some}
use Rattle.disk_nodes.specs.OldKept.{OldKept}
use Rattle.mem_cells.specs.Part.{IsSamePart}
use Rattle.stamp_table.specs.Table.{with_value}
use Rattle.mem_values.specs.Start.{FileHand, FileState}
use Rattle.mem_values.specs.declared.cell.Cell.{Cell}
use Rattle.mem_values.specs.declared.cell.PartCell.{PartCell}
use Rattle.mem_values.specs.declared.cell_id.CellId.TheVariants as id
use Rattle.mem_values.specs.Places.{cell_place}
use Rattle.mem_values.specs.Account.{account_of}
use Rattle.mem_values.specs.Stands.{StandsForCell}
use Rattle.mem_calls.specs.Table.{IsFileTable}
use Rattle.mem_calls.specs.Held.{value_held, as_part, part_held}
use Rattle.mem_calls.specs.Working.{IsWorking}
use Rattle.mem_calls.specs.Outcome.{IsRefusedMemory}
use Rattle.mem_calls.specs.Changes.{PutsValue}
use Rattle.mem_calls.proofs.PartKept.{part_of_value, value_of_part, same_part_stands}
use Rattle.mem_calls.proofs.PutBack.{stands_now, works_put, same_length, refused_back}

module _ (given : ℕ → Option OldKept) (t : FileState) (nodes : ℕ) (before : FileHand) (table : IsFileTable t nodes) (work : IsWorking given t before)
    (p q : PartCell) (was : part_held nodes before.held before.view.core ≡ Some p)
    (same : IsSamePart p.log q.log) (made : q.made ≡ p.made) (value : Cell) (is : as_part value ≡ Some q) (put : FileHand)
    (puts : PutsValue nodes (id.Part (record { 0 = before.view.core })) value before put) where
  stands : StandsForCell given before.view.first (account_of before.view.seen) (id.Part (record { 0 = before.view.core })) value
  stands = value_of_part given before.view.first (account_of before.view.seen) before.view.core value q is
      (same_part_stands given before.view.first (account_of before.view.seen) before.view.core p q same made
      (option_and_then_some as_part (value_held nodes before.held (id.Part (record { 0 = before.view.core }))) p was
      (λ v found kind. part_of_value given before.view.first (account_of before.view.seen) before.view.core v p kind
      (stands_now given t nodes before table work (id.Part (record { 0 = before.view.core })) v work.core found))))

  pub works_ready : IsWorking given t put
  works_ready = works_put given t nodes before table work (id.Part (record { 0 = before.view.core })) value put work.core stands puts

  pub back_ready : (last : FileHand) → IsRefusedMemory t put last → IsRefusedMemory t before last
  back_ready last refused = refused_back t before put last (with_value (cell_place nodes (id.Part (record { 0 = before.view.core }))) value before.held) puts
      (same_length given t nodes before table work (id.Part (record { 0 = before.view.core })) value put work.core stands puts) refused
