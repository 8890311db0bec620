use Rattle.std.proofs.Common.{◌≡◌, ◌∙◌, Some, sym, ap}
use Rattle.sfs_base.proofs.BasicOptions.{none_some, some_same}
use Rattle.disk_box.specs.declared.desk.Desk.{Desk}
use Rattle.journal_set.proofs.Made.{first_read}
use Rattle.journal_set.proofs.making.handed_back.Goals as goal

pub unreachable-requires : goal.unreachable-requires
unreachable-requires g c =
    none_some (sym c.in_default.is ∙ first_read c.args.cells.items (Some (Some c.requires.one.0)) c.swap_remove-cell.result c.requires.one.1
    c.swap_remove-cell.ensures.value)

pub returns : goal.returns
returns g c = λ desk is.
    let cell : Some c.in-Some.value ≡ Some (Some desk) =
    sym c.in-Some.is ∙ first_read c.args.cells.items (Some (Some desk)) c.swap_remove-cell.result is c.swap_remove-cell.ensures.value
    in
    ap (λ (d : Desk g.row.D.Denot). d.disk) (some_same (sym c.in-Some-value.is ∙ some_same cell))
