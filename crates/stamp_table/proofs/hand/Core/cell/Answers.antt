use Rattle.std.proofs.Common.{◌<◌, length, ◌∙◌, ap, sym, subst, List, option_map}
use Rattle.keyed_list.specs.Ascending.{AscendBy}
use Rattle.stamp_table.specs.Ascending.{Falls}
use Rattle.stamp_table.specs.declared.held.HeldCell.{HeldCell}
use Rattle.stamp_table.specs.Hand.{place_in}
use Rattle.stamp_table.specs.Table.{cells_before}
use Rattle.stamp_table.proofs.Finding.{ascend}
use Rattle.stamp_table.proofs.Replacing.{within_found, found_at}
use Rattle.stamp_table.proofs.hand.Core.cell.Goals as goal

pub find_index-at-requires-clause-ascend : goal.find_index-at-requires-clause-ascend
find_index-at-requires-clause-ascend g c =
    subst (λ (l : List (HeldCell g.row.C.Denot)). AscendBy place_in l) (sym c.deref.ensures.value)
    (ascend c.self.inside.held.items (subst Falls c.self.invariant.0.places c.self.invariant.0.falls))

pub index-requires : goal.index-requires
index-requires g c =
    let held = ap (λ h. h.held) c.self.view_is in
    let index = c.find_index-at.ensures ∙ ap (cells_before c.args.place) c.deref.ensures.value in
    subst (λ k. c.find_index-at.result < k) (ap length (sym c.deref.ensures.value) ∙ c.deref.ensures.len)
    (within_found c.args.place c.self.inside.held.items c.args.self.now.held c.find_index-at.result held c.requires index)

pub returns : goal.returns
returns g c =
    let held = ap (λ h. h.held) c.self.view_is in
    let index = c.find_index-at.ensures ∙ ap (cells_before c.args.place) c.deref.ensures.value in
    ap (option_map (λ (x : HeldCell g.row.C.Denot). x.value))
    (found_at c.args.place c.self.inside.held.items c.args.self.now.held c.find_index-at.result c.index.result.now held c.requires index c.index.ensures)
