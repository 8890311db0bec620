use Rattle.std.proofs.Common.{◌-◌, sym, ap, ◌∙◌, arith}
use Rattle.std.proofs.lemmas.List.{get_or_read}
use Rattle.sfs_image.specs.Slot.{Row}
use Rattle.sfs_base.proofs.BasicLists.{bytes_same}
use Rattle.disk_tree.specs.Rows.{NO_ROW}
use Rattle.disk_tree.proofs.NamesSorted.{own_by_neighbours}
use Rattle.disk_tree.proofs.NamesTwice.{found_twice, none_twice}
use Rattle.disk_tree.proofs.by_name.has_equal_neighbours.Goals as goal

pub returns-then-have_one_name : goal.returns-then-have_one_name
returns-then-have_one_name c =
    let rows = c.args.rows.now in
    let before = get_or_read rows (c.loop-place.place - 1) _ (omega arith) c.index-rows-place.is NO_ROW in
    let here = get_or_read rows c.loop-place.place _ (omega arith) c.index-rows-place-in-loop-place.is NO_ROW in
    let same =
    ap (λ (row : Row). row.name) (sym before) ∙ bytes_same _ _ (sym c.have_one_name.ensures ∙ c.if-have_one_name.true)
    ∙ ap (λ (row : Row). row.name) here in
    sym (found_twice rows (c.loop-place.place - 1) c.loop-place.place (omega arith) (omega arith) same)

pub returns : goal.returns
returns c = sym (none_twice c.args.rows.now (own_by_neighbours c.args.rows.now c.requires (λ k less. c.loop-place.invariant k (omega arith))))
