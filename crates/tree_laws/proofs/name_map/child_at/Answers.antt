use Rattle.std.proofs.Common.{true, false, bytes_eq, map, sym, ap, ◌∙◌, arith}
use Rattle.std.proofs.Math.ListN.{drop_of_length-le}
use Rattle.std.specs.Cmp.Lexicographic.{nat_list_cmp_total}
use Rattle.tree_laws.specs.Order.{name_cmp}
use Rattle.tree_laws.specs.NameRow.{name_and_child}
use Rattle.tree_laws.proofs.Search.{first_if}
use Rattle.tree_laws.proofs.RowsByName.{find-at_place, find-at_row}
use Rattle.tree_laws.proofs.name_map.child_at.Goals as goal

pub returns-then-place-rows : goal.returns-then-place-rows
returns-then-place-rows c =
    sym (find-at_place c.args.rows.now c.args.name.now c.args.place c.requires.sorted c.requires.place
    ∙ ap (λ rows. first_if {R = name_cmp} nat_list_cmp_total c.args.name.now (map name_and_child rows)) (drop_of_length-le c.args.rows.now (omega arith)))

pub returns-then-eq : goal.returns-then-eq
returns-then-eq c =
    find-at_row c.args.rows.now c.index-rows-place.result c.args.name.now c.args.place true c.index-rows-place.is (omega arith)
    (sym c.if-eq.true ∙ c.eq.ensures ∙ ap (λ name. bytes_eq name c.args.name.now) c.bytes.ensures.bytes) c.requires.sorted c.requires.place

pub returns-else-eq : goal.returns-else-eq
returns-else-eq c =
    find-at_row c.args.rows.now c.index-rows-place.result c.args.name.now c.args.place false c.index-rows-place.is (omega arith)
    (sym c.if-eq.false ∙ c.eq.ensures ∙ ap (λ name. bytes_eq name c.args.name.now) c.bytes.ensures.bytes) c.requires.sorted c.requires.place
