use Rattle.std.proofs.Common.{◌<◌, ◌∙◌, sym, ap, map, length, IsTrue, subst, arith}
use Rattle.std.specs.FinMap.{remove, from_sorted, is_sorted}
use Rattle.tree_laws.specs.Order.{name_cmp}
use Rattle.tree_laws.specs.NameRow.{name_and_child}
use Rattle.tree_laws.proofs.RowsByName.{found_in_rows, same_place}
use Rattle.tree_laws.proofs.RowsRemoved.{place_within, sorted_without, map_removed}
use Rattle.tree_laws.proofs.name_map.NameMap.remove.Goals as goal

pub remove-requires : goal.remove-requires
remove-requires c =
    let place =
    same_place _ c.self.inside.rows.items _ c.args.name.now c.place_of-place.result c.deref.ensures.value c.bytes.ensures.bytes c.place_of-place.ensures in
    let within : c.place_of-place.result < length c.self.inside.rows.items =
    place_within c.self.inside.rows.items c.args.name.now c.place_of-place.result c.self.invariant place
    (found_in_rows c.self.inside.rows.items c.args.self.now c.args.name.now c.self.invariant c.self.view_is c.requires) in
    omega (arith, c.self.inside.rows.ok.0)

pub invariant_of-self : goal.invariant_of-self
invariant_of-self c =
    subst (λ rows. IsTrue (is_sorted name_cmp (map name_and_child rows))) (sym c.remove.ensures.items)
    (sorted_without c.self.inside.rows.items c.place_of-place.result c.self.invariant)

pub returns : goal.returns
returns c =
    let place =
    same_place _ c.self.inside.rows.items _ c.args.name.now c.place_of-place.result c.deref.ensures.value c.bytes.ensures.bytes c.place_of-place.ensures in
    ap (λ rows. from_sorted {R = name_cmp} (map name_and_child rows)) c.remove.ensures.items
    ∙ map_removed c.self.inside.rows.items c.args.name.now c.place_of-place.result c.self.invariant place
    (found_in_rows c.self.inside.rows.items c.args.self.now c.args.name.now c.self.invariant c.self.view_is c.requires)
    ∙ ap (λ m. remove m c.args.name.now) c.self.view_is
