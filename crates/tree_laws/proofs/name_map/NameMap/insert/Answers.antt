use Rattle.std.proofs.Common.{◌≡◌, ◌∙◌, sym, ap, map, None, IsTrue, subst}
use Rattle.std.specs.FinMap.{insert, from_sorted, is_sorted, find, get}
use Rattle.tree_laws.specs.Order.{name_cmp}
use Rattle.tree_laws.specs.NameRow.{name_and_child, IsPlaceOf}
use Rattle.tree_laws.proofs.RowsByName.{map_inserted, sorted_inserted, get-map_of}
use Rattle.tree_laws.proofs.name_map.NameMap.insert.Goals as goal
use Rattle.tree_laws.proofs.name_map.NameMap.insert.Goals.{In_ok-insert}

place : (c : In_ok-insert) → IsPlaceOf (map name_and_child c.self.inside.rows.items) c.args.name c.place_of-place.result
place c =
    let rows : IsPlaceOf (map name_and_child c.self.inside.rows.items) c.bytes.result.now c.place_of-place.result =
    subst (λ rows. IsPlaceOf (map name_and_child rows) c.bytes.result.now c.place_of-place.result) c.deref.ensures.value c.place_of-place.ensures in
    subst (λ name. IsPlaceOf (map name_and_child c.self.inside.rows.items) name c.place_of-place.result) c.bytes.ensures.bytes rows

none : (c : In_ok-insert) → find name_cmp c.args.name (map name_and_child c.self.inside.rows.items) ≡ None
none c = sym (get-map_of c.self.inside.rows.items c.args.name c.self.invariant) ∙ ap (λ m. get m c.args.name) c.self.view_is ∙ c.requires

pub invariant_of-self-2 : goal.invariant_of-self-2
invariant_of-self-2 c =
    subst (λ rows. IsTrue (is_sorted name_cmp (map name_and_child rows))) (sym c.in_ok-insert.ensures.items)
    (sorted_inserted c.self.inside.rows.items (record { name = c.args.name; child = c.args.child }) c.place_of-place.result c.self.invariant (place c)
    (none c))

pub returns-clause-ok : goal.returns-clause-ok
returns-clause-ok c =
    ap (λ rows. from_sorted {R = name_cmp} (map name_and_child rows)) c.in_ok-insert.ensures.items
    ∙ map_inserted c.self.inside.rows.items (record { name = c.args.name; child = c.args.child }) c.place_of-place.result c.self.invariant (place c) (none c)
    ∙ ap (λ m. insert m c.args.name c.args.child.0) c.self.view_is
