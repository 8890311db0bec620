use Rattle.std.proofs.Common.{◌<◌, ◌∙◌, ap, length, arith}
use Rattle.std.specs.FinMap.{insert}
use Rattle.tree_laws.proofs.RowsByName.{found_in_rows, same_place}
use Rattle.tree_laws.proofs.RowsRemoved.{place_within, sorted_with, map_replaced}
use Rattle.tree_laws.proofs.name_map.NameMap.replace.Goals as goal

pub index_mut-requires : goal.index_mut-requires
index_mut-requires c =
    let place =
    same_place _ c.self.inside.rows.items _ c.args.name.now c.place_of-place.result c.deref.ensures.value c.bytes.ensures.bytes c.place_of-place.ensures in
    let within : c.place_of-place.result < length c.self.inside.rows.items =
    place_within c.self.inside.rows.items c.args.name.now c.place_of-place.result c.self.invariant place
    (found_in_rows c.self.inside.rows.items c.args.self.now c.args.name.now c.self.invariant c.self.view_is c.requires) in
    omega (arith, c.self.inside.rows.ok.0)

pub invariant_of-self : goal.invariant_of-self
invariant_of-self c =
    let place =
    same_place _ c.self.inside.rows.items _ c.args.name.now c.place_of-place.result c.deref.ensures.value c.bytes.ensures.bytes c.place_of-place.ensures in
    sorted_with c.self.inside.rows.items c.index_mut.result.now c.args.name.now c.place_of-place.result c.args.child.0 c.index_mut.ensures.value
    c.self.invariant place
    (found_in_rows c.self.inside.rows.items c.args.self.now c.args.name.now c.self.invariant c.self.view_is c.requires)

pub returns : goal.returns
returns c =
    let place =
    same_place _ c.self.inside.rows.items _ c.args.name.now c.place_of-place.result c.deref.ensures.value c.bytes.ensures.bytes c.place_of-place.ensures in
    map_replaced c.self.inside.rows.items c.index_mut.result.now c.args.name.now c.place_of-place.result c.args.child.0 c.index_mut.ensures.value
    c.self.invariant place
    (found_in_rows c.self.inside.rows.items c.args.self.now c.args.name.now c.self.invariant c.self.view_is c.requires)
    ∙ ap (λ m. insert m c.args.name.now c.args.child.0) c.self.view_is
