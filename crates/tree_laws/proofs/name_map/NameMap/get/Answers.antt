use Rattle.std.proofs.Common.{sym, ap, ◌∙◌, map}
use Rattle.std.specs.FinMap.{get, find}
use Rattle.tree_laws.specs.Order.{name_cmp}
use Rattle.tree_laws.specs.NameRow.{name_and_child}
use Rattle.tree_laws.proofs.RowsByName.{get-map_of}
use Rattle.tree_laws.proofs.name_map.NameMap.get.Goals as goal

pub returns : goal.returns
returns c =
    c.child_at.ensures
    ∙ ap (λ rows. find name_cmp c.bytes-2.result.now (map name_and_child rows)) c.deref-2.ensures.value
    ∙ ap (λ name. find name_cmp name (map name_and_child c.self.inside.rows.items)) c.bytes-2.ensures.bytes
    ∙ sym (get-map_of c.self.inside.rows.items c.args.name.now c.self.invariant)
    ∙ ap (λ m. get m c.args.name.now) c.self.view_is
