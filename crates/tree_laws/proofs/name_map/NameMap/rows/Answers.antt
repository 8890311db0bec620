use Rattle.std.proofs.Common.{sym, ap, ◌∙◌, map}
use Rattle.std.specs.FinMap.{entries}
use Rattle.tree_laws.specs.NameRow.{name_and_child}
use Rattle.tree_laws.proofs.RowsByName.{entries-map_of}
use Rattle.tree_laws.proofs.name_map.NameMap.rows.Goals as goal

pub returns : goal.returns
returns c =
    ap (map name_and_child) c.deref.ensures.value
    ∙ sym (entries-map_of c.self.inside.rows.items c.self.invariant)
    ∙ ap entries c.self.view_is
