use Rattle.std.proofs.Common.{sym, ap, ◌∙◌, length}
use Rattle.std.specs.FinMap.{len, len-entries}
use Rattle.std.proofs.lemmas.List.{length-map}
use Rattle.tree_laws.specs.NameRow.{name_and_child}
use Rattle.tree_laws.proofs.RowsByName.{entries-map_of}
use Rattle.tree_laws.proofs.name_map.NameMap.len.Goals as goal

pub returns : goal.returns
returns c =
    c.len.ensures ∙ c.self.inside.rows.ok.0
    ∙ sym (length-map c.self.inside.rows.items name_and_child)
    ∙ ap length (sym (entries-map_of c.self.inside.rows.items c.self.invariant))
    ∙ sym (len-entries _)
    ∙ ap len c.self.view_is
