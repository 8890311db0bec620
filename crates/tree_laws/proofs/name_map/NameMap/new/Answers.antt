use Rattle.std.proofs.Common.{ap, ◌∙◌, map, [], length}
use Rattle.std.specs.FinMap.{from_sorted, empty_of_len, len-entries, entries-from_sorted}
use Rattle.tree_laws.specs.Order.{name_cmp}
use Rattle.tree_laws.specs.NameRow.{name_and_child}
use Rattle.tree_laws.proofs.name_map.NameMap.new.Goals as goal

pub returns : goal.returns
returns c =
    ap (λ rows. from_sorted {R = name_cmp} (map name_and_child rows)) c.new.ensures.items
    ∙ empty_of_len (from_sorted []) (len-entries _ ∙ ap length (entries-from_sorted name_cmp [] tt))
