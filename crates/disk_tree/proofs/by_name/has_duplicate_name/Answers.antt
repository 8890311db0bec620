use Rattle.std.proofs.Common.{ap, ◌∙◌}
use Rattle.disk_tree.specs.Tests.{has_twice}
use Rattle.disk_tree.proofs.NamesSorted.{twice_moved}
use Rattle.disk_tree.proofs.by_name.has_duplicate_name.Goals as goal

pub returns : goal.returns
returns c =
    c.has_equal_neighbours.ensures ∙ ap has_twice c.deref.ensures.value ∙ twice_moved c.args.rows.now c.in_ok-sorted.sorted.items c.in_ok-sorted.ensures.rows
