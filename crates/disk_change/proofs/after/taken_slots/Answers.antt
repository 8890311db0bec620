use Rattle.std.proofs.Common.{ap, ◌∙◌}
use Rattle.keyed_list.specs.Ascending.{item_with}
use Rattle.disk_nodes.specs.Nodes.{entry_node}
use Rattle.disk_change.proofs.Putting.{without_other}
use Rattle.disk_change.proofs.after.taken_slots.Goals as goal

pub returns-in-Some-clause-others : goal.returns-in-Some-clause-others
returns-in-Some-clause-others c = λ other apart.
    ap (item_with entry_node other) c.take_old.ensures.items ∙ without_other entry_node c.args.old.now.items c.args.node.0 other apart

pub returns-in-None-clause-others : goal.returns-in-None-clause-others
returns-in-None-clause-others c = λ other apart.
    ap (item_with entry_node other) c.take_old.ensures.items ∙ without_other entry_node c.args.old.now.items c.args.node.0 other apart
