use Rattle.mem_calls.proofs.Statuses.{still_node}
use Rattle.mem_calls.proofs.lists.list.Goals as goal

pub list_in-requires-clause-held : goal.list_in-requires-clause-held
list_in-requires-clause-held g c =
    still_node c.nodes-nodes.result c.hold_node.new.core c.hold_part.new.core c.args.dir c.hold_part.ensures.still c.hold_node.ensures.node
