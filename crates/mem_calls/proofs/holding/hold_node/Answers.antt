use Rattle.mem_calls.proofs.Statuses.{all_buckets}
use Rattle.mem_calls.proofs.holding.hold_node.Goals as goal

pub returns-then-is_standing-clause-node : goal.returns-then-is_standing-clause-node
returns-then-is_standing-clause-node g c =
    all_buckets c.args.nodes c.hold_directory.new.core c.hold_buckets.new.core c.args.node c.hold_buckets.ensures.still c.hold_directory.ensures.directory
    c.hold_buckets.ensures.buckets
