use Rattle.disk_change.proofs.Names.{net_ascends}
use Rattle.test_formats.proofs.changing.root_net.Goals as goal

pub invariant_of-push : goal.invariant_of-push
invariant_of-push c = record { ascending = net_ascends c.in_ok-net.net.items c.in_ok-net.ensures.ascending }
