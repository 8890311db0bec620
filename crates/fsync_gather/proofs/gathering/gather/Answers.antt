use Rattle.dep_closure.specs.declared.gathered.Gathered.{Gathered}
use Rattle.fsync_gather.proofs.Nodes.{gathers_in_order, gathers_nodes}
use Rattle.fsync_gather.proofs.gathering.gather.Goals as goal

pub returns-clause-orderly : goal.returns-clause-orderly
returns-clause-orderly c =
    let gathered : Gathered =
    record { logs = c.in_ok-logs.logs; cuts = c.in_ok-cuts.cuts; births = c.in_ok-births.births; inodes = c.in_ok-inodes.inodes } in
    gathers_in_order c.args.nodes c.args.core.now.held c.args.held.now gathered c.requires.holds c.requires.ascend
    (record { cuts = c.in_ok-cuts.ensures; births = c.in_ok-births.ensures; inodes = c.in_ok-inodes.ensures }) c.in_ok-logs.ensures.ascend
    c.in_ok-logs.ensures.own

pub returns-clause-nodes : goal.returns-clause-nodes
returns-clause-nodes c =
    let gathered : Gathered =
    record { logs = c.in_ok-logs.logs; cuts = c.in_ok-cuts.cuts; births = c.in_ok-births.births; inodes = c.in_ok-inodes.inodes } in
    gathers_nodes c.args.nodes c.args.core.now.held c.args.held.now gathered c.requires.holds c.requires.ascend
    (record { cuts = c.in_ok-cuts.ensures; births = c.in_ok-births.ensures; inodes = c.in_ok-inodes.ensures })
