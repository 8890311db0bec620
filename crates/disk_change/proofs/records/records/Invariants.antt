use Rattle.std.proofs.Common.{◌≡◌, ◌++◌, [], take, map, filter, filter_map}
use Rattle.disk_change.specs.Lists.{ascending_by}
use Rattle.disk_change.specs.Parts.{built_with}
use Rattle.disk_change.specs.Planned.{has_listed_node}
use Rattle.disk_change.specs.Records.{record_keyed, record_inode, written_of_built, written_of_gone}
use Rattle.disk_change.proofs.records.records.Given as goal

abbrev pub invariant-loop-node : goal.invariant-loop-node
invariant-loop-node l =
    map record_keyed l.records.entries ≡ ascending_by record_inode (filter_map (λ node. written_of_built (built_with [] node)) (take l.node-index l.nodes))

abbrev pub invariant-loop-entry : goal.invariant-loop-entry
invariant-loop-entry l = map record_keyed l.records.entries
    ≡ ascending_by record_inode (filter_map (λ node. written_of_built (built_with [] node)) l.nodes
    ++ filter_map written_of_gone (filter (has_listed_node l.leaving) (take l.entry-index l.old)))
