use Rattle.std.proofs.Common.{rules, nat_lt, sym, ◌∙◌}
use Rattle.std.proofs.lemmas.List.Sorted.{IsPartitionPoint-from_clause}
use Rattle.dep_closure.proofs.Searches.{parted_by, found_there, missed_there, missed_past}
use Rattle.dep_closure.proofs.lookup.find_node.Goals as goal

pub returns-then-node : goal.returns-then-node
returns-then-node g c =
    let parted =
    IsPartitionPoint-from_clause
    (λ item. nat_lt (g.T.ByNode.number item) c.args.node.0) c.args.items.now c.partition_point-at.result c.partition_point-at.ensures.partitioned
    (parted_by g.T.ByNode.number c.args.items.now c.requires c.args.node.0) (λ a r f h. search rules) in
    let found = c.in_ok-item.ensures.lookup in
    found_there g.T.ByNode.number c.args.items.now c.requires c.args.node.0 c.partition_point-at.result parted c.in_ok-item.item.now found.3.0 found.1
    (sym c.node.ensures ∙ c.if-node.true)

pub returns-else-node : goal.returns-else-node
returns-else-node g c =
    let parted =
    IsPartitionPoint-from_clause
    (λ item. nat_lt (g.T.ByNode.number item) c.args.node.0) c.args.items.now c.partition_point-at.result c.partition_point-at.ensures.partitioned
    (parted_by g.T.ByNode.number c.args.items.now c.requires c.args.node.0) (λ a r f h. search rules) in
    let found = c.in_ok-item.ensures.lookup in
    missed_there g.T.ByNode.number c.args.items.now c.requires c.args.node.0 c.partition_point-at.result parted c.in_ok-item.item.now found.3.0 found.1
    (λ same. c.if-node.false (c.node.ensures ∙ same))

pub returns-in_err-item : goal.returns-in_err-item
returns-in_err-item g c =
    let parted =
    IsPartitionPoint-from_clause
    (λ item. nat_lt (g.T.ByNode.number item) c.args.node.0) c.args.items.now c.partition_point-at.result c.partition_point-at.ensures.partitioned
    (parted_by g.T.ByNode.number c.args.items.now c.requires c.args.node.0) (λ a r f h. search rules) in
    rw c.from_residual.ensures
    (missed_past g.T.ByNode.number c.args.items.now c.requires c.args.node.0 c.partition_point-at.result parted c.in_err-item.ensures.lookup.3)
