use Rattle.std.proofs.Common.{List, subst, sym, take}
use Rattle.std.proofs.lemmas.List.{take_more}
use Rattle.sfs_base.specs.declared.numbers.NodeId.{NodeId}
use Rattle.log_copy.specs.Steps.{HasDirectories}
use Rattle.log_copy.proofs.Among.{not_before}
use Rattle.log_copy.proofs.Counted.{none_yet}
use Rattle.log_copy.proofs.Growing.{has_more}
use Rattle.log_copy.proofs.copying.copy_of_nodes.Goals as goal

pub copy_directory-requires-clause-none : goal.copy_directory-requires-clause-none
copy_directory-requires-clause-none c =
    none_yet c.args.part.now (take c.loop-node.node-index c.args.nodes.now) c.loop-node.copy c.loop-node.invariant _
    (not_before c.args.nodes.now c.requires.ascend c.loop-node.node-index (record { 0 = 0 }) c.loop-node-test.true)

pub loop-node-preserved : goal.loop-node-preserved
loop-node-preserved c =
    let m : NodeId = record { 0 = 0 } in
    subst (λ (l : List NodeId). HasDirectories c.args.part.now l c.copy_directory.new.copy)
    (sym (take_more c.args.nodes.now c.loop-node.node-index m c.loop-node-test.true))
    (has_more c.args.part.now (take c.loop-node.node-index c.args.nodes.now) _ c.loop-node.copy c.copy_directory.new.copy c.loop-node.invariant
    c.in_ok-copy_directory.ensures)
