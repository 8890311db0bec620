use Rattle.std.proofs.Common.{◌≡◌, ℕ, refl}
use Rattle.sfs_base.specs.declared.numbers.NodeId.{NodeId}
use Rattle.dep_closure.proofs.Growing.{grows_more}
use Rattle.dep_closure.proofs.members.Found.add_all.Goals as goal

pub loop-node-preserved : goal.loop-node-preserved
loop-node-preserved c =
    let brings : NodeId → ℕ → Type 0 = λ node other. node.0 ≡ other in
    grows_more brings c.args.nodes.now c.loop-node.node-index
    (record { 0 = 0 }) _ c.args.self.now c.loop-node.self c.add.new.self c.loop-node-test.true refl c.loop-node.invariant c.in_ok-add.ensures
