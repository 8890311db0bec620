use Rattle.std.proofs.Common.{◌≡◌, length, ap, ◌∙◌, arith}
use Rattle.std.specs.FinMap.{insert}
use Rattle.sfs_tree.specs.NodesState.{NodesState}
use Rattle.sfs_tree.specs.Nodes.{node_of}
use Rattle.sfs_tree.proofs.Numbered.{numbered-set}
use Rattle.sfs_tree.proofs.nodes.Nodes.put.Goals as goal

pub returns-clause-nodes : goal.returns-clause-nodes
returns-clause-nodes c =
    let places : length c.self.inside.places.items ≡ c.args.self.now.places = ap (λ (s : NodesState). s.places) c.self.view_is in
    numbered-set c.self.inside.places.items c.args.number c.args.node (omega (arith, c.requires))
    ∙ ap (λ (s : NodesState). insert s.nodes c.args.number (node_of c.args.node)) c.self.view_is
