use Rattle.std.proofs.Common.{ap, ◌∙◌}
use Rattle.sfs_tree.specs.NodesState.{NodesState}
use Rattle.sfs_tree.specs.Nodes.{numbered}
use Rattle.sfs_tree.proofs.Numbered.{numbered-push}
use Rattle.sfs_tree.proofs.nodes.Nodes.grow.Goals as goal

pub returns-clause-nodes : goal.returns-clause-nodes
returns-clause-nodes c =
    ap numbered c.in_ok-push.ensures.items ∙ numbered-push c.self.inside.places.items ∙ ap (λ (s : NodesState). s.nodes) c.self.view_is
