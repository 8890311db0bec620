use Rattle.std.proofs.Common.{ap, ◌∙◌}
use Rattle.std.specs.Prelude.{is_some}
use Rattle.tree_laws.specs.NameRow.{node_number}
use Rattle.dep_closure.proofs.Looked.{found_listed, some_mapped}
use Rattle.dep_closure.proofs.lookup.has_node.Goals as goal

pub returns : goal.returns
returns c =
    c.is_some.ensures ∙ some_mapped (λ (b : _). b.now) c.find_node.result ∙ ap is_some c.find_node.ensures
    ∙ found_listed node_number c.args.nodes.now c.args.node.0
