use Rattle.std.proofs.Common.{◌∙◌}
use Rattle.mem_rename.proofs.Sighted.{listed_same}
use Rattle.mem_rename.proofs.sights.is_in.Goals as goal

pub returns : goal.returns
returns c = c.contains.ensures.value ∙ listed_same c.args.node.0 c.args.nodes.now
