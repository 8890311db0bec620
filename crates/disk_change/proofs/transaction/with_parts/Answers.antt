use Rattle.disk_change.proofs.Putting.{entries_ascend}
use Rattle.disk_change.proofs.transaction.with_parts.Goals as goal

pub returns-clause-ascending : goal.returns-clause-ascending
returns-clause-ascending c = entries_ascend c.into_old.result.items c.args.parts.nodes.items c.requires.ascending
