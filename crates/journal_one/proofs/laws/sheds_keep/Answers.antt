use Rattle.journal_one.proofs.Steps.{durable_shed}
use Rattle.journal_one.proofs.laws.sheds_keep.Goals as goal

pub returns : goal.returns
returns g c = durable_shed c.args.durable.now.job c.args.durable.now.done (g.D.Disk.view c.args._disk.now)
