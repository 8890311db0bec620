use Rattle.turn_laws.proofs.WholeFsyncs.{commits_stand as law}
use Rattle.turn_laws.proofs.laws.one_thread.commits_stand.Goals as goal

pub returns : goal.returns
returns c = law
