use Rattle.turn_laws.proofs.WholeFsyncs.{empty_commits_stand as law}
use Rattle.turn_laws.proofs.laws.one_thread.empty_commits_stand.Goals as goal

pub returns : goal.returns
returns c = law
