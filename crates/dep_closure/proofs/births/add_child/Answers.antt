use Rattle.dep_closure.proofs.Growing.{set_one}
use Rattle.dep_closure.proofs.births.add_child.Goals as goal

pub returns : goal.returns
returns c = set_one c.args.named.now c.insert.new.self c.args.child.0 c.in_ok-insert.ensures.keys
