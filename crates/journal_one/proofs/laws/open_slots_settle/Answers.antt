use Rattle.journal_one.proofs.Bodies.{slot_settles as law}
use Rattle.journal_one.proofs.laws.open_slots_settle.Goals as goal

pub returns : goal.returns
returns c job image i ours is has opened gives others = law job image is has i ours opened gives others
