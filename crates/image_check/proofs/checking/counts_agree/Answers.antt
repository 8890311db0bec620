use Rattle.image_check.specs.Agreed.{links}
use Rattle.image_check.proofs.checking.counts_agree.Goals as goal

pub returns-in-Some : goal.returns-in-Some
returns-in-Some c = links c.in-Some.field-0 c.in-Some.ensures
