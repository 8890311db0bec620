use Rattle.cut_laws.proofs.Entries.{stamps_are_once as law}
use Rattle.cut_laws.proofs.laws.growth.stamps_are_once.Goals as goal

pub returns : goal.returns
returns c = law
