use Rattle.book_laws.proofs.Blocks.{blocks_stay_free as law}
use Rattle.book_laws.proofs.laws.blocks_stay_free.Goals as goal

pub returns : goal.returns
returns c = law
