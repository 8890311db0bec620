use Rattle.journal_one.proofs.Bodies.{placed_in_table as law}
use Rattle.journal_one.proofs.laws.placed_records_are_in_the_table.Goals as goal

pub returns : goal.returns
returns c = law
