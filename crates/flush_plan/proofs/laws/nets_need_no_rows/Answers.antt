use Rattle.flush_plan.proofs.Stood.{nets_need_no_rows as law}
use Rattle.flush_plan.proofs.laws.nets_need_no_rows.Goals as goal

pub returns : goal.returns
returns c = law
