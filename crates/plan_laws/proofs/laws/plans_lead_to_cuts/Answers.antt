use Rattle.plan_laws.proofs.Leads.{plans_lead_to_cuts as law}
use Rattle.plan_laws.proofs.laws.plans_lead_to_cuts.Goals as goal

pub returns : goal.returns
returns c = law
