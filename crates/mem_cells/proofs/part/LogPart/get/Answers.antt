use Rattle.std.proofs.Common.{rules, ◌≡◌, subst}
use Rattle.mem_cells.specs.Log.{Log, IsInOrder}
use Rattle.mem_cells.specs.Part.{CoreLog, log_of, changes_kept}
use Rattle.mem_cells.proofs.part.LogPart.get.Goals as goal

pub returns-in-Some-clause-ordered : goal.returns-in-Some-clause-ordered
returns-in-Some-clause-ordered c =
    let here : c.in-Some.log.now ≡ log_of c.self.inside.logs.entries c.args.dir.0 = search rules in
    subst (λ (part : CoreLog). IsInOrder (changes_kept part c.args.dir.0)) c.self.view_is
    (subst (λ (log : Log). IsInOrder log.changes) here c.get-in-Some.ensures.ordered)
