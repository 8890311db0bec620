-- A history has the calls that belong to its status.
use Rattle.std.proofs.Common.{OnErr, OnOk, Result, sym, subst}
use Rattle.script.specs.Follows.{Follows, FollowsSoFar}
use Rattle.scalefs_run.specs.Outcome.{HasHistory}
use Rattle.scalefs_run.proofs.Serving.{write_history}
use Rattle.scalefs_run.proofs.scripts.end_run.Goals.{in-Ok, in-Err}
use Rattle.scalefs_run.proofs.scripts.end_run.Goals as goal

pub returns-clause-calls : goal.returns-clause-calls
returns-clause-calls g c phases calls =
    let history = c.args.ran.history in
    elim c.match-ended.branch [
      | in-Ok w ↦ subst (HasHistory phases history) (sym w.status-is)
          (write_history _ phases history w.write_end-status.result w.write_end-status.ensures.status
          (subst (λ (e : Result _ _). OnOk e (Follows phases history)) w.in-Ok.is calls.ok))
      | in-Err w ↦ subst (HasHistory phases history) (sym w.status-is)
          (subst (λ (e : Result _ _). OnErr e (FollowsSoFar phases history)) w.in-Err.is calls.err)
    ]
