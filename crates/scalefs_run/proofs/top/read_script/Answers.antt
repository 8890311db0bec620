use Rattle.std.proofs.Common.{Err, ℕ, sym, ap, subst}
use Rattle.sfs_base.specs.Ends.{HasRisen}
use Rattle.scalefs_run.specs.Outcome.{HasReadFault, IsOf}
use Rattle.scalefs_run.specs.declared.outcome.Status.{Status}
use Rattle.std.specs.Prelude.{List}
use Rattle.scalefs_run.proofs.Reading.{read_fault}
use Rattle.std.proofs.lemmas.List.Elements.{All-from_recursion}
use Rattle.script.specs.Ready.{LinesMayRun}
use Rattle.script.proofs.ReadyLemmas.{phases_may}
use Rattle.scalefs_run.proofs.top.read_script.Goals as goal

pub returns-in-Err-clause-err : goal.returns-in-Err-clause-err
returns-in-Err-clause-err g c =
    let left = g.S.Source.left c.args.source.now in
    let rest = g.S.Source.left c.read_all.new.source in
    let failed = HasRisen (g.S.Source.faults c.args.source.now) (g.S.Source.faults c.read_all.new.source) in
    let given = c.in-Err.ensures in
    let taken = given.taken in
    let found = read_fault failed left rest taken.0 c.in-Err.fault taken.1 taken.2 (λ is. given.cause (ap Err is)) in
    subst (λ (s : Status). (script : List ℕ) × IsOf left script × HasReadFault script failed s) (sym c.status_of_source.ensures) found

pub returns-in-Ok-read-clause-ready : goal.returns-in-Ok-read-clause-ready
returns-in-Ok-read-clause-ready g c =
    All-from_recursion LinesMayRun c.in-Ok-read.script (phases_may c.deref.result.now c.in-Ok-read.script c.in-Ok-read.ensures.ok)
