use Rattle.std.proofs.Common.{subst, ◌≡◌, Ok}
use Rattle.std.specs.Prelude.{IfOk}
use Rattle.script.specs.Phases.{phases_of}
use Rattle.script.proofs.ReadyLemmas.{phases_may}
use Rattle.test_volume.proofs.runs.phases_in.Goals as goal

pub returns : goal.returns
returns g c =
    phases_may c.args.text.now c.got.result
    (subst (λ r. IfOk r (λ script. phases_of c.args.text.now ≡ Ok script)) c.got.ensures c.read.ensures.ok)
