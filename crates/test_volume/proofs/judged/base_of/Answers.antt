use Rattle.std.proofs.Common.{◌≡◌, ℕ, Ok, Result, ap, sym, subst}
use Rattle.std.specs.Prelude.{IfOk}
use Rattle.recovery.specs.Recovered.{IsSoundReport}
use Rattle.recovery.specs.declared.whole.Report.{Report}
use Rattle.tree_laws.specs.Sound.{IsSound}
use Rattle.mount_begin.proofs.Shared.{sound_shared}
use Rattle.test_volume.proofs.judged.base_of.Goals as goal

-- the tree of a report that was answered is sound
sound_of : {E : Type 0} (size : ℕ) (answer : Result Report E) (report : Report) → answer ≡ Ok report → IfOk answer (IsSoundReport size) → IsSound report.tree
sound_of size answer report is own = (subst (λ r. IfOk r (IsSoundReport size)) is own).sound.sound

pub returns-clause-sound : goal.returns-clause-sound
returns-clause-sound g c =
    let tree_is = ap (λ (r : Report). r.tree) c.report.view_is in
    let own = sound_of _ c.recover.result c.got-report.result c.got-report.ensures c.recover.ensures.sound in
    subst IsSound (sym c.allow.ensures.share) (sound_shared _ _ (subst IsSound (sym tree_is) own))
