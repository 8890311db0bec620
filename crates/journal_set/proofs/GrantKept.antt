-- A core that tells of steps keeps its grant.
use Rattle.std.specs.Prelude.{None}
use Rattle.std.proofs.Common.{◌≡◌, ◌∷◌, ◌++◌, ◌∙◌, ℕ, List, [], Option, refl, ap}
use Rattle.space_map.specs.Space.{GrantedNumbers}
use Rattle.stamp_table.specs.declared.event.Event.{Event}
use Rattle.stamp_table.specs.declared.event.Event.TheVariants.{Called, Told}
use Rattle.slot_laws.specs.declared.label.Label.{Label}
use Rattle.slot_laws.specs.declared.label.Label.TheVariants as label
use Rattle.slot_laws.specs.Telling.{AreSteps, IsOfStep, labels_by}
use Rattle.disk_box.specs.Pens.{PenHand, TellsSteps}
use Rattle.journal_set.specs.Grants.{grant_after, grant_at, grant_from}

grant_step : (fact : Label) (had : Option GrantedNumbers) → IsOfStep fact → grant_after fact had ≡ had
grant_step (label.Filled slot piece done) had step = refl
grant_step (label.Synced now) had step = refl
grant_step (label.Opened slot done cut opened) had step = refl
grant_step (label.Settled slot turn) had step = refl
grant_step (label.Placed slot n done) had step = refl
grant_step (label.Shut slot done) had step = refl
grant_step (label.Idled slot) had step = refl
grant_step label.Took had step = absurd step
grant_step label.Gave had step = absurd step
grant_step (label.Noted turn) had step = absurd step
grant_step (label.Reserved commit seen grant) had step = absurd step
grant_step (label.Returned commit) had step = absurd step
grant_step (label.Began filling commit node stamp blocks inodes) had step = absurd step
grant_step (label.Learned turn) had step = absurd step
grant_step (label.Empty commit cut opened durable) had step = absurd step

grant_steps : (core : ℕ) (facts : List Label) (had : Option GrantedNumbers) → AreSteps facts → grant_from (labels_by core facts) had ≡ had
grant_steps core [] had steps = refl
grant_steps core (fact ∷ facts) had steps = ap (grant_from (labels_by core facts)) (grant_step fact had steps.0) ∙ grant_steps core facts had steps.1

-- the grant behind some events and then others
pub grant_both : (log more : List (Event Label)) (had : Option GrantedNumbers) → grant_from (log ++ more) had ≡ grant_from more (grant_from log had)
grant_both [] more had = refl
grant_both (Called entry ∷ log) more had = grant_both log more had
grant_both (Told core fact ∷ log) more had = grant_both log more (grant_after fact had)

pub grant_kept : {D : Type 0} (before after : PenHand D) → TellsSteps before after → grant_at after ≡ grant_at before
grant_kept before after tells =
    ap (λ l. grant_from l None) tells.mine_is ∙ (grant_both before.view.mine (labels_by before.view.core tells.facts) None ∙ grant_steps before.view.core tells.facts (grant_at before) tells.steps)
