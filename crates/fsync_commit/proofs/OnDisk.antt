-- What is granted lies on the disk: a map of free space keeps its numbers as cores tell labels.
use Rattle.std.proofs.Common.{◌≡◌, ◌∙◌, ◌<◌, ◌∷◌, ℕ, Bool, true, false, List, [], Option, Some, None, map, refl, sym, ap, subst, Contains, is_some}
use Rattle.std.specs.Prelude.{if◌then◌else◌, option_map}
use Rattle.sfs_image.specs.Super.{Layout}
use Rattle.sfs_base.specs.declared.numbers.CoreId.{CoreId}
use Rattle.sfs_base.specs.Listed.{is_listed}
use Rattle.space_map.specs.declared.status.Status.{Status}
use Rattle.space_map.specs.declared.status.Status.TheVariants.{Free, Granted, Taken}
use Rattle.space_map.specs.Pool.{Changes, Ends, Pool, released, status_of}
use Rattle.space_map.specs.Space.{GrantedNumbers, Space}
use Rattle.stamp_table.specs.declared.event.Event.{Event}
use Rattle.stamp_table.specs.declared.event.Event.TheVariants.{Called, Told}
use Rattle.slot_laws.specs.declared.label.Label.{Label}
use Rattle.slot_laws.specs.declared.label.Label.TheVariants as label
use Rattle.slot_laws.specs.Labels.{BoxPast, after_event}
use Rattle.slot_laws.specs.Grants.{SpaceDoes, SpaceGoes, TakesGrant}
use Rattle.fsync_commit.specs.Asked.{IsSpaceOn}

-- one row has numbers of another alone
abbrev IsWithin : Pool → Pool → Type 0
IsWithin new old = (number : ℕ) → is_some (status_of new number) ≡ true → is_some (status_of old number) ≡ true

kept_some : (listed : Bool) (change : Status → Status) (was now : Option Status) → now ≡ (if listed then option_map change was else was) → is_some now ≡ true
    → is_some was ≡ true
kept_some true change None now is some = sym (ap is_some is) ∙ some
kept_some true change (Some status) now is some = refl
kept_some false change was now is some = sym (ap is_some is) ∙ some

changed_within : (change : Status → Status) (numbers : List ℕ) (old new : Pool) → Changes change numbers old new → IsWithin new old
changed_within change numbers old new is number some =
    kept_some (is_listed numbers number) change (status_of old number) (status_of new number) (is number) some

ended_some : (granted freed : Bool) (was now : Option Status)
    → now ≡ (if granted then option_map (λ _. Taken) was else if freed then option_map released was else was) → is_some now ≡ true → is_some was ≡ true
ended_some true freed was now is some = kept_some true (λ _. Taken) was now is some
ended_some false freed was now is some = kept_some freed released was now is some

ended_within : (granted freed : List ℕ) (old new : Pool) → Ends granted freed old new → IsWithin new old
ended_within granted freed old new is number some =
    ended_some (is_listed granted number) (is_listed freed number) (status_of old number) (status_of new number) (is number) some

-- both rows of a map
record AreWithin (new old : Space) : Type 0 where
  inodes : IsWithin new.inodes old.inodes
  blocks : IsWithin new.blocks old.blocks

same_within : (new old : Space) → new ≡ old → AreWithin new old
same_within new old same = subst (λ (space : Space). AreWithin space old) (sym same) (record { inodes = λ number some. some; blocks = λ number some. some })

told_within : (fact : Label) (core : CoreId) (past : BoxPast) (old new : Space) → SpaceDoes (Told core fact) past old new → AreWithin new old
told_within (label.Reserved commit seen grant) core past old new does = record {
  inodes = changed_within (λ _. Granted) grant.inodes old.inodes new.inodes does.inodes.granted;
  blocks = changed_within (λ _. Granted) grant.blocks old.blocks new.blocks does.blocks.granted;
}
told_within (label.Returned commit) core past old new does = record {
  inodes = changed_within (λ _. Free) does.own.commit.grant.inodes old.inodes new.inodes does.inodes;
  blocks = changed_within (λ _. Free) does.own.commit.grant.blocks old.blocks new.blocks does.blocks;
}
told_within (label.Settled slot turn) core past old new does = record {
  inodes = ended_within does.own.commit.grant.inodes does.own.commit.gives_up.inodes old.inodes new.inodes does.inodes;
  blocks = ended_within does.own.commit.grant.blocks does.own.commit.gives_up.blocks old.blocks new.blocks does.blocks;
}
told_within (label.Empty commit cut opened durable) core past old new does = record {
  inodes = ended_within does.own.commit.grant.inodes does.own.commit.gives_up.inodes old.inodes new.inodes does.inodes;
  blocks = ended_within does.own.commit.grant.blocks does.own.commit.gives_up.blocks old.blocks new.blocks does.blocks;
}
told_within label.Took core past old new does = same_within new old does
told_within label.Gave core past old new does = same_within new old does
told_within (label.Noted turn) core past old new does = same_within new old does
told_within (label.Began filling commit node stamp blocks inodes) core past old new does = same_within new old does
told_within (label.Filled slot piece done) core past old new does = same_within new old does
told_within (label.Synced now) core past old new does = same_within new old does
told_within (label.Opened slot done cut opened) core past old new does = same_within new old does
told_within (label.Learned turn) core past old new does = same_within new old does
told_within (label.Placed slot n done) core past old new does = same_within new old does
told_within (label.Shut slot done) core past old new does = same_within new old does
told_within (label.Idled slot) core past old new does = same_within new old does

step_within : (event : Event Label) (past : BoxPast) (old new : Space) → SpaceDoes event past old new → AreWithin new old
step_within (Called entry) past old new does = same_within new old does
step_within (Told core fact) past old new does = told_within fact core past old new does

goes_within : (layout : Layout) (log : List (Event Label)) (past : BoxPast) (old new : Space) → SpaceGoes layout log past old new → AreWithin new old
goes_within layout [] past old new goes = same_within new old goes
goes_within layout (event ∷ log) past old new goes =
    let first = step_within event past old goes.0.next goes.0.does in
    let rest = goes_within layout log (after_event layout event past) goes.0.next new goes.1 in
    record { inodes = λ number some. first.inodes number (rest.inodes number some); blocks = λ number some. first.blocks number (rest.blocks number some) }

-- A map that has gone along labels is of the disk that it was of.
pub space_on : (layout : Layout) (log : List (Event Label)) (past : BoxPast) (old new : Space) → SpaceGoes layout log past old new → IsSpaceOn layout old
    → IsSpaceOn layout new
space_on layout log past old new goes is =
    let within = goes_within layout log past old new goes in
    record { inodes = λ number some. is.inodes number (within.inodes number some); blocks = λ number some. is.blocks number (within.blocks number some) }
