-- The laws of labels, each of which a function of the module laws proves.
use Rattle.std.specs.Prelude.{◌≡◌, ◌⊎◌, ◌≤◌, ◌<◌, ℕ, true, List, None, flat_map, length, slice_get, Some}
use Rattle.sfs_image.specs.Super.{Layout}
use Rattle.tree_laws.specs.declared.turns.Turn.{Turn}
use Rattle.cut_laws.specs.Rules.{IsOneOf}
use Rattle.merge_laws.specs.LeftByTurns.{TimesRise}
use Rattle.merge_laws.specs.Pens.{CountAll, turns_of_core, FsyncTurns, MergesPens}
use Rattle.stamp_table.specs.declared.event.Event.{Event}
use Rattle.stamp_table.specs.Events.{event_core}
use Rattle.stamp_table.specs.Rule.{entries_by}
use Rattle.slot_laws.specs.declared.label.Label.{Label}
use Rattle.slot_laws.specs.Labels.{OwnTold, nothing_told, BoxPast, first_past, past_from, own_from}
use Rattle.slot_laws.specs.Rules.{MayFrom}
use Rattle.slot_laws.specs.Fits.{PastFits}

-- What fits goes on to fit, whatever is told by the rules.
abbrev pub LawfulFits : Type 0
LawfulFits = (layout : Layout) (before : ℕ) (log : List (Event Label)) (past : BoxPast) → PastFits layout before past → MayFrom layout before log past
    → PastFits layout before (past_from layout log past)

-- What a core told is what its own events come to.
abbrev pub OwnIs : Type 0
OwnIs = (layout : Layout) (log : List (Event Label)) (core moment : ℕ)
    → (past_from layout log (first_past moment)).owns core ≡ own_from (entries_by event_core core log) nothing_told

-- A core has no flight, or a failure has stopped it.
abbrev pub IsAtRest : OwnTold → Type 0
IsAtRest own = (own.flight ≡ None) ⊎ (own.over ≡ true)

-- Of a core at rest the record has the turns that its own events tell, and no others.
abbrev pub PensMakeTheRecord : Type 0
PensMakeTheRecord = (layout : Layout) (before : ℕ) (log : List (Event Label)) (core moment : ℕ) → MayFrom layout before log (first_past moment)
    → IsAtRest (own_from (entries_by event_core core log) nothing_told)
    → turns_of_core core (past_from layout log (first_past moment)).turns ≡ (own_from (entries_by event_core core log) nothing_told).told

-- Each turn's count of faults is right, where none is above a last one.
abbrev pub LabelsCountFaults : Type 0
LabelsCountFaults = (layout : Layout) (before most : ℕ) (log : List (Event Label)) (moment : ℕ) → MayFrom layout before log (first_past moment)
    → ((turn : Turn) → IsOneOf (past_from layout log (first_past moment)).turns turn → turn.faults ≤ most)
    → CountAll before most (past_from layout log (first_past moment)).turns

-- And the moments of turns don't fall.
abbrev pub LabelsRise : Type 0
LabelsRise = (layout : Layout) (before : ℕ) (log : List (Event Label)) (moment : ℕ) → MayFrom layout before log (first_past moment)
    → TimesRise (past_from layout log (first_past moment)).turns

-- A pen has what its core told, and the core is at rest.
pub record IsPenOf (core : ℕ) (log : List (Event Label)) (fsyncs : List FsyncTurns) : Type 0 where
  pub rests : IsAtRest (own_from (entries_by event_core core log) nothing_told)
  pub told : (own_from (entries_by event_core core log) nothing_told).told ≡ flat_map (λ one. one.turns) fsyncs

-- Events of so many cores.
abbrev pub AreOfCores : ℕ → List (Event Label) → Type 0
AreOfCores cores log = (event : Event Label) → IsOneOf log event → event_core event < cores

-- The record that labels make has each pen's turns in the pen's order, and no others.
abbrev pub LabelsMergePens : Type 0
LabelsMergePens = (layout : Layout) (before : ℕ) (log : List (Event Label)) (moment : ℕ) (pens : List (List FsyncTurns))
    → MayFrom layout before log (first_past moment) → AreOfCores (length pens) log
    → ((core : ℕ) (fsyncs : List FsyncTurns) → slice_get pens core ≡ Some fsyncs → IsPenOf core log fsyncs)
    → MergesPens (past_from layout log (first_past moment)).turns pens

-- No commit stamp is above the number of numbers that were given.
abbrev pub StampsAreFew : Type 0
StampsAreFew = (layout : Layout) (before : ℕ) (log : List (Event Label)) (moment : ℕ) → MayFrom layout before log (first_past moment)
    → (past_from layout log (first_past moment)).stamps ≤ (past_from layout log (first_past moment)).commits

-- Where a core has reserved a number that has not begun, one number more was given than commit stamps were drawn.
abbrev pub StampsAreLeft : Type 0
StampsAreLeft = (layout : Layout) (before : ℕ) (log : List (Event Label)) (moment core number : ℕ) → MayFrom layout before log (first_past moment)
    → ((past_from layout log (first_past moment)).owns core).reserved ≡ Some number
    → (past_from layout log (first_past moment)).stamps < (past_from layout log (first_past moment)).commits
