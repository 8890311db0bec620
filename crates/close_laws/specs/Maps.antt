-- That the map of free space along turns is drawn from the one that goes along labels.
use Rattle.std.specs.Prelude.{◌≡◌, ◌∷◌, ◌++◌, ◌≢◌, length, ℕ, List, []}
use Rattle.sfs_base.specs.declared.numbers.CoreId.{CoreId}
use Rattle.sfs_image.specs.Super.{Layout}
use Rattle.fmt_journal.specs.declared.tx.Tx.{Tx}
use Rattle.journal_one.specs.Job.{Job}
use Rattle.space_map.specs.Space.{GrantedNumbers, Space}
use Rattle.space_map.specs.Pool.{status_of}
use Rattle.tree_laws.specs.declared.turns.TurnAct.TheVariants as act
use Rattle.tree_laws.specs.declared.turns.Turn.{Turn}
use Rattle.disk_change.specs.Written.{IsTransactionOf}
use Rattle.commit_laws.specs.CommitOfPlan.{change_planned}
use Rattle.cut_laws.specs.Rules.{IsOneOf}
use Rattle.beside_laws.specs.Commits.{CoreCommit}
use Rattle.flush_laws.specs.Journal.{WritesPlan}
use Rattle.turn_ties.specs.Plans.{amount_planned}
use Rattle.book_laws.specs.Brings.{Bringing}
use Rattle.book_laws.specs.Pairs.{Pair, bringing_under, commit_under}
use Rattle.book_laws.specs.Out.{NeedsFitWords}
use Rattle.book_laws.specs.Along.{MapGoes}
use Rattle.stamp_table.specs.declared.event.Event.{Event}
use Rattle.stamp_table.specs.declared.event.Event.TheVariants.{Called, Told}
use Rattle.stamp_table.specs.Rule.{entries_by}
use Rattle.stamp_table.specs.Events.{event_core}
use Rattle.slot_laws.specs.declared.label.Label.{Label}
use Rattle.slot_laws.specs.declared.label.Label.TheVariants as label
use Rattle.slot_laws.specs.Nodes.{no_numbers}
use Rattle.slot_laws.specs.Labels.{BoxPast, past_from, first_past}
use Rattle.slot_laws.specs.Grants.{GoesAlong}
use Rattle.slot_laws.specs.Lasts.{Reserving, told_reserving, IsMadeAs}
use Rattle.slot_laws.specs.Rules.{MayFrom}
use Rattle.slot_laws.specs.declared.label.Seen.{Seen}
use Rattle.close_laws.specs.Own.{StandBeside, OwnOwed, own_owed, nothing_owed, owes_nothing}

-- The grant under a number serves what its fsync brings: it is the one that was brought with, and is as much as the plan needs, which fits words.
pub record GrantFits (one : Bringing) (grant : GrantedNumbers) : Type 0 where
  pub grant_is : one.grant ≡ grant
  pub needed : amount_planned one.plan ≡ record { inodes = length grant.inodes; blocks = length grant.blocks }
  pub words : NeedsFitWords one.plan

-- The commit of what an fsync brings gives up these numbers.
pub record FreesAs (one : Bringing) (numbers : GrantedNumbers) : Type 0 where
  pub tx : Tx
  pub is : IsTransactionOf (change_planned one.plan) one.grant tx
  pub inodes : tx.freed_inodes.items ≡ numbers.inodes
  pub blocks : tx.freed_blocks.items ≡ numbers.blocks

-- A commit begins as what its fsync brings: its job writes the plan, and it gives up these numbers.
pub record BeginsAs (one : Bringing) (job : Job) (numbers : GrantedNumbers) : Type 0 where
  pub writes : WritesPlan one.plan one.grant job
  pub frees : FreesAs one numbers

-- One that wrote nothing gives nothing up, and no inode a part.
pub record IsEmptyAs (one : Bringing) : Type 0 where
  pub gives : one.parts ≡ []
  pub frees : FreesAs one no_numbers

-- What commits bring by the stamps of their fsyncs, and the stamp of each by its commit's number.
pub record Numbered : Type 0 where
  pub pairs : ℕ → Pair
  pub stamps : ℕ → ℕ

-- what the commit with a number brings
abbrev pub bringing_of : Numbered → ℕ → Bringing
bringing_of named number = bringing_under named.pairs (named.stamps number)

-- the commit with a number, as its core made it
abbrev pub commit_numbered : Numbered → ℕ → CoreCommit
commit_numbered named number = commit_under named.pairs (named.stamps number)

-- A number is reserved for a commit of these nodes, as its core made it, with a grant that serves what its fsync brings.
pub record ReservedAs (named : Numbered) (number : ℕ) (seen : List Seen) (grant : GrantedNumbers) : Type 0 where
  pub made : IsMadeAs (commit_numbered named number) number seen
  pub grants : GrantFits (bringing_of named number) grant

-- An event fits what the commit brings that it tells of: a reserving has its nodes and its grant, a commit that begins writes the plan and gives up what
-- it does, and one that wrote nothing gives nothing.
abbrev pub FitsBringing : Numbered → Event Label → Type 0
FitsBringing named (Told core (label.Reserved commit seen grant)) = ReservedAs named commit seen.items grant
FitsBringing named (Told core (label.Began filling commit node stamp blocks inodes)) =
    BeginsAs (bringing_of named commit) filling.job (record { inodes = inodes.items; blocks = blocks.items })
FitsBringing named (Told core (label.Empty commit cut opened durable)) = IsEmptyAs (bringing_of named commit)
FitsBringing named _ = Unit {0}

-- so does each of a history
abbrev pub FitBringings : Numbered → List (Event Label) → Type 0
FitBringings named log = (event : Event Label) → IsOneOf log event → FitsBringing named event

-- Two maps have the same statuses.
pub record AreSameMaps (one other : Space) : Type 0 where
  pub inodes : (number : ℕ) → status_of one.inodes number ≡ status_of other.inodes number
  pub blocks : (number : ℕ) → status_of one.blocks number ≡ status_of other.blocks number

-- A history along which a map goes by labels, with its layout, the count of faults and the moment before it.
pub record Telling : Type 0 where
  pub layout : Layout
  pub before : ℕ
  pub moment : ℕ
  pub log : List (Event Label)
  pub first : Space
  pub now : Space

-- what its labels come to
abbrev pub past_of : Telling → BoxPast
past_of told = past_from told.layout told.log (first_past told.moment)

-- It is told by the rules, turns stand beside labels, and each event fits what commits bring.
pub record IsTold (named : Numbered) (told : Telling) : Type 0 where
  pub along : GoesAlong told.layout told.before told.moment told.log told.first told.now
  pub stand : StandBeside named.stamps told.log
  pub fit : FitBringings named told.log

-- what a core owes behind its own events of a history
abbrev pub owed_from : List (Event Label) → OwnOwed → OwnOwed
owed_from [] own = own
owed_from (Called entry ∷ log) own = owed_from log own
owed_from (Told core fact ∷ log) own = owed_from log (own_owed fact own)

-- no core owes a turn behind it
abbrev pub NobodyOwes : List (Event Label) → Type 0
NobodyOwes log = (core : ℕ) → (owed_from (entries_by event_core core log) nothing_owed).owes ≡ owes_nothing

-- A map goes along the turns that the labels make, and where no turn is owed it is the labels' map.
pub record IsDrawn (named : Numbered) (told : Telling) : Type 0 where
  pub drawn : Space
  pub goes : MapGoes named.pairs told.first (past_of told).turns drawn
  pub same : NobodyOwes told.log → AreSameMaps drawn told.now

-- So it is of each such history.
abbrev pub MapsAreDrawn : Type 0
MapsAreDrawn = (named : Numbered) (told : Telling) → IsTold named told → IsDrawn named told

-- A turn that reserves was noted in a history right behind the label that does, of a commit of its fsync.
pub record StandsByReserving (stamps : ℕ → ℕ) (front : List (Event Label)) (core : CoreId) (turn : Turn) : Type 0 where
  pub rest : List (Event Label)
  pub one : Reserving
  pub own : one.core.0 ≡ core.0
  pub whole : front ≡ rest ++ told_reserving one ∷ []
  pub stamp_is : turn.stamp.0 ≡ stamps one.commit

-- A turn that gives back was noted right behind the label that does, of a commit of its fsync.
pub record StandsByReturning (stamps : ℕ → ℕ) (front : List (Event Label)) (core : CoreId) (turn : Turn) : Type 0 where
  pub rest : List (Event Label)
  pub commit : ℕ
  pub teller : CoreId
  pub own : teller.0 ≡ core.0
  pub whole : front ≡ rest ++ Told teller (label.Returned commit) ∷ []
  pub stamp_is : turn.stamp.0 ≡ stamps commit

-- A turn was noted in a history: what was told before it, and behind it.
pub record NotesIn (log : List (Event Label)) (turn : Turn) : Type 0 where
  pub front : List (Event Label)
  pub core : CoreId
  pub back : List (Event Label)
  pub whole : log ≡ front ++ Told core (label.Noted turn) ∷ back

-- Each turn that reserves or gives back stands beside its label; and one that makes a commit durable is in its label, and is never noted.
pub record TurnsStand (stamps : ℕ → ℕ) (log : List (Event Label)) : Type 0 where
  pub granted : (turn : Turn) (noted : NotesIn log turn) → turn.act ≡ act.Granted → StandsByReserving stamps noted.front noted.core turn
  pub given_back : (turn : Turn) (noted : NotesIn log turn) → turn.act ≡ act.GivenBack → StandsByReturning stamps noted.front noted.core turn
  pub durable : (turn : Turn) → NotesIn log turn → turn.act ≢ act.Durable

-- So it is where each core's own events stand so.
abbrev pub TurnsStandBeside : Type 0
TurnsStandBeside = (layout : Layout) (before moment : ℕ) (stamps : ℕ → ℕ) (log : List (Event Label)) → MayFrom layout before log (first_past moment)
    → StandBeside stamps log → TurnsStand stamps log
