-- What comes of reserving, by cases of the answer.
use Rattle.std.specs.Prelude.{◌≡◌, ◌++◌, ◌∷◌, ℕ, List, Some, Result, Ok, Err, false}
use mathlib.Core.List.{IsPrefix}
use Rattle.sfs_base.specs.declared.numbers.NodeId.{NodeId}
use Rattle.sfs_base.specs.declared.numbers.SpaceKind.{SpaceKind}
use Rattle.space_map.specs.Space.{Space, GrantedNumbers, shortage}
use Rattle.space_map.specs.declared.grant.Need.{Need}
use Rattle.space_map.specs.declared.fault.SpaceFault.TheVariants as space_fault
use Rattle.tree_laws.specs.declared.turns.Turn.{Turn}
use Rattle.tree_laws.specs.declared.turns.TurnAct.TheVariants as act
use Rattle.cut_laws.specs.Closure.{Flush}
use Rattle.stamp_table.specs.declared.event.Event.{Event}
use Rattle.stamp_table.specs.declared.event.Event.TheVariants.{Told}
use Rattle.slot_laws.specs.declared.label.Label.{Label}
use Rattle.slot_laws.specs.declared.label.Label.TheVariants as label
use Rattle.slot_laws.specs.declared.label.Seen.{Seen}
use Rattle.slot_laws.specs.Nodes.{last_seen, last_ended}
use Rattle.slot_laws.specs.Labels.{own_label, first_past}
use Rattle.slot_laws.specs.Rules.{IsTurnBy}
use Rattle.slot_laws.specs.Grants.{SpaceGoes}
use Rattle.commit_ledger.specs.View.{LedgerView, moved_in}
use Rattle.commit_ledger.specs.Keeps.{LedgerKeeps}
use Rattle.disk_box.specs.Box.{past_of}
use Rattle.disk_box.specs.Pens.{PenHand, own_at}
use Rattle.disk_box.specs.Turns.{Halts}
use Rattle.journal_set.specs.declared.fault.CommitFault.{CommitFault}
use Rattle.journal_set.specs.declared.fault.CommitFault.TheVariants as fault
use Rattle.journal_set.specs.Grants.{grant_at}
use Rattle.journal_set.specs.Numbering.{IsNewerThan, WasReserved}

-- What is asked: for which fsync, for which nodes as they were seen, and how much.
pub record ReserveRequest : Type 0 where
  pub flush : Flush
  pub seen : List Seen
  pub need : Need

module _ {D : Type 0} (asked : ReserveRequest) (before after : PenHand D) where
  -- A number was reserved, above each that the core had reserved before, with a grant of what is needed, which was free, and the turn Granted was taken. No
  -- failure had stopped the core.
  pub record ReservesGrant (grant : GrantedNumbers) : Type 0 where
    pub number : ℕ
    pub turn : Turn
    pub by : IsTurnBy turn act.Granted before.view.core number asked.flush
    pub own : own_at after ≡ own_label (label.Noted turn) (record (own_at before) { reserved = Some number })
    pub grant_is : grant_at after ≡ Some grant
    pub goes_on : (own_at before).over ≡ false
    pub newer : IsNewerThan before.view.mine number
    pub reserved : WasReserved after.table.given after.view.seen before.view.core number asked.seen asked.need grant

  -- Too little was free, and the turn Short says of what, how much is needed and how much was free. None of the nodes had moved since they were seen.
  pub record FindsShort (kind : SpaceKind) (need free : ℕ) : Type 0 where
    pub turn : Turn
    pub by : IsTurnBy turn (act.Short kind need free) before.view.core 0 asked.flush
    pub own : own_at after ≡ own_label (label.Noted turn) (own_at before)
    pub front : List (Event Label)
    pub back : List (Event Label)
    pub whole : after.view.seen ≡ front ++ Told (record { 0 = before.view.core }) (label.Noted turn) ∷ back
    pub unmoved : (node last : ℕ) → last_seen asked.seen node ≡ Some last → (past_of after.table.given front).lasts node ≡ last_ended last
    pub space : Space
    pub goes : SpaceGoes after.table.given.layout front (first_past after.table.given.start) after.table.given.space space
    pub short : shortage space asked.need ≡ Some (space_fault.NoSpace kind need free)

  -- An earlier commit had failed, and the turn Halted was taken.
  pub record FindsStopped (faults : ℕ) : Type 0 where
    pub halts : Halts 0 asked.flush before.view.core (own_at before) (own_at after)
    pub front : List (Event Label)
    pub seen : IsPrefix front after.view.seen
    pub failed : (past_of after.table.given front).failed ≡ Some faults

  -- A node had moved: the first of those that were seen, with its last commit. Nothing was told of it.
  pub record FindsMoved (node : NodeId) (last : ℕ) : Type 0 where
    pub own : own_at after ≡ own_at before
    pub front : List (Event Label)
    pub seen : IsPrefix front after.view.seen
    pub ledger : LedgerView
    pub keeps : LedgerKeeps ledger (past_of after.table.given front)
    pub moved : moved_in ledger asked.seen ≡ Some (record { node = node; last = last })

  -- what comes of it
  abbrev pub Reserves : Result GrantedNumbers CommitFault → Type 0
  Reserves (Ok grant) = ReservesGrant grant
  Reserves (Err (fault.DiskFailed faults)) = ⊥
  Reserves (Err (fault.NoSpace kind need free)) = FindsShort kind need free
  Reserves (Err (fault.Stopped faults)) = FindsStopped faults
  Reserves (Err (fault.Moved node last)) = FindsMoved node last
  Reserves (Err fault.NoMemory) = own_at after ≡ own_at before
