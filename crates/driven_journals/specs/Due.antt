-- What is due of a core, and when that is so by what it has told.
use Rattle.std.specs.Prelude.{◌≡◌, ◌<◌, Bool, true, false, Some, None}
use Rattle.space_map.specs.Space.{GrantedNumbers}
use Rattle.stamp_table.specs.Table.{TableState}
use Rattle.slot_laws.specs.Labels.{OwnTold}
use Rattle.disk_box.specs.declared.key.BoxKey.{BoxKey}
use Rattle.disk_box.specs.Pens.{IsOutside, PenHand, own_at}
use Rattle.journal_set.specs.Beginning.{CanBeWritten}
use Rattle.journal_set.specs.Flying.{IsUnderWay}
use Rattle.journal_set.specs.Grants.{grant_at}
use Rattle.journal_set.specs.declared.fault.CommitFault.{CommitFault}
use Rattle.journal_set.specs.declared.fault.CommitFault.TheVariants as fault
use Rattle.driven_journals.specs.declared.due.Due.{Due}
use Rattle.driven_journals.specs.declared.due.Due.TheVariants as due

-- whether nothing is due
abbrev pub is_at_rest : Due → Bool
is_at_rest due.Rests = true
is_at_rest (due.Waits writing) = false
is_at_rest (due.Flies flight) = false
is_at_rest due.Over = true

-- what is due behind a commit that was refused or failed
abbrev pub due_behind : CommitFault → Due
due_behind (fault.DiskFailed faults) = due.Over
due_behind (fault.NoSpace kind need free) = due.Rests
due_behind (fault.Stopped faults) = due.Over
due_behind (fault.Moved node last) = due.Rests
due_behind fault.NoMemory = due.Rests

-- A core has neither reserved nor a flight, and no failure has stopped it.
pub record IsEased (own : OwnTold) : Type 0 where
  pub none_reserved : own.reserved ≡ None
  pub no_flight : own.flight ≡ None
  pub goes_on : own.over ≡ false

module _ {D : Type 0} where
  -- A core is about to write.
  pub record IsToWrite (grant : GrantedNumbers) (pen : PenHand D) : Type 0 where
    pub grant_is : grant_at pen ≡ Some grant
    pub goes_on : (own_at pen).over ≡ false

  -- what is due is so by what the core has told
  abbrev pub IsDue : PenHand D → Due → Type 0
  IsDue pen due.Rests = IsEased (own_at pen)
  IsDue pen (due.Waits writing) = IsToWrite writing.grant pen × CanBeWritten pen.table.given.layout writing
  IsDue pen (due.Flies flight) = (opened : Bool) × IsUnderWay flight opened (own_at pen)
  IsDue pen due.Over = (own_at pen).over ≡ true

  -- A pen outside of the box, with room for it, of which this is due.
  pub record DueFits (t : TableState (BoxKey D)) (pen : PenHand D) (now : Due) : Type 0 where
    pub outside : IsOutside t pen
    pub room : 0 < pen.room
    pub is : IsDue pen now

  -- One of which nothing is due, and which may go on.
  pub record IsFree (t : TableState (BoxKey D)) (pen : PenHand D) : Type 0 where
    pub outside : IsOutside t pen
    pub room : 0 < pen.room
    pub eased : IsEased (own_at pen)

  -- One that has a grant for its next commit.
  pub record HasGrant (t : TableState (BoxKey D)) (pen : PenHand D) (grant : GrantedNumbers) : Type 0 where
    pub outside : IsOutside t pen
    pub room : 0 < pen.room
    pub writes : IsToWrite grant pen
    pub no_flight : (own_at pen).flight ≡ None
