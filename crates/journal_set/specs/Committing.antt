-- What comes of a commit with records, by cases of the answer.
use Rattle.std.specs.Prelude.{◌≡◌, ◌⊎◌, ◌∷◌, ◌++◌, ℕ, true, false, [], length, ◌<◌, Some, None, Result, Ok, Err, map}
use Rattle.std.specs.List.{All}
use Rattle.sfs_image.specs.Super.{Layout}
use Rattle.fmt_journal.specs.declared.tx.Tx.{Tx}
use Rattle.fmt_journal.specs.declared.tx.TxRecord.{TxRecord}
use Rattle.journal_one.specs.Job.{LiesInData}
use Rattle.journal_one.specs.Packed.{block_of, contents_of, inode_of_entry}
use Rattle.space_map.specs.Space.{GrantedNumbers}
use Rattle.cut_laws.specs.Closure.{Flush}
use Rattle.tree_laws.specs.declared.turns.Turn.{Turn}
use Rattle.tree_laws.specs.declared.turns.TurnAct.TheVariants as act
use Rattle.slot_laws.specs.Labels.{OwnTold, fsync_told}
use Rattle.slot_laws.specs.Rules.{IsTurnBy}
use Rattle.disk_box.specs.Pens.{PenHand, own_at}
use Rattle.disk_box.specs.Turns.{Fails, FailsBegun, Halts}
use Rattle.disk_box.specs.declared.turns.Fsync.{Fsync}
use Rattle.journal_set.specs.declared.beginning.Writing.{Writing}
use Rattle.journal_set.specs.declared.fault.Ack.{Ack}
use Rattle.journal_set.specs.declared.fault.CommitFault.{CommitFault}
use Rattle.journal_set.specs.declared.fault.CommitFault.TheVariants as fault
use Rattle.journal_set.specs.declared.flying.Flight.{Flight}
use Rattle.journal_set.specs.declared.waiting.Beginning.{Beginning}
use Rattle.journal_set.specs.declared.waiting.Beginning.TheVariants as beginning
use Rattle.journal_set.specs.Flying.{flight_of}
use Rattle.journal_set.specs.Grants.{grant_at}
use Rattle.journal_set.specs.Returning.{ReturnsNumber}

-- A transaction can be committed on a disk of this layout: it has records, their inodes are below the disk's, and its fresh blocks lie in the data area.
pub record CanBeCommitted (layout : Layout) (tx : Tx) : Type 0 where
  pub some : 0 < length tx.records.items
  pub below : All (λ (one : TxRecord). one.inode < layout.inodes) tx.records.items
  pub in_data : All (LiesInData layout) (map block_of tx.fresh.items)

-- What a commit writes was packed of a transaction, with its grant and for its fsync.
pub record IsPackedOf (tx : Tx) (grant : GrantedNumbers) (fsync : Fsync) (writing : Writing) : Type 0 where
  pub packed_is : writing.packed ≡ contents_of tx
  pub inodes_are : writing.inodes.items ≡ map inode_of_entry writing.packed.entries
  pub gives_up : (writing.freed_blocks ≡ tx.freed_blocks) × (writing.freed_inodes ≡ tx.freed_inodes)
  pub grant_is : writing.grant ≡ grant
  pub fsync_is : writing.fsync ≡ fsync

-- A core's commit begins in a slot, with the number that it had reserved.
pub record BeginsFlight (flight : Flight) (before after : OwnTold) : Type 0 where
  pub had : before.reserved ≡ Some flight.commit
  pub rests : before.flight ≡ None
  pub after_is : after ≡ record before { reserved = None; flight = Some (flight_of flight false) }

-- A core has waited for an idle slot, and has what it is about to write.
pub record WaitsToBegin {D : Type 0} (writing still : Writing) (before after : PenHand D) : Type 0 where
  pub same : record still { patience = writing.patience } ≡ writing
  pub own : own_at after ≡ own_at before
  pub grant : grant_at after ≡ grant_at before

-- Its commit, which has only reserved, is halted or fails.
pub record EndsUnbegun (Ends : ℕ → Type 0) (before : OwnTold) : Type 0 where
  pub number : ℕ
  pub had : before.reserved ≡ Some number
  pub ends : Ends number

-- why it did not begin
abbrev pub BeginFails : {D : Type 0} → Writing → PenHand D → PenHand D → CommitFault → Type 0
BeginFails writing before after (fault.DiskFailed faults) =
    EndsUnbegun (λ number. Fails number (fsync_told writing.fsync.node writing.fsync.stamp) before.view.core faults (own_at before) (own_at after)) (own_at
    before)
BeginFails writing before after (fault.NoSpace kind need free) = ⊥
BeginFails writing before after (fault.Stopped faults) =
    EndsUnbegun (λ number. Halts number (fsync_told writing.fsync.node writing.fsync.stamp) before.view.core (own_at before) (own_at after)) (own_at before)
BeginFails writing before after (fault.Moved node last) = ⊥
BeginFails writing before after fault.NoMemory = ⊥

-- it begins in a slot for its fsync
abbrev pub BeginsFor : {D : Type 0} → Writing → PenHand D → PenHand D → Flight → Type 0
BeginsFor writing before after flight = BeginsFlight flight (own_at before) (own_at after) × (flight.fsync ≡ writing.fsync)

-- what comes of a turn towards its beginning
abbrev pub BeginComes : {D : Type 0} → Writing → PenHand D → PenHand D → Result Beginning CommitFault → Type 0
BeginComes writing before after (Ok (beginning.Waits still)) = WaitsToBegin writing still before after
BeginComes writing before after (Ok (beginning.Begun flight)) = BeginsFor writing before after flight
BeginComes writing before after (Err refused) = BeginFails writing before after refused

-- and of all of them
abbrev pub HasBegun : {D : Type 0} → Writing → PenHand D → PenHand D → Result Flight CommitFault → Type 0
HasBegun writing before after (Ok flight) = BeginsFor writing before after flight
HasBegun writing before after (Err refused) = BeginFails writing before after refused

module _ (core : ℕ) (flush : Flush) (before : OwnTold) where
  -- A commit with this number has not begun, or it has, and its gate was not written.
  pub data IsShut (number : ℕ) (own : OwnTold) : Type 0 where
    not_begun : own ≡ before → IsShut number own
    in_slot : (k : ℕ) → own ≡ record before { reserved = None; flight = Some (record { slot = k; commit = number; flush = flush; opened = false }) }
        → IsShut number own

  -- Its gate was written: two turns were taken.
  pub record IsOpened (number : ℕ) (own : OwnTold) : Type 0 where
    pub slot : ℕ
    pub cut : Turn
    pub opened : Turn
    pub cut_by : IsTurnBy cut act.CutAt core number flush
    pub opened_by : IsTurnBy opened act.Opened core number flush
    pub own_is : own ≡ record before {
      reserved = None;
      flight = Some (record { slot = slot; commit = number; flush = flush; opened = true });
      told = before.told ++ cut ∷ opened ∷ [];
    }

  -- It became durable: its three turns were taken, and its core is free for the next.
  pub record BecomesDurable (ack : Ack) (after : OwnTold) : Type 0 where
    pub had : before.reserved ≡ Some ack.commit
    pub cut : Turn
    pub opened : Turn
    pub durable : Turn
    pub cut_by : IsTurnBy cut act.CutAt core ack.commit flush
    pub opened_by : IsTurnBy opened act.Opened core ack.commit flush
    pub durable_by : IsTurnBy durable act.Durable core ack.commit flush
    pub moment : durable.now ≡ ack.moment
    pub after_is : after ≡ record before { reserved = None; flight = None; told = before.told ++ cut ∷ opened ∷ durable ∷ [] }

  -- The disk failed it, before its gate was opened or behind that.
  pub record FailsCommit (faults : ℕ) (after : OwnTold) : Type 0 where
    pub number : ℕ
    pub had : before.reserved ≡ Some number
    pub middle : OwnTold
    pub fails : (IsShut number middle × Fails number flush core faults middle after)
        ⊎ (IsOpened number middle × FailsBegun number flush core faults middle after)

  -- It was halted, since an earlier one had failed.
  pub record HaltsCommit (after : OwnTold) : Type 0 where
    pub number : ℕ
    pub had : before.reserved ≡ Some number
    pub middle : OwnTold
    pub far : IsShut number middle ⊎ IsOpened number middle
    pub halts : Halts number flush core middle after

  -- what comes of it
  abbrev pub Commits : OwnTold → Result Ack CommitFault → Type 0
  Commits after (Ok ack) = BecomesDurable ack after
  Commits after (Err (fault.DiskFailed faults)) = FailsCommit faults after
  Commits after (Err (fault.NoSpace kind need free)) = ⊥
  Commits after (Err (fault.Stopped faults)) = HaltsCommit after
  Commits after (Err (fault.Moved node last)) = ⊥
  Commits after (Err fault.NoMemory) = ReturnsNumber core flush before after
