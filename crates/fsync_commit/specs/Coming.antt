-- What comes of committing a planned change at the journals of all cores, by what was asked of them in turn.
use Rattle.std.specs.Prelude.{◌≡◌, ◌<◌, List, [], length, Contains, Result, Ok, Err, IfErr}
use Rattle.sfs_image.specs.Super.{Layout}
use Rattle.fmt_journal.specs.declared.tx.Tx.{Tx}
use Rattle.space_map.specs.Space.{GrantedNumbers}
use Rattle.keyed_list.specs.Ascending.{AscendBy}
use Rattle.disk_nodes.specs.Nodes.{entry_node}
use Rattle.disk_nodes.specs.declared.old.OldEntry.{OldEntry}
use Rattle.disk_change.specs.AllBuilt.{after_commit}
use Rattle.disk_change.specs.Planned.{Planned}
use Rattle.disk_change.specs.Written.{IsTransactionOf}
use Rattle.slot_laws.specs.Nodes.{no_numbers}
use Rattle.cut_laws.specs.Closure.{Flush}
use Rattle.disk_box.specs.Pens.{PenGoes, PenHand, own_at}
use Rattle.journal_set.specs.declared.fault.Ack.{Ack}
use Rattle.journal_set.specs.declared.fault.CommitFault.{CommitFault}
use Rattle.journal_set.specs.declared.fault.CommitFault.TheVariants as fault
use Rattle.journal_set.specs.Committing.{Commits}
use Rattle.journal_set.specs.Emptying.{Empties, NOTHING}
use Rattle.journal_set.specs.Flying.{IsCausedBy}
use Rattle.journal_set.specs.Reserving.{Reserves}
use Rattle.journal_set.specs.Returning.{ReturnsNumber}
use Rattle.journal_set.specs.Telling.{IsOneTurn, OfReserved, TellsCall, TellsReturn, commit_labels, empty_labels, reserve_labels, written_of}
use Rattle.fsync_commit.specs.Asked.{CommitRequest, emptying_of, need_planned, reserving_of}
use Rattle.fsync_commit.specs.declared.landing.CommitRefusal.{CommitRefusal}
use Rattle.fsync_commit.specs.declared.landing.Landed.{Landed}

-- A durable commit hands out its acknowledgement, and of the nodes of its change what the disk had, and what it has with this grant.
pub record HandsLanded (change : Planned) (grant : GrantedNumbers) (ack : Ack) (landed : Landed) : Type 0 where
  pub ack_is : landed.ack ≡ ack
  pub old_is : landed.nodes.old ≡ change.old
  pub after_is : landed.nodes.after ≡ after_commit change grant
  pub ascends : AscendBy entry_node landed.nodes.after

-- A commit that did not become durable hands back what the disk has of the nodes, as it was.
pub record HandsBack (change : Planned) (why : CommitFault) (refusal : CommitRefusal) : Type 0 where
  pub fault_is : refusal.fault ≡ why
  pub old_is : refusal.old.items ≡ change.old

-- what is handed out, by what the journals answered
abbrev pub HandsOut : Planned → GrantedNumbers → Result Ack CommitFault → Result Landed CommitRefusal → Type 0
HandsOut change grant (Ok ack) (Ok landed) = HandsLanded change grant ack landed
HandsOut change grant (Ok ack) (Err refusal) = ⊥
HandsOut change grant (Err why) (Ok landed) = ⊥
HandsOut change grant (Err why) (Err refusal) = HandsBack change why refusal

module _ {D : Type 0} (flush : Flush) (before after : PenHand D) where
  -- A core gave its number and its grant back.
  pub record HandsGrantBack : Type 0 where
    pub comes : ReturnsNumber before.view.core flush (own_at before) (own_at after)
    pub tells : TellsCall (IsOneTurn (OfReserved (own_at before) (λ number. TellsReturn before.view.core number flush))) before after

  -- The transaction of a change with a grant has records, and was given to the journals to be committed.
  pub record CommitsBuilt (change : Planned) (grant : GrantedNumbers) (given : Result Ack CommitFault) : Type 0 where
    pub tx : Tx
    pub is : IsTransactionOf change grant tx
    pub some : 0 < length tx.records.items
    pub comes : Commits before.view.core flush (own_at before) (own_at after) given
    pub tells : TellsCall (OfReserved (own_at before) (λ number. commit_labels before.view.core flush (written_of tx) number given)) before after
    pub cause : IfErr given (IsCausedBy after)

  -- What becomes of a grant: it is given back, since memory was wanting, or since there is nothing to write though something was needed; or the
  -- transaction is committed, or not.
  pub data GrantComes (change : Planned) (grant : GrantedNumbers) (result : Result Landed CommitRefusal) : Type 0 where
    gave_back : HandsGrantBack → HandsOut change no_numbers (Err fault.NoMemory) result → GrantComes change grant result
    committed : (given : Result Ack CommitFault) → CommitsBuilt change grant given → HandsOut change grant given result → GrantComes change grant result

module _ {D : Type 0} (asked : CommitRequest) (before after : PenHand D) where
  -- A number was refused.
  pub record IsUnnumbered (why : CommitFault) : Type 0 where
    pub comes : Reserves (reserving_of asked) before after (Err why)
    pub tells : TellsCall (IsOneTurn (reserve_labels before.view.core (reserving_of asked) (Err why))) before after

  -- A number was reserved, with a grant of what the change needs.
  pub record ReservesItsNumber (grant : GrantedNumbers) : Type 0 where
    pub goes : PenGoes before after
    pub comes : Reserves (reserving_of asked) before after (Ok grant)
    pub tells : TellsCall (IsOneTurn (reserve_labels before.view.core (reserving_of asked) (Ok grant))) before after

  -- The change needs nothing and its transaction has no record: it took its one turn, or was refused that.
  pub record EndsUnwritten (given : Result Ack CommitFault) : Type 0 where
    pub tx : Tx
    pub is : IsTransactionOf asked.change no_numbers tx
    pub none : tx.records.items ≡ []
    pub nothing : need_planned asked.change ≡ NOTHING
    pub comes : Empties (emptying_of asked) before after given
    pub tells : TellsCall (IsOneTurn (empty_labels before.view.core (emptying_of asked) given)) before after

-- What comes of it: memory was wanting before the journals were asked; a number was refused; it was reserved with a grant, of which something came; or
-- there was nothing to write.
pub data PlanComesTo {D : Type 0} (asked : CommitRequest) (before after : PenHand D) (result : Result Landed CommitRefusal) : Type 0 where
  unasked : after ≡ before → HandsOut asked.change no_numbers (Err fault.NoMemory) result → PlanComesTo asked before after result
  unnumbered : (why : CommitFault) → IsUnnumbered asked before after why → HandsOut asked.change no_numbers (Err why) result
      → PlanComesTo asked before after result
  numbered : (middle : PenHand D) (grant : GrantedNumbers) → ReservesItsNumber asked before middle grant
      → GrantComes asked.flush middle after asked.change grant result → PlanComesTo asked before after result
  settled : (given : Result Ack CommitFault) → EndsUnwritten asked before after given → HandsOut asked.change no_numbers given result
      → PlanComesTo asked before after result

-- the answer of the commit; an fsync that is refused since a node has moved has none yet, and begins anew
abbrev pub given_by : Result Landed CommitRefusal → Result Ack CommitFault
given_by (Ok landed) = Ok landed.ack
given_by (Err refusal) = Err refusal.fault

-- what the disk has of a durable commit's nodes has inodes of a disk of this layout
abbrev pub AreLow : Layout → Result Landed CommitRefusal → Type 0
AreLow layout (Ok landed) = (entry : OldEntry) → Contains landed.nodes.after entry → entry.old.number < layout.inodes
AreLow layout (Err refusal) = Unit {0}
