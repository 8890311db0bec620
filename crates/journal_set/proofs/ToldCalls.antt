-- Which labels a pen tells of a whole call, by what it tells turn by turn.
use Rattle.std.proofs.Common.{◌≡◌, ◌∷◌, ◌++◌, ◌∙◌, ℕ, [], refl, sym, ap, subst, Bool, Result, Ok, Err, false}
use Rattle.sfs_base.specs.Lists.{Roomy}
use Rattle.sfs_base.proofs.BasicOptions.{some_same}
use Rattle.fmt_journal.specs.declared.tx.Tx.{Tx}
use Rattle.space_map.specs.Space.{GrantedNumbers}
use Rattle.tree_laws.specs.declared.turns.TurnAct.TheVariants as act
use Rattle.cut_laws.specs.Closure.{Flush}
use Rattle.stamp_table.specs.declared.event.Event.TheVariants.{Told}
use Rattle.slot_laws.specs.declared.label.Seen.{Seen}
use Rattle.slot_laws.specs.Nodes.{no_numbers}
use Rattle.slot_laws.specs.declared.label.Label.TheVariants as label
use Rattle.slot_laws.specs.Telling.{turn_empties}
use Rattle.slot_laws.specs.Rules.{IsTurnBy}
use Rattle.slot_laws.specs.Labels.{fsync_told, OwnTold, SlotFlight}
use Rattle.disk_box.specs.Pens.{PenHand, PenGoes, Tells, own_at}
use Rattle.disk_box.specs.declared.turns.Fsync.{Fsync}
use Rattle.disk_box.proofs.StepsTold.{tells_both}
use Rattle.journal_set.specs.Reserving.{ReserveRequest}
use Rattle.journal_set.specs.declared.fault.Ack.{Ack}
use Rattle.journal_set.specs.Telling.{TellsEnd, TellsAtBox, empty_labels, TellsCall, AreTurns, TellsWork, IsOneTurn, OfReserved, begun_labels, written_in, AreTurnsTo, Written, flight_labels, commit_labels, written_of, TellsGoing, end_labels, TellsBegin}
use Rattle.journal_set.specs.declared.beginning.Writing.{Writing}
use Rattle.journal_set.specs.declared.flying.Flight.{Flight}
use Rattle.journal_set.specs.declared.fault.CommitFault.{CommitFault}
use Rattle.journal_set.specs.Flying.{flight_of, flush_of}
use Rattle.journal_set.specs.declared.flying.Progress.{Progress}
use Rattle.journal_set.specs.Committing.{IsPackedOf, BeginsFor}
use Rattle.journal_set.proofs.Turned.{core_kept}
use Rattle.journal_set.proofs.ToldCommits.{written_kept, to_of, packed_written, unbegun_commits, begun_commits, begins_and_ends}
use Rattle.journal_set.proofs.Told.{calls_last, mine_both}

module _ {D : Type 0} where
  -- a commit without records: it has reserved its number with nothing, and has ended
  pub empty_told : (asked : ReserveRequest) (start mid after : PenHand D) (ack : Ack) (number : ℕ) (seen : Roomy Seen) (grant : GrantedNumbers)
      → grant ≡ no_numbers → ack.commit ≡ number → seen.items ≡ asked.seen → PenGoes start mid → Tells (label.Reserved number seen grant ∷ []) start mid
      → TellsEnd asked.flush ack mid after → TellsAtBox (empty_labels start.view.core asked (Ok ack)) start after
  empty_told asked start mid after ack number seen grant grants commit seen_is goes reserved ends =
      let core = core_kept start mid goes in
      record {
        one = turn_empties ack.commit seen ends.cut ends.opened ends.durable;
        is = (
          refl,
          seen_is,
          subst (λ n. IsTurnBy ends.cut act.CutAt n ack.commit asked.flush) core ends.cut_by,
          subst (λ n. IsTurnBy ends.opened act.Opened n ack.commit asked.flush) core ends.opened_by,
          subst (λ n. IsTurnBy ends.durable act.Durable n ack.commit asked.flush) core ends.durable_by,
          ends.moment,
        );
        mine_is = tells_both start mid after (label.Reserved ack.commit seen no_numbers ∷ []) (label.Empty ack.commit ends.cut ends.opened ends.durable ∷ []) goes
            (reserved ∙ (λ i. start.view.mine ++ Told (record { 0 = start.view.core }) (label.Reserved (sym commit i) seen (grants i)) ∷ [])) ends.mine_is;
      }

  -- a commit that has waited begins, or ends
  pub begun_told : (writing still : Writing) (before mid after : PenHand D) → own_at mid ≡ own_at before → PenGoes before mid
      → record still { patience = writing.patience } ≡ writing → TellsCall (AreTurns TellsWork) before mid → (result : Result Flight CommitFault)
      → TellsCall (IsOneTurn (OfReserved (own_at mid)
      (λ number. begun_labels mid.view.core (fsync_told still.fsync.node still.fsync.stamp) (written_in still) number result))) mid after
      → TellsCall (OfReserved (own_at before)
      (λ number. AreTurnsTo TellsWork (begun_labels before.view.core (fsync_told writing.fsync.node writing.fsync.stamp) (written_in writing) number result)))
      before after
  begun_told writing still before mid after own goes same tells result told =
      let core = core_kept before mid goes in
      let flush = ap (λ (w : Writing). fsync_told w.fsync.node w.fsync.stamp) same in
      let there : TellsCall (IsOneTurn (OfReserved (own_at before)
      (λ number. begun_labels before.view.core (fsync_told writing.fsync.node writing.fsync.stamp) (written_in writing) number result))) mid after =
      subst (λ (z : (ℕ × OwnTold) × (Flush × Written)). TellsCall (IsOneTurn (OfReserved z.0.1
      (λ number. begun_labels z.0.0 z.1.0 z.1.1 number result))) mid after)
      (λ i. ((core i, own i), (flush i, written_kept writing still same i))) told in
      let last = calls_last before mid after goes TellsWork (OfReserved (own_at before)
      (λ number. begun_labels before.view.core (fsync_told writing.fsync.node writing.fsync.stamp) (written_in writing) number result)) tells there in
      record {
        turns = last.turns;
        are = to_of (own_at before) TellsWork
            (λ number. begun_labels before.view.core (fsync_told writing.fsync.node writing.fsync.stamp) (written_in writing) number result) last.turns last.are;
        mine_is = last.mine_is;
      }

  -- a turn of a commit in a slot, behind others of it
  pub flight_told : (flight still : Flight) (before mid after : PenHand D) → PenGoes before mid → ((opened : Bool) → flight_of still opened ≡ flight_of flight opened)
      → (result : Result Progress CommitFault) → TellsCall (IsOneTurn (flight_labels mid.view.core still.commit (flush_of still) result)) mid after
      → TellsCall (IsOneTurn (flight_labels before.view.core flight.commit (flush_of flight) result)) mid after
  flight_told flight still before mid after goes same result told =
      subst (λ (z : ℕ × SlotFlight). TellsCall (IsOneTurn (flight_labels z.0 z.1.commit z.1.flush result)) mid after)
      (λ i. (core_kept before mid goes i, same false i)) told

  module _ (tx : Tx) (grant : GrantedNumbers) (fsync : Fsync) (writing : Writing) (packed : IsPackedOf tx grant fsync writing) where
    -- a commit that did not begin
    pub unbegun_told : (before after : PenHand D) (refused : CommitFault)
        → TellsCall (OfReserved (own_at before)
        (λ number. AreTurnsTo TellsWork (begun_labels before.view.core (fsync_told writing.fsync.node writing.fsync.stamp) (written_in writing) number
        (Err refused)))) before after
        → TellsCall (OfReserved (own_at before) (λ number. commit_labels before.view.core (fsync_told fsync.node fsync.stamp) (written_of tx) number (Err refused)))
        before after
    unbegun_told before after refused told =
        let core = before.view.core in
        let own = own_at before in
        let there : OfReserved (own_at before)
        (λ number. AreTurnsTo TellsWork (begun_labels before.view.core (fsync_told fsync.node fsync.stamp) (written_of tx) number (Err refused))) told.turns =
        subst (λ (z : Fsync × Written). OfReserved (own_at before)
        (λ number. AreTurnsTo TellsWork (begun_labels before.view.core (fsync_told z.0.node z.0.stamp) z.1 number (Err refused))) told.turns)
        (λ i. (packed.fsync_is i, packed_written tx grant fsync writing packed i)) told.are in
        record {
          turns = told.turns;
          are = record {
            number = there.number;
            had = there.had;
            is = unbegun_commits before.view.core (fsync_told fsync.node fsync.stamp) (written_of tx) there.number refused told.turns there.is;
          };
          mine_is = told.mine_is;
        }

    -- and one that did
    pub commit_told : (before mid after : PenHand D) → PenGoes before mid → (flight : Flight) → BeginsFor writing before mid flight
        → (result : Result Ack CommitFault)
        → TellsCall (OfReserved (own_at before)
        (λ number. AreTurnsTo TellsWork (begun_labels before.view.core (fsync_told writing.fsync.node writing.fsync.stamp) (written_in writing) number
        (Ok flight)))) before mid
        → TellsCall (AreTurnsTo (TellsGoing mid.view.core flight.commit (flush_of flight)) (end_labels mid.view.core flight.commit (flush_of flight) result)) mid after
        → TellsCall (OfReserved (own_at before) (λ number. commit_labels before.view.core (fsync_told fsync.node fsync.stamp) (written_of tx) number result))
        before after
    commit_told before mid after goes flight begins result told landed =
        let same : told.are.number ≡ flight.commit = some_same (sym told.are.had ∙ begins.0.had) in
        let begun : AreTurnsTo TellsWork (TellsBegin before.view.core (fsync_told fsync.node fsync.stamp) (written_of tx) flight.commit) told.turns =
        subst (λ (z : Fsync × (Written × ℕ)). AreTurnsTo TellsWork (TellsBegin before.view.core (fsync_told z.0.node z.0.stamp) z.1.0 z.1.1) told.turns)
        (λ i. (packed.fsync_is i, (packed_written tx grant fsync writing packed i, same i))) told.are.is in
        let ended : AreTurnsTo (TellsGoing mid.view.core flight.commit (fsync_told fsync.node fsync.stamp))
        (end_labels mid.view.core flight.commit (fsync_told fsync.node fsync.stamp) result) landed.turns =
        subst (λ (f : Fsync). AreTurnsTo (TellsGoing mid.view.core flight.commit (fsync_told f.node f.stamp))
        (end_labels mid.view.core flight.commit (fsync_told f.node f.stamp) result) landed.turns) (begins.1 ∙ packed.fsync_is) landed.are in
        record {
          turns = told.turns ++ landed.turns;
          are = record {
            number = flight.commit;
            had = begins.0.had;
            is = begun_commits before.view.core (fsync_told fsync.node fsync.stamp) (written_of tx) flight.commit result (told.turns ++ landed.turns)
                (begins_and_ends before mid after goes (fsync_told fsync.node fsync.stamp) (written_of tx) flight.commit result told.turns landed.turns begun ended);
          };
          mine_is = mine_both before mid after told.turns landed.turns (core_kept before mid goes) told.mine_is landed.mine_is;
        }
