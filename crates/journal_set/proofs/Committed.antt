-- What the turns of a commit come to as a whole.
use Rattle.std.proofs.Common.{◌≡◌, ◌<◌, ◌∷◌, ◌++◌, ◌∙◌, ℕ, [], true, false, Some, None, Result, Ok, Err, inl, inr, refl, sym, ap, subst, append_assoc}
use Rattle.std.specs.Prelude.{◌⊎◌}
use Rattle.std.specs.List.{All}
use Rattle.std.proofs.lemmas.List.Elements.{All-map}
use Rattle.sfs_base.proofs.BasicOptions.{none_some, some_same}
use Rattle.sfs_base.proofs.BasicTruth.{true_not_false}
use Rattle.sfs_image.specs.Super.{Layout}
use Rattle.sfs_image.specs.Journal.{Entry}
use Rattle.fmt_journal.specs.declared.tx.Tx.{Tx}
use Rattle.journal_one.specs.Job.{LiesInData}
use Rattle.journal_one.specs.Packed.{Contents, record_entry}
use Rattle.space_map.specs.Space.{GrantedNumbers}
use Rattle.cut_laws.specs.Closure.{Flush}
use Rattle.tree_laws.specs.declared.turns.TurnAct.TheVariants as act
use Rattle.slot_laws.specs.Labels.{OwnTold, SlotFlight, fsync_told}
use Rattle.slot_laws.specs.Rules.{IsTurnBy}
use Rattle.disk_box.specs.Pens.{PenHand, own_at}
use Rattle.disk_box.specs.Steps.{OpensFlight}
use Rattle.disk_box.specs.declared.turns.Fsync.{Fsync}
use Rattle.journal_set.specs.declared.beginning.Writing.{Writing}
use Rattle.journal_set.specs.declared.fault.Ack.{Ack}
use Rattle.journal_set.specs.declared.fault.CommitFault.{CommitFault}
use Rattle.journal_set.specs.declared.fault.CommitFault.TheVariants as fault
use Rattle.journal_set.specs.declared.flying.Flight.{Flight}
use Rattle.journal_set.specs.Beginning.{CanBeWritten}
use Rattle.journal_set.specs.Committing.{BecomesDurable, BeginFails, BeginsFlight, CanBeCommitted, Commits, IsOpened, IsPackedOf, IsShut}
use Rattle.journal_set.specs.Committing.IsShut.{in_slot, not_begun}
use Rattle.journal_set.specs.Flying.{EndsFlight, GoesOn, IsUnderWay, LandsWith, flight_of, flush_of}
use Rattle.journal_set.proofs.Turned.{goes_on_both}

-- what can be committed can be written, once it is packed
pub packed_can_be_written : (layout : Layout) (tx : Tx) (grant : GrantedNumbers) (fsync : Fsync) (writing : Writing) → CanBeCommitted layout tx
    → IsPackedOf tx grant fsync writing → CanBeWritten layout writing
packed_can_be_written layout tx grant fsync writing can packed = record {
  noted = packed.inodes_are;
  below = subst (λ (c : Contents). All (λ (entry : Entry). entry.inode < layout.inodes) c.entries) (sym packed.packed_is)
      (All-map (λ (entry : Entry). entry.inode < layout.inodes) record_entry tx.records.items can.below);
  in_data = subst (λ (c : Contents). All (LiesInData layout) c.fresh) (sym packed.packed_is) can.in_data;
}

-- A core that had reserved begins a commit in a slot.
module _ (core : ℕ) (flight : Flight) (before begun : OwnTold) (begins : BeginsFlight flight before begun) (goes_on : before.over ≡ false) where
  -- its commit is under way
  pub begun_under : IsUnderWay flight false begun
  begun_under = record {
    flies = ap (λ (o : OwnTold). o.flight) begins.after_is;
    none_reserved = ap (λ (o : OwnTold). o.reserved) begins.after_is;
    goes_on = ap (λ (o : OwnTold). o.over) begins.after_is ∙ goes_on;
  }

  abbrev flush : Flush
  flush = flush_of flight

  shut_begun : IsShut core flush before flight.commit begun
  shut_begun = in_slot flight.slot begins.after_is

  -- its gate is opened
  opened_now : (middle : OwnTold) → OpensFlight core begun middle → IsOpened core flush before flight.commit middle
  opened_now middle opens =
      let same : opens.flight ≡ flight_of flight false =
      some_same (sym opens.flew ∙ ap (λ (o : OwnTold). o.flight) begins.after_is)
      in
      record {
        slot = flight.slot;
        cut = opens.cut;
        opened = opens.opened;
        cut_by = subst (λ (f : SlotFlight). IsTurnBy opens.cut act.CutAt core f.commit f.flush) same opens.cut_by;
        opened_by = subst (λ (f : SlotFlight). IsTurnBy opens.opened act.Opened core f.commit f.flush) same opens.opened_by;
        own_is = opens.after_is
            ∙ (λ i. record (begins.after_is i) {
              flight = Some (record (same i) { opened = true });
              told = (begins.after_is i).told ++ opens.cut ∷ opens.opened ∷ [];
            });
      }

  -- it has gone so far
  far : (middle : OwnTold) → GoesOn core begun middle → IsShut core flush before flight.commit middle ⊎ IsOpened core flush before flight.commit middle
  far middle goes = elim goes [
    | inl same ↦ inl (subst (IsShut core flush before flight.commit) (sym same) shut_begun)
    | inr opens ↦ inr (opened_now middle opens)
  ]

  flight_gone : (middle : OwnTold) → IsShut core flush before flight.commit middle → (other : SlotFlight) → middle.flight ≡ Some other → other.opened ≡ true
      → ⊥
  flight_gone middle (not_begun same) other flew opened =
      absurd (none_some (sym (ap (λ (o : OwnTold). o.flight) same ∙ begins.rests) ∙ flew))
  flight_gone middle (in_slot k same) other flew opened =
      let is = some_same (sym (ap (λ (o : OwnTold). o.flight) same) ∙ flew) in
      absurd (true_not_false (sym opened ∙ ap (λ (f : SlotFlight). f.opened) (sym is)))

  -- it lands
  lands_durable : (ack : Ack) (middle after : OwnTold) → GoesOn core begun middle → LandsWith ack core middle after
      → BecomesDurable core flush before ack after
  lands_durable ack middle after goes with = elim (far middle goes) [
    | inl shut ↦ absurd (flight_gone middle shut with.lands.flight with.lands.flew with.lands.opened)
    | inr begun_open ↦
        let same : with.lands.flight ≡ record { slot = begun_open.slot; commit = flight.commit; flush = flush; opened = true } =
        some_same (sym with.lands.flew ∙ ap (λ (o : OwnTold). o.flight) begun_open.own_is)
        in
        let by : IsTurnBy with.turn act.Durable core flight.commit flush =
        subst (λ (f : SlotFlight). IsTurnBy with.turn act.Durable core f.commit f.flush) same with.lands.by
        in
        let number : flight.commit ≡ ack.commit = sym by.commit_is ∙ with.commit in
        record {
          had = begins.had ∙ ap Some number;
          cut = begun_open.cut;
          opened = begun_open.opened;
          durable = with.turn;
          cut_by = subst (λ n. IsTurnBy begun_open.cut act.CutAt core n flush) number begun_open.cut_by;
          opened_by = subst (λ n. IsTurnBy begun_open.opened act.Opened core n flush) number begun_open.opened_by;
          durable_by = subst (λ n. IsTurnBy with.turn act.Durable core n flush) number by;
          moment = with.moment;
          after_is = with.lands.after_is
              ∙ ((λ i. record (begun_open.own_is i) { flight = None; told = (begun_open.own_is i).told ++ with.turn ∷ [] })
              ∙ ap (λ l. record before { reserved = None; flight = None; told = l })
              (append_assoc before.told (begun_open.cut ∷ begun_open.opened ∷ []) (with.turn ∷ [])));
        }
  ]

  -- what its turns come to is what a commit comes to
  pub ends_commits : (after : OwnTold) (result : Result Ack CommitFault) → EndsFlight flight core begun after result
      → Commits core flush before after result
  ends_commits after (Ok ack) ends = lands_durable ack ends.middle after ends.goes ends.ends
  ends_commits after (Err (fault.DiskFailed faults)) ends = elim ends.ends [
    | inl shut ↦ record {
      number = flight.commit;
      had = begins.had;
      middle = ends.middle;
      fails = elim (far ends.middle ends.goes) [
        | inl not_open ↦ inl (not_open, shut.fails)
        | inr begun_open ↦
            let is = some_same (sym shut.shut ∙ ap (λ (o : OwnTold). o.flight) begun_open.own_is) in
            absurd (true_not_false (sym (ap (λ (f : SlotFlight). f.opened) is)))
      ];
    }
    | inr opened ↦ record {
      number = flight.commit;
      had = begins.had;
      middle = opened.middle;
      fails = elim (far opened.middle (goes_on_both flight core begun ends.middle opened.middle begun_under ends.goes opened.goes)) [
        | inl not_open ↦ absurd (flight_gone opened.middle not_open (flight_of flight true) opened.opened refl)
        | inr begun_open ↦ inr (begun_open, opened.fails)
      ];
    }
  ]
  ends_commits after (Err (fault.NoSpace kind need free)) ends = absurd ends.ends
  ends_commits after (Err (fault.Stopped faults)) ends = record {
    number = flight.commit;
    had = begins.had;
    middle = ends.middle;
    far = far ends.middle ends.goes;
    halts = ends.ends;
  }
  ends_commits after (Err (fault.Moved node last)) ends = absurd ends.ends
  ends_commits after (Err fault.NoMemory) ends = absurd ends.ends

-- So it is of one that did not begin.
pub begin_commits : {D : Type 0} (writing : Writing) (before after : PenHand D) (refused : CommitFault) → BeginFails writing before after refused
    → Commits before.view.core (fsync_told writing.fsync.node writing.fsync.stamp) (own_at before) (own_at after) (Err refused)
begin_commits writing before after (fault.DiskFailed faults) fails =
    record { number = fails.number; had = fails.had; middle = own_at before; fails = inl (not_begun refl, fails.ends) }
begin_commits writing before after (fault.NoSpace kind need free) fails = absurd fails
begin_commits writing before after (fault.Stopped faults) fails =
    record { number = fails.number; had = fails.had; middle = own_at before; far = inl (not_begun refl); halts = fails.ends }
begin_commits writing before after (fault.Moved node last) fails = absurd fails
begin_commits writing before after fault.NoMemory fails = absurd fails
