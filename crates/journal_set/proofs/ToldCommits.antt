-- Which labels a pen tells of a commit: of its turns, and of all of them.
use Rattle.std.proofs.Common.{◌≡◌, ◌∷◌, ◌++◌, ◌∙◌, ℕ, List, [], refl, sym, ap, subst, inl, inr, Result, Ok, Err, Bool, false, IsErrAnd, IfErr}
use Rattle.sfs_base.proofs.BasicOptions.{some_same}
use Rattle.fmt_journal.specs.declared.tx.Tx.{Tx}
use Rattle.space_map.specs.Space.{GrantedNumbers}
use Rattle.tree_laws.specs.declared.turns.Turn.{Turn}
use Rattle.tree_laws.specs.declared.turns.TurnAct.TheVariants as act
use Rattle.cut_laws.specs.Closure.{Flush}
use Rattle.turn_laws.specs.Ways.{Way}
use Rattle.slot_laws.specs.Labels.{OwnTold, SlotFlight}
use Rattle.slot_laws.specs.Telling.{BoxTurn, AreOfWork, turn_works, turn_lands, turn_refuses, AreOfFlight}
use Rattle.slot_laws.specs.declared.label.Label.{Label}
use Rattle.slot_laws.specs.declared.label.Label.TheVariants as label
use Rattle.slot_laws.specs.Rules.{IsTurnBy}
use Rattle.disk_box.specs.declared.turns.Fsync.{Fsync}
use Rattle.disk_box.specs.Pens.{PenHand, PenGoes, TellsSteps, own_at, Tells}
use Rattle.disk_box.specs.Turns.{TellsFailure, TellsBegunFailure, TellsOpening, Lands, TellsHalt}
use Rattle.disk_box.specs.Steps.{OpensFlight}
use Rattle.journal_set.specs.declared.beginning.Writing.{Writing}
use Rattle.journal_set.specs.Committing.{IsPackedOf}
use Rattle.journal_set.specs.Telling.{written_in, written_of, IsOneTurn, OfReserved, AreTurnsTo, Written, TellsWork, begun_labels, commit_labels, BeginsAndEnds, flight_labels, TellsAtBox, TellsFault, TellsFailing, TellsFailingBegun, TellsGoing, TellsLanding, TellsOf, TellsBegin, end_labels, TellsRefusal, TellsNothing}
use Rattle.journal_set.specs.declared.fault.CommitFault.{CommitFault}
use Rattle.journal_set.specs.declared.fault.Ack.{Ack}
use Rattle.journal_set.specs.declared.flying.Progress.{Progress}
use Rattle.journal_set.specs.Flying.{NotLanded, flight_of, flush_of, IsUnderWay}
use Rattle.journal_set.specs.declared.flying.Flight.{Flight}
use Rattle.journal_set.specs.declared.fault.CommitFault.TheVariants as fault
use Rattle.journal_set.specs.declared.flying.Progress.TheVariants as progress
use Rattle.journal_set.proofs.Told.{tells_failing, tells_failing_begun, opening_by, works_flight, works_told, opening_turns, tells_nothing}
use Rattle.journal_set.proofs.Turned.{core_kept}

-- what was packed of a transaction writes what it does
pub packed_written : (tx : Tx) (grant : GrantedNumbers) (fsync : Fsync) (writing : Writing) → IsPackedOf tx grant fsync writing
    → written_in writing ≡ written_of tx
packed_written tx grant fsync writing packed =
    λ i. record { contents = packed.packed_is i; blocks = (packed.gives_up.0 i).items; inodes = (packed.gives_up.1 i).items }

-- a core that has waited writes what it was about to write
pub written_kept : (writing still : Writing) → record still { patience = writing.patience } ≡ writing → written_in still ≡ written_in writing
written_kept writing still same = ap written_in same

-- what is told of a number that is reserved, once for all turns
pub only_of : (own : OwnTold) (Is : ℕ → BoxTurn → Type 0) (turns : List BoxTurn) → IsOneTurn (OfReserved own Is) turns
    → OfReserved own (λ number. IsOneTurn (Is number)) turns
only_of own Is [] told = absurd told
only_of own Is (one ∷ []) told = record { number = told.number; had = told.had; is = told.is }
only_of own Is (one ∷ other ∷ turns) told = absurd told

pub to_of : (own : OwnTold) (Way : BoxTurn → Type 0) (Is : ℕ → BoxTurn → Type 0) (turns : List BoxTurn) → AreTurnsTo Way (OfReserved own Is) turns
    → OfReserved own (λ number. AreTurnsTo Way (Is number)) turns
to_of own Way Is turns told = record {
  number = told.is.number;
  had = told.is.had;
  is = record { way = told.way; last = told.last; ways = told.ways; is = told.is.is; turns_are = told.turns_are };
}

-- where it did not begin
pub unbegun_commits : (core : ℕ) (flush : Flush) (written : Written) (number : ℕ) (refused : CommitFault) (turns : List BoxTurn)
    → AreTurnsTo TellsWork (begun_labels core flush written number (Err refused)) turns → commit_labels core flush written number (Err refused) turns
unbegun_commits core flush written number (fault.DiskFailed faults) turns told = inl told
unbegun_commits core flush written number (fault.NoSpace kind need free) turns told = absurd told.is
unbegun_commits core flush written number (fault.Stopped faults) turns told = inl told
unbegun_commits core flush written number (fault.Moved node last) turns told = absurd told.is
unbegun_commits core flush written number fault.NoMemory turns told = absurd told.is

-- and where it did
pub begun_commits : (core : ℕ) (flush : Flush) (written : Written) (number : ℕ) (result : Result Ack CommitFault) (turns : List BoxTurn)
    → BeginsAndEnds core flush written number result turns → commit_labels core flush written number result turns
begun_commits core flush written number (Ok ack) turns told = told
begun_commits core flush written number (Err (fault.DiskFailed faults)) turns told = inr told
begun_commits core flush written number (Err (fault.NoSpace kind need free)) turns told = absurd told.ends.is
begun_commits core flush written number (Err (fault.Stopped faults)) turns told = inr told
begun_commits core flush written number (Err (fault.Moved node last)) turns told = absurd told.ends.is
begun_commits core flush written number (Err fault.NoMemory) turns told = absurd told.ends.is

-- a turn in which a commit goes on, or all of its slot is filled
pub going_is : (core number : ℕ) (flush : Flush) (how : Progress) → NotLanded how → (facts : List Label) → AreOfWork facts
    → flight_labels core number flush (Ok how) (turn_works facts)
going_is core number flush progress.Goes not facts work = work
going_is core number flush progress.Filled not facts work = work
going_is core number flush (progress.Durable ack) not facts work = absurd not

module _ {D : Type 0} where
  -- so may be more
  pub at_through : (before after : PenHand D) (Is Then : BoxTurn → Type 0) → ((one : BoxTurn) → Is one → Then one) → TellsAtBox Is before after
      → TellsAtBox Then before after
  at_through before after Is Then each tells = record { one = tells.one; is = each tells.one tells.is; mine_is = tells.mine_is }

  -- a device call has failed of a commit in a slot, before its gate was written or behind that
  pub fails_in_slot : (before mid after : PenHand D) (faults : ℕ) (flight still : Flight) → ((opened : Bool) → flight_of still opened ≡ flight_of flight opened)
      → PenGoes before mid → TellsSteps before mid → own_at mid ≡ own_at before → TellsFailure still.commit (flush_of still) mid after faults
      → TellsAtBox (TellsFault before.view.core flight.commit (flush_of flight) faults) before after
  fails_in_slot before mid after faults flight still same goes steps own fails =
      at_through before after (TellsFailing before.view.core flight.commit (flush_of flight) faults)
      (TellsFault before.view.core flight.commit (flush_of flight) faults) (λ one is. inl is)
      (tells_failing before mid after flight.commit faults (flush_of flight) goes steps own
      (subst (λ (f : SlotFlight). TellsFailure f.commit f.flush mid after faults) (same false) fails))

  fails_behind : (before mid after : PenHand D) (faults : ℕ) (flight : Flight) → PenGoes before mid → (facts : List Label)
      → AreOfFlight before.view.core flight.commit (flush_of flight) facts → Tells facts before mid
      → TellsBegunFailure flight.commit (flush_of flight) mid after faults
      → TellsAtBox (TellsFault before.view.core flight.commit (flush_of flight) faults) before after
  fails_behind before mid after faults flight goes facts of told fails =
      at_through before after (TellsFailingBegun before.view.core flight.commit (flush_of flight) faults)
      (TellsFault before.view.core flight.commit (flush_of flight) faults) (λ one is. inr is)
      (tells_failing_begun before mid after flight.commit faults (flush_of flight) goes facts of told fails)

  pub fails_working : (before mid after : PenHand D) (faults : ℕ) (flight still : Flight) → ((opened : Bool) → flight_of still opened ≡ flight_of flight opened)
      → PenGoes before mid → TellsSteps before mid → own_at mid ≡ own_at before → TellsBegunFailure still.commit (flush_of still) mid after faults
      → TellsAtBox (TellsFault before.view.core flight.commit (flush_of flight) faults) before after
  fails_working before mid after faults flight still same goes steps own fails =
      fails_behind before mid after faults flight goes steps.facts
      (works_flight before.view.core flight.commit (flush_of flight) steps.facts (works_told before mid steps own)) steps.mine_is
      (subst (λ (f : SlotFlight). TellsBegunFailure f.commit f.flush mid after faults) (same false) fails)

  -- the flight that is opened is the one under way
  its_flight : (before after : PenHand D) (flight : Flight) (opened : Bool) → IsUnderWay flight opened (own_at before)
      → (opens : OpensFlight before.view.core (own_at before) (own_at after)) → opens.flight ≡ flight_of flight opened
  its_flight before after flight opened under opens = some_same (sym opens.flew ∙ under.flies)

  -- the gate of a commit under way was written
  pub opens_under : (before after : PenHand D) (flight : Flight) (opened : Bool) → IsUnderWay flight opened (own_at before)
      → TellsOpening flight.slot before after → OpensFlight before.view.core (own_at before) (own_at after)
      → TellsAtBox (TellsGoing before.view.core flight.commit (flush_of flight)) before after
  opens_under before after flight opened under tells opens =
      let same = its_flight before after flight opened under opens in
      opening_by before after flight.slot flight.commit (flush_of flight) tells opens (ap (λ (f : SlotFlight). f.commit) same)
      (ap (λ (f : SlotFlight). f.flush) same)

  -- it was to be written, and the call failed
  pub fails_opening : (before mid after : PenHand D) (faults : ℕ) (flight : Flight) (opened : Bool) → IsUnderWay flight opened (own_at before)
      → PenGoes before mid → TellsOpening flight.slot before mid → OpensFlight before.view.core (own_at before) (own_at mid)
      → TellsBegunFailure flight.commit (flush_of flight) mid after faults
      → TellsAtBox (TellsFault before.view.core flight.commit (flush_of flight) faults) before after
  fails_opening before mid after faults flight opened under goes tells opens fails =
      let same = its_flight before mid flight opened under opens in
      fails_behind before mid after faults flight goes (label.Opened flight.slot tells.done tells.cut tells.opened ∷ []) (
        opening_turns before mid flight.slot flight.commit (flush_of flight) tells opens (ap (λ (f : SlotFlight). f.commit) same)
            (ap (λ (f : SlotFlight). f.flush) same),
        tt,
      ) tells.mine_is fails

  -- a commit under way has become durable
  pub lands_under : (before after : PenHand D) (turn : Turn) (flight : Flight) (opened : Bool) → IsUnderWay flight opened (own_at before)
      → Tells (label.Learned turn ∷ []) before after → Lands turn before.view.core (own_at before) (own_at after)
      → TellsAtBox (TellsLanding before.view.core flight.commit (flush_of flight) turn.now) before after
  lands_under before after turn flight opened under tells lands =
      let same : lands.flight ≡ flight_of flight opened = some_same (sym lands.flew ∙ under.flies) in
      record {
        one = turn_lands turn;
        is = (subst (λ (f : SlotFlight). IsTurnBy turn act.Durable before.view.core f.commit f.flush) same lands.by, refl);
        mine_is = tells;
      }

  -- a commit is halted
  pub halts_told : (before after : PenHand D) (number : ℕ) (flush : Flush) → TellsHalt number flush before after
      → TellsAtBox (TellsOf before.view.core number flush act.Halted) before after
  halts_told before after number flush halts = record { one = turn_refuses halts.turn; is = halts.by; mine_is = halts.mine_is }

  -- a commit that begins, and then ends in its slot
  pub begins_and_ends : (before mid after : PenHand D) → PenGoes before mid → (flush : Flush) (written : Written) (number : ℕ) (result : Result Ack CommitFault)
      → (first second : List BoxTurn) → AreTurnsTo TellsWork (TellsBegin before.view.core flush written number) first
      → AreTurnsTo (TellsGoing mid.view.core number flush) (end_labels mid.view.core number flush result) second
      → BeginsAndEnds before.view.core flush written number result (first ++ second)
  begins_and_ends before mid after goes flush written number result first second begins ends = record {
    first = first;
    second = second;
    begins = begins;
    ends = subst (λ n. AreTurnsTo (TellsGoing n number flush) (end_labels n number flush result) second) (core_kept before mid goes) ends;
    turns_are = refl;
  }

  -- memory was wanting, and nothing is told
  pub wants_memory : {V : Type 0} (pen : PenHand D) (core : ℕ) (flush : Flush) (result : Result V CommitFault)
      → IsErrAnd result (λ refused. refused ≡ fault.NoMemory) → IfErr result (λ refused. TellsAtBox (TellsRefusal core flush refused) pen pen)
  wants_memory pen core flush (Ok value) is = absurd is
  wants_memory pen core flush (Err refused) is =
      subst (λ r. TellsAtBox (TellsRefusal core flush r) pen pen) (sym is) (tells_nothing pen TellsNothing tt)
