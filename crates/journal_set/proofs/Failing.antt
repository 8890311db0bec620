-- What a step of a commit under way leaves, and how it fails.
use Rattle.std.proofs.Common.{◌≡◌, ◌<◌, ◌≤◌, ◌∙◌, ℕ, Bool, true, false, None, Ok, Err, inl, inr, sym, ap, subst, arith}
use Rattle.sfs_base.specs.Ends.{HasRisen}
use Rattle.sfs_dev.specs.Disk.{View}
use Rattle.cut_laws.specs.Closure.{Flush}
use Rattle.stamp_table.specs.Table.{TableState}
use Rattle.slot_laws.specs.Labels.{OwnTold, SlotFlight}
use Rattle.disk_box.specs.declared.key.BoxKey.{BoxKey}
use Rattle.disk_box.specs.declared.desk.Desk.{Desk}
use Rattle.disk_box.specs.Desk.{owed_by_flight, owed_of}
use Rattle.disk_box.specs.Pens.{HoldsBox, IsAtDesk, PenGoes, PenHand, WorksAtDesk, own_at, past_at}
use Rattle.disk_box.specs.Steps.{Steps}
use Rattle.disk_box.specs.Turns.{Fails, FailsBegun}
use Rattle.journal_set.specs.declared.fault.CommitFault.TheVariants as fault
use Rattle.journal_set.specs.declared.flying.Flight.{Flight}
use Rattle.journal_set.specs.declared.flying.Progress.{Progress}
use Rattle.journal_set.specs.declared.flying.Progress.TheVariants as progress
use Rattle.journal_set.specs.Flying.{GoesOn, IsUnderWay, NotLanded, TurnComes, flight_of, flush_of}
use Rattle.journal_set.proofs.Aloft.{owed_at}
use Rattle.journal_set.proofs.Turned.{core_kept}

-- a core at work is at the desk
pub at_of_work : {D : Type 0} (view : D → View) (t : TableState (BoxKey D)) (pen : PenHand D) (desk : Desk D) → WorksAtDesk view t pen desk
    → IsAtDesk view t pen desk
at_of_work view t pen desk work = record { holds = work.holds; fits = work.fits; space = work.space }

-- a turn that goes on comes to that
pub progress_comes : (flight : Flight) (core : ℕ) (before after : OwnTold) (far : Progress) → NotLanded far → GoesOn core before after
    → TurnComes flight core before after (Ok far)
progress_comes flight core before after progress.Goes not goes = goes
progress_comes flight core before after progress.Filled not goes = goes
progress_comes flight core before after (progress.Durable ack) not goes = absurd not

-- A call has failed of a commit under way: no turn waits for its core, and it may take its last turns.
module _ {D V : Type 0} (view : D → View) (t : TableState (BoxKey D)) (before after : PenHand D) (desk : Desk D) (faults : ℕ)
    (steps : Steps view t {V = V} before after desk (Err faults)) (learned : (past_at before).waits before.view.core ≡ None) where
  pub still_learned : (past_at after).waits after.view.core ≡ None
  still_learned = ap (past_at after).waits (core_kept before after steps.goes) ∙ (steps.waits ∙ learned)

  pub owes_shut : (flight : Flight) → IsUnderWay flight false (own_at after) → 2 ≤ owed_of ((past_at after).owns after.view.core) None
  owes_shut flight under = (let is = owed_at t after steps.err.holds flight false under in omega (arith, is))

  pub owes_opened : (flight : Flight) → IsUnderWay flight true (own_at after) → 1 ≤ owed_of ((past_at after).owns after.view.core) None
  owes_opened flight under = (let is = owed_at t after steps.err.holds flight true under in omega (arith, is))

  -- the cause lasts
  pub risen_still : (last : PenHand D) → PenGoes after last → HasRisen last.table.given.faults faults
  risen_still last goes = subst (λ (k : BoxKey D). HasRisen k.faults faults) (sym (ap (λ (h : PenHand D). h.table.given) goes.frame)) steps.err.risen

-- a commit under way may take a turn
some_owed : (flight : Flight) (opened : Bool) → 0 < owed_by_flight (flight_of flight opened)
some_owed flight true = omega arith
some_owed flight false = omega arith

pub owes_some : {D : Type 0} (t : TableState (BoxKey D)) (pen : PenHand D) → HoldsBox t pen → (flight : Flight) (opened : Bool)
    → IsUnderWay flight opened (own_at pen)
    → 0 < owed_of ((past_at pen).owns pen.view.core) None
owes_some t pen holds flight opened under = subst (λ n. 0 < n) (sym (owed_at t pen holds flight opened under)) (some_owed flight opened)

-- The failure of a commit under way, as what comes of its turn: `told` is what its core goes by, which has the flight's number and fsync.
module _ {D : Type 0} (view : D → View) (t : TableState (BoxKey D)) (before mid after : PenHand D) (faults : ℕ) (flight told : Flight) where
  same_fails : ((opened : Bool) → flight_of told opened ≡ flight_of flight opened)
      → ◌≡◌ {A = ℕ × Flush} (told.commit, flush_of told) (flight.commit, flush_of flight)
  same_fails same = ap (λ (f : SlotFlight). (f.commit, f.flush)) (same false)

  pub fails_shut : IsUnderWay flight false (own_at before) → PenGoes before mid → own_at mid ≡ own_at before
      → ((opened : Bool) → flight_of told opened ≡ flight_of flight opened)
      → Fails told.commit (flush_of told) mid.view.core faults (own_at mid) (own_at after)
      → TurnComes flight before.view.core (own_at before) (own_at after) (Err (fault.DiskFailed faults))
  fails_shut under goes own same fails = inl (record {
    shut = under.flies;
    fails = subst (λ (z : (ℕ × Flush) × (ℕ × OwnTold)). Fails z.0.0 z.0.1 z.1.0 faults z.1.1 (own_at after))
        (λ i. (same_fails same i, (core_kept before mid goes i, own i))) fails;
  })

  pub fails_opened : IsUnderWay flight true (own_at mid) → PenGoes before mid → GoesOn before.view.core (own_at before) (own_at mid)
      → ((opened : Bool) → flight_of told opened ≡ flight_of flight opened)
      → FailsBegun told.commit (flush_of told) mid.view.core faults (own_at mid) (own_at after)
      → TurnComes flight before.view.core (own_at before) (own_at after) (Err (fault.DiskFailed faults))
  fails_opened under goes on same fails = inr (record {
    middle = own_at mid;
    goes = on;
    opened = under.flies;
    fails = subst (λ (z : (ℕ × Flush) × ℕ). FailsBegun z.0.0 z.0.1 z.1 faults (own_at mid) (own_at after))
        (λ i. (same_fails same i, core_kept before mid goes i)) fails;
  })
