-- What is due of a core behind each call, by what it has told.
use Rattle.std.proofs.Common.{◌≡◌, ◌∙◌, ◌||◌, ◌<◌, ℕ, Bool, true, false, Some, None, Ok, Err, inl, inr, sym, ap, subst}
use Rattle.sfs_image.specs.Super.{Layout}
use Rattle.cut_laws.specs.Closure.{Flush}
use Rattle.space_map.specs.Space.{GrantedNumbers}
use Rattle.stamp_table.specs.Table.{TableState}
use Rattle.slot_laws.specs.Labels.{OwnTold, ends_all}
use Rattle.disk_box.specs.declared.key.BoxKey.{BoxKey}
use Rattle.disk_box.specs.Pens.{IsOutside, PenGoes, PenHand, own_at}
use Rattle.disk_box.specs.Turns.{FailsBegun, Halts}
use Rattle.journal_set.specs.declared.beginning.Writing.{Writing}
use Rattle.journal_set.specs.declared.fault.Ack.{Ack}
use Rattle.journal_set.specs.declared.fault.CommitFault.{CommitFault}
use Rattle.journal_set.specs.declared.fault.CommitFault.TheVariants as fault
use Rattle.journal_set.specs.declared.flying.Flight.{Flight}
use Rattle.journal_set.specs.Beginning.{CanBeWritten}
use Rattle.journal_set.specs.Committing.{BeginFails, BeginsFor, Commits, WaitsToBegin}
use Rattle.journal_set.specs.Emptying.{Empties}
use Rattle.journal_set.specs.Flying.{GoesOn, LandsWith, TurnFails, flight_of}
use Rattle.journal_set.specs.Reserving.{ReserveRequest, Reserves}
use Rattle.journal_set.specs.Ready.{IsReady}
use Rattle.journal_set.specs.Returning.{ReturnsNumber}
use Rattle.journal_set.proofs.BegunAround.{written_still}
use Rattle.journal_set.proofs.Committed.{begun_under}
use Rattle.journal_set.proofs.Turned.{under_again, under_told}
use Rattle.driven_journals.specs.declared.due.Due.{Due}
use Rattle.driven_journals.specs.Due.{DueFits, HasGrant, IsDue, IsEased, IsFree, IsToWrite, due_behind}
use Rattle.driven_journals.specs.declared.due.Due.TheVariants as due

-- a core that was halted, or whose commit failed, is stopped
halted : (number : ℕ) (flush : Flush) (core : ℕ) (before after : OwnTold) → Halts number flush core before after → after.over ≡ true
halted number flush core before after halts =
    ap (λ (o : OwnTold). o.over) halts.after_is ∙ ap (λ b. b || before.over) (ap ends_all halts.by.did_is)

failed : (number : ℕ) (flush : Flush) (core faults : ℕ) (before after : OwnTold) → FailsBegun number flush core faults before after → after.over ≡ true
failed number flush core faults before after fails =
    ap (λ (o : OwnTold). o.over) fails.after_is ∙ ap (λ b. b || before.over) (ap ends_all fails.by.did_is)

-- one that gave back is free
returned : (core : ℕ) (flush : Flush) (before after : OwnTold) → ReturnsNumber core flush before after → before.over ≡ false → before.flight ≡ None
    → IsEased after
returned core flush before after it goes_on idle = record {
  none_reserved = ap (λ (o : OwnTold). o.reserved) it.after_is;
  no_flight = ap (λ (o : OwnTold). o.flight) it.after_is ∙ idle;
  goes_on = ap (λ (o : OwnTold). o.over) it.after_is ∙ (ap (λ b. b || before.over) (ap ends_all it.by.did_is) ∙ goes_on);
}

module _ {D : Type 0} (before after : PenHand D) where
  -- What is due behind a refusal.
  pub refused_due : (asked : ReserveRequest) (refused : CommitFault) → Reserves asked before after (Err refused) → IsEased (own_at before)
      → IsDue after (due_behind refused)
  refused_due asked (fault.DiskFailed faults) it eased = absurd it
  refused_due asked (fault.NoSpace kind need free) it eased = record {
    none_reserved = ap (λ (o : OwnTold). o.reserved) it.own ∙ eased.none_reserved;
    no_flight = ap (λ (o : OwnTold). o.flight) it.own ∙ eased.no_flight;
    goes_on = ap (λ (o : OwnTold). o.over) it.own ∙ (ap (λ b. b || (own_at before).over) (ap ends_all it.by.did_is) ∙ eased.goes_on);
  }
  refused_due asked (fault.Stopped faults) it eased = halted 0 asked.flush before.view.core (own_at before) (own_at after) it.halts
  refused_due asked (fault.Moved node last) it eased = subst IsEased (sym it.own) eased
  refused_due asked fault.NoMemory it eased = subst IsEased (sym it) eased

  -- A core that reserved is about to write, and has no flight.
  pub granted : (asked : ReserveRequest) (grant : GrantedNumbers) → Reserves asked before after (Ok grant) → IsEased (own_at before)
      → IsToWrite grant after × ((own_at after).flight ≡ None)
  granted asked grant it eased = (
    record {
      grant_is = it.grant_is;
      goes_on = ap (λ (o : OwnTold). o.over) it.own ∙ (ap (λ b. b || (own_at before).over) (ap ends_all it.by.did_is) ∙ eased.goes_on);
    },
    ap (λ (o : OwnTold). o.flight) it.own ∙ eased.no_flight,
  )

  -- One that gave back is free again.
  pub returned_due : (flush : Flush) → ReturnsNumber before.view.core flush (own_at before) (own_at after) → (own_at before).over ≡ false
      → (own_at before).flight ≡ None → IsEased (own_at after)
  returned_due flush it goes_on idle = returned before.view.core flush (own_at before) (own_at after) it goes_on idle

  -- Behind a commit it is free, or stopped.
  pub committed_due : (flush : Flush) (ack : Ack) → Commits before.view.core flush (own_at before) (own_at after) (Ok ack) → (own_at before).over ≡ false
      → IsEased (own_at after)
  committed_due flush ack it goes_on = record {
    none_reserved = ap (λ (o : OwnTold). o.reserved) it.after_is;
    no_flight = ap (λ (o : OwnTold). o.flight) it.after_is;
    goes_on = ap (λ (o : OwnTold). o.over) it.after_is ∙ goes_on;
  }

  pub uncommitted_due : (flush : Flush) (refused : CommitFault) → Commits before.view.core flush (own_at before) (own_at after) (Err refused)
      → (own_at before).over ≡ false → (own_at before).flight ≡ None → IsDue after (due_behind refused)
  uncommitted_due flush (fault.DiskFailed faults) it goes_on idle = elim it.fails [
    | inl shut ↦ failed it.number flush before.view.core faults _ (own_at after) shut.1.fails
    | inr opened ↦ failed it.number flush before.view.core faults it.middle (own_at after) opened.1
  ]
  uncommitted_due flush (fault.NoSpace kind need free) it goes_on idle = absurd it
  uncommitted_due flush (fault.Stopped faults) it goes_on idle = halted it.number flush before.view.core it.middle (own_at after) it.halts
  uncommitted_due flush (fault.Moved node last) it goes_on idle = absurd it
  uncommitted_due flush fault.NoMemory it goes_on idle = returned before.view.core flush (own_at before) (own_at after) it goes_on idle

  -- So it is behind a commit without records.
  pub emptied_due : (asked : ReserveRequest) (ack : Ack) → Empties asked before after (Ok ack) → IsEased (own_at before) → IsEased (own_at after)
  emptied_due asked ack it eased = record {
    none_reserved = ap (λ (o : OwnTold). o.reserved) it.ends.after_is;
    no_flight = ap (λ (o : OwnTold). o.flight) it.ends.after_is ∙ eased.no_flight;
    goes_on = ap (λ (o : OwnTold). o.over) it.ends.after_is ∙ eased.goes_on;
  }

  pub unemptied_due : (asked : ReserveRequest) (refused : CommitFault) → Empties asked before after (Err refused) → IsEased (own_at before)
      → IsDue after (due_behind refused)
  unemptied_due asked (fault.DiskFailed faults) it eased = absurd it
  unemptied_due asked (fault.NoSpace kind need free) it eased = absurd it
  unemptied_due asked (fault.Stopped faults) it eased = halted 0 asked.flush before.view.core (own_at before) (own_at after) it.halts
  unemptied_due asked (fault.Moved node last) it eased = subst IsEased (sym it.own) eased
  unemptied_due asked fault.NoMemory it eased = subst IsEased (sym it) eased

  -- A core that waits for an idle slot is still about to write.
  pub waits_due : (writing still : Writing) → WaitsToBegin writing still before after → PenGoes before after → IsDue before (due.Waits writing)
      → IsDue after (due.Waits still)
  waits_due writing still it goes is = (
    record {
      grant_is = it.grant ∙ (is.0.grant_is ∙ ap Some (sym (ap (λ (w : Writing). w.grant) it.same)));
      goes_on = ap (λ (o : OwnTold). o.over) it.own ∙ is.0.goes_on;
    },
    written_still writing still before after goes it.same is.1,
  )

  -- Its commit begins.
  pub begun_due : (writing : Writing) (flight : Flight) → BeginsFor writing before after flight → (own_at before).over ≡ false
      → IsDue after (due.Flies flight)
  begun_due writing flight it goes_on = (false, begun_under before.view.core flight (own_at before) (own_at after) it.0 goes_on)

  -- It does not, and the core is stopped.
  pub unbegun_due : (writing : Writing) (refused : CommitFault) → BeginFails writing before after refused → (own_at after).over ≡ true
  unbegun_due writing (fault.DiskFailed faults) it = failed it.number _ before.view.core faults _ (own_at after) it.ends.fails
  unbegun_due writing (fault.NoSpace kind need free) it = absurd it
  unbegun_due writing (fault.Stopped faults) it = halted it.number _ before.view.core (own_at before) (own_at after) it.ends
  unbegun_due writing (fault.Moved node last) it = absurd it
  unbegun_due writing fault.NoMemory it = absurd it

  -- It goes on.
  pub goes_due : (flight still : Flight) → IsDue before (due.Flies flight) → ((opened : Bool) → flight_of still opened ≡ flight_of flight opened)
      → GoesOn before.view.core (own_at before) (own_at after) → IsDue after (due.Flies still)
  goes_due flight still is same goes =
      let now = under_again flight is.0 before.view.core (own_at before) (own_at after) is.1 goes in
      (now.0, under_told flight still now.0 (own_at after) same now.1)

  -- It is durable.
  pub landed_due : (flight : Flight) (ack : Ack) → IsDue before (due.Flies flight) → LandsWith ack before.view.core (own_at before) (own_at after)
      → IsEased (own_at after)
  landed_due flight ack is it = record {
    none_reserved = ap (λ (o : OwnTold). o.reserved) it.lands.after_is ∙ is.1.none_reserved;
    no_flight = ap (λ (o : OwnTold). o.flight) it.lands.after_is;
    goes_on = ap (λ (o : OwnTold). o.over) it.lands.after_is ∙ is.1.goes_on;
  }

  -- It fails, and the core is stopped.
  pub turned_due : (flight : Flight) (refused : CommitFault) → TurnFails flight before.view.core (own_at before) (own_at after) refused
      → (own_at after).over ≡ true
  turned_due flight (fault.DiskFailed faults) it = elim it [
    | inl shut ↦ failed flight.commit _ before.view.core faults _ (own_at after) shut.fails.fails
    | inr opened ↦ failed flight.commit _ before.view.core faults opened.middle (own_at after) opened.fails
  ]
  turned_due flight (fault.NoSpace kind need free) it = absurd it
  turned_due flight (fault.Stopped faults) it = halted flight.commit _ before.view.core (own_at before) (own_at after) it
  turned_due flight (fault.Moved node last) it = absurd it
  turned_due flight fault.NoMemory it = absurd it

-- A free pen may begin anew.
pub free_ready : {D : Type 0} (t : TableState (BoxKey D)) (pen : PenHand D) → IsFree t pen → IsReady t pen
free_ready t pen free = record { outside = free.outside; room = free.room; rests = inr (free.eased.none_reserved, free.eased.no_flight) }

-- So it is where nothing is due of it.
pub rests_free : {D : Type 0} (t : TableState (BoxKey D)) (pen : PenHand D) → DueFits t pen due.Rests → IsFree t pen
rests_free t pen fits = record { outside = fits.outside; room = fits.room; eased = fits.is }

-- a pen that has gone on is about the same layout
pub layout_on : {D : Type 0} (before after : PenHand D) (layout : Layout) → PenGoes before after → before.table.given.layout ≡ layout
    → after.table.given.layout ≡ layout
layout_on {D = D} before after layout goes is = ap (λ (h : PenHand D). h.table.given.layout) goes.frame ∙ is

-- Behind a call that leaves a pen outside of the box, with as much room as before, it fits what is due.
module _ {D : Type 0} (t : TableState (BoxKey D)) (before after : PenHand D) (outside : IsOutside t after) (same : after.room ≡ before.room) (some : 0 <
    before.room) where
  pub fits_now : (now : Due) → IsDue after now → DueFits t after now
  fits_now now is = record { outside = outside; room = subst (λ n. 0 < n) (sym same) some; is = is }

  pub has_now : (grant : GrantedNumbers) → IsToWrite grant after × ((own_at after).flight ≡ None) → HasGrant t after grant
  has_now grant is = record { outside = outside; room = subst (λ n. 0 < n) (sym same) some; writes = is.0; no_flight = is.1 }

-- What was packed with a grant and can be written is due.
pub packed_due : {D : Type 0} (t : TableState (BoxKey D)) (pen : PenHand D) (grant : GrantedNumbers) (writing : Writing) → HasGrant t pen grant
    → writing.grant ≡ grant → CanBeWritten pen.table.given.layout writing → DueFits t pen (due.Waits writing)
packed_due t pen grant writing has same can = record {
  outside = has.outside;
  room = has.room;
  is = (record { grant_is = has.writes.grant_is ∙ ap Some (sym same); goes_on = has.writes.goes_on }, can);
}
