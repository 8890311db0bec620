-- A core that has reserved and not begun.
use Rattle.std.proofs.Common.{◌≡◌, ◌∙◌, ℕ, false, Some, None, refl, sym, ap}
use Rattle.sfs_base.proofs.BasicOptions.{some_same}
use Rattle.sfs_dev.specs.Disk.{View}
use Rattle.space_map.specs.Space.{GrantedNumbers}
use Rattle.stamp_table.specs.Table.{TableState}
use Rattle.slot_laws.specs.Labels.{OwnTold}
use Rattle.commit_ledger.specs.View.{number_in}
use Rattle.disk_box.specs.declared.key.BoxKey.{BoxKey}
use Rattle.disk_box.specs.declared.desk.Desk.{Desk}
use Rattle.disk_box.specs.Desk.{owed_of}
use Rattle.disk_box.specs.Pens.{HoldsBox, IsAtDesk, PenHand, own_at, past_at}
use Rattle.disk_box.proofs.After.{past_fits_at}
use Rattle.disk_box.proofs.Owes.{owns_own}
use Rattle.journal_set.specs.declared.flying.Flight.{Flight}
use Rattle.journal_set.specs.Beginning.{BeginsInSlot}
use Rattle.journal_set.specs.Committing.{BeginsFlight}
use Rattle.journal_set.specs.Flying.{flush_of}
use Rattle.journal_set.specs.Grants.{grant_at}
use Rattle.journal_set.proofs.Grants.{has_reserved}
use Rattle.journal_set.proofs.Returned.{number_there}

module _ {D : Type 0} (t : TableState (BoxKey D)) (pen : PenHand D) (holds : HoldsBox t pen) (number : ℕ) (reserved : (own_at pen).reserved ≡ Some number) where
  told : ((past_at pen).owns pen.view.core).reserved ≡ Some number
  told = ap (λ (o : OwnTold). o.reserved) (owns_own t pen holds) ∙ reserved

  pub no_flight_told : ((past_at pen).owns pen.view.core).flight ≡ None
  no_flight_told = (past_fits_at t pen holds).numbers.rests pen.view.core number told

  pub no_flight : (own_at pen).flight ≡ None
  no_flight = ap (λ (o : OwnTold). o.flight) (sym (owns_own t pen holds)) ∙ no_flight_told

  -- no turn waits for it
  pub unbegun_learned : (past_at pen).waits pen.view.core ≡ None
  unbegun_learned = (past_fits_at t pen holds).flights.idle pen.view.core no_flight_told

  owed_unbegun : (own : OwnTold) → own.reserved ≡ Some number → own.over ≡ false → owed_of own None ≡ 3
  owed_unbegun own is over = rw over (rw is refl)

  -- and it may take three
  pub owes_unbegun : (own_at pen).over ≡ false → owed_of ((past_at pen).owns pen.view.core) None ≡ 3
  owes_unbegun over = owed_unbegun ((past_at pen).owns pen.view.core) told (ap (λ (o : OwnTold). o.over) (owns_own t pen holds) ∙ over)

-- The number that a ledger has of a core is the one that it has reserved.
pub its_reserved : {D : Type 0} (view : D → View) (t : TableState (BoxKey D)) (pen : PenHand D) (desk : Desk D) (grant : GrantedNumbers) → IsAtDesk view t pen desk
    → grant_at pen ≡ Some grant → (number : ℕ) → number_in desk.ledger pen.view.core ≡ Some number → (own_at pen).reserved ≡ Some number
its_reserved view t pen desk grant at is number there =
    let has = has_reserved t pen grant at.holds is in
    let known = number_there view pen.table.given pen.view.core (past_at pen) (past_fits_at t pen at.holds) desk at.fits.frame at.holds.core_is has.number
    has.reserved
    in
    sym (ap (λ (o : OwnTold). o.reserved) (owns_own t pen at.holds)) ∙ (has.reserved ∙ (sym known ∙ there))

-- and it has one
pub some_reserved : {D : Type 0} (view : D → View) (t : TableState (BoxKey D)) (pen : PenHand D) (desk : Desk D) (grant : GrantedNumbers) → IsAtDesk view t pen desk
    → grant_at pen ≡ Some grant → number_in desk.ledger pen.view.core ≡ None → ⊥
some_reserved view t pen desk grant at is none =
    let has = has_reserved t pen grant at.holds is in
    let known = number_there view pen.table.given pen.view.core (past_at pen) (past_fits_at t pen at.holds) desk at.fits.frame at.holds.core_is has.number
    has.reserved
    in
    Rattle.sfs_base.proofs.BasicOptions.none_some (sym none ∙ known)

-- What begins in a slot with the number that was reserved is this flight.
pub begins_flight : {D : Type 0} (t : TableState (BoxKey D)) (pen after : PenHand D) (holds : HoldsBox t pen) (flight : Flight)
    → (own_at pen).reserved ≡ Some flight.commit → BeginsInSlot flight.slot (flush_of flight) (own_at pen) (own_at after)
    → BeginsFlight flight (own_at pen) (own_at after)
begins_flight t pen after holds flight had begins =
    let same : begins.number ≡ flight.commit = some_same (sym begins.had ∙ had) in
    record {
      had = had;
      rests = no_flight t pen holds flight.commit had;
      after_is = begins.after_is
          ∙ ap (λ n. record (own_at pen) {
            reserved = None;
            flight = Some (record { slot = flight.slot; commit = n; flush = flush_of flight; opened = false });
          }) same;
    }
