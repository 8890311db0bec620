-- All cores of a disk, once some of them have gone on.
use Rattle.std.proofs.Common.{◌≡◌, ◌∙◌, ◌<◌, ◌≤◌, ◌++◌, ℕ, zero, suc, List, [], ◌∷◌, length, map, get_or, Bool, Some, None, inl, inr, refl, sym, ap, subst, arith, true, false, ◌&&◌, nat_le, nat_lt}
use Rattle.std.specs.Vec.{with_item, with_items}
use Rattle.std.proofs.lemmas.List.{with_items_is}
use Rattle.std.specs.Prelude.{All, if◌then◌else◌, slice_get}
use Rattle.std.proofs.Math.ListN.{set}
use Rattle.std.proofs.lemmas.Bool.Decides.{eqb_tells}
use Rattle.std.proofs.lemmas.List.{get_or-set_other, length-map, length-set}
use Rattle.std.proofs.lemmas.Option.{get_or_from_slice_get, slice_get-get_or, slice_get_within}
use Rattle.std.proofs.lemmas.List.Elements.{All-set}
use Rattle.std.proofs.lemmas.Grind.{get_or-set_at}
use Rattle.sfs_base.proofs.BasicOptions.{some_same}
use Rattle.sfs_base.proofs.BasicTruth.{true_not_false}
use Rattle.sfs_base.specs.Listed.{is_listed}
use Rattle.space_map.specs.Pool.{Pool, first_status, status_of}
use Rattle.space_map.specs.declared.status.Status.TheVariants.{Free, Granted, Taken}
use Rattle.sfs_image.specs.Super.{Layout}
use Rattle.tree_laws.specs.Tree.{TreeState}
use Rattle.stamp_table.specs.declared.event.Event.{Event}
use Rattle.stamp_table.specs.declared.view.View.{View as Sight}
use Rattle.stamp_table.specs.Hand.{Desk}
use Rattle.stamp_table.specs.Table.{AreAllCores, IsSameCore, TableState}
use Rattle.stamp_table.proofs.Beginning.{all_again}
use Rattle.stamp_table.proofs.Keeps.{begins_itself}
use Rattle.slot_laws.specs.declared.label.Label.{Label}
use Rattle.slot_laws.specs.Grants.{NoneGranted}
use Rattle.slot_laws.specs.Labels.{nothing_told, own_from}
use Rattle.disk_box.specs.declared.key.BoxKey.{BoxKey}
use Rattle.disk_box.specs.Pens.{IsOutside, PenGoes, PenHand, own_at}
use Rattle.journal_set.specs.Making.{AreNewPens, IsNewPen, MayClose}
use Rattle.journal_set.specs.Ready.{HasNothingDue}
use Rattle.driven_journals.specs.declared.due.Due.TheVariants as due
use Rattle.driven_journals.specs.declared.driven.Driven.{Driven}
use Rattle.driven_journals.specs.declared.seat.Seat.{Seat}
use Rattle.driven_journals.specs.Due.{DueFits, IsDue, IsEased, is_at_rest}
use Rattle.driven_journals.specs.declared.due.Due.{Due}
use Rattle.driven_journals.specs.Seats.{AreAtRest, AreNewSeats, EachGoes, IsDriven, SeatFits, pen_of}

module _ {D : Type 0} where
  -- a core's pen, place by place
  pen_at : (seats : List (Seat D)) (place : ℕ) (d : PenHand D) (e : Seat D) → place < length seats
      → get_or (map pen_of seats) place d ≡ (get_or seats place e).pen
  pen_at [] place d e within = absurd (omega (arith, within))
  pen_at (seat ∷ seats) zero d e within = refl
  pen_at (seat ∷ seats) (suc place) d e within = pen_at seats place d e (omega (arith, within))

  -- a pen that goes on is the same core
  same_core : (before after : PenHand D) → PenGoes before after → IsSameCore before after
  same_core before after goes = record {
    table = ap (λ (h : PenHand D). h.table) goes.frame;
    cores = ap (λ (h : PenHand D). h.cores) goes.frame;
    leads = ap (λ (h : PenHand D). h.leads) goes.frame;
    number = ap (λ (v : Sight TreeState (Event Label)). v.core) goes.view;
  }

  gone_by : (e : Seat D) (t : TableState (BoxKey D)) (layout : Layout) (before after : List (Seat D)) → length after ≡ length before
      → EachGoes t layout before after → AreAllCores t (map pen_of before) → AreAllCores t (map pen_of after)
  gone_by e t layout before after long go all =
      all_again t (map pen_of before) (map pen_of after) (length-map after pen_of ∙ (long ∙ sym (length-map before pen_of))) each all
    where
      each : (place : ℕ) (d : PenHand D) → place < length (map pen_of before)
          → IsSameCore (get_or (map pen_of before) place d) (get_or (map pen_of after) place d) × ((get_or (map pen_of after) place d).held ≡ [])
      each place d within =
          let count = length-map before pen_of in
          let low : place < length before = omega (arith, within, count) in
          let high : place < length after = omega (arith, low, long) in
          let was = pen_at before place d e low in
          let now = pen_at after place d e high in (
            subst (λ (z : PenHand D × PenHand D). IsSameCore z.0 z.1) (λ i. (sym was i, sym now i))
                (same_core (get_or before place e).pen (get_or after place e).pen (go place e low).goes),
            subst (λ (h : PenHand D). h.held ≡ []) (sym now) (go place e low).fits.fits.outside.holds_none,
          )

  -- all cores are still all cores once each has gone on
  pub all_gone : (t : TableState (BoxKey D)) (layout : Layout) (before after : List (Seat D)) → length after ≡ length before
      → EachGoes t layout before after → AreAllCores t (map pen_of before) → AreAllCores t (map pen_of after)
  all_gone t layout [] after long go all = absurd (true_not_false (sym all.leads))
  all_gone t layout (e ∷ before) after long go all = gone_by e t layout (e ∷ before) after long go all

  -- and each fits
  pub each_fits : (t : TableState (BoxKey D)) (layout : Layout) (before after : List (Seat D)) → length after ≡ length before
      → EachGoes t layout before after → All (SeatFits t layout) after
  each_fits t layout before after long go place d within = (go place d (omega (arith, long, within))).fits

  -- a pen that stays goes on
  pub stays : (pen : PenHand D) → PenGoes pen pen
  stays pen = record { frame = refl; view = refl; seen = begins_itself pen.view.seen }

  -- One core has gone on, and fits: so all do.
  module _ (t : TableState (BoxKey D)) (layout : Layout) (seats : List (Seat D)) (place : ℕ) (was now : Seat D) (there : slice_get seats place ≡ Some was)
      (goes : PenGoes was.pen now.pen) (fits : SeatFits t layout now) (each : All (SeatFits t layout) seats) where
    pub all_fit : All (SeatFits t layout) (set seats place now)
    all_fit = All-set (SeatFits t layout) seats place now fits each

    within : place < length seats
    within = slice_get_within seats place was there

    one_goes : EachGoes t layout seats (set seats place now)
    one_goes j d low =
        let count = length-set seats place now in
        record {
          fits = all_fit j d (omega (arith, low, count));
          goes = elim (eqb_tells j place) [
            | inl is ↦
                subst (λ (z : Seat D × Seat D). PenGoes z.0.pen z.1.pen)
                (λ i. (
                  sym (ap (λ k. get_or seats k d) is.1 ∙ get_or_from_slice_get seats place was d there) i,
                  sym (get_or-set_at seats place j now d is.1 within) i,
                )) goes
            | inr is ↦ subst (λ (s : Seat D). PenGoes (get_or seats j d).pen s.pen) (sym (get_or-set_other seats place j now d is.1))
                (stays (get_or seats j d).pen)
          ];
        }

    pub all_still : AreAllCores t (map pen_of seats) → AreAllCores t (map pen_of (set seats place now))
    all_still all = all_gone t layout seats (set seats place now) (length-set seats place now) one_goes all

  -- pens of new journals as cores
  pub new_pens : (t : TableState (BoxKey D)) (pens : List (PenHand D)) (seats : List (Seat D)) → AreNewSeats pens seats → AreAllCores t pens
      → AreAllCores t (map pen_of seats)
  new_pens t pens seats new all = subst (AreAllCores t) (sym new.pens_are) all

  -- What a core has gone on to stands in its place: these are all cores still.
  pub driven_put : (driven : Driven D) (place : ℕ) (was now : Seat D) → place < length driven.seats.items → was ≡ get_or driven.seats.items place was
      → IsDriven driven → PenGoes was.pen now.pen → SeatFits driven.set driven.layout now
      → IsDriven (record driven { seats = with_item driven.seats place now })
  driven_put driven place was now low is driven_is goes fits =
      let there : slice_get driven.seats.items place ≡ Some was = slice_get-get_or driven.seats.items place was low ∙ ap Some (sym is) in
      let count = length-set driven.seats.items place now in
      record {
        all = all_still driven.set driven.layout driven.seats.items place was now there goes fits driven_is.each driven_is.all;
        some = let some = driven_is.some in omega (arith, count, some);
        each = all_fit driven.set driven.layout driven.seats.items place was now there goes fits driven_is.each;
      }

  -- a core that stays is the same beside another book
  pub same_fits : (t : TableState (BoxKey D)) (layout : Layout) (was now : Seat D) → now.due ≡ was.due → now.pen ≡ was.pen → SeatFits t layout was
      → PenGoes was.pen now.pen × SeatFits t layout now
  same_fits t layout was now due pen fits = (
    subst (PenGoes was.pen) (sym pen) (stays was.pen),
    record {
      fits = subst (λ (z : PenHand D × Due). DueFits t z.0 z.1) (λ i. (sym pen i, sym due i)) fits.fits;
      layout_is = ap (λ (h : PenHand D). h.table.given.layout) pen ∙ fits.layout_is;
    },
  )

  -- one of all cores fits
  pub fits_there : (driven : Driven D) (place : ℕ) (was : Seat D) → place < length driven.seats.items → was ≡ get_or driven.seats.items place was
      → IsDriven driven → SeatFits driven.set driven.layout was
  fits_there driven place was low is driven_is = subst (SeatFits driven.set driven.layout) (sym is) (driven_is.each place was low)

  -- All cores have gone on.
  pub driven_gone : (driven : Driven D) (after : List (Seat D)) → length after ≡ length driven.seats.items
      → EachGoes driven.set driven.layout driven.seats.items after → IsDriven driven → IsDriven (record driven { seats = with_items driven.seats after })
  driven_gone driven after long go driven_is =
      let is : (with_items driven.seats after).items ≡ after = with_items_is driven.seats after (long ∙ sym driven.seats.ok.0) in
      record {
        all = subst (λ l. AreAllCores driven.set (map pen_of l)) (sym is) (all_gone driven.set driven.layout driven.seats.items after long go driven_is.all);
        some = let some = driven_is.some in let count = ap length is in omega (arith, count, long, some);
        each = subst (All (SeatFits driven.set driven.layout)) (sym is) (each_fits driven.set driven.layout driven.seats.items after long go);
      }

  -- one more core is behind those before
  pub pens_on : (seats : List (Seat D)) (new : Seat D) (rest : List (PenHand D)) → map pen_of (seats ++ new ∷ []) ++ rest ≡ map pen_of seats ++ new.pen ∷ rest
  pens_on [] new rest = refl
  pens_on (seat ∷ seats) new rest = ap (λ l. seat.pen ∷ l) (pens_on seats new rest)

  -- one more core rests
  pub rests_more : (seats : List (Seat D)) (new : Seat D) → All (λ (seat : Seat D). seat.due ≡ due.Rests) seats → new.due ≡ due.Rests
      → All (λ (seat : Seat D). seat.due ≡ due.Rests) (seats ++ new ∷ [])
  rests_more [] new all rests zero d within = rests
  rests_more [] new all rests (suc k) d within = absurd (omega (arith, within))
  rests_more (seat ∷ seats) new all rests zero d within = all 0 d (omega arith)
  rests_more (seat ∷ seats) new all rests (suc k) d within =
      rests_more seats new (λ j e low. all (suc j) e (omega (arith, low))) rests k d (omega (arith, within))

  -- A seat fits whose pen has gone on, as what is due of it does.
  pub fits_on : (t : TableState (BoxKey D)) (layout : Layout) (before after : Seat D) → before.pen.table.given.layout ≡ layout → PenGoes before.pen after.pen
      → DueFits t after.pen after.due → SeatFits t layout after
  fits_on t layout before after is goes fits =
      record { fits = fits; layout_is = ap (λ (h : PenHand D). h.table.given.layout) goes.frame ∙ is }

  -- the pen of a core
  at_seat : (seats : List (Seat D)) (core : ℕ) (pen : PenHand D) → slice_get (map pen_of seats) core ≡ Some pen
      → (seat : Seat D) × (slice_get seats core ≡ Some seat) × (seat.pen ≡ pen)
  at_seat [] core pen is = absurd (cc (is))
  at_seat (seat ∷ seats) zero pen is = (seat, refl, some_same is)
  at_seat (seat ∷ seats) (suc core) pen is = at_seat seats core pen is

  -- what holds of all holds of each
  one_of : (P : Seat D → Type 0) (seats : List (Seat D)) (core : ℕ) (seat : Seat D) → slice_get seats core ≡ Some seat → All P seats → P seat
  one_of P seats core seat is all = subst P (get_or_from_slice_get seats core seat seat is) (all core seat (slice_get_within seats core seat is))

  nothing_due : (pen : PenHand D) (now : Due) → IsDue pen now → is_at_rest now ≡ true → HasNothingDue (own_at pen)
  nothing_due pen due.Rests is rest = inr (is.none_reserved, is.no_flight)
  nothing_due pen (due.Waits writing) is rest = absurd (true_not_false (sym rest))
  nothing_due pen (due.Flies flight) is rest = absurd (true_not_false (sym rest))
  nothing_due pen due.Over is rest = inl is

  -- Where nothing is due of any core, the journals may be closed.
  pub may_close : (t : TableState (BoxKey D)) (layout : Layout) (seats : List (Seat D)) → AreAllCores t (map pen_of seats) → 0 < length seats
      → All (SeatFits t layout) seats → AreAtRest seats → MayClose t (map pen_of seats)
  may_close t layout seats all some fit rest = record {
    all = all;
    some = subst (λ n. 0 < n) (sym (length-map seats pen_of)) some;
    outside = λ core pen is.
        let at = at_seat seats core pen is in
        subst (IsOutside t) at.2 (one_of (SeatFits t layout) seats core at.0 at.1 fit).fits.outside;
    rests = λ core pen is.
        let at = at_seat seats core pen is in
        subst (λ (h : PenHand D). HasNothingDue (own_at h)) at.2
        (nothing_due at.0.pen at.0.due (one_of (SeatFits t layout) seats core at.0 at.1 fit).fits.is
        (one_of (λ (seat : Seat D). is_at_rest seat.due ≡ true) seats core at.0 at.1 rest));
  }

  -- a pen that has told nothing is free
  new_eased : (t : TableState (BoxKey D)) (core : ℕ) (pen : PenHand D) → IsNewPen t core pen → IsEased (own_at pen)
  new_eased t core pen new = subst (λ l. IsEased (own_from l nothing_told)) (sym new.none_told)
      (record { none_reserved = refl; no_flight = refl; goes_on = refl })

  -- New cores fit.
  pub new_fit : (t : TableState (BoxKey D)) (layout : Layout) (pens : List (PenHand D)) (seats : List (Seat D)) → AreNewPens t pens → AreNewSeats pens seats
      → t.table.given.layout ≡ layout → All (SeatFits t layout) seats
  new_fit t layout pens seats new are is place d within =
      let seat = get_or seats place d in
      let there : slice_get pens place ≡ Some seat.pen =
      subst (λ (l : List (PenHand D)). slice_get l place ≡ Some seat.pen) are.pens_are
      (slice_get-get_or (map pen_of seats) place seat.pen (subst (λ n. place < n) (sym (length-map seats pen_of)) within)
      ∙ ap Some (pen_at seats place seat.pen d within)) in
      let fresh = new.each place seat.pen there in
      record {
        fits = record {
          outside = fresh.outside;
          room = fresh.room;
          is = subst (IsDue seat.pen) (sym (are.rest place d within)) (new_eased t place seat.pen fresh);
        };
        layout_is = ap (λ (k : Desk (BoxKey _)). k.given.layout) fresh.outside.table_is ∙ is;
      }

  -- There are some.
  pub some_new : (t : TableState (BoxKey D)) (layout : Layout) (pens : List (PenHand D)) (seats : List (Seat D)) → AreNewPens t pens → AreNewSeats pens seats
      → t.table.given.layout ≡ layout → 1 ≤ layout.cores → 0 < length seats
  some_new t layout pens seats new are is low =
      let one = new.all.count in
      let two = new.cores in
      let three = ap (λ (l : Layout). l.cores) is in
      let four : length (map pen_of seats) ≡ length pens = ap length are.pens_are in
      let five = length-map seats pen_of in
      omega (arith, one, two, three, four, five, low)

-- what is free or taken is not granted
not_granted : (within listed : Bool) → (if within then Some (if listed then Taken else Free) else None) ≡ Some Granted → ⊥
not_granted true true is = absurd (cc (some_same is))
not_granted true false is = absurd (cc (some_same is))
not_granted false listed is = absurd (cc (is))

-- In a map that begins nothing is granted.
pub none_granted_first : (first end : ℕ) (taken : List ℕ) (pool : Pool) → ((number : ℕ) → status_of pool number ≡ first_status first end taken number)
    → NoneGranted pool
none_granted_first first end taken pool begins number is =
    not_granted (nat_le first number && nat_lt number end) (is_listed taken number) (sym (begins number) ∙ is)
