-- Which part an inode has in an image: that of the one open commit that gives it and is not durable, or the one that the disk stands for.
use Rattle.std.proofs.Common.{◌≡◌, ◌∙◌, ◌≢◌, ◌⊎◌, ℕ, List, Some, true, false, ap, refl, Bool, cond, None, Option, arith, sym, inl, inr, unwrap_or}
use Rattle.sfs_base.proofs.BasicOptions.{some_same}
use Rattle.sfs_base.proofs.BasicTruth.{not_both, true_or_false}
use Rattle.sfs_image.specs.ImageOf.{InodePart, Transaction, with_opened, part_given, given, IsGiver}
use Rattle.sfs_image.specs.Super.{Layout}
use Rattle.sfs_image.specs.Part.{Part}
use Rattle.sfs_image.specs.Settled.{Stamped, slot_count}
use Rattle.sfs_image.proofs.NewestLaws.{newest_none}
use Rattle.sfs_image.proofs.BytesLaws.{None-option_map}
use Rattle.sfs_image.proofs.GivenLaws.{giver_of, given_by}
use Rattle.slot_laws.specs.Slots.{Slots, SlotWork, may_be_open, open_gate}
use Rattle.slot_laws.proofs.Basics.{none_there}
use Rattle.slot_laws.proofs.Rings.{in_slots, placed_older}
use Rattle.slot_image_laws.specs.Commits.{work_transaction, GivesPart, opened_in, may_have, WorksFit, StandsOpen, IsLastGiver}
use Rattle.slot_image_laws.proofs.Anew.{gate_in, within}
use Rattle.slot_image_laws.proofs.Records.{share_given}

-- A commit is in a slot that is open in an image.
pub record IsOpen (layout : Layout) (slots : Slots) (image : List ℕ) (k : ℕ) (work : SlotWork) : Type 0 where
  pub there : slots k ≡ Some work
  pub gate : gate_in layout image k ≡ true
  pub may : may_be_open work.known.gate_left ≡ true

-- A slot is open in an image, with the commit that it has.
pub record OpenWork (gives : ℕ → List InodePart) (layout : Layout) (slots : Slots) (image : List ℕ) (k : ℕ) (one : Transaction) : Type 0 where
  pub work : SlotWork
  pub is_open : IsOpen layout slots image k work
  pub is : work_transaction gives work ≡ one

-- A commit that is not durable is open in an image.
pub record IsOpenFlight (layout : Layout) (slots : Slots) (image : List ℕ) (k : ℕ) (work : SlotWork) : Type 0 where
  pub is_open : IsOpen layout slots image k work
  pub aloft : work.settled ≡ false

-- an open commit that is not durable gives an inode the part that it has
pub record FlightGives (gives : ℕ → List InodePart) (layout : Layout) (base : ℕ → Part) (slots : Slots) (image : List ℕ) (i : ℕ) : Type 0 where
  pub slot : ℕ
  pub work : SlotWork
  pub flight : IsOpenFlight layout slots image slot work
  pub part : Part
  pub given_is : GivesPart gives work i part
  pub whole : with_opened layout (opened_in gives layout slots image) base i ≡ part

-- or none does, and it has the part that the disk stands for
pub record BaseStays (gives : ℕ → List InodePart) (layout : Layout) (base : ℕ → Part) (slots : Slots) (image : List ℕ) (i : ℕ) : Type 0 where
  pub whole : with_opened layout (opened_in gives layout slots image) base i ≡ base i
  pub none : (k : ℕ) (work : SlotWork) (part : Part) → IsOpenFlight layout slots image k work → GivesPart gives work i part → ⊥

-- a durable commit gives an inode the part that it has
record IsDurableGiver (gives : ℕ → List InodePart) (layout : Layout) (slots : Slots) (image : List ℕ) (i k : ℕ) (work : SlotWork) : Type 0 where
  ours : Stamped Part
  part : Part
  giver : IsGiver layout (opened_in gives layout slots image) i k ours
  stamp : ours.stamp ≡ work.job.stamp
  is_open : IsOpen layout slots image k work
  durable : work.settled ≡ true
  given_is : GivesPart gives work i part

pub stamped_is : (one : Stamped Part) (n : ℕ) (part : Part) → one.stamp ≡ n → one.value ≡ part → one ≡ record { stamp = n; value = part }
stamped_is one n part stamp value =
    ap (λ (m : ℕ). record { stamp = m; value = one.value }) stamp ∙ ap (λ (p : Part). record { stamp = n; value = p }) value

module _ (gives : ℕ → List InodePart) (layout : Layout) (base : ℕ → Part) (slots : Slots) (image : List ℕ) where
  pub open_work : (k : ℕ) (one : Transaction) → opened_in gives layout slots image k ≡ Some one → OpenWork gives layout slots image k one
  open_work k one is = go (gate_in layout image k) refl (slots k) refl is
    where
      known : (work : SlotWork) → slots k ≡ Some work → gate_in layout image k ≡ true → (m : Bool) → may_be_open work.known.gate_left ≡ m
          → cond m (Some (work_transaction gives work)) None ≡ Some one → OpenWork gives layout slots image k one
      known work there gate true may same = record { work = work; is_open = record { there = there; gate = gate; may = may }; is = some_same same }
      known work there gate false may same = none_there same

      go : (b : Bool) → gate_in layout image k ≡ b → (o : Option SlotWork) → slots k ≡ o → cond b (may_have gives o) None ≡ Some one
          → OpenWork gives layout slots image k one
      go false gate o there same = none_there same
      go true gate None there same = none_there same
      go true gate (Some work) there same = known work there gate (may_be_open work.known.gate_left) refl same

  pub open_there : (k : ℕ) (work : SlotWork) → IsOpen layout slots image k work → opened_in gives layout slots image k ≡ Some (work_transaction gives work)
  open_there k work opened =
      ap (λ (b : Bool). cond b (may_have gives (slots k)) None) opened.gate
      ∙ ap (may_have gives) opened.there
      ∙ ap (λ (b : Bool). cond b (Some (work_transaction gives work)) None) opened.may

  module _ (works : WorksFit gives layout base slots)
      (gates : (k : ℕ) (work : SlotWork) → slots k ≡ Some work → work.known.gate_left ≡ open_gate → gate_in layout image k ≡ true)
      (stands : StandsOpen gives layout base slots image) where
    given_there : (k : ℕ) (work : SlotWork) (i : ℕ) (part : Part) → IsOpen layout slots image k work → GivesPart gives work i part
        → part_given i (opened_in gives layout slots image k) ≡ Some (record { stamp = work.job.stamp; value = part })
    given_there k work i part opened given_is = ap (part_given i) (open_there k work opened) ∙ given_is

    pub none_given : (i : ℕ) → given layout (opened_in gives layout slots image) i ≡ None → (k : ℕ) (work : SlotWork) (part : Part)
        → IsOpen layout slots image k work → GivesPart gives work i part → ⊥
    none_given i none k work part opened given_is =
        let low = within gives layout base slots works k work opened.there in
        let nothing =
        newest_none (λ j. part_given i (opened_in gives layout slots image j)) 0 (slot_count layout)
        (None-option_map (λ (newest : Stamped Part). newest.value) _ none) k (omega arith) (omega arith) in
        none_there (sym nothing ∙ given_there k work i part opened given_is)

    -- of durable commits the giver is the last
    last_of : (i k : ℕ) (work : SlotWork) → IsDurableGiver gives layout slots image i k work → IsLastGiver gives slots k work i
    last_of i k work lasting j other part_too away here settled gave =
        let its = works.each j other here in
        let own = works.each k work lasting.is_open.there in
        elim (its.landed settled).opens [
          | inl gated ↦
              let low = within gives layout base slots works j other here in
              let below = lasting.giver.newest j (record { stamp = other.job.stamp; value = part_too }) low away
              (given_there j other i part_too (record { there = here; gate = gates j other here gated; may = ap may_be_open gated }) gave) in
              let stamp = lasting.stamp in
              omega arith
          | inr placed ↦
              let shares = share_given gives other work i part_too lasting.part its.commit.records own.commit.records gave lasting.given_is in
              placed_older slots j k other work works.rings (in_slots away here lasting.is_open.there settled lasting.durable) placed shares
        ]

    -- and no open commit that is not durable gives the inode too
    none_newer : (i k : ℕ) (work : SlotWork) → IsDurableGiver gives layout slots image i k work → (j : ℕ) (other : SlotWork)
        (part_too : Part) → IsOpenFlight layout slots image j other → GivesPart gives other i part_too → ⊥
    none_newer i k work lasting j other part_too flight gave =
        let away : j ≢ k = λ same.
        not_both (ap (λ (w : SlotWork). w.settled) (some_same (sym flight.is_open.there ∙ ap slots same ∙ lasting.is_open.there)) ∙ lasting.durable)
        flight.aloft in
        let low = within gives layout base slots works j other flight.is_open.there in
        let below = lasting.giver.newest j (record { stamp = other.job.stamp; value = part_too }) low away
        (given_there j other i part_too flight.is_open gave) in
        let shares = share_given gives work other i lasting.part part_too (works.each k work lasting.is_open.there).commit.records
        (works.each j other flight.is_open.there).commit.records lasting.given_is gave in
        let above = works.rings.later k j work other
        (in_slots (λ same. away (sym same)) lasting.is_open.there flight.is_open.there lasting.durable flight.aloft) shares in
        let stamp = lasting.stamp in
        omega arith

    pub given_so : (i : ℕ) → FlightGives gives layout base slots image i ⊎ BaseStays gives layout base slots image i
    given_so i = go (given layout (opened_in gives layout slots image) i) refl
      where
        go : (o : Option Part) → given layout (opened_in gives layout slots image) i ≡ o
            → FlightGives gives layout base slots image i ⊎ BaseStays gives layout base slots image i
        go None none = inr (record {
          whole = ap (λ (o : Option Part). unwrap_or o (base i)) none;
          none = λ k work part flight given_is. none_given i none k work part flight.is_open given_is;
        })
        go (Some part) some =
            let giver = giver_of layout (opened_in gives layout slots image) i part stands.stamps some in
            let by = given_by i (opened_in gives layout slots image giver.0) giver.1 giver.2.gives in
            let own = open_work giver.0 by.0 by.1 in
            let stamp : giver.1.stamp ≡ own.work.job.stamp = by.2 ∙ ap (λ (t : Transaction). t.stamp) (sym own.is) in
            let given_is : GivesPart gives own.work i part =
            ap (λ (t : Transaction). part_given i (Some t)) own.is
            ∙ sym (ap (part_given i) by.1)
            ∙ giver.2.gives
            ∙ ap Some (stamped_is giver.1 own.work.job.stamp part stamp (sym giver.3)) in
            let whole : with_opened layout (opened_in gives layout slots image) base i ≡ part =
            ap (λ (o : Option Part). unwrap_or o (base i)) some in
            elim (true_or_false own.work.settled) [
              | inl durable ↦
                  let lasting : IsDurableGiver gives layout slots image i giver.0 own.work = record {
                    ours = giver.1;
                    part = part;
                    giver = giver.2;
                    stamp = stamp;
                    is_open = own.is_open;
                    durable = durable;
                    given_is = given_is;
                  } in
                  inr (record {
                    whole = whole
                        ∙ sym (works.newest giver.0 i own.work part own.is_open.there durable given_is
                        (last_of i giver.0 own.work lasting));
                    none = none_newer i giver.0 own.work lasting;
                  })
              | inr aloft ↦ inl (record {
                slot = giver.0;
                work = own.work;
                flight = record { is_open = own.is_open; aloft = aloft };
                part = part;
                given_is = given_is;
                whole = whole;
              })
            ]
