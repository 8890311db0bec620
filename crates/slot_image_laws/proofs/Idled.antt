-- A slot is idle again, and a commit begins in one.
use Rattle.std.proofs.Common.{◌≡◌, ◌≢◌, ◌∙◌, ◌<◌, ℕ, List, true, None, Some, sym, ap, length, inl, inr, subst, Option, cond}
use Rattle.sfs_base.proofs.BasicOptions.{some_same}
use Rattle.sfs_base.proofs.BasicTruth.{not_both}
use Rattle.sfs_image.specs.ImageOf.{InodePart, Transaction, IsImageOf}
use Rattle.sfs_image.specs.Super.{Layout}
use Rattle.sfs_image.specs.Part.{Part}
use Rattle.sfs_image.specs.Settled.{slot_count}
use Rattle.sfs_dev.specs.Disk.{View}
use Rattle.journal_one.specs.Known.{EachLeft, IsShutIn}
use Rattle.journal_one.specs.Job.{Place}
use Rattle.merge_laws.proofs.Blocks.{same_or_not}
use Rattle.slot_laws.specs.Slots.{Slots, shut_gate, SlotWork, with_at, open_gate, place_at, KnownGate, may_be_open}
use Rattle.slot_laws.specs.Rules.{HasWork}
use Rattle.slot_laws.proofs.Basics.{none_there, at_same, at_other}
use Rattle.slot_laws.proofs.Rings.{in_slots, rings_move, KeepsMarks, same_marks, placed_older}
use Rattle.slot_laws.proofs.Came.{idled_came}
use Rattle.slot_image_laws.specs.Commits.{WorksFit, GivesPart, IsLanded, may_have, work_transaction}
use Rattle.slot_image_laws.specs.Laws.{IdlesKeep}
use Rattle.slot_image_laws.specs.Images.{disk_books, KnowsSlot, KnowsWork, HasGate}
use Rattle.slot_image_laws.specs.Run.{IsFlight}
use Rattle.slot_image_laws.proofs.Records.{share_given}
use Rattle.slot_image_laws.proofs.Anew.{opened_same}

module _ (slots : Slots) (k : ℕ) where
  away_from : (j : ℕ) (work : SlotWork) → with_at slots k None j ≡ Some work → j ≢ k
  away_from j work there same = none_there (sym (at_same slots k None j same) ∙ there)

  before : (j : ℕ) (work : SlotWork) → with_at slots k None j ≡ Some work → slots j ≡ Some work
  before j work there = sym (at_other slots k None j (away_from j work there)) ∙ there

module _ (gives : ℕ → List InodePart) (layout : Layout) (base : ℕ → Part) (slots : Slots) (k : ℕ) (has : HasWork slots k true shut_gate) where
  -- the commit that goes is no last giver, since its records are in the table
  not_last : WorksFit gives layout base slots → (j i : ℕ) (work : SlotWork) (part part_too : Part) → j ≢ k → slots j ≡ Some work → work.settled ≡ true
      → GivesPart gives has.work i part → GivesPart gives work i part_too → has.work.job.stamp < work.job.stamp
  not_last works j i work part part_too away there durable given given_too =
      let fits = works.each k has.work has.there in
      let its = works.each j work there in
      let shares = share_given gives has.work work i part part_too fits.commit.records its.commit.records given given_too in
      placed_older slots k j has.work work works.rings (in_slots (λ same. away (sym same)) has.there there has.aloft durable)
      (all_placed (fits.landed has.aloft)) shares
    where
      all_placed : IsLanded has.work → (n : ℕ) → n < length has.work.job.entries → has.work.known.table_left n ≡ true
      all_placed landed n low = elim landed.opens [
        | inl gated ↦ let never : shut_gate ≡ open_gate = sym has.gate_is ∙ gated in absurd (cc)
        | inr placed ↦ placed n low
      ]

  idled_works : WorksFit gives layout base slots → WorksFit gives layout base (with_at slots k None)
  idled_works works = record {
    beyond = λ j high. elim (same_or_not j k) [
      | inl same ↦ at_same slots k None j same
      | inr away ↦ at_other slots k None j away ∙ works.beyond j high
    ];
    each = λ j work there. works.each j work (before slots k j work there);
    stamps = λ i j one other here there same. works.stamps i j one other (before slots k i one here) (before slots k j other there) same;
    rings = rings_move slots (with_at slots k None) works.rings (idled_came (KeepsMarks slots) slots (same_marks slots) k);
    apart = λ i j one other pair.
        works.apart i j one other (in_slots pair.away (before slots k i one pair.here) (before slots k j other pair.there) pair.one_is pair.other_is);
    newest = λ j i work part there durable given last.
        works.newest j i work part (before slots k j work there) durable given
        (λ m other part_too away here settled gave. elim (same_or_not m k) [
          | inl same ↦
              let gone : has.work ≡ other = some_same (sym has.there ∙ ap slots (sym same) ∙ here) in
              subst (λ (w : SlotWork). w.job.stamp < work.job.stamp) gone
              (not_last works j i work part_too part (away_from slots k j work there) (before slots k j work there) durable
              (subst (λ (w : SlotWork). GivesPart gives w i part_too) (sym gone) gave) given)
          | inr off ↦ last m other part_too away (at_other slots k None m off ∙ here) settled gave
        ]);
  }

pub idles_keep : (disk : View) → IdlesKeep disk
idles_keep disk run turns slots k has runs = record {
  box = record {
    large = runs.box.large;
    fits = runs.box.fits;
    works = idled_works run.gives run.layout (disk_books run turns).base slots k has runs.box.works;
    knows = λ j low. elim (same_or_not j k) [
      | inl same ↦ subst (λ (o : Option SlotWork). KnowsSlot run.layout j o disk) (sym (at_same slots k None j same)) (is_shut j low same)
      | inr away ↦ subst (λ (o : Option SlotWork). KnowsSlot run.layout j o disk) (sym (at_other slots k None j away)) (runs.box.knows j low)
    ];
    stands = λ content told image left.
        subst (λ (opened : ℕ → Option Transaction). IsImageOf run.layout opened (disk_books run turns).base image)
        (sym (opened_same run.gives run.layout slots (with_at slots k None) image (λ j gated. same_may j)))
        (runs.box.stands content told image left);
  };
  matches = record {
    once = λ i j one other here there same. runs.matches.once i j one other (before slots k i one here) (before slots k j other there) same;
    flies = λ j work there aloft may. runs.matches.flies j work (before slots k j work there) aloft may;
    flown = λ commit one.
        let flight = runs.matches.flown commit one in
        record {
          slot = flight.slot;
          work = flight.work;
          there = at_other slots k None flight.slot (off flight) ∙ flight.there;
          number = flight.number;
          aloft = flight.aloft;
          may = flight.may;
        };
  };
  trail = runs.trail;
}
  where
    off : {commit : ℕ} (flight : IsFlight slots commit) → flight.slot ≢ k
    off {commit} flight same =
        let is : has.work ≡ flight.work = some_same (sym has.there ∙ ap slots (sym same) ∙ flight.there) in
        not_both has.aloft (ap (λ (w : SlotWork). w.settled) is ∙ flight.aloft)

    is_shut : (j : ℕ) → j < slot_count run.layout → j ≡ k → EachLeft disk (IsShutIn (place_at run.layout j))
    is_shut j low same content told image left =
        let knows : KnowsWork has.work disk =
        subst (λ (o : Option SlotWork). KnowsSlot run.layout j o disk) (ap slots same ∙ has.there) (runs.box.knows j low) in
        let shut : IsShutIn has.work.job.place image =
        subst (λ (gate : KnownGate). HasGate gate has.work.job.place image) has.gate_is (knows.gate_left content told image left) in
        subst (λ (place : Place). IsShutIn place image)
        ((runs.box.works.each k has.work has.there).place ∙ ap (place_at run.layout) (sym same)) shut

    same_may : (j : ℕ) → may_have run.gives (with_at slots k None j) ≡ may_have run.gives (slots j)
    same_may j = elim (same_or_not j k) [
      | inl same ↦
          ap (may_have run.gives) (at_same slots k None j same)
          ∙ sym (ap (λ (gate : KnownGate). cond (may_be_open gate) (Some (work_transaction run.gives has.work)) None) has.gate_is)
          ∙ sym (ap (may_have run.gives) (ap slots same ∙ has.there))
      | inr away ↦ ap (may_have run.gives) (at_other slots k None j away)
    ]
