-- What stands open in an image is shown: the parts once the durable commits are done, and those that are open there.
use Rattle.std.proofs.Common.{◌&&◌, ◌||◌, ◌≡◌, ◌<◌, ◌∙◌, ◌⊎◌, ◌∷◌, Option, Bool, ℕ, None, false, Some, not, nat_eq, List, zero, suc, true, inl, refl, inr, eqb-true, arith, ap, sym, find, unwrap_or, option_map, cond, [], subst}
use Rattle.std.proofs.lemmas.Bool.{cases_eq}
use Rattle.sfs_base.proofs.BasicTruth.{false_not_true, and_second, not_true, and_first, or_true}
use Rattle.sfs_base.proofs.BasicNumbers.{same_number}
use Rattle.sfs_base.proofs.BasicOptions.{some_same}
use Rattle.sfs_image.specs.Super.{Layout}
use Rattle.sfs_image.specs.ImageOf.{InodePart}
use Rattle.sfs_image.specs.Part.{Part}
use Rattle.sfs_image.specs.Settled.{slot_count}
use Rattle.sfs_image.proofs.GivenLaws.{given_from}
use Rattle.sfs_dev.specs.Disk.{View, images}
use Rattle.journal_one.specs.Job.{Place}
use Rattle.journal_one.specs.Known.{IsOpenIn}
use Rattle.cut_laws.specs.Rules.{IsOneOf}
use Rattle.merge_laws.proofs.Blocks.{same_or_not}
use Rattle.slot_laws.specs.Slots.{SlotWork, may_be_open, Slots, open_gate, KnownGate}
use Rattle.slot_laws.proofs.Basics.{either_true}
use Rattle.slot_laws.proofs.Rings.{in_slots}
use Rattle.slot_image_laws.specs.Commits.{parts_over, GivesPart, work_transaction, opened_in}
use Rattle.slot_image_laws.specs.Images.{parts_kept, DiskBooks, IsBox, KnowsWork, KnowsSlot, HasGate, Shows}
use Rattle.slot_image_laws.specs.Run.{Matches}
use Rattle.slot_image_laws.proofs.Anew.{gate_in, within}
use Rattle.slot_image_laws.proofs.Given.{IsOpenFlight, given_so, BaseStays, FlightGives}
use Rattle.slot_image_laws.proofs.Records.{share_given}

-- a commit with a number is open in its slot, and is not durable
abbrev is_kept_at : Option SlotWork → Bool → ℕ → Bool
is_kept_at None gate commit = false
is_kept_at (Some work) gate commit = gate && (may_be_open work.known.gate_left && (not work.settled && nat_eq work.commit commit))

-- and so it is in one of the first slots
abbrev is_kept_below : Layout → Slots → List ℕ → ℕ → ℕ → Bool
is_kept_below layout slots image zero commit = false
is_kept_below layout slots image (suc n) commit = is_kept_at (slots n) (gate_in layout image n) commit || is_kept_below layout slots image n commit

-- Such a commit has its slot.
record IsKept (layout : Layout) (slots : Slots) (image : List ℕ) (commit : ℕ) : Type 0 where
  slot : ℕ
  work : SlotWork
  flight : IsOpenFlight layout slots image slot work
  number : work.commit ≡ commit

module _ (layout : Layout) (slots : Slots) (image : List ℕ) where
  kept_there : (n commit : ℕ) → is_kept_below layout slots image n commit ≡ true → IsKept layout slots image commit
  kept_there zero commit kept = absurd (false_not_true kept)
  kept_there (suc n) commit kept = elim (either_true (is_kept_at (slots n) (gate_in layout image n) commit) _ kept) [
    | inl here ↦ by (slots n) refl here
    | inr below ↦ kept_there n commit below
  ]
    where
      by : (o : Option SlotWork) → slots n ≡ o → is_kept_at o (gate_in layout image n) commit ≡ true → IsKept layout slots image commit
      by None there is = absurd (false_not_true is)
      by (Some work) there is =
          let rest = and_second (gate_in layout image n) _ is in
          let last = and_second (may_be_open work.known.gate_left) _ rest in
          record {
            slot = n;
            work = work;
            flight = record {
              is_open = record {
                there = there;
                gate = and_first (gate_in layout image n) _ is;
                may = and_first (may_be_open work.known.gate_left) _ rest;
              };
              aloft = not_true work.settled (and_first (not work.settled) _ last);
            };
            number = eqb-true work.commit commit (and_second (not work.settled) _ last);
          }

  there_kept : (n k : ℕ) (work : SlotWork) → k < n → IsOpenFlight layout slots image k work → is_kept_below layout slots image n work.commit ≡ true
  there_kept zero k work low flight = absurd (omega arith)
  there_kept (suc n) k work low flight = elim (cases_eq k n) [
    | inl same ↦
        ap (λ (b : Bool). b || is_kept_below layout slots image n work.commit)
        (ap (λ (m : ℕ). is_kept_at (slots m) (gate_in layout image m) work.commit) (sym same)
        ∙ ap (λ (o : Option SlotWork). is_kept_at o (gate_in layout image k) work.commit) flight.is_open.there
        ∙ all_true flight)
    | inr away ↦
        ap (λ (b : Bool). is_kept_at (slots n) (gate_in layout image n) work.commit || b) (there_kept n k work (omega arith) flight)
        ∙ or_true (is_kept_at (slots n) (gate_in layout image n) work.commit)
  ]
    where
      all_true : IsOpenFlight layout slots image k work → is_kept_at (Some work) (gate_in layout image k) work.commit ≡ true
      all_true flight =
          ap (λ (b : Bool). b && (may_be_open work.known.gate_left && (not work.settled && nat_eq work.commit work.commit))) flight.is_open.gate
          ∙ ap (λ (b : Bool). b && (not work.settled && nat_eq work.commit work.commit)) flight.is_open.may
          ∙ ap (λ (b : Bool). not b && nat_eq work.commit work.commit) flight.aloft
          ∙ same_number work.commit

-- what a list of parts gives an inode
pub over_or : (parts : List InodePart) (base : ℕ → Part) (i : ℕ)
    → ((find (λ own. nat_eq own.inode i) parts ≡ None) × (parts_over parts base i ≡ base i))
    ⊎ ((own : InodePart) × (find (λ own. nat_eq own.inode i) parts ≡ Some own) × (parts_over parts base i ≡ own.part))
over_or parts base i = by (find (λ own. nat_eq own.inode i) parts) refl
  where
    by : (o : Option InodePart) → find (λ own. nat_eq own.inode i) parts ≡ o
        → ((find (λ own. nat_eq own.inode i) parts ≡ None) × (parts_over parts base i ≡ base i))
        ⊎ ((own : InodePart) × (find (λ own. nat_eq own.inode i) parts ≡ Some own) × (parts_over parts base i ≡ own.part))
    by None is = inl (is, ap (λ (o : Option InodePart). unwrap_or (option_map (λ own. own.part) o) (base i)) is)
    by (Some own) is = inr (own, is, ap (λ (o : Option InodePart). unwrap_or (option_map (λ own. own.part) o) (base i)) is)

pub found_given : (gives : ℕ → List InodePart) (work : SlotWork) (i : ℕ) (own : InodePart)
    → find (λ own. nat_eq own.inode i) (gives work.commit) ≡ Some own → GivesPart gives work i own.part
found_given gives work i own found = ap (option_map (λ own. record { stamp = work.job.stamp; value = own.part })) found

pub over_given : (gives : ℕ → List InodePart) (work : SlotWork) (i : ℕ) (part : Part) (base : ℕ → Part) → GivesPart gives work i part
    → parts_over (gives work.commit) base i ≡ part
over_given gives work i part base given_is =
    let from = given_from i (work_transaction gives work) (record { stamp = work.job.stamp; value = part }) given_is in
    ap (λ (o : Option InodePart). unwrap_or (option_map (λ own. own.part) o) (base i)) from.1 ∙ sym from.3

-- commits that leave an inode its part, one after another
module _ (gives : ℕ → List InodePart) (kept : ℕ → Bool) (i : ℕ) (part : Part) where
  abbrev Leaves : List ℕ → Type 0
  Leaves commits = (commit : ℕ) → IsOneOf commits commit → kept commit ≡ true → (base : ℕ → Part) → base i ≡ part
      → parts_over (gives commit) base i ≡ part

  -- one of them, kept or not
  next_leaves : (commit : ℕ) (commits : List ℕ) (base : ℕ → Part) → Leaves (commit ∷ commits) → base i ≡ part
      → cond (kept commit) (parts_over (gives commit) base) base i ≡ part
  next_leaves commit commits base leaves is = by (kept commit) refl
    where
      by : (b : Bool) → kept commit ≡ b → cond b (parts_over (gives commit) base) base i ≡ part
      by true keeps = leaves commit (inl refl) keeps base is
      by false gone = is

  part_stays : (commits : List ℕ) (base : ℕ → Part) → Leaves commits → base i ≡ part → parts_kept gives kept commits base i ≡ part
  part_stays [] base leaves is = is
  part_stays (commit ∷ commits) base leaves is =
      part_stays commits (cond (kept commit) (parts_over (gives commit) base) base) (λ other one. leaves other (inr one))
      (next_leaves commit commits base leaves is)

  part_comes : (commits : List ℕ) (base : ℕ → Part) (commit : ℕ) → Leaves commits → IsOneOf commits commit → kept commit ≡ true
      → ((any : ℕ → Part) → parts_over (gives commit) any i ≡ part) → parts_kept gives kept commits base i ≡ part
  part_comes [] base commit leaves one keeps comes = absurd one
  part_comes (first ∷ commits) base commit leaves (inr one) keeps comes =
      part_comes commits (cond (kept first) (parts_over (gives first) base) base) commit (λ other rest. leaves other (inr rest)) one keeps comes
  part_comes (first ∷ commits) base commit leaves (inl same) keeps comes =
      part_stays commits (cond (kept first) (parts_over (gives first) base) base) (λ other one. leaves other (inr one))
      (ap (λ (b : Bool). cond b (parts_over (gives first) base) base i) (ap kept same ∙ keeps)
      ∙ ap (λ (c : ℕ). parts_over (gives c) base i) same
      ∙ comes base)

-- each image is shown
module _ (gives : ℕ → List InodePart) (layout : Layout) (books : DiskBooks) (slots : Slots) (disk : View) (box : IsBox gives layout books.base slots disk)
    (content : List ℕ) (told : disk.content ≡ Some content) where
  pub gates_open : (image : List ℕ) → images disk image → (k : ℕ) (work : SlotWork) → slots k ≡ Some work → work.known.gate_left ≡ open_gate
      → gate_in layout image k ≡ true
  gates_open image left k work there gated =
      let low = within gives layout books.base slots box.works k work there in
      let knows : KnowsWork work disk = subst (λ (o : Option SlotWork). KnowsSlot layout k o disk) there (box.knows k low) in
      subst (λ (place : Place). IsOpenIn place image) (box.works.each k work there).place
      (subst (λ (gate : KnownGate). HasGate gate work.job.place image) gated (knows.gate_left content told image left))

  pub shown : Matches books.flying slots → (image : List ℕ) → images disk image → Shows gives layout books image
  shown matches image left = record {
    kept = kept;
    table = books.base;
    opened = opened_in gives layout slots image;
    stands = box.stands content told image left;
    parts = λ i low. elim (given_so gives layout books.base slots image box.works (gates_open image left) (box.stands content told image left) i) [
      | inl flight ↦ flight.whole
          ∙ sym (part_comes gives kept i flight.part books.flying books.base flight.work.commit (leaves_flight i flight)
          (matches.flies flight.slot flight.work flight.flight.is_open.there flight.flight.aloft flight.flight.is_open.may)
          (there_kept layout slots image (slot_count layout) flight.slot flight.work
          (within gives layout books.base slots box.works flight.slot flight.work flight.flight.is_open.there) flight.flight)
          (λ base. over_given gives flight.work i flight.part base flight.given_is))
      | inr base ↦ base.whole ∙ sym (part_stays gives kept i (books.base i) books.flying books.base (leaves_base i base) refl)
    ];
  }
    where
      kept : ℕ → Bool
      kept commit = is_kept_below layout slots image (slot_count layout) commit

      leaves_base : (i : ℕ) → BaseStays gives layout books.base slots image i → Leaves gives kept i (books.base i) books.flying
      leaves_base i stays commit one keeps base is =
          let its = kept_there layout slots image (slot_count layout) commit keeps in
          elim (over_or (gives commit) base i) [
            | inl none ↦ none.1 ∙ is
            | inr some ↦
                absurd
                (stays.none its.slot its.work some.0.part its.flight
                (found_given gives its.work i some.0 (ap (λ (c : ℕ). find (λ own. nat_eq own.inode i) (gives c)) its.number ∙ some.1)))
          ]

      leaves_flight : (i : ℕ) (flight : FlightGives gives layout books.base slots image i) → Leaves gives kept i flight.part books.flying
      leaves_flight i flight commit one keeps base is =
          let its = kept_there layout slots image (slot_count layout) commit keeps in
          elim (over_or (gives commit) base i) [
            | inl none ↦ none.1 ∙ is
            | inr some ↦
                let gave : GivesPart gives its.work i some.0.part =
                found_given gives its.work i some.0 (ap (λ (c : ℕ). find (λ own. nat_eq own.inode i) (gives c)) its.number ∙ some.1) in
                elim (same_or_not its.slot flight.slot) [
                  | inl same ↦
                      let work : its.work ≡ flight.work = some_same (sym its.flight.is_open.there ∙ ap slots same ∙ flight.flight.is_open.there) in
                      some.2
                      ∙ sym (over_given gives its.work i some.0.part base gave)
                      ∙ over_given gives its.work i flight.part base (subst (λ (w : SlotWork). GivesPart gives w i flight.part) (sym work) flight.given_is)
                  | inr away ↦
                      absurd
                      (box.works.rings.apart its.slot flight.slot its.work flight.work
                      (in_slots away its.flight.is_open.there flight.flight.is_open.there its.flight.aloft flight.flight.aloft)
                      (share_given gives its.work flight.work i some.0.part flight.part (box.works.each its.slot its.work its.flight.is_open.there).commit.records
                      (box.works.each flight.slot flight.work flight.flight.is_open.there).commit.records gave flight.given_is))
                ]
          ]
