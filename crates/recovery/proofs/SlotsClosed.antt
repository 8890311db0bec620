-- What closing one open slot after another makes of an image.
use Rattle.std.proofs.Common.{◌≡◌, ◌≢◌, ℕ, ◌<◌, ◌≤◌, true, false, List, length, Option, None, Some, refl, sym, ◌∙◌, ap, subst, arith, inl, inr}
use Rattle.std.proofs.Math.Path.{fun_ext}
use Rattle.std.specs.Prelude.{option_map, unwrap_or}
use Rattle.std.proofs.lemmas.Bool.{cases_eq}
use Rattle.std.proofs.lemmas.Bool.Decides.{nat_tests}
use Rattle.sfs_base.proofs.BasicTruth.{not_both}
use Rattle.sfs_base.proofs.BasicOptions.{some_same}
use Rattle.sfs_image.specs.Bytes.{part}
use Rattle.sfs_image.specs.ImageOf.{Transaction, part_given, given, with_opened, with_slot, IsSlotOf, IsImageOf, PointsToData}
use Rattle.sfs_image.specs.ImageWrites.{AgreesOutside, IsFullTable, IsOldestOfItsInodes, ShutsGate}
use Rattle.sfs_image.specs.Journal.{head_of}
use Rattle.sfs_image.specs.Part.{Part, IsGathered}
use Rattle.sfs_image.specs.Settled.{Stamped, image_block, journal_slot, slot_byte, slot_count}
use Rattle.sfs_image.specs.Super.{Layout}
use Rattle.sfs_image.proofs.GateLaws.{gate_shuts, oldest_of_all, oldest_may_shut, tables_stay_full}
use Rattle.sfs_image.proofs.GivenLaws.{with_slot-same, with_slot-other}
use Rattle.sfs_image.proofs.NewestLaws.{none_newest}
use Rattle.sfs_image.proofs.WrittenLaws.{gate_written}
use Rattle.sfs_dev.specs.Ranges.{SameOutside}
use Rattle.commit_one.specs.Change.{nothing_open}
use Rattle.recovery.specs.Recovering.{is_above, IsOldestAbove, HasNoneAbove, IsFoundAt, AreOpenAbove, SettlesAs, IsToBeClosed}
use Rattle.recovery.specs.declared.journals.OpenSlot.{OpenSlot}

-- a greater stamp than a greater one is greater
above_again : (last : Option ℕ) (stamp other : ℕ) → is_above last stamp ≡ true → is_above (Some stamp) other ≡ true → is_above last other ≡ true
above_again None stamp other first second = refl
above_again (Some before) stamp other first second = grind (arith, nat_tests)

above_less : (stamp other : ℕ) → is_above (Some stamp) other ≡ true → stamp < other
above_less stamp other above = grind (arith, nat_tests)

less_above : (stamp other : ℕ) → stamp ≤ other → stamp ≢ other → is_above (Some stamp) other ≡ true
less_above stamp other le apart = grind (arith, nat_tests)

less_of : (stamp other : ℕ) → stamp ≤ other → (stamp ≡ other → ⊥) → stamp < other
less_of stamp other le apart = omega arith

-- no part is given where no slot is open
none_given : (layout : Layout) (opened : ℕ → Option Transaction) → ((k : ℕ) → k < slot_count layout → opened k ≡ None) → (i : ℕ) → given layout opened i ≡ None
none_given layout opened shut i =
    ap (option_map (λ (newest : Stamped Part). newest.value))
    (none_newest (λ k. part_given i (opened k)) 0 (slot_count layout) (λ k low high. ap (part_given i) (shut k (omega arith))))

-- so the parts are what they are
pub nothing_given : (layout : Layout) (parts : ℕ → Part) (i : ℕ) → with_opened layout nothing_open parts i ≡ parts i
nothing_given layout parts i = ap (λ (o : Option Part). unwrap_or o (parts i)) (none_given layout nothing_open (λ k low. refl) i)

-- an image with no slot open stands for the parts of its table
pub stands_closed : (layout : Layout) (opened : ℕ → Option Transaction) (parts : ℕ → Part) (image : List ℕ) → IsImageOf layout opened parts image
    → ((k : ℕ) → k < slot_count layout → opened k ≡ None) → IsImageOf layout nothing_open parts image
stands_closed layout opened parts image is shut = record {
  sound = is.sound;
  divided = is.divided;
  slots = λ k low. subst (λ (o : Option Transaction). IsSlotOf layout.inodes o (journal_slot layout image k)) (shut k low) (is.slots k low);
  stamps = λ j k one other low high open_with. absurd (let never : None ≡ Some one = open_with in cc);
  table = λ i low none. is.table i low (none_given layout opened shut i);
  gathered = λ i low. subst (IsGathered (image_block image)) (alike i) (is.gathered i low);
  pointers = λ i low. subst (PointsToData layout) (alike i) (is.pointers i low);
}
  where
    alike : (i : ℕ) → with_opened layout opened parts i ≡ with_opened layout nothing_open parts i
    alike i = ap (λ (o : Option Part). unwrap_or o (parts i)) (none_given layout opened shut i ∙ sym (none_given layout nothing_open (λ k low. refl) i))

-- the gate of the oldest slot is written, in an image that is to be closed
module _ (layout : Layout) (parts : ℕ → Part) (found : List OpenSlot) (last : Option ℕ) (place : ℕ) (one : OpenSlot) (within : one.number < slot_count layout)
    (oldest : IsOldestAbove found (length found) last place one) (was image : List ℕ) (to : IsToBeClosed layout parts found last was)
    (same : SameOutside (slot_byte layout one.number) 1 was image) where
  own : IsFoundAt to.settles.opened one
  own = to.still_open.still place one oldest.at oldest.above

  -- of the slots that are open no two have one commit stamp
  apart_by_number : (other : OpenSlot) → other.number < slot_count layout → IsFoundAt to.settles.opened other → other.number ≢ one.number
      → one.stamp ≡ other.stamp → ⊥
  apart_by_number other low there apart stamps =
      apart (to.settles.stands.stamps other.number one.number there.transaction own.transaction low within there.is_open own.is_open
      (there.stamp ∙ sym stamps ∙ sym own.stamp))

  is_less : (j : ℕ) (other : Transaction) → j < slot_count layout → j ≢ one.number → to.settles.opened j ≡ Some other → own.transaction.stamp < other.stamp
  is_less j other low apart open_with = elim (to.still_open.others j low) [
    | inl none ↦ absurd (let never : None ≡ Some other = sym none ∙ open_with in cc)
    | inr there ↦
        let slot = there.1 in
        let found_at = to.still_open.still there.0 slot there.2 there.4 in
        let number : slot.number ≡ j = there.3 in
        let transaction : Some found_at.transaction ≡ Some other = sym found_at.is_open ∙ ap to.settles.opened number ∙ open_with in
        let stamp : other.stamp ≡ slot.stamp = ap (λ (t : Transaction). t.stamp) (sym (some_same transaction)) ∙ found_at.stamp in
        let le = oldest.least there.0 slot there.2.within there.2 there.4 in
        let distinct : one.stamp ≡ slot.stamp → ⊥ =
        apart_by_number slot (subst (λ n. n < slot_count layout) (sym number) low) found_at (λ e. apart (sym number ∙ e)) in
        let less : one.stamp < slot.stamp = less_of one.stamp slot.stamp le distinct in
        subst (λ n. n < other.stamp) (sym own.stamp) (subst (λ n. one.stamp < n) (sym stamp) less)
  ]

  is_oldest : IsOldestOfItsInodes layout to.settles.opened one.number
  is_oldest = oldest_of_all layout to.settles.opened one.number own.transaction own.is_open is_less

  agrees : AgreesOutside (slot_byte layout one.number) 1 was image
  agrees = record { before = same.before; behind = same.after; size = same.size }

  -- the gate may stay open
  pub gate_stays_open : (head_of (part 0 4096 (journal_slot layout image one.number))).gate ≡ true → SettlesAs layout parts image
  gate_stays_open gate = record {
    opened = to.settles.opened;
    stands = gate_written layout to.settles.opened parts one.number was image to.settles.stands (record {
      within = within;
      written = agrees;
      gate = gate ∙ sym open_before;
    });
    same = to.settles.same;
  }
    where
      open_before : (head_of (part 0 4096 (journal_slot layout was one.number))).gate ≡ true
      open_before =
          (subst (λ (o : Option Transaction). IsSlotOf layout.inodes o (journal_slot layout was one.number)) own.is_open
          (to.settles.stands.slots one.number within)).gate

  module _ (gate : (head_of (part 0 4096 (journal_slot layout image one.number))).gate ≡ false) where
    shuts : ShutsGate layout to.settles.opened one.number was image
    shuts = record {
      within = within;
      written = agrees;
      may = oldest_may_shut layout to.settles.opened parts one.number own.transaction was within own.is_open is_oldest (inl to.full);
      gate = gate;
    }

    abbrev others_open : ℕ → Option Transaction
    others_open = with_slot to.settles.opened one.number None

    again : with_opened layout to.settles.opened parts ≡ parts
    again = fun_ext to.settles.same

    stands_then : IsImageOf layout others_open parts image
    stands_then =
        subst (λ (p : ℕ → Part). IsImageOf layout others_open p image) again
        (gate_shuts layout to.settles.opened parts one.number was image to.settles.stands shuts).stands

    same_then : (i : ℕ) → with_opened layout others_open parts i ≡ parts i
    same_then i =
        ap (λ (p : ℕ → Part). with_opened layout others_open p i) (sym again)
        ∙ (gate_shuts layout to.settles.opened parts one.number was image to.settles.stands shuts).same i ∙ to.settles.same i

    full_then : IsFullTable layout others_open parts image
    full_then =
        subst (λ (p : ℕ → Part). IsFullTable layout others_open p image) again
        (tables_stay_full layout to.settles.opened parts one.number was image to.settles.stands shuts to.full)

    still_then : AreOpenAbove layout found (Some one.stamp) others_open
    still_then = record {
      still = λ k other at above.
          let there = to.still_open.still k other at (above_again last one.stamp other.stamp oldest.above above) in
          let apart : other.number ≢ one.number = λ e.
          let t : Some there.transaction ≡ Some own.transaction = sym there.is_open ∙ ap to.settles.opened e ∙ own.is_open in
          let stamps : other.stamp ≡ one.stamp = sym there.stamp ∙ ap (λ (t : Transaction). t.stamp) (some_same t) ∙ own.stamp in
          not_less_itself one.stamp (subst (λ n. one.stamp < n) stamps (above_less one.stamp other.stamp above)) in
          record {
            transaction = there.transaction;
            is_open = with_slot-other to.settles.opened one.number None other.number apart ∙ there.is_open;
            stamp = there.stamp;
          };
      others = λ j low. elim (cases_eq j one.number) [
        | inl here ↦ inl (ap others_open here ∙ with_slot-same to.settles.opened one.number None)
        | inr apart ↦ elim (to.still_open.others j low) [
          | inl none ↦ inl (with_slot-other to.settles.opened one.number None j apart ∙ none)
          | inr there ↦
              let slot = there.1 in
              let found_at = to.still_open.still there.0 slot there.2 there.4 in
              let number : slot.number ≡ j = there.3 in
              let distinct : one.stamp ≡ slot.stamp → ⊥ =
              apart_by_number slot (subst (λ n. n < slot_count layout) (sym number) low) found_at (λ e. apart (sym number ∙ e)) in
              inr (there.0, slot, there.2, number, less_above one.stamp slot.stamp (oldest.least there.0 slot there.2.within there.2 there.4) distinct)
        ]
      ];
    }
      where
        not_less_itself : (n : ℕ) → n < n → ⊥
        not_less_itself n less = omega arith

    -- or it is shut, and the image is one whose other slots are to be closed
    pub gate_is_shut : IsToBeClosed layout parts found (Some one.stamp) image
    gate_is_shut = record {
      settles = record { opened = others_open; stands = stands_then; same = same_then };
      full = full_then;
      still_open = still_then;
    }

  -- so it settles as the parts in any case
  pub written_settles : SettlesAs layout parts image
  written_settles =
      elim ((head_of (part 0 4096 (journal_slot layout image one.number))).gate) as (λ b. (head_of (part 0 4096 (journal_slot layout image one.number))).gate
      ≡ b
      → SettlesAs layout parts image) [
        | true ↦ gate_stays_open
        | false ↦ λ gate. (gate_is_shut gate).settles
      ] refl

-- where no slot is left to be closed, none is open
pub all_are_closed : (layout : Layout) (parts : ℕ → Part) (found : List OpenSlot) (last : Option ℕ) (image : List ℕ) → HasNoneAbove found (length found) last
    → IsToBeClosed layout parts found last image → IsImageOf layout nothing_open parts image
all_are_closed layout parts found last image none to =
    stands_closed layout to.settles.opened parts image to.settles.stands (λ k low. elim (to.still_open.others k low) [
      | inl shut ↦ shut
      | inr there ↦ absurd (not_both there.4 (none there.0 there.1 there.2.within there.2))
    ])
