-- Slots that share an inode close in the order of their stamps.
use borrow.Author.Tests.{eqb-true}
use Rattle.std.specs.Prelude.{option_map, not}
use Rattle.std.proofs.Common.{◌≡◌, ◌≢◌, ◌⊎◌, ◌<◌, ◌||◌, ◌∷◌, ◌++◌, ◌∙◌, ℕ, Bool, true, false, cond, List, [], length, Some, None, inl, inr, refl, sym, ap, subst, arith, nat_eq}
use Rattle.sfs_base.specs.declared.numbers.CoreId.{CoreId}
use Rattle.sfs_base.proofs.BasicOptions.{some_same}
use Rattle.sfs_base.proofs.BasicTruth.{not_both, true_or_false, and_second, or_true}
use Rattle.sfs_image.specs.Super.{Layout}
use Rattle.journal_one.specs.Job.{Job}
use Rattle.cut_laws.specs.Closure.{Flush}
use Rattle.merge_laws.proofs.Blocks.{same_or_not}
use Rattle.stamp_table.specs.declared.event.Event.{Event}
use Rattle.stamp_table.specs.declared.event.Event.TheVariants.{Called, Told}
use Rattle.slot_laws.specs.declared.label.Label.{Label}
use Rattle.slot_laws.specs.declared.label.Label.TheVariants as label
use Rattle.slot_laws.specs.Slots.{SlotKnown, SlotWork, begun_work, knowing, known_synced, known_filled, known_placed, known_gated, settled_work, open_gate, shut_gate, Slots, with_at, with_number, without_number, changed_slot, synced_slots}
use Rattle.slot_laws.specs.Labels.{BoxPast, first_past, after_label, past_from, fsync_told}
use Rattle.slot_laws.specs.Rules.{inode_of_nth, HasRecordOf, IsOldestOf, MayLabel, MayFrom, ShutRule, HasWork}
use Rattle.slot_laws.specs.Fits.{PastFits}
use Rattle.slot_laws.specs.Rings.{ShareInode, BeginsApart, BeginApart, is_started, RingsFit, ClosesInOrder, SlotsCloseInOrder, AreInSlots}
use Rattle.slot_laws.proofs.Basics.{at_same, at_other, none_there, either_true}
use Rattle.slot_laws.proofs.Came.{KeepsTold, Came, knowing_told, told_itself, changed_came, synced_came, idled_came}
use Rattle.slot_laws.proofs.Labels.{label_fits}
use Rattle.slot_laws.proofs.Lawful.{first_fits}

module _ {slots : Slots} {j k : ℕ} {one other : SlotWork} {durable too : Bool} where
  pub in_slots : j ≢ k → slots j ≡ Some one → slots k ≡ Some other → one.settled ≡ durable → other.settled ≡ too → AreInSlots slots j k one other durable too
  in_slots away here there one_is other_is = record { away = away; here = here; there = there; one_is = one_is; other_is = other_is }

-- sharing goes both ways
pub share_back : (one other : Job) → ShareInode one other → ShareInode other one
share_back one other shares = (shares.2.0, shares.2.1, (shares.0, shares.1, sym shares.2.2))

-- Of a commit the same is told, durable or not as it was; and each record that was placed was so, or is the oldest of its inode.
pub record KeepsMarks (slots : Slots) (k : ℕ) (work new : SlotWork) : Type 0 where
  pub told : KeepsTold work new
  pub marks : (n : ℕ) → is_started new n ≡ true → (is_started work n ≡ true) ⊎ ((work.settled ≡ true) × IsOldestOf slots k work n)

-- so came a commit of slots
abbrev pub CameAs : Slots → ℕ → SlotWork → Type 0
CameAs slots = Came (KeepsMarks slots) slots

pub same_marks : (slots : Slots) (k : ℕ) (work : SlotWork) → KeepsMarks slots k work work
same_marks slots k work = record { told = told_itself work; marks = λ n started. inl started }

-- where all its records are placed in each image, a durable commit has a lower stamp than another that shares an inode
pub placed_older : (slots : Slots) (k j : ℕ) (one other : SlotWork) → RingsFit slots → AreInSlots slots k j one other true true
    → ((n : ℕ) → n < length one.job.entries → one.known.table_left n ≡ true) → ShareInode one.job other.job → one.job.stamp < other.job.stamp
placed_older slots k j one other fits pair placed shares =
    fits.started k j one other pair
    (record {
      n = shares.0;
      placed = ap (λ (b : Bool). b || one.known.table_read shares.0) (placed shares.0 shares.1);
      within = shares.1;
      shared = shares.2;
    })

-- and so where the gate is open, whether the other is durable or not
module _ (slots : Slots) (k : ℕ) (fits : RingsFit slots) (has : HasWork slots k true open_gate)
    (placed : (n : ℕ) → n < length has.work.job.entries → has.work.known.table_left n ≡ true) where
  pub each_older : (j : ℕ) (other : SlotWork) → j ≢ k → slots j ≡ Some other → ShareInode has.work.job other.job → has.work.job.stamp < other.job.stamp
  each_older j other away there shares = elim (true_or_false other.settled) [
    | inl settled ↦ placed_older slots k j has.work other fits (in_slots (λ same. away (sym same)) has.there there has.aloft settled) placed shares
    | inr aloft ↦ fits.later k j has.work other (in_slots (λ same. away (sym same)) has.there there has.aloft aloft) shares
  ]

pub rings_move : (slots later : Slots) → RingsFit slots → ((k : ℕ) (new : SlotWork) → later k ≡ Some new → CameAs slots k new) → RingsFit later
rings_move slots later fits come = record {
  apart = λ j k one other pair shares.
      let away = pair.away in
      let here = pair.here in
      let there = pair.there in
      let aloft = pair.one_is in
      let flying = pair.other_is in
      let was = come j one here in
      let had = come k other there in
      fits.apart j k was.work had.work
      (in_slots away was.there had.there (sym was.stays.told.settled ∙ aloft) (sym had.stays.told.settled ∙ flying)) (shares_before was had shares);
  later = λ j k one other pair shares.
      let away = pair.away in
      let here = pair.here in
      let there = pair.there in
      let durable = pair.one_is in
      let flying = pair.other_is in
      let was = come j one here in
      let had = come k other there in
      stamps was had
      (fits.later j k was.work had.work (in_slots away was.there had.there (sym was.stays.told.settled ∙ durable) (sym had.stays.told.settled
      ∙ flying)) (shares_before was had shares));
  started = λ j k one other pair begun_placing.
      let away = pair.away in
      let here = pair.here in
      let there = pair.there in
      let durable = pair.one_is in
      let too = pair.other_is in
      let n = begun_placing.n in
      let mark = begun_placing.placed in
      let low = begun_placing.within in
      let shares = begun_placing.shared in
      let was = come j one here in
      let had = come k other there in
      let shared = subst (λ (i : ℕ). HasRecordOf had.work.job i) (ap (λ (job : Job). inode_of_nth job n) was.stays.told.numbers.job)
      (subst (λ (job : Job). HasRecordOf job (inode_of_nth one.job n)) had.stays.told.numbers.job shares) in
      stamps was had (elim (was.stays.marks n mark) [
        | inl before ↦
            fits.started j k was.work had.work (in_slots away was.there had.there (sym was.stays.told.settled ∙ durable) (sym had.stays.told.settled ∙ too))
            (record { n = n; placed = before; within = (subst (λ (job : Job). n < length job.entries) was.stays.told.numbers.job low); shared = shared })
        | inr oldest ↦ oldest.1 k had.work (λ same. away (sym same)) had.there (sym had.stays.told.settled ∙ too) shared
      ]);
  unplaced = λ k work there aloft n. unplaced_then k work there aloft n (true_or_false (is_started work n));
}
  where
    shares_before : {j k : ℕ} {one other : SlotWork} (was : CameAs slots j one) (had : CameAs slots k other) → ShareInode one.job other.job
        → ShareInode was.work.job had.work.job
    shares_before {j} {k} {one} {other} was had shares =
        subst (λ (job : Job). ShareInode job had.work.job) was.stays.told.numbers.job (subst (ShareInode one.job) had.stays.told.numbers.job shares)

    stamps : {j k : ℕ} {one other : SlotWork} (was : CameAs slots j one) (had : CameAs slots k other) → was.work.job.stamp < had.work.job.stamp
        → one.job.stamp < other.job.stamp
    stamps {j} {k} {one} {other} was had low =
        subst (λ (job : Job). job.stamp < other.job.stamp) (sym was.stays.told.numbers.job)
        (subst (λ (job : Job). was.work.job.stamp < job.stamp) (sym had.stays.told.numbers.job) low)

    unplaced_then : (k : ℕ) (work : SlotWork) → later k ≡ Some work → work.settled ≡ false → (n : ℕ)
        → (is_started work n ≡ true) ⊎ (is_started work n ≡ false) → is_started work n ≡ false
    unplaced_then k work there aloft n (inr none) = none
    unplaced_then k work there aloft n (inl mark) =
        let was = come k work there in
        elim (was.stays.marks n mark) [
          | inl before ↦ absurd (not_both before (fits.unplaced k was.work was.there (sym was.stays.told.settled ∙ aloft) n))
          | inr oldest ↦ absurd (not_both oldest.0 (sym was.stays.told.settled ∙ aloft))
        ]

-- one slot's commit is another, of which so much stays
pub changed_as : (slots : Slots) (k : ℕ) (change : SlotWork → SlotWork) → ((work : SlotWork) → slots k ≡ Some work → KeepsMarks slots k work (change work))
    → (j : ℕ) (new : SlotWork) → changed_slot slots k change j ≡ Some new → CameAs slots j new
changed_as slots = changed_came (KeepsMarks slots) slots (same_marks slots)

-- what was marked by one mark more, or one less
pub marked_with : (marks : ℕ → Bool) (n m : ℕ) → with_number marks n m ≡ true → (m ≡ n) ⊎ (marks m ≡ true)
marked_with marks n m e = by (nat_eq m n) refl e
  where
    by : (b : Bool) → nat_eq m n ≡ b → (b || marks m) ≡ true → (m ≡ n) ⊎ (marks m ≡ true)
    by true same f = inl (eqb-true m n same)
    by false away f = inr f

marked_without : (marks : ℕ → Bool) (n m : ℕ) → without_number marks n m ≡ true → marks m ≡ true
marked_without marks n m e = and_second (not (nat_eq m n)) (marks m) e

first_or : (a b : Bool) → a ≡ true → (a || b) ≡ true
first_or a b e = ap (λ (c : Bool). c || b) e

second_or : (a b : Bool) → b ≡ true → (a || b) ≡ true
second_or a b e = ap (λ (c : Bool). a || c) e ∙ or_true a

-- a record placed in a slot is the oldest of its inode, or was placed before
pub placed_as : (slots : Slots) (k n : ℕ) (done : Bool) (work : SlotWork) → work.settled ≡ true → IsOldestOf slots k work n
    → KeepsMarks slots k work (knowing (known_placed done n) work)
placed_as slots k n done work durable oldest = record {
  told = knowing_told (known_placed done n) work;
  marks = λ m mark. elim (either_true (without_number work.known.table_left n m) _ mark) [
    | inl left ↦ inl (first_or (work.known.table_left m) (work.known.table_read m) (marked_without work.known.table_left n m left))
    | inr read ↦ by done m read
  ];
}
  where
    by : (d : Bool) (m : ℕ) → cond d (with_number work.known.table_read n) (without_number work.known.table_read n) m ≡ true
        → (is_started work m ≡ true) ⊎ ((work.settled ≡ true) × IsOldestOf slots k work m)
    by true m read = elim (marked_with work.known.table_read n m read) [
      | inl same ↦ inr (durable, subst (IsOldestOf slots k work) (sym same) oldest)
      | inr before ↦ inl (second_or (work.known.table_left m) (work.known.table_read m) before)
    ]
    by false m read = inl (second_or (work.known.table_left m) (work.known.table_read m) (marked_without work.known.table_read n m read))

pub synced_as : (slots : Slots) (k : ℕ) (work : SlotWork) → KeepsMarks slots k work (knowing known_synced work)
synced_as slots k work = record {
  told = knowing_told known_synced work;
  marks = λ n mark. elim (either_true (work.known.table_read n) (work.known.table_read n) mark) [
    | inl read ↦ inl (second_or (work.known.table_left n) (work.known.table_read n) read)
    | inr read ↦ inl (second_or (work.known.table_left n) (work.known.table_read n) read)
  ];
}

-- a commit begins in an idle slot, with the greatest stamp, apart from the others that are not durable
pub begun_fits : (slots : Slots) (k : ℕ) (job : Job) (commit : ℕ) (flush : Flush) → RingsFit slots
    → ((j : ℕ) (other : SlotWork) → slots j ≡ Some other → other.job.stamp < job.stamp)
    → ((j : ℕ) (other : SlotWork) → slots j ≡ Some other → other.settled ≡ false → ShareInode job other.job → ⊥)
    → RingsFit (with_at slots k (Some (begun_work job commit flush)))
begun_fits slots k job commit flush fits greatest apart_begun = record {
  apart = λ j i one other pair shares.
      let away = pair.away in
      let here = pair.here in
      let there = pair.there in
      let aloft = pair.one_is in
      let flying = pair.other_is in elim (same_or_not j k) [
        | inl at_j ↦
            let off : i ≢ k = λ same. away (at_j ∙ sym same) in
            apart_begun i other (before i other there off) flying (subst (λ (w : SlotWork). ShareInode w.job other.job) (sym (begun j one here at_j)) shares)
        | inr off ↦ elim (same_or_not i k) [
          | inl at_i ↦
              apart_begun j one (before j one here off) aloft
              (share_back one.job job (subst (λ (w : SlotWork). ShareInode one.job w.job) (sym (begun i other there at_i)) shares))
          | inr out ↦ fits.apart j i one other (in_slots away (before j one here off) (before i other there out) aloft flying) shares
        ]
      ];
  later = λ j i one other pair shares.
      let away = pair.away in
      let here = pair.here in
      let there = pair.there in
      let durable = pair.one_is in
      let flying = pair.other_is in elim (same_or_not j k) [
        | inl at_j ↦ absurd (not_both durable (ap (λ (w : SlotWork). w.settled) (sym (begun j one here at_j))))
        | inr off ↦ elim (same_or_not i k) [
          | inl at_i ↦ subst (λ (w : SlotWork). one.job.stamp < w.job.stamp) (begun i other there at_i) (greatest j one (before j one here off))
          | inr out ↦ fits.later j i one other (in_slots away (before j one here off) (before i other there out) durable flying) shares
        ]
      ];
  started = λ j i one other pair begun_placing.
      let away = pair.away in
      let here = pair.here in
      let there = pair.there in
      let durable = pair.one_is in
      let too = pair.other_is in
      let n = begun_placing.n in
      let mark = begun_placing.placed in
      let low = begun_placing.within in
      let shares = begun_placing.shared in elim (same_or_not j k) [
        | inl at_j ↦ absurd (not_both durable (ap (λ (w : SlotWork). w.settled) (sym (begun j one here at_j))))
        | inr off ↦ elim (same_or_not i k) [
          | inl at_i ↦ absurd (not_both too (ap (λ (w : SlotWork). w.settled) (sym (begun i other there at_i))))
          | inr out ↦ fits.started j i one other (in_slots away (before j one here off) (before i other there out) durable too)
              (record { n = n; placed = mark; within = low; shared = shares })
        ]
      ];
  unplaced = λ j work there aloft n. elim (same_or_not j k) [
    | inl at_j ↦ subst (λ (w : SlotWork). is_started w n ≡ false) (begun j work there at_j) refl
    | inr off ↦ fits.unplaced j work (before j work there off) aloft n
  ];
}
  where
    before : (j : ℕ) (work : SlotWork) → with_at slots k (Some (begun_work job commit flush)) j ≡ Some work → j ≢ k → slots j ≡ Some work
    before j work is apart = sym (at_other slots k (Some (begun_work job commit flush)) j apart) ∙ is

    begun : (j : ℕ) (work : SlotWork) → with_at slots k (Some (begun_work job commit flush)) j ≡ Some work → j ≡ k → begun_work job commit flush ≡ work
    begun j work is same = some_same (sym (at_same slots k (Some (begun_work job commit flush)) j same) ∙ is)

-- of a slot whose commit is durable from now on
pub before_settled : (slots : Slots) (k j : ℕ) (other : SlotWork) → changed_slot slots k settled_work j ≡ Some other → j ≢ k → slots j ≡ Some other
before_settled slots k j other is apart = sym (at_other slots k (option_map settled_work (slots k)) j apart) ∙ is

pub is_settled : (slots : Slots) (k : ℕ) (work : SlotWork) → slots k ≡ Some work → (j : ℕ) (other : SlotWork)
    → changed_slot slots k settled_work j ≡ Some other → j ≡ k → settled_work work ≡ other
is_settled slots k work there j other is same =
    some_same (sym (at_same slots k (option_map settled_work (slots k)) j same ∙ ap (option_map settled_work) there) ∙ is)

-- one that is not durable is elsewhere
pub aloft_elsewhere : (slots : Slots) (k : ℕ) (work : SlotWork) → slots k ≡ Some work → (j : ℕ) (other : SlotWork)
    → changed_slot slots k settled_work j ≡ Some other → other.settled ≡ false → j ≢ k
aloft_elsewhere slots k work there j other is flying same =
    not_both (ap (λ (w : SlotWork). w.settled) (sym (is_settled slots k work there j other is same))) flying

-- a commit is durable from now on
pub settled_fits : (slots : Slots) (k : ℕ) (work : SlotWork) → RingsFit slots → slots k ≡ Some work → work.settled ≡ false
    → RingsFit (changed_slot slots k settled_work)
settled_fits slots k work fits there aloft = record {
  apart = λ j i one other pair shares.
      let away = pair.away in
      let here = pair.here in
      let at = pair.there in
      let flying = pair.one_is in
      let too = pair.other_is in
      let off_j = aloft_elsewhere slots k work there j one here flying in
      let off_i = aloft_elsewhere slots k work there i other at too in
      fits.apart j i one other (in_slots away (before_settled slots k j one here off_j) (before_settled slots k i other at off_i) flying too) shares;
  later = λ j i one other pair shares.
      let away = pair.away in
      let here = pair.here in
      let at = pair.there in
      let durable = pair.one_is in
      let flying = pair.other_is in
      let out = aloft_elsewhere slots k work there i other at flying in
      elim (same_or_not j k) [
        | inl at_j ↦
            absurd
            (fits.apart k i work other (in_slots (λ same. out (sym same)) there (before_settled slots k i other at out) aloft flying)
            (subst (λ (w : SlotWork). ShareInode w.job other.job) (sym (is_settled slots k work there j one here at_j)) shares))
        | inr away_j ↦ fits.later j i one other
            (in_slots away (before_settled slots k j one here away_j) (before_settled slots k i other at out) durable flying) shares
      ];
  started = λ j i one other pair begun_placing.
      let away = pair.away in
      let here = pair.here in
      let at = pair.there in
      let durable = pair.one_is in
      let too = pair.other_is in
      let n = begun_placing.n in
      let mark = begun_placing.placed in
      let low = begun_placing.within in
      let shares = begun_placing.shared in elim (same_or_not j k) [
        | inl at_j ↦
            absurd
            (not_both (subst (λ (w : SlotWork). is_started w n ≡ true) (sym (is_settled slots k work there j one here at_j)) mark)
            (fits.unplaced k work there aloft n))
        | inr away_j ↦ elim (same_or_not i k) [
          | inl at_i ↦
              subst (λ (w : SlotWork). one.job.stamp < w.job.stamp) (is_settled slots k work there i other at at_i)
              (fits.later j k one work (in_slots away_j (before_settled slots k j one here away_j) there durable aloft)
              (n, low, subst (λ (w : SlotWork). HasRecordOf w.job (inode_of_nth one.job n)) (sym (is_settled slots k work there i other at at_i)) shares))
          | inr away_i ↦ fits.started j i one other
              (in_slots away (before_settled slots k j one here away_j) (before_settled slots k i other at away_i) durable too)
              (record { n = n; placed = mark; within = low; shared = shares })
        ]
      ];
  unplaced = λ j other at flying n.
      let out = aloft_elsewhere slots k work there j other at flying in
      fits.unplaced j other (before_settled slots k j other at out) flying n;
}

-- what is known of the pieces that fill a slot, or of its gate, tells nothing of records
pub marks_as : (slots : Slots) (k : ℕ) (change : SlotKnown → SlotKnown)
    → ((work : SlotWork) (n : ℕ) → is_started (knowing change work) n ≡ true → is_started work n ≡ true) → (j : ℕ) (new : SlotWork)
    → changed_slot slots k (knowing change) j ≡ Some new → CameAs slots j new
marks_as slots k change marks =
    changed_as slots k (knowing change) (λ work there. record { told = knowing_told change work; marks = λ n mark. inl (marks work n mark) })

module _ (layout : Layout) (before : ℕ) where
  -- each label that may be told, where a commit begins apart, leaves what fits
  pub rings_label : (core : ℕ) (teller : CoreId) (past : BoxPast) → PastFits layout before past → RingsFit past.slots → (fact : Label)
      → MayLabel layout before core fact past → BeginsApart (Told teller fact) past → RingsFit (after_label layout core fact past).slots
  rings_label core teller past all fits label.Took rule apart = fits
  rings_label core teller past all fits label.Gave rule apart = fits
  rings_label core teller past all fits (label.Noted turn) rule apart = fits
  rings_label core teller past all fits (label.Reserved commit seen grant) rule apart = fits
  rings_label core teller past all fits (label.Returned commit) rule apart = fits
  rings_label core teller past all fits (label.Began filling commit node stamp blocks inodes) rule apart =
      begun_fits past.slots filling.job.place.slot filling.job commit (fsync_told node stamp) fits
      (λ j other there. let low = all.numbers.stamped j other there in let next = rule.stamp in omega (arith, low, next)) apart
  rings_label core teller past all fits (label.Filled k piece done) rule apart =
      rings_move past.slots (changed_slot past.slots k (knowing (known_filled done piece))) fits
      (marks_as past.slots k (known_filled done piece) (λ work n mark. mark))
  rings_label core teller past all fits (label.Synced now) rule apart =
      rings_move past.slots (synced_slots past.slots) fits
      (synced_came (KeepsMarks past.slots) past.slots (synced_as past.slots))
  rings_label core teller past all fits (label.Opened k done cut opened) rule apart =
      rings_move past.slots (changed_slot past.slots k (knowing (known_gated done open_gate))) fits
      (marks_as past.slots k (known_gated done open_gate) (λ work n mark. mark))
  rings_label core teller past all fits (label.Settled k turn) rule apart =
      settled_fits past.slots k rule.has.work fits rule.has.there rule.has.aloft
  rings_label core teller past all fits (label.Learned turn) rule apart = fits
  rings_label core teller past all fits (label.Placed k n done) rule apart =
      rings_move past.slots (changed_slot past.slots k (knowing (known_placed done n))) fits
      (changed_as past.slots k (knowing (known_placed done n))
      (λ work there.
      let same = some_same (sym rule.has.there ∙ there) in
      placed_as past.slots k n done work (ap (λ (w : SlotWork). w.settled) (sym same) ∙ rule.has.aloft)
      (subst (λ (w : SlotWork). IsOldestOf past.slots k w n) same rule.oldest)))
  rings_label core teller past all fits (label.Shut k done) rule apart =
      rings_move past.slots (changed_slot past.slots k (knowing (known_gated done shut_gate))) fits
      (marks_as past.slots k (known_gated done shut_gate) (λ work n mark. mark))
  rings_label core teller past all fits (label.Idled k) rule apart =
      rings_move past.slots (with_at past.slots k None) fits
      (idled_came (KeepsMarks past.slots) past.slots (same_marks past.slots) k)
  rings_label core teller past all fits (label.Empty commit cut opened durable) rule apart = fits

  -- where a gate is written shut, all records of its commit were placed
  shut_closes : (past : BoxPast) (k : ℕ) → RingsFit past.slots → ShutRule k past → ClosesInOrder past k
  shut_closes past k fits rule = record {
    work = rule.has.work;
    there = rule.has.there;
    order = each_older past.slots k fits rule.has rule.placed;
  }

  module _ (back : List (Event Label)) (core : CoreId) (k : ℕ) (done : Bool) where
    closes_at : (front : List (Event Label)) (past : BoxPast) → PastFits layout before past → RingsFit past.slots
        → MayFrom layout before (front ++ Told core (label.Shut k done) ∷ back) past
        → BeginApart layout (front ++ Told core (label.Shut k done) ∷ back) past → ClosesInOrder (past_from layout front past) k
    closes_at [] past all fits may apart = shut_closes past k fits may.0.1
    closes_at (Called entry ∷ front) past all fits may apart = absurd may.0
    closes_at (Told teller fact ∷ front) past all fits may apart =
        closes_at front (after_label layout teller.0 fact past) (label_fits layout before teller.0 past all fact may.0.1)
        (rings_label teller.0 teller past all fits fact may.0.1 apart.0) may.1 apart.1

pub first_rings : RingsFit (λ k. None)
first_rings = record {
  apart = λ j k one other pair shares.
      let away = pair.away in
      let here = pair.here in
      let there = pair.there in
      let aloft = pair.one_is in
      let flying = pair.other_is in none_there here;
  later = λ j k one other pair shares.
      let away = pair.away in
      let here = pair.here in
      let there = pair.there in
      let durable = pair.one_is in
      let flying = pair.other_is in none_there here;
  started = λ j k one other pair begun_placing.
      let away = pair.away in
      let here = pair.here in
      let there = pair.there in
      let durable = pair.one_is in
      let too = pair.other_is in
      let n = begun_placing.n in
      let mark = begun_placing.placed in
      let low = begun_placing.within in
      let shares = begun_placing.shared in none_there here;
  unplaced = λ k work there aloft n. none_there there;
}

pub slots_close_in_order : SlotsCloseInOrder
slots_close_in_order layout before moment log k may apart shut =
    closes_at layout before shut.back shut.core k shut.done shut.front (first_past moment) (first_fits layout before moment) first_rings
    (subst (λ (l : List (Event Label)). MayFrom layout before l (first_past moment)) shut.whole may)
    (subst (λ (l : List (Event Label)). BeginApart layout l (first_past moment)) shut.whole apart)
