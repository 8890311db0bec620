-- A gate that opens, and one that shuts.
use Rattle.std.proofs.Common.{◌≡◌, ◌≢◌, ℕ, ◌+◌, ◌*◌, ◌<◌, ◌≤◌, List, All, Option, None, Some, refl, sym, ap, ◌∙◌, subst, arith, inl, inr, ◌⊎◌}
use Rattle.std.specs.Prelude.{unwrap_or}
use Rattle.std.proofs.lemmas.Bool.{cases_eq}
use Rattle.sfs_image.specs.Bytes.{part}
use Rattle.sfs_image.specs.ImageOf.{InodePart, Transaction, part_given, given, with_opened, with_slot, HasBody, IsSlotOf, HaveOwnStamps, IsImageOf, PointsToData}
use Rattle.sfs_image.specs.ImageWrites.{HasNewestRecords, MayShut, IsFullTable, HasRecordsOf, IsOldestOfItsInodes, AgreesOutside, OpensGate, ShutsGate}
use Rattle.sfs_image.specs.Laws.{IsShutAfter}
use Rattle.sfs_image.specs.Part.{Part, IsGathered, pointer_at}
use Rattle.sfs_image.specs.Settled.{table_byte, Stamped, image_block, slot_byte, slot_count, journal_slot, table_record}
use Rattle.sfs_image.specs.Super.{Layout, slot_blocks}
use Rattle.sfs_image.proofs.FrameLaws.{part_apart, part_changes, whole_kept}
use Rattle.sfs_image.proofs.GivenLaws.{giver_of, given_alone, given_by, given_from, stamp_given, with_slot-same, with_slot-other, given_has, given_aside, given_newer, given_behind}
use Rattle.sfs_image.proofs.KeptLaws.{sound_kept, divided_kept, gathered_kept, slots_apart, slot_before_table, slot_before_data}
use Rattle.sfs_image.proofs.Basics.{found_has}
use Rattle.sfs_image.proofs.LayoutLaws.{divided}

-- the gate's byte, as one of its slot
at_gate : (layout : Layout) (k : ℕ) (old new : List ℕ) → AgreesOutside (slot_byte layout k) 1 old new → AgreesOutside (slot_byte layout k + 0) 1 old new
at_gate layout k old new =
    subst (λ (at : ℕ). AgreesOutside at 1 old new) (let none : slot_byte layout k ≡ slot_byte layout k + 0 = omega arith in none)

-- what a write at a gate leaves where it lies
module _ (layout : Layout) (k : ℕ) (old new : List ℕ) (within : k < slot_count layout) (written : AgreesOutside (slot_byte layout k) 1 old new) where
  fits : 0 + 1 ≤ 4096 * slot_blocks layout.inodes
  fits = omega arith

  behind_super : 4096 ≤ slot_byte layout k
  behind_super = (divided layout).first_slot k

  own_slot : AgreesOutside 0 1 (journal_slot layout old k) (journal_slot layout new k)
  own_slot = part_changes (slot_byte layout k) 0 1 (4096 * slot_blocks layout.inodes) old new (at_gate layout k old new written) fits

  other_slot : (j : ℕ) → j ≢ k → journal_slot layout new j ≡ journal_slot layout old j
  other_slot j apart =
      part_apart (slot_byte layout k + 0) 1 old new (at_gate layout k old new written) (slot_byte layout j) (4096 * slot_blocks layout.inodes)
      (slots_apart layout j k 0 1 apart fits)

  record_stays : (i : ℕ) → table_record layout new i ≡ table_record layout old i
  record_stays i =
      part_apart (slot_byte layout k + 0) 1 old new (at_gate layout k old new written) (table_byte layout i) 512 (slot_before_table layout k i 0 1 within fits)

  part_stays : (own : Part) → IsGathered (image_block old) own → PointsToData layout own → IsGathered (image_block new) own
  part_stays own was points =
      gathered_kept (slot_byte layout k + 0) 1 old new (at_gate layout k old new written) (omega (arith, behind_super)) own was
      (λ place there. slot_before_data layout k (pointer_at own place) 0 1 within fits (points place there).0)

  -- the slots where this one changes
  slots_then : (opened : ℕ → Option Transaction) (one : Option Transaction) → IsSlotOf layout.inodes one (journal_slot layout new k) →
      ((j : ℕ) → j < slot_count layout → IsSlotOf layout.inodes (opened j) (journal_slot layout old j)) →
      (j : ℕ) → j < slot_count layout → IsSlotOf layout.inodes (with_slot opened k one j) (journal_slot layout new j)
  slots_then opened one comes slots j h =
      elim (cases_eq j k) [
        | inl here ↦ subst (λ (m : ℕ). IsSlotOf layout.inodes (with_slot opened k one m) (journal_slot layout new m)) (sym here)
            (subst (λ (o : Option Transaction). IsSlotOf layout.inodes o (journal_slot layout new k)) (sym (with_slot-same opened k one)) comes)
        | inr other ↦ subst (λ (o : Option Transaction). IsSlotOf layout.inodes o (journal_slot layout new j)) (sym (with_slot-other opened k one j other))
            (subst (IsSlotOf layout.inodes (opened j)) (sym (other_slot j other)) (slots j h))
      ]

-- a part that the open slots give instead
unwrapped : {o : Option Part} {part : Part} (default : Part) → o ≡ Some part → unwrap_or o default ≡ part
unwrapped default is = ap (λ (o : Option Part). unwrap_or o default) is

-- what the open slots give an inode once a transaction has come: what they gave, or what the transaction gives
data IsGivenThen (layout : Layout) (opened : ℕ → Option Transaction) (k : ℕ) (one : Transaction) (i : ℕ) : Type 0 where
  stayed : given layout (with_slot opened k (Some one)) i ≡ given layout opened i → IsGivenThen layout opened k one i
  came : (ours : Stamped Part) → part_given i (Some one) ≡ Some ours → given layout (with_slot opened k (Some one)) i ≡ Some ours.value
      → IsGivenThen layout opened k one i

-- the open slots have commit stamps of their own, with one more
module _ (layout : Layout) (opened : ℕ → Option Transaction) (k : ℕ) (one : Transaction) where
  own_stamps : HaveOwnStamps layout opened → ((j : ℕ) (other : Transaction) → j < slot_count layout → opened j ≡ Some other → other.stamp ≢ one.stamp) →
      HaveOwnStamps layout (with_slot opened k (Some one))
  own_stamps stamps own i j x y low high first second same =
      elim (cases_eq i k) [
        | inl here ↦ elim (cases_eq j k) [
          | inl there ↦ here ∙ sym there
          | inr other ↦ absurd (own j y high (moved j other y second) (sym same ∙ ap (λ (t : Transaction). t.stamp) (sym (is_new i here x first))))
        ]
        | inr other ↦ elim (cases_eq j k) [
          | inl there ↦ absurd (own i x low (moved i other x first) (same ∙ ap (λ (t : Transaction). t.stamp) (sym (is_new j there y second))))
          | inr another ↦ stamps i j x y low high (moved i other x first) (moved j another y second) same
        ]
      ]
    where
      moved : (m : ℕ) → m ≢ k → (z : Transaction) → with_slot opened k (Some one) m ≡ Some z → opened m ≡ Some z
      moved m apart z is = sym (with_slot-other opened k (Some one) m apart) ∙ is

      is_new : (m : ℕ) → m ≡ k → (z : Transaction) → with_slot opened k (Some one) m ≡ Some z → one ≡ z
      is_new m here z is =
          let both : Some one ≡ Some z = sym (with_slot-same opened k (Some one)) ∙ ap (with_slot opened k (Some one)) (sym here) ∙ is in cc

  -- a fact of what an inode has, once the transaction has come
  holds_then : (parts : ℕ → Part) (i : ℕ) (P : Part → Type 0) → IsGivenThen layout opened k one i → P (with_opened layout opened parts i) →
      All (λ (inner : InodePart). P inner.part) one.parts → P (with_opened layout (with_slot opened k (Some one)) parts i)
  holds_then parts i P (stayed same) was all = subst (λ (o : Option Part). P (unwrap_or o (parts i))) (sym same) was
  holds_then parts i P (came ours gives is) was all = subst P (sym (unwrapped (parts i) is)) (given_has P i one ours all gives)

-- the open slots have commit stamps of their own, with one less
fewer : (layout : Layout) (opened : ℕ → Option Transaction) (k : ℕ) → HaveOwnStamps layout opened → HaveOwnStamps layout (with_slot opened k None)
fewer layout opened k stamps i j x y low high first second same = stamps i j x y low high (stays i x first) (stays j y second) same
  where
    stays : (m : ℕ) (z : Transaction) → with_slot opened k None m ≡ Some z → opened m ≡ Some z
    stays m z is =
        elim (cases_eq m k) [
          | inl here ↦ absurd (let gone : with_slot opened k None m ≡ None = ap (with_slot opened k None) here ∙ with_slot-same opened k None in cc)
          | inr other ↦ sym (with_slot-other opened k None m other) ∙ is
        ]

-- A gate that is written over a whole body and opens adds its transaction.
module _ (layout : Layout) (opened : ℕ → Option Transaction) (parts : ℕ → Part) (k : ℕ) (one : Transaction) (old new : List ℕ)
    (is : IsImageOf layout opened parts old) (opens : OpensGate layout opened k one old new) where
  come : (i : ℕ) → IsGivenThen layout opened k one i
  come i = go (part_given i (Some one)) refl
    where
      go : (o : Option (Stamped Part)) → part_given i (Some one) ≡ o → IsGivenThen layout opened k one i
      go None none = stayed (given_aside layout opened k opens.within (Some one) i (none ∙ sym (ap (part_given i) opens.shut)))
      go (Some ours) gives =
          came ours gives (given_newer layout opened k opens.within one i ours gives (λ j other h apart there. opens.may.newer i j other ours h there gives))

  body_stays : HasBody layout.inodes one (journal_slot layout new k)
  body_stays =
      whole_kept 1 layout.inodes (journal_slot layout old k) (journal_slot layout new k) (own_slot layout k old new opens.within opens.written) (omega arith)
      one opens.whole

  gathered_then : (i : ℕ) → i < layout.inodes → IsGathered (image_block old) (with_opened layout (with_slot opened k (Some one)) parts i)
  gathered_then i h = holds_then layout opened k one parts i (IsGathered (image_block old)) (come i) (is.gathered i h) opens.may.gathered

  points_then : (i : ℕ) → i < layout.inodes → PointsToData layout (with_opened layout (with_slot opened k (Some one)) parts i)
  points_then i h = holds_then layout opened k one parts i (PointsToData layout) (come i) (is.pointers i h) opens.may.pointers

  table_then : (i : ℕ) → i < layout.inodes → given layout (with_slot opened k (Some one)) i ≡ None → IsGivenThen layout opened k one i →
      table_record layout old i ≡ (parts i).raw
  table_then i h none (stayed same) = is.table i h (sym same ∙ none)
  table_then i h none (came ours gives there) = absurd cc

  opens_then : IsImageOf layout (with_slot opened k (Some one)) parts new
  opens_then = record {
    sound = sound_kept (slot_byte layout k) 1 old new opens.written (behind_super layout k old new opens.within opens.written) ∙ is.sound;
    divided = divided_kept (slot_byte layout k) 1 old new opens.written (behind_super layout k old new opens.within opens.written) ∙ is.divided;
    slots = slots_then layout k old new opens.within opens.written opened (Some one) (record { gate = opens.gate; whole = body_stays }) is.slots;
    stamps = own_stamps layout opened k one is.stamps opens.may.own;
    table = λ i h none. record_stays layout k old new opens.within opens.written i ∙ table_then i h none (come i);
    gathered = λ i h.
        part_stays layout k old new opens.within opens.written (with_opened layout (with_slot opened k (Some one)) parts i) (gathered_then i h)
        (points_then i h);
    pointers = points_then;
  }

-- A gate that shuts takes its transaction away, and each inode has the part that it had.
module _ (layout : Layout) (opened : ℕ → Option Transaction) (parts : ℕ → Part) (k : ℕ) (old new : List ℕ)
    (is : IsImageOf layout opened parts old) (shuts : ShutsGate layout opened k old new) where
  same_then : (i : ℕ) → with_opened layout (with_slot opened k None) (with_opened layout opened parts) i ≡ with_opened layout opened parts i
  same_then i = go (given layout (with_slot opened k None) i) refl
    where
      go : (o : Option Part) → given layout (with_slot opened k None) i ≡ o →
          unwrap_or o (with_opened layout opened parts i) ≡ with_opened layout opened parts i
      go None none = refl
      go (Some part) there =
          sym (unwrapped (parts i) (given_behind layout opened k shuts.within i part is.stamps
          (λ j other ours h apart gives has. shuts.may.older i j other ours h apart gives has) there))

  in_table : (i : ℕ) → i < layout.inodes → given layout (with_slot opened k None) i ≡ None → (o : Option (Stamped Part)) → part_given i (opened k) ≡ o →
      table_record layout old i ≡ (with_opened layout opened parts i).raw
  in_table i h none None aside =
      let before : given layout opened i ≡ None = sym (given_aside layout opened k shuts.within None i (sym aside)) ∙ none in
      is.table i h before ∙ sym (ap (λ (o : Option Part). (unwrap_or o (parts i)).raw) before)
  in_table i h none (Some ours) gives =
      shuts.may.table i ours h gives none
      ∙ sym (ap (λ (part : Part). part.raw) (unwrapped (parts i) (given_alone layout opened k shuts.within i ours gives none)))

  shut_then : IsImageOf layout (with_slot opened k None) (with_opened layout opened parts) new
  shut_then = record {
    sound = sound_kept (slot_byte layout k) 1 old new shuts.written (behind_super layout k old new shuts.within shuts.written) ∙ is.sound;
    divided = divided_kept (slot_byte layout k) 1 old new shuts.written (behind_super layout k old new shuts.within shuts.written) ∙ is.divided;
    slots = slots_then layout k old new shuts.within shuts.written opened None shuts.gate is.slots;
    stamps = λ i j x y. fewer layout opened k is.stamps i j x y;
    table = λ i h none. record_stays layout k old new shuts.within shuts.written i ∙ in_table i h none (part_given i (opened k)) refl;
    gathered = λ i h.
        subst (IsGathered (image_block new)) (sym (same_then i))
        (part_stays layout k old new shuts.within shuts.written (with_opened layout opened parts i) (is.gathered i h) (is.pointers i h));
    pointers = λ i h. subst (PointsToData layout) (sym (same_then i)) (is.pointers i h);
  }

-- the table's record of an inode that a transaction gives, where it has those of all of them
record_given_is : (layout : Layout) (one : Transaction) (image : List ℕ) (i : ℕ) (ours : Stamped Part) → HasRecordsOf layout one image
    → part_given i (Some one) ≡ Some ours → table_record layout image i ≡ ours.value.raw
record_given_is layout one image i ours records gives =
    let found = given_from i one ours gives in
    let place : found.0.inode ≡ i = found.2 in
    ap (table_record layout image) (sym place)
    ∙ found_has (λ (inner : InodePart). table_record layout image inner.inode ≡ inner.part.raw) _ one.parts found.0 records found.1
    ∙ ap (λ (part : Part). part.raw) (sym found.3)

pub gate_opens : (layout : Layout) (opened : ℕ → Option Transaction) (parts : ℕ → Part) (k : ℕ) (one : Transaction) (old new : List ℕ)
    → IsImageOf layout opened parts old → OpensGate layout opened k one old new → IsImageOf layout (with_slot opened k (Some one)) parts new
gate_opens = opens_then

pub gate_shuts : (layout : Layout) (opened : ℕ → Option Transaction) (parts : ℕ → Part) (k : ℕ) (old new : List ℕ)
    → IsImageOf layout opened parts old → ShutsGate layout opened k old new → IsShutAfter layout opened parts k new
gate_shuts layout opened parts k old new is shuts = record {
  stands = shut_then layout opened parts k old new is shuts;
  same = same_then layout opened parts k old new is shuts;
}

-- the oldest of all open slots is the oldest of its inodes
pub oldest_of_all : (layout : Layout) (opened : ℕ → Option Transaction) (k : ℕ) (one : Transaction) → opened k ≡ Some one
    → ((j : ℕ) (other : Transaction) → j < slot_count layout → j ≢ k → opened j ≡ Some other → one.stamp < other.stamp)
    → IsOldestOfItsInodes layout opened k
oldest_of_all layout opened k one open_with oldest i j other ours h apart gives own =
    let giver = given_by i (opened j) other gives in
    let mine = stamp_given i one ours (sym (ap (part_given i) open_with) ∙ own) in
    let theirs = giver.2 in
    let order = oldest j giver.0 h apart giver.1 in
    omega arith

pub oldest_may_shut : (layout : Layout) (opened : ℕ → Option Transaction) (parts : ℕ → Part) (k : ℕ) (one : Transaction) (image : List ℕ)
    → k < slot_count layout
    → opened k ≡ Some one → IsOldestOfItsInodes layout opened k → (IsFullTable layout opened parts image) ⊎ (HasRecordsOf layout one image)
    → MayShut layout opened k image
oldest_may_shut layout opened parts k one image within open_with oldest has = record {
  older = oldest;
  table = λ i ours h own none. elim has [
    | inl full ↦ full i h ∙ ap (λ (part : Part). part.raw) (unwrapped (parts i) (given_alone layout opened k within i ours own none))
    | inr records ↦ record_given_is layout one image i ours records (sym (ap (part_given i) open_with) ∙ own)
  ];
}

pub tables_stay_full : (layout : Layout) (opened : ℕ → Option Transaction) (parts : ℕ → Part) (k : ℕ) (old new : List ℕ) → IsImageOf layout opened parts old
    → ShutsGate layout opened k old new → IsFullTable layout opened parts old
    → IsFullTable layout (with_slot opened k None) (with_opened layout opened parts) new
tables_stay_full layout opened parts k old new is shuts full i h =
    record_stays layout k old new shuts.within shuts.written i
    ∙ full i h
    ∙ ap (λ (part : Part). part.raw) (sym (same_then layout opened parts k old new is shuts i))

pub newest_records_fill : (layout : Layout) (opened : ℕ → Option Transaction) (parts : ℕ → Part) (image : List ℕ) → IsImageOf layout opened parts image
    → HasNewestRecords layout opened image → IsFullTable layout opened parts image
newest_records_fill layout opened parts image is has i h = go (given layout opened i) refl
  where
    go : (o : Option Part) → given layout opened i ≡ o → table_record layout image i ≡ (unwrap_or o (parts i)).raw
    go None none = is.table i h none
    go (Some part) there =
        let found = giver_of layout opened i part is.stamps there in
        has i found.0 found.1 h found.2 ∙ ap (λ (own : Part). own.raw) (sym found.3)
