-- An image in which nothing is wrong stands for its own settled parts.
use Rattle.std.proofs.Common.{get_or, ◌≡◌, ℕ, zero, suc, ◌+◌, ◌<◌, ◌≤◌, Bool, true, false, eqb, ltb, List, [], ◌∷◌, map, All, Option, None, Some, refl, sym, ap, ◌∙◌, subst, arith, inl, inr}
use Rattle.std.specs.Prelude.{unwrap_or}
use Rattle.std.specs.List.{range_with_len, flat_map, list_any}
use Rattle.std.proofs.lemmas.Bool.{cases_Bool, cases_eq, cases_order, cond-true, cond-false, eq-eqb, ltb-false, or_left, or_right, both_ways}
use Rattle.std.proofs.lemmas.Option.{cond_some}
use Rattle.std.proofs.lemmas.List.{map-append}
use Rattle.std.proofs.lemmas.List.Elements.{All-map}
use Rattle.std.proofs.lemmas.List.Folds.{list_any-append}
use Rattle.sfs_image.specs.Bytes.{part, fault_at}
use Rattle.sfs_image.specs.ImageOf.{InodePart, Transaction, transaction_in, table_parts, part_given, given, with_opened, IsSlotOf, HaveOwnStamps, IsImageOf, IsAccepted, PointsToData}
use Rattle.sfs_image.specs.Journal.{Entry, head_of, head_fault, numbers_of, numbers_fault, journal_fault}
use Rattle.sfs_image.specs.Part.{Part, part_of, IsGathered}
use Rattle.sfs_image.specs.Settled.{Body, Stamped, newest, body_in, open_body, open_below, table_record, parts_of, journal_slot, slot_count, image_block, slot_fault_of}
use Rattle.sfs_image.specs.Super.{Layout}
use Rattle.sfs_image.proofs.BytesLaws.{option_or-None, false_from_fault, None-option_map, option_map-Some}
use Rattle.sfs_image.proofs.GivenLaws.{given_by, given_has}
use Rattle.sfs_image.proofs.ImageOfLaws.{held_given}
use Rattle.sfs_image.proofs.Basics.{unwrap_made}
use Rattle.sfs_image.proofs.NewestLaws.{newest_from}
use Rattle.sfs_image.proofs.PiecesLaws.{first_of-None}

-- a part has the record that it was gathered from, and is gathered from the store
pub raw_of : (store : ℕ → List ℕ) (raw : List ℕ) → (part_of store raw).raw ≡ raw
unfolding part_of
raw_of store raw = refl

pub is_gathered : (store : ℕ → List ℕ) (raw : List ℕ) → IsGathered store (part_of store raw)
is_gathered store raw = ap (part_of store) (raw_of store raw)

-- the inode and the part of an entry
abbrev gathered_entry : (ℕ → List ℕ) → Entry → InodePart
gathered_entry store entry = record { inode = entry.inode; part = part_of store entry.bytes }

-- the records of parts that entries gather are those of the entries
entries_again : (store : ℕ → List ℕ) (entries : List Entry) →
    map (λ (own : InodePart). (let e : Entry = record { inode = own.inode; bytes = own.part.raw } in e)) (map (gathered_entry store) entries) ≡ entries
entries_again store [] = refl
entries_again store (entry ∷ entries) =
    let raw = raw_of store entry.bytes in
    let rest = entries_again store entries in
    λ i. record { inode = entry.inode; bytes = raw i } ∷ rest i

-- a test that a body at one of some numbers passes is passed among all of them
found_among : (test : ℕ → Bool) (at : ℕ → List Body) (a n j : ℕ) → a ≤ j → j < a + n → list_any test (map (λ body. body.stamp) (at j)) ≡ true →
    list_any test (map (λ body. body.stamp) (flat_map at (range_with_len a n))) ≡ true
found_among test at a zero j low high here = absurd (omega arith)
found_among test at a (suc n) j low high here =
    ap (list_any test) (map-append (λ (body : Body). body.stamp) (at a) (flat_map at (range_with_len (a + 1) n)))
    ∙ list_any-append test (map (λ (body : Body). body.stamp) (at a)) _
    ∙ elim (cases_eq j a) [
      | inl first ↦ or_left _ _ (ap (λ (m : ℕ). list_any test (map (λ body. body.stamp) (at m))) (sym first) ∙ here)
      | inr later ↦ or_right _ _ (found_among test at (a + 1) n j (omega arith) (omega arith) here)
    ]

-- what a slot without a fault says where it is open
record IsSoundOpen (inodes : ℕ) (stamps : List ℕ) (slot : List ℕ) : Type 0 where
  count : (head_of (part 0 4096 slot)).count ≤ inodes
  fresh : list_any (λ stamp. eqb stamp (head_of (part 0 4096 slot)).stamp) stamps ≡ false
  numbers : numbers_fault inodes (numbers_of inodes slot) ≡ None

sound_open : (inodes : ℕ) (stamps : List ℕ) (slot : List ℕ) → journal_fault inodes stamps slot ≡ None → (head_of (part 0 4096 slot)).gate ≡ true
    → IsSoundOpen inodes stamps slot
sound_open inodes stamps slot none gate =
    let head = head_of (part 0 4096 slot) in
    let checked = option_or-None (head_fault inodes stamps head) (numbers_fault inodes (numbers_of inodes slot)) (sym (cond-true head.gate _ _ gate) ∙ none) in
    let both = option_or-None (fault_at (ltb inodes head.count) 512) (fault_at (list_any (λ stamp. eqb stamp head.stamp) stamps) 520) checked.0 in
    record { count = ltb-false inodes head.count (false_from_fault _ 512 both.0); fresh = false_from_fault _ 520 both.1; numbers = checked.1 }

-- the transaction of a body
abbrev gathered_body : (ℕ → List ℕ) → Body → Transaction
gathered_body store body = record { stamp = body.stamp; parts = map (gathered_entry store) body.entries }

module _ (layout : Layout) (image : List ℕ) (is : IsAccepted layout image) where
  sound_at : (k : ℕ) → k < slot_count layout →
      journal_fault layout.inodes (map (λ body. body.stamp) (open_below layout image k)) (journal_slot layout image k) ≡ None
  sound_at k h = None-option_map _ _ (first_of-None (slot_count layout) (slot_fault_of layout image) is.journals k h)

  -- each slot is closed, or open with its own transaction
  slots_are : (k : ℕ) → k < slot_count layout → IsSlotOf layout.inodes (transaction_in layout image k) (journal_slot layout image k)
  slots_are k h =
      let slot = journal_slot layout image k in
      let body = body_in layout.inodes slot in
      let one = gathered_body (image_block image) body in
      elim (cases_Bool (head_of (part 0 4096 slot)).gate) [
        | inl gate ↦ (let sound = sound_open layout.inodes (map (λ body. body.stamp) (open_below layout image k)) slot (sound_at k h) gate in
            let again = entries_again (image_block image) body.entries in
            subst (λ (o : Option Transaction). IsSlotOf layout.inodes o slot) (sym (cond-true (head_of (part 0 4096 slot)).gate (Some one) None gate))
            (record {
              gate = gate;
              whole = record { count = sound.count; numbers = sound.numbers; body = λ i. record { stamp = body.stamp; entries = sym again i } };
            }))
        | inr shut ↦
            subst (λ (o : Option Transaction). IsSlotOf layout.inodes o slot) (sym (cond-false (head_of (part 0 4096 slot)).gate (Some one) None shut)) shut
      ]

  -- a slot with a transaction is open, and the transaction is its body's
  opened_by : (k : ℕ) (one : Transaction) → transaction_in layout image k ≡ Some one →
      ((head_of (part 0 4096 (journal_slot layout image k))).gate ≡ true)
      × (gathered_body (image_block image) (body_in layout.inodes (journal_slot layout image k)) ≡ one)
  opened_by k one there =
      cond_some (head_of (part 0 4096 (journal_slot layout image k))).gate
      (gathered_body (image_block image) (body_in layout.inodes (journal_slot layout image k))) one there

  -- no slot has the commit stamp of one before it
  none_twice : (j k : ℕ) (one other : Transaction) → k < slot_count layout → transaction_in layout image j ≡ Some one
      → transaction_in layout image k ≡ Some other →
      one.stamp ≡ other.stamp → j < k → ⊥
  none_twice j k one other h first second same before =
      let early = opened_by j one first in
      let late = opened_by k other second in
      let slot = journal_slot layout image k in
      let sound = sound_open layout.inodes (map (λ body. body.stamp) (open_below layout image k)) slot (sound_at k h) late.0 in
      let test : ℕ → Bool = λ stamp. eqb stamp (head_of (part 0 4096 slot)).stamp in
      let equal : (head_of (part 0 4096 (journal_slot layout image j))).stamp ≡ (head_of (part 0 4096 slot)).stamp =
      ap (λ (t : Transaction). t.stamp) early.1 ∙ same ∙ sym (ap (λ (t : Transaction). t.stamp) late.1) in
      let shown : list_any test (map (λ body. body.stamp) (open_body layout.inodes (journal_slot layout image j))) ≡ true =
      ap (λ (those : List Body). list_any test (map (λ body. body.stamp) those))
      (cond-true (head_of (part 0 4096 (journal_slot layout image j))).gate _ _ early.0)
      ∙ or_left _ false (eq-eqb _ _ equal) in
      both_ways _ sound.fresh (found_among test (λ m. open_body layout.inodes (journal_slot layout image m)) 0 k j (omega arith) (omega arith) shown)

  stamps_are : HaveOwnStamps layout (transaction_in layout image)
  stamps_are j k one other low high first second same =
      elim (cases_order j k) [
        | inl e ↦ e
        | inr (inl before) ↦ absurd (none_twice j k one other high first second same before)
        | inr (inr after) ↦ absurd (none_twice k j other one low second first (sym same) after)
      ]

  -- each part is gathered from the image
  gathered_are : (i : ℕ) → IsGathered (image_block image) (with_opened layout (transaction_in layout image) (table_parts layout image) i)
  gathered_are i = go (given layout (transaction_in layout image) i) refl
    where
      go : (o : Option Part) → given layout (transaction_in layout image) i ≡ o → IsGathered (image_block image) (unwrap_or o (table_parts layout image i))
      go None none = is_gathered (image_block image) (table_record layout image i)
      go (Some part) there =
          let top =
          option_map-Some (λ (s : Stamped Part). s.value)
          (newest (map (λ k. part_given i (transaction_in layout image k)) (range_with_len 0 (slot_count layout)))) part there in
          let from = newest_from (λ k. part_given i (transaction_in layout image k)) 0 (slot_count layout) top.0 top.1 in
          let giver = given_by i (transaction_in layout image from.0) top.0 from.3 in
          let own = opened_by from.0 giver.0 giver.1 in
          let all = All-map (λ (inner : InodePart). IsGathered (image_block image) inner.part) (gathered_entry (image_block image))
          (body_in layout.inodes (journal_slot layout image from.0)).entries
          (λ k entry h. is_gathered (image_block image) (get_or (body_in layout.inodes (journal_slot layout image from.0)).entries k entry).bytes) in
          subst (IsGathered (image_block image)) (sym top.2)
          (given_has (IsGathered (image_block image)) i giver.0 top.0
          (subst (λ (t : Transaction). All (λ (inner : InodePart). IsGathered (image_block image) inner.part) t.parts) own.1 all)
          (sym (ap (part_given i) giver.1) ∙ from.3))

  -- the settled parts are those
  settled_are : (i : ℕ) → parts_of layout image i ≡ with_opened layout (transaction_in layout image) (table_parts layout image) i
  settled_are i =
      ap (λ (o : Option (List ℕ)). part_of (image_block image) (unwrap_or o (table_record layout image i)))
      (held_given layout (transaction_in layout image) image slots_are i)
      ∙ ap (part_of (image_block image))
      (unwrap_made (λ part. part.raw) (given layout (transaction_in layout image) i) (table_record layout image i) (table_parts layout image i)
      (λ _. sym (raw_of (image_block image) (table_record layout image i))))
      ∙ gathered_are i

pub accepted_stands : (layout : Layout) (image : List ℕ) → IsAccepted layout image
    → IsImageOf layout (transaction_in layout image) (table_parts layout image) image
accepted_stands layout image is = record {
  sound = is.super;
  divided = is.divided;
  slots = slots_are layout image is;
  stamps = stamps_are layout image is;
  table = λ i h none. sym (raw_of (image_block image) (table_record layout image i));
  gathered = λ i h. gathered_are layout image is i;
  pointers = λ i h. subst (PointsToData layout) (settled_are layout image is i) (is.pointers i h);
}
