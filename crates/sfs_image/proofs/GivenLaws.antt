-- What the open slots give an inode once a transaction has come to them, or has gone.
use Rattle.std.proofs.Common.{◌≡◌, ◌≢◌, ℕ, ◌+◌, ◌<◌, ◌≤◌, eqb, map, All, Option, None, Some, option_map, refl, sym, ap, ◌∙◌, subst, arith, inl, inr}
use Rattle.std.specs.List.{range_with_len, find}
use Rattle.std.proofs.lemmas.Bool.{cases_eq, cond-true, cond-false, eqb-true, eq-eqb, ne_eqb}
use Rattle.sfs_image.specs.ImageOf.{IsGiver, InodePart, Transaction, part_given, given, with_slot, HaveOwnStamps}
use Rattle.sfs_image.specs.Part.{Part}
use Rattle.sfs_image.specs.Settled.{Stamped, newest, slot_count}
use Rattle.sfs_image.specs.Super.{Layout}
use Rattle.sfs_image.proofs.BytesLaws.{option_map-Some, None-option_map}
use Rattle.sfs_image.proofs.Basics.{found_has, found_passes}
use Rattle.sfs_image.proofs.NewestLaws.{newest_same, newest_from, newest_none, newest_greatest, newest_max, IsGreatest}

-- the slot that was changed, and each other
pub with_slot-same : (opened : ℕ → Option Transaction) (k : ℕ) (one : Option Transaction) → with_slot opened k one k ≡ one
with_slot-same opened k one = cond-true (eqb k k) _ _ (eq-eqb k k refl)

pub with_slot-other : (opened : ℕ → Option Transaction) (k : ℕ) (one : Option Transaction) (j : ℕ) → j ≢ k → with_slot opened k one j ≡ opened j
with_slot-other opened k one j apart = cond-false (eqb j k) _ _ (ne_eqb j k apart)

-- what a transaction gives has the transaction's commit stamp
pub stamp_given : (i : ℕ) (one : Transaction) (ours : Stamped Part) → part_given i (Some one) ≡ Some ours → ours.stamp ≡ one.stamp
stamp_given i one ours is = let found = option_map-Some _ (find (λ own. eqb own.inode i) one.parts) ours is in ap (λ (s : Stamped Part). s.stamp) found.2

-- what is given is given by a transaction, under its commit stamp
pub given_by : (i : ℕ) (one : Option Transaction) (ours : Stamped Part) → part_given i one ≡ Some ours →
    (giver : Transaction) × (one ≡ Some giver) × (ours.stamp ≡ giver.stamp)
given_by i None ours is = absurd cc
given_by i (Some one) ours is = (one, refl, stamp_given i one ours is)

-- what a transaction gives an inode is the part of an entry of it
pub given_from : (i : ℕ) (one : Transaction) (ours : Stamped Part) → part_given i (Some one) ≡ Some ours →
    (inner : InodePart) × (find (λ own. eqb own.inode i) one.parts ≡ Some inner) × (inner.inode ≡ i) × (ours.value ≡ inner.part)
given_from i one ours is =
    let found = option_map-Some _ (find (λ own. eqb own.inode i) one.parts) ours is in
    (found.0, found.1, eqb-true found.0.inode i (found_passes (λ own. eqb own.inode i) one.parts found.0 found.1), ap (λ (s : Stamped Part). s.value) found.2)

-- what each part of a transaction has is had by the one that it gives
pub given_has : (P : Part → Type 0) (i : ℕ) (one : Transaction) (ours : Stamped Part) → All (λ (inner : InodePart). P inner.part) one.parts →
    part_given i (Some one) ≡ Some ours → P ours.value
given_has P i one ours all is =
    let found = option_map-Some _ (find (λ own. eqb own.inode i) one.parts) ours is in
    let same : found.0.part ≡ ours.value = sym (ap (λ (s : Stamped Part). s.value) found.2) in
    subst P same (found_has (λ (inner : InodePart). P inner.part) (λ own. eqb own.inode i) one.parts found.0 all found.1)

module _ (layout : Layout) (opened : ℕ → Option Transaction) (k : ℕ) (within : k < slot_count layout) where
  -- what slots give that agree on an inode
  pub given_same : (other : ℕ → Option Transaction) (i : ℕ) → ((j : ℕ) → j < slot_count layout → part_given i (other j) ≡ part_given i (opened j)) →
      given layout other i ≡ given layout opened i
  given_same other i same =
      ap (option_map (λ newest. newest.value))
      (newest_same (λ j. part_given i (other j)) (λ j. part_given i (opened j)) 0 (slot_count layout) (λ j low high. same j (omega arith)))

  -- an inode to which neither the new nor the old transaction of a slot gives a part
  pub given_aside : (one : Option Transaction) (i : ℕ) → part_given i one ≡ part_given i (opened k) →
      given layout (with_slot opened k one) i ≡ given layout opened i
  given_aside one i same =
      given_same (with_slot opened k one) i
      (λ j h. elim (cases_eq j k) [
        | inl here ↦
            subst (λ (m : ℕ). part_given i (with_slot opened k one m) ≡ part_given i (opened m)) (sym here)
            (ap (part_given i) (with_slot-same opened k one) ∙ same)
        | inr other ↦ ap (part_given i) (with_slot-other opened k one j other)
      ])

  -- what is newer than all that the others give is given
  pub given_newer : (one : Transaction) (i : ℕ) (ours : Stamped Part) → part_given i (Some one) ≡ Some ours →
      ((j : ℕ) (other : Stamped Part) → j < slot_count layout → j ≢ k → part_given i (opened j) ≡ Some other → other.stamp < ours.stamp) →
      given layout (with_slot opened k (Some one)) i ≡ Some ours.value
  given_newer one i ours is lesser =
      ap (option_map (λ newest. newest.value))
      (newest_greatest (λ j. part_given i (with_slot opened k (Some one) j)) 0 (slot_count layout) k ours (record {
        low = omega arith;
        high = omega arith;
        here = ap (part_given i) (with_slot-same opened k (Some one)) ∙ is;
        others =
            λ j other low high apart there. lesser j other (omega arith) apart (sym (ap (part_given i) (with_slot-other opened k (Some one) j apart)) ∙ there);
      }))

  -- the slot that gives the newest part, once a slot is closed, is another one
  remains : (i j : ℕ) (top : Stamped Part) → part_given i (with_slot opened k None j) ≡ Some top → (j ≢ k) × (part_given i (opened j) ≡ Some top)
  remains i j top there =
      elim (cases_eq j k) [
        | inl here ↦ absurd (let gone : part_given i (with_slot opened k None j) ≡ None =
            ap (λ (m : ℕ). part_given i (with_slot opened k None m)) here ∙ ap (part_given i) (with_slot-same opened k None) in cc)
        | inr other ↦ (other, sym (ap (part_given i) (with_slot-other opened k None j other)) ∙ there)
      ]

  -- what is newest of the others is newer than each, with what goes too
  still_greatest : (i j : ℕ) (top : Stamped Part) → HaveOwnStamps layout opened → j < slot_count layout → j ≢ k → part_given i (opened j) ≡ Some top →
      newest (map (λ m. part_given i (with_slot opened k None m)) (range_with_len 0 (slot_count layout))) ≡ Some top →
      ((ours : Stamped Part) → part_given i (opened k) ≡ Some ours → ours.stamp < top.stamp) →
      IsGreatest (λ m. part_given i (opened m)) 0 (slot_count layout) j top
  still_greatest i j top stamps below other here most older = record {
    low = omega arith;
    high = omega arith;
    here = here;
    others = λ m u low high apart there. elim (cases_eq m k) [
      | inl gone ↦ older u (ap (λ (x : ℕ). part_given i (opened x)) (sym gone) ∙ there)
      | inr stays ↦ (let bound = newest_max (λ x. part_given i (with_slot opened k None x)) 0 (slot_count layout) top most m u low high
          (ap (part_given i) (with_slot-other opened k None m stays) ∙ there) in
          let giver = given_by i (opened m) u there in
          let first = given_by i (opened j) top here in
          let one = giver.2 in let two = first.2 in
          let differs : u.stamp ≢ top.stamp = λ same. apart (stamps m j giver.0 first.0 (omega arith) below giver.1 first.1 (omega arith)) in
          omega arith)
    ];
  }

  -- what the others give stands where it is newer than what goes
  pub given_behind : (i : ℕ) (part : Part) → HaveOwnStamps layout opened →
      ((j : ℕ) (other ours : Stamped Part) → j < slot_count layout → j ≢ k → part_given i (opened j) ≡ Some other → part_given i (opened k) ≡ Some ours
      → ours.stamp < other.stamp) →
      given layout (with_slot opened k None) i ≡ Some part → given layout opened i ≡ Some part
  given_behind i part stamps older there =
      let at : ℕ → Option (Stamped Part) = λ j. part_given i (with_slot opened k None j) in
      let top = option_map-Some (λ (s : Stamped Part). s.value) (newest (map at (range_with_len 0 (slot_count layout)))) part there in
      let from = newest_from at 0 (slot_count layout) top.0 top.1 in
      let stays = remains i from.0 top.0 from.3 in
      let below : from.0 < slot_count layout = (let h = from.2 in omega arith) in
      ap (option_map (λ newest. newest.value))
      (newest_greatest (λ j. part_given i (opened j)) 0 (slot_count layout) from.0 top.0
      (still_greatest i from.0 top.0 stamps below stays.0 stays.1 top.1 (λ ours is. older from.0 top.0 ours below stays.0 stays.1 is)))
      ∙ ap Some (sym top.2)

  -- what a transaction gives that alone gives it
  pub given_alone : (i : ℕ) (ours : Stamped Part) → part_given i (opened k) ≡ Some ours → given layout (with_slot opened k None) i ≡ None →
      given layout opened i ≡ Some ours.value
  given_alone i ours gives none =
      ap (option_map (λ newest. newest.value))
      (newest_greatest (λ j. part_given i (opened j)) 0 (slot_count layout) k ours (record {
        low = omega arith;
        high = omega arith;
        here = gives;
        others = λ j other low high apart there. absurd (none_other j other low high apart there);
      }))
    where
      none_other : (j : ℕ) (other : Stamped Part) → 0 ≤ j → j < 0 + slot_count layout → j ≢ k → part_given i (opened j) ≡ Some other → ⊥
      none_other j other low high apart there =
          let gone =
          newest_none (λ m. part_given i (with_slot opened k None m)) 0 (slot_count layout) (None-option_map (λ newest. newest.value) _ none) j low high in
          let stays : part_given i (with_slot opened k None j) ≡ Some other = ap (part_given i) (with_slot-other opened k None j apart) ∙ there in
          cc

-- each part that the open slots give is given by one of them
pub giver_of : (layout : Layout) (opened : ℕ → Option Transaction) (i : ℕ) (part : Part) → HaveOwnStamps layout opened → given layout opened i ≡ Some part →
    (k : ℕ) × (ours : Stamped Part) × IsGiver layout opened i k ours × (part ≡ ours.value)
giver_of layout opened i part stamps there =
    let at : ℕ → Option (Stamped Part) = λ k. part_given i (opened k) in
    let top = option_map-Some (λ (s : Stamped Part). s.value) (newest (map at (range_with_len 0 (slot_count layout)))) part there in
    let from = newest_from at 0 (slot_count layout) top.0 top.1 in
    let below : from.0 < slot_count layout = (let h = from.2 in omega arith) in (
      from.0,
      top.0,
      (record {
        within = below;
        gives = from.3;
        newest = λ j other h apart gives.
            let bound = newest_max at 0 (slot_count layout) top.0 top.1 j other (omega arith) (omega arith) gives in
            let one = given_by i (opened j) other gives in
            let two = given_by i (opened from.0) top.0 from.3 in
            let first = one.2 in let second = two.2 in
            let differs : other.stamp ≢ top.0.stamp = λ same. apart (stamps j from.0 one.0 two.0 h below one.1 two.1 (omega arith)) in
            omega arith;
      }),
      top.2,
    )
