-- An image that stands for parts: its settled parts are those with what the open slots give, and nothing is wrong in its
-- superblock and journals.
use Rattle.std.proofs.Common.{cond, true, ◌≡◌, ◌≢◌, ℕ, zero, suc, ◌+◌, ◌^◌, ◌<◌, ◌≤◌, Bool, false, eqb, ltb, List, [], ◌∷◌, map, Option, None, Some, option_map, refl, sym, ap, ◌∙◌, subst, arith}
use Rattle.std.specs.Prelude.{unwrap_or}
use Rattle.std.specs.Option.{option_or}
use Rattle.std.specs.List.{range_with_len, flat_map, find, list_any}
use Rattle.std.proofs.lemmas.Bool.{cond-true, cond-false, le-ltb, ne_eqb, or_from}
use Rattle.std.proofs.lemmas.List.{map-append}
use Rattle.std.proofs.lemmas.List.Folds.{list_any-append}
use Rattle.sfs_image.specs.Bytes.{part, fault_at}
use Rattle.sfs_image.specs.ImageOf.{MayBeSlotOf, opened_among, InodePart, Transaction, transaction_body, part_given, given, with_opened, HasBody, IsSlotOf, IsImageOf, PointsToData, FreshBlock, StandIn, TurnsInto}
use Rattle.sfs_image.specs.Journal.{Entry, head_of, numbers_fault, numbers_of, journal_fault, AreEntries, HasEntries}
use Rattle.sfs_image.specs.Laws.{IsReadAs}
use Rattle.sfs_image.specs.Part.{Part, part_of, IsGathered}
use Rattle.sfs_image.specs.Settled.{Body, Stamped, newest, body_in, open_body, open_below, open_bodies, record_in, held, table_record, settled, parts_of, journal_slot, slot_count, image_block, slot_fault_of, journal_fault_of}
use Rattle.sfs_image.specs.Super.{Layout}
use Rattle.sfs_image.proofs.EntriesLaws.{read_again}
use Rattle.sfs_image.proofs.Basics.{find_made, option_map-option_map, unwrap_made}
use Rattle.sfs_image.proofs.NewestLaws.{over, IsOnce, newest_of_pieces, newest_over}
use Rattle.sfs_image.proofs.NewestLaws.IsOnce.{nothing, once}
use Rattle.sfs_image.proofs.PiecesLaws.{first_of-from}

-- the entry of an inode's part
abbrev entry_of_part : InodePart → Entry
entry_of_part own = record { inode = own.inode; bytes = own.part.raw }

-- a transaction's body has the record of the part that the transaction gives
record_given : (i : ℕ) (one : Transaction) → record_in i (transaction_body one) ≡ option_map (over (λ part. part.raw)) (part_given i (Some one))
record_given i one =
    ap (option_map (λ entry. record { stamp = one.stamp; value = entry.bytes })) (find_made entry_of_part (λ entry. eqb entry.inode i) one.parts)
    ∙ option_map-option_map _ entry_of_part (find (λ own. eqb own.inode i) one.parts)
    ∙ sym (option_map-option_map (over (λ part. part.raw)) _ (find (λ own. eqb own.inode i) one.parts))

-- what a slot shows of an inode is the record of the part that its transaction gives
slot_shows : (inodes i : ℕ) (one : Option Transaction) (slot : List ℕ) → IsSlotOf inodes one slot
    → IsOnce (record_in i) (open_body inodes slot) (option_map (over (λ part. part.raw)) (part_given i one))
slot_shows inodes i None slot shut =
    subst (λ (those : List Body). IsOnce (record_in i) those None) (sym (cond-false (head_of (part 0 4096 slot)).gate _ _ shut)) nothing
slot_shows inodes i (Some one) slot is =
    let body = body_in inodes slot in
    let seen : record_in i body ≡ option_map (over (λ part. part.raw)) (part_given i (Some one)) = ap (record_in i) is.whole.body ∙ record_given i one in
    let those : open_body inodes slot ≡ body ∷ [] = cond-true (head_of (part 0 4096 slot)).gate _ _ is.gate in
    subst (λ (o : Option (Stamped (List ℕ))). IsOnce (record_in i) (open_body inodes slot) o) seen
    (subst (λ (l : List Body). IsOnce (record_in i) l (record_in i body)) (sym those) (once body))

module _ (layout : Layout) (opened : ℕ → Option Transaction) (image : List ℕ)
    (slots : (k : ℕ) → k < slot_count layout → IsSlotOf layout.inodes (opened k) (journal_slot layout image k)) where
  -- the open slots hold the records of the parts that they give
  pub held_given : (i : ℕ) → held (open_bodies layout image) i ≡ option_map (λ part. part.raw) (given layout opened i)
  held_given i =
      ap (option_map (λ newest. newest.value))
      (newest_of_pieces (record_in i) (λ k. open_body layout.inodes (journal_slot layout image k))
      (λ k. option_map (over (λ part. part.raw)) (part_given i (opened k))) 0 (slot_count layout)
      (λ k low high. slot_shows layout.inodes i (opened k) (journal_slot layout image k) (slots k (omega arith)))
      ∙ newest_over (λ part. part.raw) (λ k. part_given i (opened k)) (range_with_len 0 (slot_count layout)))
      ∙ option_map-option_map (λ newest. newest.value) (over (λ part. part.raw))
      (newest (map (λ k. part_given i (opened k)) (range_with_len 0 (slot_count layout))))
      ∙ sym
      (option_map-option_map (λ part. part.raw) (λ newest. newest.value)
      (newest (map (λ k. part_given i (opened k)) (range_with_len 0 (slot_count layout)))))

-- among the bodies of slots there is none with a commit stamp that none of them has
none_stamped : (stamp : ℕ) (at : ℕ → List Body) (a n : ℕ) →
    ((j : ℕ) → a ≤ j → j < a + n → list_any (λ other. eqb other stamp) (map (λ body. body.stamp) (at j)) ≡ false)
    → list_any (λ other. eqb other stamp) (map (λ body. body.stamp) (flat_map at (range_with_len a n))) ≡ false
none_stamped stamp at a zero none = refl
none_stamped stamp at a (suc n) none =
    ap (list_any (λ other. eqb other stamp)) (map-append (λ (body : Body). body.stamp) (at a) (flat_map at (range_with_len (a + 1) n)))
    ∙ list_any-append (λ other. eqb other stamp) (map (λ (body : Body). body.stamp) (at a)) _
    ∙ or_from _ _ (none a (omega arith) (omega arith)) (none_stamped stamp at (a + 1) n (λ j low high. none j (omega arith) (omega arith)))

-- a slot whose transaction has another commit stamp shows no body with this one
other_stamp : (inodes stamp : ℕ) (one : Option Transaction) (slot : List ℕ) → IsSlotOf inodes one slot →
    ((other : Transaction) → one ≡ Some other → other.stamp ≢ stamp)
    → list_any (λ other. eqb other stamp) (map (λ body. body.stamp) (open_body inodes slot)) ≡ false
other_stamp inodes stamp None slot shut differs =
    ap (λ (those : List Body). list_any (λ other. eqb other stamp) (map (λ body. body.stamp) those)) (cond-false (head_of (part 0 4096 slot)).gate _ _ shut)
other_stamp inodes stamp (Some one) slot is differs =
    let read : (body_in inodes slot).stamp ≡ one.stamp = ap (λ (body : Body). body.stamp) is.whole.body in
    ap (λ (those : List Body). list_any (λ other. eqb other stamp) (map (λ body. body.stamp) those)) (cond-true (head_of (part 0 4096 slot)).gate _ _ is.gate)
    ∙ or_from (eqb (body_in inodes slot).stamp stamp) false (ne_eqb (body_in inodes slot).stamp stamp (λ same. differs one refl (sym read ∙ same))) refl

-- nothing is wrong in a slot that is closed, or open with a transaction whose commit stamp is none of those before it
sound_slot : (inodes : ℕ) (stamps : List ℕ) (one : Option Transaction) (slot : List ℕ) → IsSlotOf inodes one slot →
    ((other : Transaction) → one ≡ Some other → list_any (λ stamp. eqb stamp other.stamp) stamps ≡ false) → journal_fault inodes stamps slot ≡ None
sound_slot inodes stamps None slot shut fresh = cond-false (head_of (part 0 4096 slot)).gate _ _ shut
sound_slot inodes stamps (Some one) slot is fresh =
    let head = head_of (part 0 4096 slot) in
    let read : head.stamp ≡ one.stamp = ap (λ (body : Body). body.stamp) is.whole.body in
    let few : ltb inodes head.count ≡ false = le-ltb inodes head.count is.whole.count in
    let own : list_any (λ stamp. eqb stamp head.stamp) stamps ≡ false = ap (λ (s : ℕ). list_any (λ stamp. eqb stamp s) stamps) read ∙ fresh one refl in
    cond-true head.gate _ _ is.gate
    ∙ ap (λ (wrong : Bool). option_or (option_or (fault_at wrong 512) (fault_at (list_any (λ stamp. eqb stamp head.stamp) stamps) 520))
    (numbers_fault inodes (numbers_of inodes slot)))
    few
    ∙ ap (λ (wrong : Bool). option_or (fault_at wrong 520) (numbers_fault inodes (numbers_of inodes slot))) own
    ∙ is.whole.numbers

module _ (layout : Layout) (opened : ℕ → Option Transaction) (parts : ℕ → Part) (image : List ℕ) (is : IsImageOf layout opened parts image) where
  -- the settled record of an inode is its part's
  pub settled_is : (i : ℕ) → i < layout.inodes → settled layout image i ≡ (with_opened layout opened parts i).raw
  settled_is i h =
      ap (λ (o : Option (List ℕ)). unwrap_or o (table_record layout image i)) (held_given layout opened image is.slots i)
      ∙ unwrap_made (λ part. part.raw) (given layout opened i) (table_record layout image i) (parts i) (is.table i h)

  -- the settled part of an inode is its part, with what the open slots give
  pub parts_are : (i : ℕ) → i < layout.inodes → parts_of layout image i ≡ with_opened layout opened parts i
  parts_are i h = ap (part_of (image_block image)) (settled_is i h) ∙ is.gathered i h

  -- nothing is wrong in a slot
  slot_is_sound : (k : ℕ) → k < slot_count layout → slot_fault_of layout image k ≡ None
  slot_is_sound k h =
      ap (option_map _)
      (sound_slot layout.inodes (map (λ body. body.stamp) (open_below layout image k)) (opened k) (journal_slot layout image k) (is.slots k h)
      (λ one here.
      none_stamped one.stamp (λ j. open_body layout.inodes (journal_slot layout image j)) 0 k
      (λ j low high.
      other_stamp layout.inodes one.stamp (opened j) (journal_slot layout image j) (is.slots j (omega arith))
      (λ other there same. let e : j ≡ k = is.stamps j k other one (omega arith) h there here same in omega arith))))

  -- nothing is wrong in the journals
  pub journals_are_sound : journal_fault_of layout image ≡ None
  journals_are_sound = first_of-from (slot_count layout) (slot_fault_of layout image) slot_is_sound

-- An image that stands for parts is read as these.
pub read_as : (layout : Layout) (opened : ℕ → Option Transaction) (parts : ℕ → Part) (image : List ℕ) → IsImageOf layout opened parts image
    → IsReadAs layout opened parts image
read_as layout opened parts image is = record {
  super = is.sound;
  journals = journals_are_sound layout opened parts image is;
  settles = parts_are layout opened parts image is;
}

-- Where the entries of a transaction stand in a slot, under its commit stamp, its whole body is there.
pub whole_body : (inodes : ℕ) (one : Transaction) (slot : List ℕ) → inodes ≤ 2 ^ 32 → (head_of (part 0 4096 slot)).stamp ≡ one.stamp
    → AreEntries inodes (transaction_body one).entries → HasEntries inodes (transaction_body one).entries slot
    → HasBody inodes one slot
whole_body inodes one slot small stamp are has =
    let again = read_again inodes (transaction_body one).entries slot small are has in
    let entries = again.again in
    record { count = again.count; numbers = again.sound; body = λ i. record { stamp = stamp i; entries = entries i } }

-- The parts of inodes that an open slot has may be any, where the slots are not looked at.
pub parts_instead : (layout : Layout) (opened : ℕ → Option Transaction) (parts others : ℕ → Part) (image : List ℕ) →
    ((i : ℕ) → i < layout.inodes → given layout opened i ≡ None → others i ≡ parts i)
    → IsImageOf layout opened parts image → IsImageOf layout opened others image
parts_instead layout opened parts others image same is = record {
  sound = is.sound;
  divided = is.divided;
  slots = is.slots;
  stamps = is.stamps;
  table = λ i h none. is.table i h none ∙ ap (λ (part : Part). part.raw) (sym (same i h none));
  gathered = λ i h. subst (IsGathered (image_block image)) (sym (with_same i h)) (is.gathered i h);
  pointers = λ i h. subst (PointsToData layout) (sym (with_same i h)) (is.pointers i h);
}
  where
    unwrap_same : (o : Option Part) (one other : Part) → (o ≡ None → one ≡ other) → unwrap_or o one ≡ unwrap_or o other
    unwrap_same None one other are = are refl
    unwrap_same (Some x) one other are = refl

    with_same : (i : ℕ) → i < layout.inodes → with_opened layout opened others i ≡ with_opened layout opened parts i
    with_same i h = unwrap_same (given layout opened i) (others i) (parts i) (same i h)

-- Fresh blocks that turn a part of an image into a new one make the new one.
pub fresh_make : (layout : Layout) (opened : ℕ → Option Transaction) (parts : ℕ → Part) (image : List ℕ) (i : ℕ) (fresh : List FreshBlock) (new : Part)
    → IsImageOf layout opened parts image → i < layout.inodes → TurnsInto fresh (with_opened layout opened parts i) new → StandIn (image_block image) fresh
    → IsGathered (image_block image) new
fresh_make layout opened parts image i fresh new is below turns stand = turns (image_block image) stand (is.gathered i below)

-- Where each slot may be that of a transaction, each is, of those whose gates are open.
pub slots_by_gates : (layout : Layout) (may : ℕ → Option Transaction) (image : List ℕ) (k : ℕ) → MayBeSlotOf layout.inodes (may k) (journal_slot layout image k)
    → IsSlotOf layout.inodes (opened_among layout may image k) (journal_slot layout image k)
slots_by_gates layout may image k has = go (may k) has (head_of (part 0 4096 (journal_slot layout image k))).gate refl
  where
    go : (o : Option Transaction) → MayBeSlotOf layout.inodes o (journal_slot layout image k) → (gate : Bool) →
        (head_of (part 0 4096 (journal_slot layout image k))).gate ≡ gate → IsSlotOf layout.inodes (cond gate o None) (journal_slot layout image k)
    go None shut true gate = shut
    go None shut false gate = shut
    go (Some one) whole true gate = record { gate = gate; whole = whole }
    go (Some one) whole false gate = gate
