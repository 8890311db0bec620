-- What reads give of the superblock and of the journal slots of an image.
use Rattle.std.proofs.Common.{◌≡◌, ℕ, ◌+◌, ◌*◌, ◌/◌, ◌%◌, ◌<◌, ◌≤◌, min, true, false, cond, List, [], ◌∷◌, ◌++◌, length, map, Option, None, Some, option_map, refl, sym, ap, ap₂, subst, ◌∙◌, arith, add-zero, nat_lt, drop, ◌⊎◌, inl, inr}
use Rattle.std.proofs.lemmas.Bool.{ltb-false, cases_order}
use Rattle.std.proofs.lemmas.List.{map-append, append-nil}
use Rattle.std.proofs.lemmas.List.Elements.{filter-append}
use Rattle.sfs_base.proofs.BasicNumbers.{none_below, zero_plus}
use Rattle.block_map.proofs.Places.{range_more}
use Rattle.sfs_base.proofs.BasicOptions.{none_some}
use Rattle.sfs_image.proofs.BytesLaws.{false_from_fault, option_or-None}
use Rattle.sfs_image.proofs.PiecesLaws.{first_of-None, first_of-Some, first_of-from}
use Rattle.std.specs.Option.{option_or, option_to_list}
use Rattle.std.specs.List.{range_with_len, filter, flat_map, AllByRecursion}
use Rattle.std.proofs.Math.Nat.{mul-div_cancel_left}
use Rattle.sfs_image.specs.Bytes.{part, u32s_at, number_from, first_of}
use Rattle.sfs_image.specs.Journal.{Head, head_of, head_fault, numbers_of, numbers_fault, journal_fault}
use Rattle.sfs_image.specs.Laws.{IsDivided}
use Rattle.sfs_image.specs.Settled.{Body, SlotFault, image_block, journal_slot, slot_byte, slot_count, super_fault_of, body_in, open_body, open_below, slot_fault_of, journal_fault_of}
use Rattle.sfs_image.specs.Super.{Layout, IsLayout, slot_blocks, table_start, record_blocks, super_fault}
use Rattle.sfs_image.proofs.FrameLaws.{part-part}
use Rattle.sfs_image.proofs.LayoutLaws.{divided}
use Rattle.sfs_dev.specs.Disk.{Gives}
use Rattle.recovery.specs.declared.journals.OpenSlot.{OpenSlot}
use Rattle.recovery.specs.declared.fault.RecoverFault.{RecoverFault}
use Rattle.recovery.specs.declared.fault.RecoverFault.TheVariants.{DiskFailed, BadSuper, BadJournal, BadImage, NoMemory}
use Rattle.recovery.specs.Open.{is_slot_open, IsOpenSlot, IsGoodSlot, IsGoodIfSome, HasSlot, FindsSlot, IsWrongSlot, IsSlotRefusal, IsBadJournal, IsJournalRefusal, AreOpen}

-- the superblock that was read is the image's
pub super_read : (size : ℕ) (image block : List ℕ) → length image ≡ 4096 * size → block ≡ part 0 4096 image → super_fault size block ≡ super_fault_of image
super_read size image block long is = ap₂ super_fault (sym (ap (λ n. n / 4096) long ∙ mul-div_cancel_left size (omega arith))) is

pub no_super : (size : ℕ) (image : List ℕ) → size ≡ 0 → length image ≡ 4096 * size → super_fault_of image ≡ Some 0
no_super size image none long = ap (λ n. super_fault n (image_block image 0)) (ap (λ n. n / 4096) long ∙ mul-div_cancel_left size (omega arith) ∙ none)

-- the head that was read is the slot's
pub head_read : (layout : Layout) (image block : List ℕ) (k : ℕ) → block ≡ part (slot_byte layout k) 4096 image
    → head_of block ≡ head_of (part 0 4096 (journal_slot layout image k))
head_read layout image block k is =
    ap head_of (is ∙ ap (λ at. part at 4096 image) (sym (add-zero (slot_byte layout k)))
    ∙ sym (part-part 0 4096 (slot_byte layout k) (4096 * slot_blocks layout.inodes) image (some (slot_blocks layout.inodes) refl)))
  where
    some : (n : ℕ) → n ≡ slot_blocks layout.inodes → 0 + 4096 ≤ 4096 * n
    some n is = omega arith

-- numbers in bytes that are the same are the same
u32s_same : (at other n : ℕ) (bytes others : List ℕ) → part at (4 * n) bytes ≡ part other (4 * n) others → u32s_at at n bytes ≡ u32s_at other n others
unfolding u32s_at
u32s_same at other n bytes others same = ap (λ (piece : List ℕ). map (λ k. number_from 0 4 (drop (4 * k) piece)) (range_with_len 0 n)) same

-- the numbers that were read are the slot's
pub numbers_read : (layout : Layout) (image : List ℕ) (k count at : ℕ) (numbers : List ℕ) → count ≡ (head_of (part 0 4096 (journal_slot layout image k))).count
    → count ≤ layout.inodes
    → at ≡ slot_byte layout k → numbers ≡ u32s_at (at + 4096) count image → numbers ≡ numbers_of layout.inodes (journal_slot layout image k)
numbers_read layout image k count at numbers count_is few at_is is =
    is ∙ ap (λ a. u32s_at (a + 4096) count image) at_is
    ∙ u32s_same (slot_byte layout k + 4096) 4096 count image (journal_slot layout image k)
    (sym (part-part 4096 (4 * count) (slot_byte layout k) (4096 * slot_blocks layout.inodes) image (within layout.inodes count few)))
    ∙ ap (λ n. u32s_at 4096 n (journal_slot layout image k)) (least count layout.inodes few ∙ ap (λ n. min n layout.inodes) count_is)
  where
    within : (i c : ℕ) → c ≤ i → 4096 + 4 * c ≤ 4096 * (1 + (i + 1023) / 1024 + (i + 7) / 8)
    within i c le = omega arith

    least : (c i : ℕ) → c ≤ i → c ≡ min c i
    least c i le = omega arith

-- numbers lie within the disk
pub numbers_within : (layout : Layout) (size k count at : ℕ) → IsLayout size layout → k < slot_count layout → count ≤ layout.inodes → at ≡ slot_byte layout k
    → at + 4096 + 4 * count ≤ 4096 * size
numbers_within layout size k count at fits less few at_is =
    ends at (slot_byte layout k) layout.inodes count (table_start layout) (record_blocks layout.inodes) layout.blocks size fits.room fits.within
    (IsDivided.last_slot (divided layout) k less) few at_is
  where
    ends : (at a i c s r b z : ℕ) → s + r + 1 ≤ b → b ≤ z → a + 4096 * (1 + (i + 1023) / 1024 + (i + 7) / 8) ≤ 4096 * s → c ≤ i → at ≡ a
        → at + 4096 + 4 * c ≤ 4096 * z
    ends at a i c s r b z room within le few is = omega arith

pub head_within : (layout : Layout) (size k at : ℕ) → IsLayout size layout → k < slot_count layout → at ≡ slot_byte layout k → at + 4096 ≤ 4096 * size
head_within layout size k at fits less at_is =
    ends at (slot_byte layout k) layout.inodes (table_start layout) (record_blocks layout.inodes) layout.blocks size fits.room fits.within
    (IsDivided.last_slot (divided layout) k less) at_is
  where
    ends : (at a i s r b z : ℕ) → s + r + 1 ≤ b → b ≤ z → a + 4096 * (1 + (i + 1023) / 1024 + (i + 7) / 8) ≤ 4096 * s → at ≡ a → at + 4096 ≤ 4096 * z
    ends at a i s r b z room within le is = omega arith

-- how a slot is judged whose head and numbers were read
pub judged : (layout : Layout) (image stamps : List ℕ) (k : ℕ) (head : Head) (numbers : List ℕ) (fault : Option ℕ)
    → head ≡ head_of (part 0 4096 (journal_slot layout image k)) → head.gate ≡ true
    → head_fault layout.inodes stamps head ≡ None → numbers ≡ numbers_of layout.inodes (journal_slot layout image k)
    → numbers_fault layout.inodes numbers ≡ fault
    → journal_fault layout.inodes stamps (journal_slot layout image k) ≡ fault
judged layout image stamps k head numbers fault head_is gate sound numbers_are is =
    ap (λ (h : Head). cond h.gate
    (option_or (head_fault layout.inodes stamps h) (numbers_fault layout.inodes (numbers_of layout.inodes (journal_slot layout image k)))) None)
    (sym head_is)
    ∙ ap (λ b. cond b
    (option_or (head_fault layout.inodes stamps head) (numbers_fault layout.inodes (numbers_of layout.inodes (journal_slot layout image k)))) None)
    gate
    ∙ ap (λ o. option_or o (numbers_fault layout.inodes (numbers_of layout.inodes (journal_slot layout image k)))) sound
    ∙ ap (numbers_fault layout.inodes) (sym numbers_are) ∙ is

-- a head without a fault counts no more than there are inodes
pub count_small : (inodes : ℕ) (stamps : List ℕ) (head : Head) → head_fault inodes stamps head ≡ None → head.count ≤ inodes
count_small inodes stamps head none = ltb-false inodes head.count (false_from_fault (nat_lt inodes head.count) 512 (option_or-None _ _ none).0)

-- the bodies of open slots have the commit stamps of their heads
body_stamps : (layout : Layout) (image : List ℕ) (ks : List ℕ)
    → map (λ (body : Body). body.stamp) (flat_map (λ k. open_body layout.inodes (journal_slot layout image k)) ks)
    ≡ map (λ k. (head_of (part 0 4096 (journal_slot layout image k))).stamp) (filter (is_slot_open layout image) ks)
body_stamps layout image [] = refl
body_stamps layout image (k ∷ ks) =
    elim (is_slot_open layout image k) as (λ b. map (λ (body : Body). body.stamp)
    (cond b (body_in layout.inodes (journal_slot layout image k) ∷ []) [] ++ flat_map (λ k. open_body layout.inodes (journal_slot layout image k)) ks)
    ≡ map (λ k. (head_of (part 0 4096 (journal_slot layout image k))).stamp)
    (cond b (k ∷ filter (is_slot_open layout image) ks) (filter (is_slot_open layout image) ks))) [
      | true ↦ ap (λ (s : List ℕ). (head_of (part 0 4096 (journal_slot layout image k))).stamp ∷ s) (body_stamps layout image ks)
      | false ↦ body_stamps layout image ks
    ]

own_stamps : (layout : Layout) (image : List ℕ) (found : List OpenSlot) → AllByRecursion (IsOpenSlot layout image) found
    → map (λ (one : OpenSlot). one.stamp) found
    ≡ map (λ k. (head_of (part 0 4096 (journal_slot layout image k))).stamp) (map (λ (one : OpenSlot). one.number) found)
own_stamps layout image [] all = refl
own_stamps layout image (one ∷ found) all = ap₂ (λ (s : ℕ) (rest : List ℕ). s ∷ rest) all.0.stamp (own_stamps layout image found all.1)

-- the commit stamps of the slots that were found are those of the open ones
pub stamps_are : (layout : Layout) (image : List ℕ) (n : ℕ) (found : List OpenSlot) → AreOpen layout image n found
    → map (λ (one : OpenSlot). one.stamp) found ≡ map (λ (body : Body). body.stamp) (open_below layout image n)
stamps_are layout image n found are =
    own_stamps layout image found are.each ∙ ap (map (λ k. (head_of (part 0 4096 (journal_slot layout image k))).stamp)) are.numbers
    ∙ sym (body_stamps layout image (range_with_len 0 n))

-- at first none was found
pub none_open : (layout : Layout) (image : List ℕ) → AreOpen layout image 0 []
none_open layout image = record { numbers = refl; each = tt; sound = λ k less. absurd (none_below less) }

-- a slot that was found, and one that is closed, is not wrong
slot_sound : (layout : Layout) (image stamps : List ℕ) (k : ℕ) (slot : Option OpenSlot) → FindsSlot layout image stamps k slot
    → journal_fault layout.inodes stamps (journal_slot layout image k) ≡ None
slot_sound layout image stamps k None shut =
    ap (λ b. cond b
    (option_or (head_fault layout.inodes stamps (head_of (part 0 4096 (journal_slot layout image k))))
    (numbers_fault layout.inodes (numbers_of layout.inodes (journal_slot layout image k))))
    None)
    shut
slot_sound layout image stamps k (Some one) has = has.sound

-- one slot more
pub next_open : (layout : Layout) (image stamps : List ℕ) (k : ℕ) (found : List OpenSlot) (slot : Option OpenSlot) → AreOpen layout image k found
    → stamps ≡ map (λ (one : OpenSlot). one.stamp) found
    → FindsSlot layout image stamps k slot → AreOpen layout image (k + 1) (found ++ option_to_list slot)
next_open layout image stamps k found slot are stamps_is finds = record {
  numbers = map-append (λ (one : OpenSlot). one.number) found (option_to_list slot) ∙ ap₂ (λ (a b : List ℕ). a ++ b) are.numbers (last slot finds)
      ∙ sym (filter-append (is_slot_open layout image) (range_with_len 0 k) (k ∷ []))
      ∙ ap (filter (is_slot_open layout image)) (sym (range_more 0 k ∙ ap (λ m. range_with_len 0 k ++ m ∷ []) (zero_plus k)));
  each = all_more found slot are.each finds;
  sound = λ j less. elim (cases j k less) [
    | inl lt ↦ are.sound j lt
    | inr same ↦ ap (slot_fault_of layout image) same ∙ ap (option_map (λ at. record { core = k / layout.slots; slot = k % layout.slots; at = at }))
        (ap (λ s. journal_fault layout.inodes s (journal_slot layout image k)) (sym (stamps_is ∙ stamps_are layout image k found are))
        ∙ slot_sound layout image stamps k slot finds)
  ];
}
  where
    cases : (j k : ℕ) → j < k + 1 → (j < k) ⊎ (j ≡ k)
    cases j k less = elim (cases_order j k) [ inl same ↦ inr same | inr (inl lt) ↦ inl lt | inr (inr gt) ↦ absurd (beyond j k less gt) ]
      where
        beyond : (j k : ℕ) → j < k + 1 → k < j → ⊥
        beyond j k less gt = omega arith

    last : (slot : Option OpenSlot) → FindsSlot layout image stamps k slot
        → map (λ (one : OpenSlot). one.number) (option_to_list slot) ≡ filter (is_slot_open layout image) (k ∷ [])
    last None shut = sym (ap (λ b. cond b (k ∷ []) []) shut)
    last (Some one) has = ap (λ n. n ∷ []) has.number ∙ sym (ap (λ b. cond b (k ∷ []) []) has.gate)

    all_more : (found : List OpenSlot) (slot : Option OpenSlot) → AllByRecursion (IsOpenSlot layout image) found → FindsSlot layout image stamps k slot
        → AllByRecursion (IsOpenSlot layout image) (found ++ option_to_list slot)
    all_more [] None all shut = tt
    all_more [] (Some one) all has = (has.slot, tt)
    all_more (first ∷ found) slot all finds = (all.0, all_more found slot all.1 finds)

-- the first of several faults
first_is : {A : Type 0} (n k : ℕ) (f : ℕ → Option A) (x : A) → k < n → f k ≡ Some x → ((j : ℕ) → j < k → f j ≡ None) → first_of n f ≡ Some x
first_is n k f x less is before =
    elim (first_of n f) as (λ o. first_of n f ≡ o → first_of n f ≡ Some x) [
      | None ↦ λ none. absurd (none_some (sym (first_of-None n f none k less) ∙ is))
      | Some y ↦ λ some.
          let j = first_of-Some n f y some in
          elim (cases_order j.0 k) [
            | inl same ↦ some ∙ sym j.2 ∙ ap f same ∙ is
            | inr (inl lt) ↦ absurd (none_some (sym (before j.0 lt) ∙ j.2))
            | inr (inr gt) ↦ absurd (none_some (sym (j.3 k gt) ∙ is))
          ]
    ] refl

-- a wrong slot behind sound ones is the image's fault
pub wrong_slot : (layout : Layout) (image stamps : List ℕ) (k core slot at : ℕ) (found : List OpenSlot) → AreOpen layout image k found
    → stamps ≡ map (λ (one : OpenSlot). one.stamp) found
    → k < slot_count layout → IsWrongSlot layout image stamps k core slot at
    → journal_fault_of layout image ≡ Some (record { core = core; slot = slot; at = at })
wrong_slot layout image stamps k core slot at found are stamps_is less wrong =
    first_is (slot_count layout) k (slot_fault_of layout image) (record { core = core; slot = slot; at = at }) less
    (ap (option_map (λ at. record { core = k / layout.slots; slot = k % layout.slots; at = at }))
    (ap (λ s. journal_fault layout.inodes s (journal_slot layout image k)) (sym (stamps_is ∙ stamps_are layout image k found are)) ∙ wrong.fault)
    ∙ ap₂ (λ (c s : ℕ). let f : SlotFault = record { core = c; slot = s; at = at } in Some f) (sym wrong.core_of) (sym wrong.slot_of))
    are.sound

-- where all slots were found no journal is wrong
pub none_wrong : (layout : Layout) (image : List ℕ) (found : List OpenSlot) → AreOpen layout image (slot_count layout) found
    → journal_fault_of layout image ≡ None
none_wrong layout image found are = first_of-from (slot_count layout) (slot_fault_of layout image) are.sound

-- what a read gave where the disk tells what it holds
pub block_given : (told : Option (List ℕ)) (image : List ℕ) (at n : ℕ) (bytes : List ℕ) → told ≡ Some image → length bytes ≡ n → Gives told at bytes
    → bytes ≡ part at n image
block_given told image at n bytes is long gives =
    subst (λ (t : Option (List ℕ)). Gives t at bytes) is gives ∙ ap (λ k. part at k image) long

-- What was read of a slot whose gate is open: its head, in which nothing is wrong, and as many numbers as that counts.
pub record WasRead (layout : Layout) (image stamps : List ℕ) (k inodes at : ℕ) (head : Head) (numbers : List ℕ) : Type 0 where
  pub head_is : head ≡ head_of (part 0 4096 (journal_slot layout image k))
  pub inodes_is : inodes ≡ layout.inodes
  pub gate : head.gate ≡ true
  pub sound : None ≡ head_fault inodes stamps head
  pub at_is : at ≡ slot_byte layout k
  pub numbers_are : numbers ≡ u32s_at (at + 4096) head.count image

own_numbers : (layout : Layout) (image stamps : List ℕ) (k inodes at : ℕ) (head : Head) (numbers : List ℕ)
    → WasRead layout image stamps k inodes at head numbers
    → numbers ≡ numbers_of layout.inodes (journal_slot layout image k)
own_numbers layout image stamps k inodes at head numbers was =
    numbers_read layout image k head.count at numbers (ap (λ (h : Head). h.count) was.head_is)
    (count_small layout.inodes stamps head (ap (λ n. head_fault n stamps head) (sym was.inodes_is) ∙ sym was.sound)) was.at_is was.numbers_are

slot_judged : (layout : Layout) (image stamps : List ℕ) (k inodes at : ℕ) (head : Head) (numbers : List ℕ) (fault : Option ℕ)
    → WasRead layout image stamps k inodes at head numbers
    → fault ≡ numbers_fault inodes numbers → journal_fault layout.inodes stamps (journal_slot layout image k) ≡ fault
slot_judged layout image stamps k inodes at head numbers fault was is =
    judged layout image stamps k head numbers fault was.head_is was.gate (ap (λ n. head_fault n stamps head) (sym was.inodes_is) ∙ sym was.sound)
    (own_numbers layout image stamps k inodes at head numbers was) (ap (λ n. numbers_fault n numbers) (sym was.inodes_is) ∙ sym is)

-- a slot with a wrong number is refused
pub slot_refused : (layout : Layout) (image stamps : List ℕ) (k inodes at : ℕ) (head : Head) (numbers : List ℕ) (byte : ℕ) (fault : RecoverFault)
    → WasRead layout image stamps k inodes at head numbers
    → Some byte ≡ numbers_fault inodes numbers → IsBadJournal layout k byte fault → IsSlotRefusal layout image stamps k fault
slot_refused layout image stamps k inodes at head numbers byte (BadJournal core slot b) was is bad =
    record {
      core_of = bad.0;
      slot_of = bad.1;
      fault = slot_judged layout image stamps k inodes at head numbers (Some byte) was is ∙ ap (λ n. Some n) (sym bad.2);
    }
slot_refused layout image stamps k inodes at head numbers byte (BadSuper b) was is bad = absurd bad
slot_refused layout image stamps k inodes at head numbers byte (BadImage i r) was is bad = absurd bad
slot_refused layout image stamps k inodes at head numbers byte DiskFailed was is bad = absurd bad
slot_refused layout image stamps k inodes at head numbers byte NoMemory was is bad = absurd bad

-- a slot without one is found
pub slot_found : (layout : Layout) (image stamps : List ℕ) (k inodes at : ℕ) (head : Head) (one : OpenSlot)
    → WasRead layout image stamps k inodes at head one.numbers.items
    → None ≡ numbers_fault inodes one.numbers.items → one.number ≡ k → one.stamp ≡ head.stamp → HasSlot layout image stamps k one
slot_found layout image stamps k inodes at head one was is number stamp = record {
  number = number;
  gate = ap (λ (h : Head). h.gate) (sym was.head_is) ∙ was.gate;
  slot = record {
    stamp = stamp ∙ ap (λ (h : Head). h.stamp) was.head_is ∙ ap (λ n. (head_of (part 0 4096 (journal_slot layout image n))).stamp) (sym number);
    numbers =
        own_numbers layout image stamps k inodes at head one.numbers.items was ∙ ap (λ n. numbers_of layout.inodes (journal_slot layout image n)) (sym number);
  };
  sound = slot_judged layout image stamps k inodes at head one.numbers.items None was is;
}

pub stamps_more : (stamps : List ℕ) (found : List OpenSlot) (slot : Option OpenSlot) → stamps ≡ map (λ (one : OpenSlot). one.stamp) found
    → stamps ++ option_to_list (option_map (λ (one : OpenSlot). one.stamp) slot) ≡ map (λ (one : OpenSlot). one.stamp) (found ++ option_to_list slot)
stamps_more stamps found None is = append-nil stamps ∙ is ∙ ap (map (λ (one : OpenSlot). one.stamp)) (sym (append-nil found))
stamps_more stamps found (Some one) is = ap (λ (s : List ℕ). s ++ one.stamp ∷ []) is ∙ sym (map-append (λ (one : OpenSlot). one.stamp) found (one ∷ []))

-- the refusal of a slot is that of the journals
pub slots_refused : (layout : Layout) (image stamps : List ℕ) (k : ℕ) (found : List OpenSlot) (fault : RecoverFault) → AreOpen layout image k found
    → stamps ≡ map (λ (one : OpenSlot). one.stamp) found
    → k < slot_count layout → IsSlotRefusal layout image stamps k fault → IsJournalRefusal layout image fault
slots_refused layout image stamps k found (BadJournal core slot at) are stamps_is less wrong =
    wrong_slot layout image stamps k core slot at found are stamps_is less wrong
slots_refused layout image stamps k found (BadSuper at) are stamps_is less wrong = absurd wrong
slots_refused layout image stamps k found (BadImage inode rule) are stamps_is less wrong = absurd wrong
slots_refused layout image stamps k found DiskFailed are stamps_is less wrong = tt
slots_refused layout image stamps k found NoMemory are stamps_is less wrong = tt

pub all_good : (layout : Layout) (found : List OpenSlot) (slot : Option OpenSlot) → AllByRecursion (IsGoodSlot layout) found → IsGoodIfSome layout slot
    → AllByRecursion (IsGoodSlot layout) (found ++ option_to_list slot)
all_good layout [] None all good = tt
all_good layout [] (Some one) all good = (good, tt)
all_good layout (first ∷ found) slot all good = (all.0, all_good layout found slot all.1 good)
