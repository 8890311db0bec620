-- What each write of a commit makes of an image that stands for parts.
use Rattle.std.proofs.Common.{◌≡◌, ◌≢◌, ◌⊎◌, ℕ, zero, suc, ◌+◌, ◌-◌, ◌*◌, ◌<◌, ◌≤◌, Bool, true, false, eqb, All, List, [], ◌∷◌, length, get_or, Option, None, Some, refl, sym, ◌∙◌, ap, subst, arith, inl, inr, cond}
use Rattle.std.proofs.Math.Path.{fun_ext}
use Rattle.std.specs.List.{find}
use Rattle.std.specs.Prelude.{option_map, unwrap_or}
use Rattle.std.proofs.lemmas.Bool.{cases_eq, cases_lt}
use Rattle.std.proofs.lemmas.Bool.Decides.{nat_tests}
use Rattle.std.proofs.lemmas.List.{length-map, get_or-map}
use Rattle.std.proofs.lemmas.List.Elements.{All-get_or, All-from_get_or}
use Rattle.sfs_image.specs.Bytes.{part}
use Rattle.sfs_image.specs.ImageOf.{InodePart, Transaction, FreshBlock, TurnsInto, StandIn, part_given, given, with_opened, with_slot, HasBody, IsSlotOf, IsImageOf}
use Rattle.sfs_image.specs.ImageWrites.{AgreesOutside, LiesApart, HasRecordsOf}
use Rattle.sfs_image.specs.Journal.{Entry, head_of}
use Rattle.sfs_image.specs.Part.{Part, IsGathered, pointer_at}
use Rattle.sfs_image.specs.Settled.{Stamped, image_block, journal_slot, slot_byte, slot_count, table_byte, table_record}
use Rattle.sfs_image.proofs.GateLaws.{gate_opens, gate_shuts, oldest_of_all, oldest_may_shut}
use Rattle.sfs_image.proofs.GivenLaws.{with_slot-same, with_slot-other}
use Rattle.sfs_image.proofs.ImageOfLaws.{fresh_make}
use Rattle.sfs_image.proofs.NewestLaws.{none_newest, newest_none}
use Rattle.sfs_image.proofs.BytesLaws.{None-option_map}
use Rattle.sfs_image.proofs.WrittenLaws.{data_written, table_written, body_written, gate_written}
use Rattle.sfs_dev.specs.Ranges.{SameOutside}
use Rattle.journal_one.specs.Job.{Job, Piece, fill_piece, body_piece, table_piece, no_block, no_entry, IsJob}
use Rattle.journal_one.specs.Known.{IsWrittenIn, IsShutIn, IsOpenIn}
use Rattle.journal_one.specs.Laws.{HasPieces}
use Rattle.journal_one.proofs.Bodies.{body_of_pieces, body_read, placed_in_table}
use Rattle.journal_one.proofs.Places.{body_lies, fresh_is, body_is, in_data, entry_long, entry_below}
use Rattle.commit_one.specs.Change.{nothing_open, entry_of_part, transaction_of, opened_by, parts_after, IsBefore, IsByItsSlot, IsAfter, AreFree, IsChangeOf}

-- the same of two lists of bytes, in the words of images
pub agrees : (at n : ℕ) (old new : List ℕ) → SameOutside at n old new → AgreesOutside at n old new
agrees at n old new same = record { before = same.before; behind = same.after; size = same.size }

-- a number from another on and below its successor is the other
only_one : (first i : ℕ) → first ≤ i → i < first + 1 → first ≡ i
only_one first i from low = omega arith

-- where nothing is found, nothing passes
not_found_at : {X : Type 0} (test : X → Bool) (xs : List X) (k : ℕ) (d : X) → find test xs ≡ None → k < length xs → test (get_or xs k d) ≡ false
not_found_at test [] k d none lt = absurd (omega arith)
not_found_at test (x ∷ xs) zero d none lt = by (test x) refl
  where
    by : (b : Bool) → test x ≡ b → test x ≡ false
    by false is = is
    by true is = absurd (let never : Some x ≡ None = sym (ap (λ (b : Bool). cond b (Some x) (find test xs)) is) ∙ none in cc)
not_found_at test (x ∷ xs) (suc k) d none lt = by (test x) refl (not_found_at test xs k d)
  where
    by : (b : Bool) → test x ≡ b → (find test xs ≡ None → k < length xs → test (get_or xs k d) ≡ false) → test (get_or xs k d) ≡ false
    by false is rest = rest (sym (ap (λ (b : Bool). cond b (Some x) (find test xs)) is) ∙ none) (omega arith)
    by true is rest = absurd (let never : Some x ≡ None = sym (ap (λ (b : Bool). cond b (Some x) (find test xs)) is) ∙ none in cc)

-- no part is given where nothing is open
pub none_given : (job : Job) (i : ℕ) → given job.place.layout nothing_open i ≡ None
none_given job i =
    ap (option_map (λ (newest : Stamped Part). newest.value))
    (none_newest (λ k. part_given i (nothing_open k)) 0 (slot_count job.place.layout) (λ k low high. refl))

pub own_part : (job : Job) (parts : ℕ → Part) (i : ℕ) → with_opened job.place.layout nothing_open parts i ≡ parts i
own_part job parts i = ap (λ (o : Option Part). unwrap_or o (parts i)) (none_given job i)

-- the piece's bytes lie apart from a block that is not its own
module _ (job : Job) (is : IsJob job) (parts : ℕ → Part) (free : AreFree job parts) where
  fresh_keeps : (k : ℕ) (was image : List ℕ) → k < length job.fresh → length (fill_piece job k).bytes ≡ 4096
      → SameOutside (fill_piece job k).at (length (fill_piece job k).bytes) was image → IsBefore job parts was → IsBefore job parts image
  fresh_keeps k was image lt whole same stands =
      let at_is : (fill_piece job k).at ≡ 4096 * (get_or job.fresh k no_block).block = ap (λ (p : Piece). p.at) (fresh_is job is k lt) in
      data_written job.place.layout nothing_open parts was image stands
      (record {
        at = (fill_piece job k).at;
        n = length (fill_piece job k).bytes;
        written = agrees (fill_piece job k).at (length (fill_piece job k).bytes) was image same;
        behind = omega (arith, at_is, (in_data job is k lt).low);
        apart = λ i place below points.
            let here : pointer_at (parts i) place ≢ 0 = subst (λ (p : Part). pointer_at p place ≢ 0) (own_part job parts i) points in
            let other = free i place k below lt here in
            subst (λ (p : Part). LiesApart (4096 * pointer_at p place) 4096 (fill_piece job k).at (length (fill_piece job k).bytes))
            (sym (own_part job parts i))
            (blocks_apart (pointer_at (parts i) place) (get_or job.fresh k no_block).block (fill_piece job k).at
            (length (fill_piece job k).bytes) other at_is whole);
      })
    where
      blocks_apart : (p b at n : ℕ) → b ≢ p → at ≡ 4096 * b → n ≡ 4096 → LiesApart (4096 * p) 4096 at n
      blocks_apart p b at n other at_is whole =
          elim (cases_lt p b) [
            | inl lt ↦ inl (omega arith)
            | inr le ↦ inr (omega arith)
          ]

  body_keeps : (k : ℕ) (was image : List ℕ) → length job.fresh ≤ k
      → SameOutside (fill_piece job k).at (length (fill_piece job k).bytes) was image → IsBefore job parts was → IsBefore job parts image
  body_keeps k was image le same stands =
      let piece = body_piece job (k - length job.fresh) in
      let lies = body_lies job is (k - length job.fresh) in
      let same_body : SameOutside piece.at (length piece.bytes) was image =
      subst (λ (p : Piece). SameOutside p.at (length p.bytes) was image) (body_is job is k le) same in
      let same_at : SameOutside (slot_byte job.place.layout job.place.slot + lies.from) (length piece.bytes) was image =
      subst (λ (a : ℕ). SameOutside a (length piece.bytes) was image) lies.begins same_body in
      body_written job.place.layout nothing_open parts job.place.slot was image stands
      (record {
        from = lies.from;
        n = length piece.bytes;
        written = agrees (slot_byte job.place.layout job.place.slot + lies.from) (length piece.bytes) was image same_at;
        within = is.place.within;
        fits = lies.fits;
        behind = omega (arith, lies.behind);
        shut = refl;
      })

  -- a write that fills the slot, whole or torn, keeps the image
  pub fill_keeps : (k : ℕ) (was image : List ℕ) → (k < length job.fresh → length (fill_piece job k).bytes ≡ 4096)
      → SameOutside (fill_piece job k).at (length (fill_piece job k).bytes) was image → IsBefore job parts was → IsBefore job parts image
  fill_keeps k was image whole same stands =
      elim (cases_lt k (length job.fresh)) [
        | inl lt ↦ fresh_keeps k was image lt (whole lt) same stands
        | inr le ↦ body_keeps k was image le same stands
      ]

module _ (job : Job) (is : IsJob job) (parts : ℕ → Part) (new : List InodePart) (change : IsChangeOf job parts new) where
  as_many : length new ≡ length job.entries
  as_many = sym (length-map new entry_of_part) ∙ ap length change.records

  -- no inode, where there is none
  no_part : InodePart
  no_part = record { inode = 0; part = record { raw = []; tables = []; blocks = [] } }

  -- the entry of a number is that of the part of the same number
  entry_is : (k : ℕ) → k < length new → entry_of_part (get_or new k no_part) ≡ get_or job.entries k no_entry
  entry_is k lt = sym (get_or-map entry_of_part new k no_part no_entry lt) ∙ ap (λ (l : List Entry). get_or l k no_entry) change.records

  below : (k : ℕ) → k < length new → (get_or new k no_part).inode < job.place.layout.inodes
  below k lt =
      subst (λ (i : ℕ). i < job.place.layout.inodes) (sym (ap (λ (e : Entry). e.inode) (entry_is k lt))) (entry_below job is k (omega (arith, as_many)))

  body_is_whole : (image : List ℕ) → HasPieces job image
      → HasBody job.place.layout.inodes (transaction_of job new) (journal_slot job.place.layout image job.place.slot)
  body_is_whole image has =
      let read = body_read job image is (body_of_pieces job image is has) in
      record {
        count = read.count;
        numbers = read.numbers;
        body = read.body ∙ ap (λ (l : List Entry). record { stamp = job.stamp; entries = l }) (sym change.records);
      }

  -- the fresh blocks stand in the image, each with all of its bytes
  blocks_stand : (image : List ℕ) → HasPieces job image → ((k : ℕ) → k < length job.fresh → length (fill_piece job k).bytes ≡ 4096)
      → StandIn (image_block image) job.fresh
  blocks_stand image has whole =
      All-from_get_or (λ (one : FreshBlock). image_block image one.block ≡ one.bytes) job.fresh no_block
      (λ k lt.
      let stands : IsWrittenIn (fill_piece job k) image = has k (omega arith) in
      let long = whole k lt in
      let own : part (fill_piece job k).at 4096 image ≡ (fill_piece job k).bytes = ap (λ (n : ℕ). part (fill_piece job k).at n image) (sym long) ∙ stands in
      subst (λ (p : Piece). part p.at 4096 image ≡ p.bytes) (fresh_is job is k lt) own)

  -- the new parts are gathered in an image that has the fresh blocks
  gathered : (image : List ℕ) → IsBefore job parts image → StandIn (image_block image) job.fresh
      → All (λ (own : InodePart). IsGathered (image_block image) own.part) new
  gathered image stands blocks =
      All-from_get_or (λ (own : InodePart). IsGathered (image_block image) own.part) new no_part
      (λ k lt.
      let turns = All-get_or (λ (own : InodePart). TurnsInto job.fresh (parts own.inode) own.part) new k no_part lt change.turns in
      fresh_make job.place.layout nothing_open parts image (get_or new k no_part).inode job.fresh (get_or new k no_part).part stands (below k lt)
      (subst (λ (p : Part). TurnsInto job.fresh p (get_or new k no_part).part) (sym (own_part job parts (get_or new k no_part).inode)) turns) blocks)

  -- a write at the gate over a whole body opens it or leaves it
  pub gate_opens_or_stays : (was image : List ℕ) → IsBefore job parts was → HasPieces job was
      → ((k : ℕ) → k < length job.fresh → length (fill_piece job k).bytes ≡ 4096)
      → SameOutside (slot_byte job.place.layout job.place.slot) 1 was image → IsBefore job parts image ⊎ IsByItsSlot job parts new image
  gate_opens_or_stays was image stands has whole same = by (head_of (part 0 4096 (journal_slot job.place.layout image job.place.slot))).gate refl
    where
      by : (b : Bool) → (head_of (part 0 4096 (journal_slot job.place.layout image job.place.slot))).gate ≡ b
          → IsBefore job parts image ⊎ IsByItsSlot job parts new image
      by true gate =
          inr (gate_opens job.place.layout nothing_open parts job.place.slot (transaction_of job new) was image stands
          (record {
            within = is.place.within;
            written = agrees (slot_byte job.place.layout job.place.slot) 1 was image same;
            shut = refl;
            whole = body_is_whole was has;
            may = record {
              own = λ j other h open_with. absurd (let never : None ≡ Some other = open_with in cc);
              newer = λ i j other ours h gives mine. absurd (let never : None ≡ Some other = gives in cc);
              gathered = gathered was stands (blocks_stand was has whole);
              pointers = change.pointers;
            };
            gate = gate;
          }))
      by false gate =
          inl (gate_written job.place.layout nothing_open parts job.place.slot was image stands
          (record {
            within = is.place.within;
            written = agrees (slot_byte job.place.layout job.place.slot) 1 was image same;
            gate = gate ∙ sym (stands.slots job.place.slot is.place.within);
          }))

  -- an image with the slot open is not one before the commit
  pub open_is_by_its_slot : (image : List ℕ) → IsOpenIn job.place image → IsBefore job parts image ⊎ IsByItsSlot job parts new image
      → IsByItsSlot job parts new image
  open_is_by_its_slot image opened (inl stands) = absurd (let never : true ≡ false = sym opened ∙ stands.slots job.place.slot is.place.within in cc)
  open_is_by_its_slot image opened (inr stands) = stands

  -- an inode of the commit is given its part
  is_given : (k : ℕ) → k < length new → given job.place.layout (opened_by job new) (get_or new k no_part).inode ≢ None
  is_given k lt none =
      let i = (get_or new k no_part).inode in
      let at : ℕ → Option (Stamped Part) = λ j. part_given i (opened_by job new j) in
      let nothing : at job.place.slot ≡ None =
      newest_none at 0 (slot_count job.place.layout) (None-option_map (λ (newest : Stamped Part). newest.value) _ none) job.place.slot (omega arith)
      (omega (arith, is.place.within)) in
      let gone : part_given i (Some (transaction_of job new)) ≡ None =
      ap (part_given i) (sym (with_slot-same nothing_open job.place.slot (Some (transaction_of job new)))) ∙ nothing in
      let not_found : find (λ (own : InodePart). eqb own.inode i) new ≡ None = None-option_map _ (find (λ (own : InodePart). eqb own.inode i) new) gone in
      let passes : eqb i i ≡ true = grind (arith, nat_tests) in
      let fails : eqb i i ≡ false = not_found_at (λ (own : InodePart). eqb own.inode i) new k no_part not_found lt in
      let never : true ≡ false = sym passes ∙ fails in
      cc

  -- a record that is placed in the table, whole or torn, keeps the image
  pub place_keeps : (k : ℕ) (was image : List ℕ) → k < length job.entries → SameOutside (table_piece job k).at (length (table_piece job k).bytes) was image
      → IsByItsSlot job parts new was → IsByItsSlot job parts new image
  place_keeps k was image lt same stands =
      let few : k < length new = omega (arith, as_many) in
      let inode : (get_or new k no_part).inode ≡ (get_or job.entries k no_entry).inode = ap (λ (e : Entry). e.inode) (entry_is k few) in
      let at : (table_piece job k).at ≡ table_byte job.place.layout (get_or job.entries k no_entry).inode + 0 = omega arith in
      let same_at : SameOutside (table_byte job.place.layout (get_or job.entries k no_entry).inode + 0) (length (table_piece job k).bytes) was image =
      subst (λ (a : ℕ). SameOutside a (length (table_piece job k).bytes) was image) at same in
      table_written job.place.layout (opened_by job new) parts (get_or job.entries k no_entry).inode 1 was image stands
      (record {
        from = 0;
        n = length (table_piece job k).bytes;
        written = agrees (table_byte job.place.layout (get_or job.entries k no_entry).inode + 0) (length (table_piece job k).bytes) was image same_at;
        within = let low = entry_below job is k lt in omega arith;
        fits = omega (arith, entry_long job is k lt);
        taken = λ i from low. subst (λ (i : ℕ). given job.place.layout (opened_by job new) i ≢ None) (inode ∙ only_one _ i from low) (is_given k few);
      })

  -- the table has the records of the commit where they stand there
  pub records_in_table : (image : List ℕ) → ((k : ℕ) → k < length job.entries → IsWrittenIn (table_piece job k) image)
      → HasRecordsOf job.place.layout (transaction_of job new) image
  records_in_table image stand =
      All-from_get_or (λ (own : InodePart). table_record job.place.layout image own.inode ≡ own.part.raw) new no_part
      (λ k lt.
      let there = placed_in_table job image k is (omega (arith, as_many)) (stand k (omega (arith, as_many))) in
      subst (λ (e : Entry). table_record job.place.layout image e.inode ≡ e.bytes) (sym (entry_is k lt)) there)

  -- the slot shut again, nothing is open
  shut_again : with_slot (opened_by job new) job.place.slot None ≡ nothing_open
  shut_again = fun_ext (λ j. elim (cases_eq j job.place.slot) [
    | inl here ↦ ap (with_slot (opened_by job new) job.place.slot None) here ∙ with_slot-same (opened_by job new) job.place.slot None
    | inr other ↦
        with_slot-other (opened_by job new) job.place.slot None j other ∙ with_slot-other nothing_open job.place.slot (Some (transaction_of job new)) j other
  ])

  -- a write at the gate of the open slot, once the table has the records, shuts it or leaves it
  pub gate_shuts_or_stays : (was image : List ℕ) → IsByItsSlot job parts new was → HasRecordsOf job.place.layout (transaction_of job new) was
      → SameOutside (slot_byte job.place.layout job.place.slot) 1 was image → IsByItsSlot job parts new image ⊎ IsAfter job parts new image
  gate_shuts_or_stays was image stands records same = by (head_of (part 0 4096 (journal_slot job.place.layout image job.place.slot))).gate refl
    where
      own : opened_by job new job.place.slot ≡ Some (transaction_of job new)
      own = with_slot-same nothing_open job.place.slot (Some (transaction_of job new))

      open_before : IsSlotOf job.place.layout.inodes (Some (transaction_of job new)) (journal_slot job.place.layout was job.place.slot)
      open_before =
          subst (λ (o : Option Transaction). IsSlotOf job.place.layout.inodes o (journal_slot job.place.layout was job.place.slot)) own
          (stands.slots job.place.slot is.place.within)

      by : (b : Bool) → (head_of (part 0 4096 (journal_slot job.place.layout image job.place.slot))).gate ≡ b
          → IsByItsSlot job parts new image ⊎ IsAfter job parts new image
      by true gate =
          inl (gate_written job.place.layout (opened_by job new) parts job.place.slot was image stands
          (record {
            within = is.place.within;
            written = agrees (slot_byte job.place.layout job.place.slot) 1 was image same;
            gate = gate ∙ sym open_before.gate;
          }))
      by false gate =
          let after = gate_shuts job.place.layout (opened_by job new) parts job.place.slot was image stands
          (record {
            within = is.place.within;
            written = agrees (slot_byte job.place.layout job.place.slot) 1 was image same;
            may = oldest_may_shut job.place.layout (opened_by job new) parts job.place.slot (transaction_of job new) was is.place.within own
                (oldest_of_all job.place.layout (opened_by job new) job.place.slot (transaction_of job new) own
                (λ j other h apart open_with. absurd
                (let never : None ≡ Some other = sym (with_slot-other nothing_open job.place.slot (Some (transaction_of job new)) j apart) ∙ open_with in
                cc)))
                (inr records);
            gate = gate;
          }) in
          inr (subst (λ (o : ℕ → Option Transaction). IsImageOf job.place.layout o (parts_after job parts new) image) shut_again after.stands)

  -- an image with the slot shut is not one that counts by it
  pub shut_is_after : (image : List ℕ) → IsShutIn job.place image → IsByItsSlot job parts new image ⊎ IsAfter job parts new image → IsAfter job parts new image
  shut_is_after image shut (inr stands) = stands
  shut_is_after image shut (inl stands) =
      let open_with = subst (λ (o : Option Transaction). IsSlotOf job.place.layout.inodes o (journal_slot job.place.layout image job.place.slot))
      (with_slot-same nothing_open job.place.slot (Some (transaction_of job new))) (stands.slots job.place.slot is.place.within) in
      absurd (let never : true ≡ false = sym open_with.gate ∙ shut in cc)
