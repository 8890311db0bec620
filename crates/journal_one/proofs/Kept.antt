-- What is known of bytes goes on through writes elsewhere and through a sync.
use Rattle.std.proofs.Common.{◌≡◌, ℕ, ◌+◌, ◌*◌, ◌≤◌, eqb, List, length, Option, Some, None, Result, Ok, Err, slice_index, refl, sym, ◌∙◌, ap, subst, arith}
use Rattle.std.specs.Prelude.{option_map}
use Rattle.std.proofs.lemmas.List.{get_or-take}
use Rattle.sfs_image.specs.Bytes.{part}
use Rattle.sfs_image.specs.Journal.{head_of}
use Rattle.sfs_image.specs.Settled.{journal_slot, slot_byte}
use Rattle.sfs_image.specs.Super.{slot_blocks}
use Rattle.sfs_image.proofs.FrameLaws.{part-part, gate_byte}
use Rattle.sfs_dev.specs.Ranges.{put, SameOutside}
use Rattle.sfs_dev.specs.RangeLaws.{SameOutside-put, part_apart, part-put}
use Rattle.sfs_dev.specs.Disk.{View, Torn, OnlyTold, images}
use Rattle.sfs_dev.proofs.Held.{told_before}
use Rattle.journal_one.specs.Calls.{IsWrite, IsSync, IsCalm}
use Rattle.journal_one.specs.Job.{Place, Piece, gate_piece}
use Rattle.journal_one.specs.Known.{Reads, EachLeft, IsWrittenIn}
use Rattle.journal_one.proofs.Apart.{AreApart}

-- what a law says of every disk: what a read gives has the disk's size, and is one of the images
pub record IsLawful (disk : View) : Type 0 where
  pub whole : (content : List ℕ) → disk.content ≡ Some content → length content ≡ 4096 * disk.size
  pub read_is_left : (content : List ℕ) → disk.content ≡ Some content → images disk content

-- Only these bytes may differ, in what a read gives and in each image; and it is told what a read gives exactly where it was.
pub record Touches (piece : Piece) (old new : View) : Type 0 where
  pub left : Torn piece.at (length piece.bytes) (images old) (images new)
  pub read : (content : List ℕ) → new.content ≡ Some content → (was : List ℕ) × (old.content ≡ Some was) × SameOutside piece.at (length piece.bytes) was content

-- nothing was written: what a read gives is the same, and there is no image more
pub record Rests (old new : View) : Type 0 where
  pub content : new.content ≡ old.content
  pub left : (content : List ℕ) → new.content ≡ Some content → (image : List ℕ) → images new image → images old image

-- what was put stands there
pub put_told : (piece : Piece) (old new : Option (List ℕ)) (content : List ℕ) → new ≡ option_map (put piece.at piece.bytes) old → new ≡ Some content
    → (was : List ℕ) × (old ≡ Some was) × (content ≡ put piece.at piece.bytes was)
put_told piece (Some was) new content is told =
    let both : Some content ≡ Some (put piece.at piece.bytes was) = sym told ∙ is in
    (was, refl, cc)
put_told piece None new content is told = let never : Some content ≡ None = sym told ∙ is in absurd (cc)

module _ (piece : Piece) (old new : View) (large : piece.at + length piece.bytes ≤ 4096 * old.size) (lawful : IsLawful old) where
  touched_ok : new.content ≡ option_map (put piece.at piece.bytes) old.content → (content : List ℕ) → new.content ≡ Some content
      → (was : List ℕ) × (old.content ≡ Some was) × SameOutside piece.at (length piece.bytes) was content
  touched_ok is content told =
      let p = put_told piece old.content new.content content is told in (
        p.0,
        p.1,
        subst (λ (l : List ℕ). SameOutside piece.at (length piece.bytes) p.0 l) (sym p.2)
            (SameOutside-put piece.at piece.bytes p.0 (omega (arith, lawful.whole p.0 p.1))),
      )

  -- a write touches its own bytes alone
  pub written_touches : {V E : Type 0} (result : Result V E) → IsWrite piece old new result → Touches piece old new
  written_touches (Ok value) is = record { left = is.torn; read = touched_ok is.ok }
  written_touches (Err fault) is =
      record { left = is.torn; read = λ content told. told_before piece.at (length piece.bytes) old.content new.content content is.err told }

  -- and after Ok they stand
  pub written_stands : new.content ≡ option_map (put piece.at piece.bytes) old.content → Reads new (IsWrittenIn piece)
  written_stands is content told =
      let p = put_told piece old.content new.content content is told in
      subst (IsWrittenIn piece) (sym p.2) (part-put piece.at piece.bytes p.0 (omega (arith, lawful.whole p.0 p.1)))

-- a sync that failed, and one that answered Ok, writes nothing
pub synced_rests : {V E : Type 0} (old new : View) (result : Result V E) → IsLawful old → IsSync old new result → Rests old new
synced_rests old new (Ok value) lawful is = record {
  content = is.content;
  left = λ content told image left.
      let sole = subst (λ (t : Option (List ℕ)). OnlyTold t (images new)) told is.ok in
      subst (images old) (sym (sole image left)) (lawful.read_is_left content (sym is.content ∙ told));
}
synced_rests old new (Err fault) lawful is = record { content = is.content; left = λ content told image left. (is.err image).0 left }

-- what is known goes on where the bytes that it is of are not touched
pub leaves_kept : (piece : Piece) (old new : View) (P : List ℕ → Type 0) → Touches piece old new
    → ((was image : List ℕ) → SameOutside piece.at (length piece.bytes) was image → P was → P image) → EachLeft old P → EachLeft new P
leaves_kept piece old new P touches frame knows content told image left =
    let was = touches.read content told in
    let before = touches.left image left in
    frame before.0 image before.2 (knows was.0 was.1 before.0 before.1)

pub reads_kept : (piece : Piece) (old new : View) (P : List ℕ → Type 0) → Touches piece old new
    → ((was image : List ℕ) → SameOutside piece.at (length piece.bytes) was image → P was → P image) → Reads old P → Reads new P
reads_kept piece old new P touches frame knows content told =
    let was = touches.read content told in
    frame was.0 content was.2 (knows was.0 was.1)

pub leaves_rest : (old new : View) (P : List ℕ → Type 0) → Rests old new → EachLeft old P → EachLeft new P
leaves_rest old new P rests knows content told image left = knows content (sym rests.content ∙ told) image (rests.left content told image left)

pub reads_rest : (old new : View) (P : List ℕ → Type 0) → Rests old new → Reads old P → Reads new P
reads_rest old new P rests knows content told = knows content (sym rests.content ∙ told)

-- what every image has, a read gives
pub reads_from_leaves : (disk : View) (P : List ℕ → Type 0) → IsLawful disk → EachLeft disk P → Reads disk P
reads_from_leaves disk P lawful knows content told = knows content told content (lawful.read_is_left content told)

-- where nothing is pending, every image has what a read gives
pub leaves_from_reads : (disk : View) (P : List ℕ → Type 0) → IsCalm disk → Reads disk P → EachLeft disk P
leaves_from_reads disk P calm knows content told image left =
    let sole = subst (λ (t : Option (List ℕ)). OnlyTold t (images disk)) told calm in
    subst P (sym (sole image left)) (knows content told)

-- bytes that stand go on standing through a write elsewhere
pub stands_kept : (written piece : Piece) (was image : List ℕ) → AreApart written piece → SameOutside written.at (length written.bytes) was image
    → IsWrittenIn piece was → IsWrittenIn piece image
stands_kept written piece was image apart same stands = part_apart piece.at (length piece.bytes) written.at (length written.bytes) was image apart same ∙ stands

-- the gate is one byte of the slot
pub gate_is : (place : Place) (image : List ℕ)
    → (head_of (part 0 4096 (journal_slot place.layout image place.slot))).gate ≡ eqb (slice_index (part (slot_byte place.layout place.slot) 1 image) 0) 1
gate_is place image =
    let size = 4096 * slot_blocks place.layout.inodes in
    let at = slot_byte place.layout place.slot in
    let front : part 0 1 (part at size image) ≡ part at 1 image =
    part-part 0 1 at size image (omega arith) ∙ ap (λ (k : ℕ). part k 1 image) (let e : at + 0 ≡ at = omega arith in e) in
    let byte : slice_index (part at size image) 0 ≡ slice_index (part at 1 image) 0 =
    sym (get_or-take 1 (part at size image) 0 0 (omega arith)) ∙ ap (λ (l : List ℕ). slice_index l 0) front in
    ap (λ (b : ℕ). eqb b 1) (gate_byte (part at size image) ∙ byte)

-- it stays through a write elsewhere
pub gate_stays : (place : Place) (written : Piece) (byte : ℕ) (was image : List ℕ) → AreApart written (gate_piece place byte)
    → SameOutside written.at (length written.bytes) was image
    → (head_of (part 0 4096 (journal_slot place.layout image place.slot))).gate ≡ (head_of (part 0 4096 (journal_slot place.layout was place.slot))).gate
gate_stays place written byte was image apart same =
    gate_is place image
    ∙ ap (λ (l : List ℕ). eqb (slice_index l 0) 1) (part_apart (slot_byte place.layout place.slot) 1 written.at (length written.bytes) was image apart same)
    ∙ sym (gate_is place was)

-- and is what was put there
pub gate_put : (place : Place) (byte : ℕ) (image : List ℕ) → IsWrittenIn (gate_piece place byte) image
    → (head_of (part 0 4096 (journal_slot place.layout image place.slot))).gate ≡ eqb byte 1
gate_put place byte image stands = gate_is place image ∙ ap (λ (l : List ℕ). eqb (slice_index l 0) 1) stands

-- a write that answered Ok is that write, whatever value comes with it
pub write_ok : {V W E F : Type 0} (piece : Piece) (old new : View) (value : V) (other : W) → IsWrite {V = V} {E = E} piece old new (Ok value)
    → IsWrite {V = W} {E = F} piece old new (Ok other)
write_ok piece old new value other is = record {
  ok = is.ok;
  err = tt;
  torn = is.torn;
  call = record {
    time = is.call.time;
    size = is.call.size;
    cause = record { never_falls = is.call.cause.never_falls; risen = tt; kept = is.call.cause.kept };
  };
}
