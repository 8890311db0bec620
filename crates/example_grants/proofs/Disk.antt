-- The disk on which both commits are written is in the run that the labels tell, and the mount closes.
use Rattle.std.specs.Option.{option_map_or}
use Rattle.std.proofs.Math.Seq.{drop-append-add, take-append_seam}
use Rattle.std.proofs.Common.{◌∷◌, ◌++◌, ◌≡◌, ◌∙◌, ◌<◌, ◌≤◌, ◌*◌, ◌+◌, ◌^◌, ◌-◌, ℕ, List, [], subst, sym, ap, refl, zero, suc, arith, Some, None, true, length, min, Option, take, drop, append-nil, append_assoc, length-append}
use Rattle.std.proofs.lemmas.List.{length-take-le, length-drop}
use Rattle.sfs_base.specs.declared.numbers.CoreId.{CoreId}
use Rattle.sfs_base.proofs.BasicOptions.{some_same}
use Rattle.sfs_base.proofs.BasicTruth.{true_not_false}
use Rattle.sfs_image.specs.Bytes.{zeros}
use Rattle.sfs_image.specs.Inode.{inode_bytes}
use Rattle.sfs_image.specs.ImageOf.{IsImageOf}
use Rattle.sfs_image.proofs.BytesLaws.{length-zeros}
use Rattle.sfs_image.proofs.InodeLaws.{length-inode_bytes}
use Rattle.sfs_dev.specs.Disk.{View}
use Rattle.sfs_dev.specs.Ranges.{put, SameOutside}
use Rattle.journal_one.specs.Job.{Job, Piece, fill_piece, gate_piece}
use Rattle.commit_one.specs.Change.{nothing_open}
use Rattle.tree_laws.specs.declared.turns.Turn.{Turn}
use Rattle.cut_laws.specs.Rules.{IsOneOf}
use Rattle.turn_laws.specs.Books.{flush_at}
use Rattle.merge_laws.proofs.Worked.{of_each}
use Rattle.book_laws.specs.Pairs.{bringing_under}
use Rattle.stamp_table.specs.declared.event.Event.{Event}
use Rattle.stamp_table.specs.declared.event.Event.TheVariants.{Told}
use Rattle.slot_laws.specs.declared.label.Label.{Label}
use Rattle.slot_laws.specs.Labels.{after_label, past_from, first_past, BoxPast}
use Rattle.slot_laws.specs.Fits.{PastFits}
use Rattle.slot_laws.specs.Rules.{MayFrom}
use Rattle.slot_laws.specs.Slots.{SlotWork}
use Rattle.slot_laws.proofs.Lawful.{lawful_fits, first_fits}
use Rattle.slot_image_laws.specs.Labels.{IsToldOf, IsDoneBy}
use Rattle.slot_image_laws.specs.Run.{KeepsLaws, Writes, Syncs, RunFits, BeganWith}
use Rattle.slot_image_laws.proofs.Running.{told_labels_fit, first_runs_fit, done_labels_fit}
use Rattle.close_laws.specs.Maps.{past_of}
use Rattle.close_laws.specs.Close.{EndsMount}
use Rattle.close_laws.specs.Fronts.{AreTurnsOf}
use Rattle.close_laws.proofs.Mounts.{table_mounts_close}
use Rattle.example_grants.specs.Disk.{content_after, FILES_CALLS, files_disk, IsFilesImage, WritersMountEnds, WritersClose}
use Rattle.example_grants.specs.Fsyncs.{Writer, OWN, OTHER, ENTRIES}
use Rattle.example_grants.specs.Image.{FIFTEEN_BLOCKS, FIRST_PARTS, TWO_FILES, file_inode}
use Rattle.example_grants.specs.Told.{OWN_JOB, OTHER_JOB, RESERVE, BEGIN, FILL, OPEN, LAND, FILES_NUMBERED, FILES_TOLD}
use Rattle.example_grants.specs.Turns.{FILES_TURNS, FILES_PENS}
use Rattle.example_grants.proofs.Image.{any_file}
use Rattle.example_grants.proofs.Labels.{labels_stand_told, turns_are, told_pens}
use Rattle.example_grants.proofs.Rules.{layout_fits, reserved_past, begun_past, filled_past, opened_past, may_reserve, may_begin, may_fill, may_open, may_land}

-- bytes that are put lie where they are put, and nothing else changes
put_outside : (at : ℕ) (new was : List ℕ) → at + length new ≤ length was → SameOutside at (length new) was (put at new was)
put_outside at new was low = record {
  before = ap (take at) (append_assoc (take at was) new rest)
      ∙ subst (λ n. take n (take at was ++ (new ++ rest)) ≡ take at was) front (take-append_seam (take at was) (new ++ rest));
  after = ap (drop (at + length new)) (append_assoc (take at was) new rest)
      ∙ subst (λ n. drop (n + length new) (take at was ++ (new ++ rest)) ≡ rest) front
      (drop-append-add (take at was) (new ++ rest) (length new)
      ∙ ap (λ n. drop n (new ++ rest)) (let e : length new ≡ length new + 0 = omega arith in e) ∙ drop-append-add new rest 0 ∙ none rest);
  size = ap length (append_assoc (take at was) new rest) ∙ put_long;
}
  where
    rest : List ℕ
    rest = drop (at + length new) was

    front : length (take at was) ≡ at
    front = length-take-le at was (omega (arith, low))

    none : (l : List ℕ) → drop 0 l ≡ l
    none [] = refl
    none (x ∷ l) = refl

    put_long : length (take at was ++ (new ++ rest)) ≡ length was
    put_long =
        let outer = length-append (take at was) (new ++ rest) in
        let inner = length-append new rest in
        let back : length rest ≡ length was - (at + length new) = length-drop (at + length new) was in
        let first = front in omega (arith, outer, inner, back, first, low)

-- the pieces of some calls lie on a disk of fifteen blocks
abbrev LiesWithin : Piece → Type 0
LiesWithin piece = piece.at + length piece.bytes ≤ 61440

abbrev AllLie : List (Option Piece) → Type 0
AllLie [] = Unit {0}
AllLie (None ∷ calls) = AllLie calls
AllLie (Some piece ∷ calls) = LiesWithin piece × AllLie calls

-- so the image stays as long as it is
stays_long : (calls : List (Option Piece)) (image : List ℕ) (n : ℕ) → AllLie calls → length image ≡ 61440 → length (content_after calls image n) ≡ 61440
stays_long [] image n lie long = long
stays_long (call ∷ calls) image zero lie long = long
stays_long (None ∷ calls) image (suc n) lie long = stays_long calls image n lie long
stays_long (Some piece ∷ calls) image (suc n) lie long =
    stays_long calls (put piece.at piece.bytes image) n lie.1
    (let low = lie.0 in (put_outside piece.at piece.bytes image (omega (arith, low, long))).size ∙ long)

-- the pieces of a job lie there
page_long : (w : Writer) → length (w.byte ∷ zeros 4095) ≡ 4096
page_long w = ap suc (length-zeros 4095)

record_long : (w : Writer) → w.block < 15 → length (inode_bytes (file_inode 1 w.block) ++ []) ≡ 512
record_long w low = ap length (append-nil (inode_bytes (file_inode 1 w.block)))
    ∙ length-inode_bytes (file_inode 1 w.block) (any_file 1 w.block (omega arith) (omega (arith, low)))

own_lies_fresh : LiesWithin (fill_piece OWN_JOB 0)
own_lies_fresh = let long = page_long OWN in omega (arith, long)

own_lies_numbers : LiesWithin (fill_piece OWN_JOB 1)
own_lies_numbers = omega arith

own_lies_records : LiesWithin (fill_piece OWN_JOB 2)
own_lies_records = let long = record_long OWN (omega arith) in omega (arith, long)

own_lies_head : LiesWithin (fill_piece OWN_JOB 3)
unfolding zeros
own_lies_head = omega arith

other_lies_fresh : LiesWithin (fill_piece OTHER_JOB 0)
other_lies_fresh = let long = page_long OTHER in omega (arith, long)

other_lies_numbers : LiesWithin (fill_piece OTHER_JOB 1)
other_lies_numbers = omega arith

other_lies_records : LiesWithin (fill_piece OTHER_JOB 2)
other_lies_records = let long = record_long OTHER (omega arith) in omega (arith, long)

other_lies_head : LiesWithin (fill_piece OTHER_JOB 3)
unfolding zeros
other_lies_head = omega arith

all_lie : AllLie FILES_CALLS
all_lie = (
  other_lies_fresh,
  (
    other_lies_numbers,
    (
      other_lies_records,
      (
        other_lies_head,
        (own_lies_fresh, (own_lies_numbers, (own_lies_records, (own_lies_head, (omega arith, (omega arith, tt)))))),
      ),
    ),
  ),
)

turns_of_them : AreTurnsOf FILES_NUMBERED (past_of FILES_TOLD).turns
turns_of_them turn one did =
    of_each (λ (turn : Turn). (bringing_under FILES_NUMBERED.pairs turn.stamp.0).flush ≡ flush_at turn) FILES_TURNS
    (refl, (refl, (refl, (refl, (refl, (refl, (refl, (refl, tt)))))))) turn (subst (λ l. IsOneOf l turn) turns_are one)

-- the job that a slot has
job_of : (job : Job) {slot : Option SlotWork} {work : SlotWork} → slot ≡ Some work → option_map_or (λ (w : SlotWork). w.job) slot job ≡ work.job
job_of job there = ap (λ (o : Option SlotWork). option_map_or (λ (w : SlotWork). w.job) o job) there

-- Labels are told as the calls are made: each of the disk as it is, or of one call more.
data RunsFrom (image : List ℕ) (to : ℕ) : List (Event Label) → BoxPast → ℕ → Type 0 where
  none_more : {past : BoxPast} → RunsFrom image to [] past to
  told_now : {core : CoreId} {fact : Label} {log : List (Event Label)} {past : BoxPast} {n : ℕ} → n ≤ 13 → IsToldOf fact (files_disk image n)
      → RunsFrom image to log (after_label FIFTEEN_BLOCKS core.0 fact past) n → RunsFrom image to (Told core fact ∷ log) past n
  done_next : {core : CoreId} {fact : Label} {log : List (Event Label)} {past : BoxPast} {n : ℕ} → n ≤ 13
      → IsDoneBy fact past.slots (files_disk image n) (files_disk image (suc n))
      → RunsFrom image to log (after_label FIFTEEN_BLOCKS core.0 fact past) (suc n) → RunsFrom image to (Told core fact ∷ log) past n

module _ (image : List ℕ) (is : IsFilesImage image) where
  abbrev contents : ℕ → List ℕ
  contents n = content_after FILES_CALLS image n

  abbrev disk : ℕ → View
  disk n = files_disk image n

  long : (n : ℕ) → length (contents n) ≡ 61440
  long n = stays_long FILES_CALLS image n all_lie is.whole

  laws : (n : ℕ) → n ≤ 13 → KeepsLaws (disk n)
  laws n low = record {
    whole = λ content told. subst (λ c. length c ≡ 4096 * 15) (some_same told) (long n);
    read_is_left = λ content told. sym (some_same told);
    now_fits = omega (arith, low);
  }

  -- a call writes a piece
  writes : (piece : Piece) (n : ℕ) → contents (suc n) ≡ put piece.at piece.bytes (contents n) → LiesWithin piece → suc n ≡ min (n + 1) (2 ^ 64 - 1)
      → Writes true piece (disk n) (disk (suc n))
  writes piece n did lies counted = record {
    ok = λ done. ap Some did;
    err = λ never. absurd (true_not_false never);
    torn = λ other same. (
      contents n,
      refl,
      subst (SameOutside piece.at (length piece.bytes) (contents n)) (sym (same ∙ did))
          (put_outside piece.at piece.bytes (contents n) (let whole = long n in omega (arith, lies, whole))),
    );
    time = record { counted = counted; past = λ k other low. (λ it. it, λ it. it) };
    size = refl;
  }

  -- a call syncs the disk
  syncs : (n : ℕ) → contents (suc n) ≡ contents n → suc n ≡ min (n + 1) (2 ^ 64 - 1) → Syncs true (disk n) (disk (suc n))
  syncs n same counted = record {
    ok = λ done other left. left;
    err = λ never. absurd (true_not_false never);
    content = ap Some same;
    time = record { counted = counted; past = λ k other low. (λ it. it, λ it. it) };
    size = refl;
  }

  -- a slot with a job is filled by a call, and its gate is opened by one
  fills : (job other : Job) (k n : ℕ) → job ≡ other → contents (suc n) ≡ put (fill_piece job k).at (fill_piece job k).bytes (contents n)
      → LiesWithin (fill_piece job k) → suc n ≡ min (n + 1) (2 ^ 64 - 1) → Writes true (fill_piece other k) (disk n) (disk (suc n))
  fills job other k n same did lies counted =
      subst (λ (j : Job). Writes true (fill_piece j k) (disk n) (disk (suc n))) same (writes (fill_piece job k) n did lies counted)

  opens : (job other : Job) (n : ℕ) → job ≡ other → contents (suc n) ≡ put (gate_piece job.place 1).at (gate_piece job.place 1).bytes (contents n)
      → LiesWithin (gate_piece job.place 1) → suc n ≡ min (n + 1) (2 ^ 64 - 1) → Writes true (gate_piece other.place 1) (disk n) (disk (suc n))
  opens job other n same did lies counted =
      subst (λ (j : Job). Writes true (gate_piece j.place 1) (disk n) (disk (suc n))) same (writes (gate_piece job.place 1) n did lies counted)

  runs_fit : (to : ℕ) (log : List (Event Label)) (past : BoxPast) (n : ℕ) → PastFits FIFTEEN_BLOCKS 0 past → MayFrom FIFTEEN_BLOCKS 0 log past
      → RunsFrom image to log past n → RunFits FIFTEEN_BLOCKS 0 past (disk n) → RunFits FIFTEEN_BLOCKS 0 (past_from FIFTEEN_BLOCKS log past) (disk to)
  runs_fit to _ past _ fits may none_more run = run
  runs_fit to _ past n fits may (told_now {core} {fact} {log} low told runs) run =
      runs_fit to log (after_label FIFTEEN_BLOCKS core.0 fact past) n
      (lawful_fits FIFTEEN_BLOCKS 0 (Told core fact ∷ []) past fits (may.0, tt)) may.1 runs
      (told_labels_fit (disk n) FIFTEEN_BLOCKS 0 core.0 0 fact past fits may.0.1 told (laws n low) run)
  runs_fit to _ past n fits may (done_next {core} {fact} {log} low did runs) run =
      runs_fit to log (after_label FIFTEEN_BLOCKS core.0 fact past) (suc n)
      (lawful_fits FIFTEEN_BLOCKS 0 (Told core fact ∷ []) past fits (may.0, tt)) may.1 runs
      (done_labels_fit (disk n) (disk (suc n)) FIFTEEN_BLOCKS 0 core.0 0 fact past may.0.1 did (laws n low) run)

  runs_reserve : RunsFrom image 0 RESERVE (first_past 0) 0
  runs_reserve =
      told_now (omega arith) tt (told_now (omega arith) tt (told_now (omega arith) refl (told_now (omega arith) tt (told_now (omega arith) tt (
      told_now (omega arith) tt (told_now (omega arith) refl (told_now (omega arith) tt none_more)))))))

  runs_begin : RunsFrom image 0 BEGIN reserved_past 0
  runs_begin =
      told_now (omega arith) tt (told_now (omega arith) tt (told_now (omega arith) tt (told_now (omega arith) tt (told_now (omega arith) tt (
      told_now (omega arith) tt none_more)))))

  runs_fill : RunsFrom image 9 FILL begun_past 0
  runs_fill =
      told_now (omega arith) tt (
      done_next (omega arith) (λ work there. fills OTHER_JOB work.job 0 0 (job_of OTHER_JOB there) refl other_lies_fresh refl) (
      done_next (omega arith) (λ work there. fills OTHER_JOB work.job 1 1 (job_of OTHER_JOB there) refl other_lies_numbers refl) (
      done_next (omega arith) (λ work there. fills OTHER_JOB work.job 2 2 (job_of OTHER_JOB there) refl other_lies_records refl) (
      done_next (omega arith) (λ work there. fills OTHER_JOB work.job 3 3 (job_of OTHER_JOB there) refl other_lies_head refl) (
      told_now (omega arith) tt (told_now (omega arith) tt (
      done_next (omega arith) (λ work there. fills OWN_JOB work.job 0 4 (job_of OWN_JOB there) refl own_lies_fresh refl) (
      done_next (omega arith) (λ work there. fills OWN_JOB work.job 1 5 (job_of OWN_JOB there) refl own_lies_numbers refl) (
      done_next (omega arith) (λ work there. fills OWN_JOB work.job 2 6 (job_of OWN_JOB there) refl own_lies_records refl) (
      done_next (omega arith) (λ work there. fills OWN_JOB work.job 3 7 (job_of OWN_JOB there) refl own_lies_head refl) (
      done_next (omega arith) (refl, syncs 8 refl refl) (told_now (omega arith) tt none_more))))))))))))

  runs_open : RunsFrom image 11 OPEN filled_past 9
  runs_open =
      told_now (omega arith) tt (
      done_next (omega arith) (refl, λ work there. opens OTHER_JOB work.job 9 (job_of OTHER_JOB there) refl (omega arith) refl) (
      told_now (omega arith) tt (told_now (omega arith) tt (
      done_next (omega arith) (refl, λ work there. opens OWN_JOB work.job 10 (job_of OWN_JOB there) refl (omega arith) refl) (
      told_now (omega arith) tt none_more)))))

  runs_land : RunsFrom image 13 LAND opened_past 11
  runs_land =
      told_now (omega arith) tt (done_next (omega arith) (refl, syncs 11 refl refl) (told_now (omega arith) refl (told_now (omega arith) tt (
      told_now (omega arith) tt (told_now (omega arith) tt (done_next (omega arith) (refl, syncs 12 refl refl) (told_now (omega arith) refl (
      told_now (omega arith) tt (told_now (omega arith) tt none_more)))))))))

  fits_reserved : PastFits FIFTEEN_BLOCKS 0 reserved_past
  fits_reserved = lawful_fits FIFTEEN_BLOCKS 0 RESERVE (first_past 0) (first_fits FIFTEEN_BLOCKS 0 0) may_reserve

  fits_begun : PastFits FIFTEEN_BLOCKS 0 begun_past
  fits_begun = lawful_fits FIFTEEN_BLOCKS 0 BEGIN reserved_past fits_reserved may_begin

  fits_filled : PastFits FIFTEEN_BLOCKS 0 filled_past
  fits_filled = lawful_fits FIFTEEN_BLOCKS 0 FILL begun_past fits_begun may_fill

  fits_opened : PastFits FIFTEEN_BLOCKS 0 opened_past
  fits_opened = lawful_fits FIFTEEN_BLOCKS 0 OPEN filled_past fits_filled may_open

  run : RunFits FIFTEEN_BLOCKS 0 (past_of FILES_TOLD) (disk 13)
  run =
      runs_fit 13 LAND opened_past 11 fits_opened may_land runs_land
      (runs_fit 11 OPEN filled_past 9 fits_filled may_open runs_open
      (runs_fit 9 FILL begun_past 0 fits_begun may_fill runs_fill
      (runs_fit 0 BEGIN reserved_past 0 fits_reserved may_begin runs_begin
      (runs_fit 0 RESERVE (first_past 0) 0 (first_fits FIFTEEN_BLOCKS 0 0) may_reserve runs_reserve
      (first_runs_fit (disk 0) FIFTEEN_BLOCKS (omega arith))))))

  began : BeganWith FIFTEEN_BLOCKS FIRST_PARTS 0 (disk 13)
  began = record {
    fits = layout_fits;
    counts = omega arith;
    left = λ other same. subst (IsImageOf FIFTEEN_BLOCKS nothing_open FIRST_PARTS) (sym same) is.stands;
  }

  ends : EndsMount TWO_FILES ENTRIES FILES_NUMBERED FILES_TOLD (disk 13)
  ends = record {
    labels = labels_stand_told;
    none = refl;
    turns = turns_of_them;
    run = run;
    began = began;
    tells = record { content = contents 13; tells = refl; counts = omega arith; laws = laws 13 (omega arith) };
  }

  pub mount_ends : (share : ℕ) → WritersMountEnds share image
  mount_ends share =
      let close = table_mounts_close (disk 13) share TWO_FILES ENTRIES FILES_NUMBERED FILES_TOLD FILES_PENS ends told_pens in
      record { ends = ends; survives = close.0; reads = close.1 }

pub writers_close : WritersClose
writers_close share image is = mount_ends image is share
