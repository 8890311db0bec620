-- How the newest records come into the table, one after another.
use Rattle.std.proofs.Common.{◌≡◌, ◌≢◌, ◌⊎◌, ℕ, ◌+◌, ◌*◌, ◌-◌, ◌<◌, ◌≤◌, List, length, take, drop, slice_index_or, [], Option, None, Some, is_some, true, Result, Ok, Err, OnOk, refl, sym, ◌∙◌, ap, subst, arith, inl, inr}
use Rattle.std.specs.Prelude.{unwrap_or}
use Rattle.std.proofs.lemmas.Bool.{cases_eq, cases_lt}
use Rattle.std.proofs.lemmas.List.{get_or-drop, get_or-take, length-drop, length-take-le}
use Rattle.sfs_base.proofs.BasicTruth.{not_both}
use Rattle.sfs_image.specs.Bytes.{part}
use Rattle.sfs_image.specs.ImageOf.{Transaction, given, with_opened, IsImageOf}
use Rattle.sfs_image.specs.ImageWrites.{IsFullTable}
use Rattle.sfs_image.specs.Part.{Part}
use Rattle.sfs_image.specs.Settled.{table_byte, table_record}
use Rattle.sfs_image.specs.Super.{Layout, IsLayout, data_start}
use Rattle.sfs_image.proofs.EntriesLaws.{piece_at}
use Rattle.sfs_image.proofs.LayoutLaws.{records_fit}
use Rattle.sfs_image.proofs.PiecesLaws.{length-pieces}
use Rattle.sfs_image.proofs.WrittenLaws.{table_written}
use Rattle.sfs_dev.specs.Disk.{View}
use Rattle.sfs_dev.specs.Ranges.{SameOutside}
use Rattle.sfs_dev.specs.RangeLaws.{part_apart}
use Rattle.sfs_dev.specs.Run.{Advances}
use Rattle.sfs_dev.proofs.ReadRuns.{answered}
use Rattle.journal_one.specs.Job.{Piece}
use Rattle.journal_one.specs.Calls.{IsCalm, IsWrite, IsSync}
use Rattle.journal_one.specs.Known.{EachLeft}
use Rattle.journal_one.proofs.Kept.{IsLawful, written_touches, written_stands, leaves_from_reads}
use Rattle.commit_one.specs.Carried.{Keeps}
use Rattle.commit_one.proofs.Moments.{keeps_trans, write_keeps, writes_told, sync_keeps}
use Rattle.recovery.specs.Recovering.{AreHome, AreNewestOf, BringsHome, IsEndOfNeighbours, records_piece}

-- records of the table lie on the disk
pub table_within : (layout : Layout) (size first count : ℕ) → IsLayout size layout → first + count ≤ layout.inodes
    → table_byte layout first + 512 * count ≤ 4096 * size
table_within layout size first count fits within =
    ends (table_byte layout first) (512 * count) (data_start layout) layout.blocks size (let fit = records_fit layout.inodes in omega arith) fits.room fits.within
  where
    ends : (a n d b z : ℕ) → a + n ≤ 4096 * d → d + 1 ≤ b → b ≤ z → a + n ≤ 4096 * z
    ends a n d b z le room within = omega arith

-- records that are written, whole or torn, keep what an image stands for
records_keep : (layout : Layout) (opened : ℕ → Option Transaction) (parts : ℕ → Part) (first count : ℕ) (bytes was image : List ℕ)
    → first + count ≤ layout.inodes → length bytes ≡ 512 * count → ((i : ℕ) → first ≤ i → i < first + count → given layout opened i ≢ None)
    → SameOutside (table_byte layout first) (length bytes) was image → IsImageOf layout opened parts was → IsImageOf layout opened parts image
records_keep layout opened parts first count bytes was image within long taken same stands =
    table_written layout opened parts first count was image stands (record {
      from = 0;
      n = length bytes;
      written = let at : table_byte layout first ≡ table_byte layout first + 0 = omega arith in
          let there = subst (λ (a : ℕ). SameOutside a (length bytes) was image) at same in
          record { before = there.before; behind = there.after; size = there.size };
      within = within;
      fits = omega (arith, long);
      taken = taken;
    })

-- an inode that no open slot has is passed over
pub passed_home : (layout : Layout) (stamps : List (Option ℕ)) (records : List (List ℕ)) (n : ℕ) (disk : View) → slice_index_or stamps n None ≡ None
    → AreHome layout stamps records n disk → AreHome layout stamps records (n + 1) disk
passed_home layout stamps records n disk none home i low some = elim (cases_eq i n) [
  | inl same ↦ absurd (some (ap (λ (k : ℕ). slice_index_or stamps k None) same ∙ none))
  | inr apart ↦ home i (omega arith) some
]

-- the records of neighbours, which an open slot has each, are written home
module _ (layout : Layout) (stamps : List (Option ℕ)) (records : List (List ℕ)) (first end : ℕ) (ends : IsEndOfNeighbours stamps first end)
    (stamp_count : length stamps ≡ layout.inodes) (record_count : length records ≡ layout.inodes)
    (long : (j : ℕ) → j < length records → length (slice_index_or records j []) ≡ 512) (old new : View) (fits : IsLayout old.size layout)
    (lawful : IsLawful old) where
  abbrev some : List (List ℕ)
  some = take (end - first) (drop first records)

  abbrev piece : Piece
  piece = records_piece layout first some

  within : end ≤ layout.inodes
  within = subst (λ n. end ≤ n) stamp_count ends.within

  as_many : first + length some ≡ end
  as_many =
      let count = length-take-le (end - first) (drop first records) (omega (arith, length-drop first records, record_count, within)) in
      let from = ends.from in
      omega arith

  each : (j : ℕ) → j < length some → slice_index_or some j [] ≡ slice_index_or records (first + j) []
  each j low = get_or-take (end - first) (drop first records) j [] (omega (arith, as_many)) ∙ get_or-drop first records j []

  each_long : (j : ℕ) → j < length some → length (slice_index_or some j []) ≡ 512
  each_long j low = ap (λ (bytes : List ℕ). length bytes) (each j low) ∙ long (first + j) (omega (arith, as_many, within, record_count))

  all_long : length piece.bytes ≡ 512 * length some
  all_long = length-pieces (λ (bytes : List ℕ). bytes) 512 [] some each_long

  large : piece.at + length piece.bytes ≤ 4096 * old.size
  large = let last = table_within layout old.size first (length some) fits (omega (arith, as_many, within)) in omega (arith, all_long)

  -- of the records that are written each stands at its place
  stands_there : (j : ℕ) → j < length some → (content : List ℕ) → part piece.at (length piece.bytes) content ≡ piece.bytes
      → table_record layout content (first + j) ≡ slice_index_or records (first + j) []
  stands_there j low content is =
      let at : table_byte layout (first + j) ≡ piece.at + 512 * j = omega arith in
      ap (λ (a : ℕ). part a 512 content) at
      ∙ piece_at (λ (bytes : List ℕ). bytes) 512 [] some piece.at content each_long
      (subst (λ (n : ℕ). part piece.at n content ≡ piece.bytes) all_long is) j low
      ∙ each j low

  written_home : {V E : Type 0} (value : V) → IsWrite {V = V} {E = E} piece old new (Ok value) → AreHome layout stamps records first old
      → AreHome layout stamps records end new
  written_home {V} {E} value write home i less stamped content told = elim (cases_lt i first) [
    | inr from ↦
        let place : first + (i - first) ≡ i = omega arith in
        let stands = written_stands piece old new large lawful write.ok content told in
        subst (λ (k : ℕ). table_record layout content k ≡ slice_index_or records k []) place
        (stands_there (i - first) (omega (arith, as_many)) content stands)
    | inl below ↦
        let touches =
        (written_touches piece old new large lawful (answered {V = V} {F = E} value) write).read content told in
        let elsewhere : table_record layout content i ≡ table_record layout touches.0 i =
        part_apart (table_byte layout i) 512 piece.at (length piece.bytes) touches.0 content (inr (omega arith)) touches.2 in
        elsewhere ∙ home i below stamped touches.0 touches.1
  ]

  pub home_where_written : {V E : Type 0} (result : Result V E) → IsWrite piece old new result
      → OnOk result (AreHome layout stamps records first old → AreHome layout stamps records end new)
  home_where_written (Ok value) write = written_home value write
  home_where_written (Err fault) write = tt

  pub records_kept : {V E : Type 0} (opened : ℕ → Option Transaction) (parts : ℕ → Part) (result : Result V E) → IsWrite piece old new result
      → AreNewestOf layout opened parts stamps records → EachLeft old (IsImageOf layout opened parts) → Keeps (IsImageOf layout opened parts) old new
  records_kept opened parts result write are before =
      write_keeps (IsImageOf layout opened parts) piece old new result
      (λ was image same stands. records_keep layout opened parts first (length some) piece.bytes was image (omega (arith, as_many, within)) all_long
      (λ i from low. are.given_one i (omega (arith, as_many, within)) (ends.stamped i from (omega (arith, as_many)))) same stands)
      (writes_told piece old new result write) write before

-- once all are home and on the disk, the table has the records of all parts
pub full_at_last : (layout : Layout) (opened : ℕ → Option Transaction) (parts : ℕ → Part) (stamps : List (Option ℕ)) (records : List (List ℕ)) (disk : View)
    → AreNewestOf layout opened parts stamps records → IsCalm disk
    → AreHome layout stamps records layout.inodes disk → EachLeft disk (IsImageOf layout opened parts) → EachLeft disk (IsFullTable layout opened parts)
full_at_last layout opened parts stamps records disk are calm home stands content told image left i low =
    by (slice_index_or stamps i None) refl
  where
    by : (o : Option ℕ) → slice_index_or stamps i None ≡ o → table_record layout image i ≡ (with_opened layout opened parts i).raw
    by None none =
        let not_given = are.given_none i low none in
        (stands content told image left).table i low not_given ∙ ap (λ (o : Option Part). (unwrap_or o (parts i)).raw) (sym not_given)
    by (Some stamp) some =
        leaves_from_reads disk (λ image. table_record layout image i ≡ slice_index_or records i []) calm
        (home i low (λ none. let never : Some stamp ≡ None = sym some ∙ none in cc)) content told image left
        ∙ are.each i low

-- the sync at the end
module _ (layout : Layout) (opened : ℕ → Option Transaction) (parts : ℕ → Part) (stamps : List (Option ℕ)) (records : List (List ℕ)) (n : ℕ)
    (first mid new : View) (reached : layout.inodes ≤ n) (lawful : IsLawful mid)
    (are : AreNewestOf layout opened parts stamps records) (goes : Advances mid new) (home : AreHome layout stamps records n mid)
    (before : Keeps (IsImageOf layout opened parts) first mid) where
  pub all_home : {V E : Type 0} (result : Result V E) → IsSync mid new result → BringsHome layout opened parts first new result
  all_home result sync = record {
    keeps =
        keeps_trans (IsImageOf layout opened parts) first mid new goes before
        (sync_keeps (IsImageOf layout opened parts) mid new result lawful sync before.now);
    full = full result sync;
  }
    where
      full : {V E : Type 0} (result : Result V E) → IsSync mid new result → OnOk result (EachLeft new (IsFullTable layout opened parts))
      full (Err fault) sync = tt
      full {V} {E} (Ok value) sync =
          let synced : Result V E = Ok value in
          let kept = sync_keeps (IsImageOf layout opened parts) mid new synced lawful sync before.now in
          full_at_last layout opened parts stamps records new are sync.ok
          (λ i low some content told. home i (omega (arith, reached)) some content (sym sync.content ∙ told)) kept.now
