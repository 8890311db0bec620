-- A record of a durable commit is placed, or that failed.
use Rattle.std.proofs.Common.{◌≡◌, ◌∙◌, ◌<◌, ◌||◌, ◌+◌, ◌≤◌, ◌*◌, [], ℕ, List, map, length, sym, ap, get_or, arith, inl, inr, false, Bool, true, subst, Some, Option, refl}
use Rattle.std.proofs.lemmas.List.{length-map, get_or-map}
use Rattle.sfs_base.proofs.BasicTruth.{or_true, true_or_false, not_both}
use Rattle.sfs_base.proofs.BasicOptions.{some_same}
use Rattle.sfs_image.specs.ImageOf.{InodePart, IsImageOf, Transaction}
use Rattle.sfs_image.specs.Journal.{Entry}
use Rattle.sfs_image.specs.Part.{Part}
use Rattle.sfs_image.specs.Super.{Layout}
use Rattle.sfs_image.specs.Settled.{table_byte}
use Rattle.sfs_image.proofs.WrittenLaws.{table_written}
use Rattle.sfs_dev.specs.Disk.{View, images}
use Rattle.sfs_dev.specs.Ranges.{SameOutside}
use Rattle.journal_one.specs.Job.{no_entry, table_piece, Piece}
use Rattle.journal_one.specs.Known.{Reads, IsWrittenIn}
use Rattle.journal_one.proofs.Apart.{tables_apart as apart_tables, table_from_gate, table_from_fill}
use Rattle.journal_one.proofs.Kept.{Touches, written_stands}
use Rattle.commit_one.specs.Change.{entry_of_part}
use Rattle.commit_one.proofs.Images.{agrees}
use Rattle.slot_laws.specs.Slots.{SlotWork, knowing, known_placed, Slots, open_gate, may_be_open, changed_slot}
use Rattle.slot_laws.specs.Rules.{inode_of_nth, HasWork, IsOldestOf}
use Rattle.slot_laws.specs.Rings.{is_started}
use Rattle.slot_laws.proofs.Rings.{in_slots, rings_move, changed_as, KeepsMarks, placed_as}
use Rattle.slot_image_laws.specs.Commits.{GivesPart, WorkFits, KnownFits, StandsOpen, opened_in}
use Rattle.slot_image_laws.specs.Images.{KnowsWork, DiskBooks, IsBox, KnowsSlot, disk_books}
use Rattle.slot_image_laws.specs.Laws.{PlacesKeep}
use Rattle.slot_image_laws.proofs.Shown.{over_or, found_given, gates_open}
use Rattle.slot_image_laws.proofs.Records.{no_record}
use Rattle.slot_image_laws.proofs.Changed.{less_marked}
use Rattle.slot_image_laws.proofs.Filled.{read_after, marked_after, mark_kept}
use Rattle.slot_image_laws.proofs.Aside.{IsAside, knows_aside, touches_by}
use Rattle.slot_image_laws.proofs.Regions.{TablePiece, table_lies, low_slot, table_within}
use Rattle.slot_image_laws.proofs.Written.{IsElsewhere, table_elsewhere, plain_run, opened_elsewhere}
use Rattle.slot_image_laws.proofs.Given.{none_given}

-- no part, where there is none
abbrev pub no_inode_part : InodePart
no_inode_part = record { inode = 0; part = record { raw = []; tables = []; blocks = [] } }

module _ (gives : ℕ → List InodePart) (work : SlotWork) (records : map entry_of_part (gives work.commit) ≡ work.job.entries) where
  pub as_many : length (gives work.commit) ≡ length work.job.entries
  as_many = sym (length-map (gives work.commit) entry_of_part) ∙ ap length records

  pub entry_is : (n : ℕ) → n < length work.job.entries → entry_of_part (get_or (gives work.commit) n no_inode_part) ≡ get_or work.job.entries n no_entry
  entry_is n low =
      sym (get_or-map entry_of_part (gives work.commit) n no_inode_part no_entry (omega (arith, as_many)))
      ∙ ap (λ (l : List Entry). get_or l n no_entry) records

  -- the inode of a record is given a part
  pub gives_nth : (n : ℕ) → n < length work.job.entries → (part : Part) × GivesPart gives work (inode_of_nth work.job n) part
  gives_nth n low = elim (over_or (gives work.commit) (λ _. no_inode_part.part) (inode_of_nth work.job n)) [
    | inl none ↦
        absurd
        (no_record (gives work.commit) (inode_of_nth work.job n) n no_inode_part none.0 (omega (arith, as_many))
        (ap (λ (e : Entry). e.inode) (entry_is n low)))
    | inr some ↦ (some.0.part, found_given gives work (inode_of_nth work.job n) some.0 some.1)
  ]

module _ (gives : ℕ → List InodePart) (layout : Layout) (base : ℕ → Part) (k n : ℕ) (work : SlotWork) (fits : WorkFits gives layout base k work)
    (low : n < length work.job.entries) where
  but_placed : (old : View) → KnowsWork work old → KnowsWork (knowing (known_placed false n) work) old
  but_placed old knows = record {
    gate_left = knows.gate_left;
    gate_read = knows.gate_read;
    fill_left = knows.fill_left;
    fill_read = knows.fill_read;
    table_left = λ m few marked. knows.table_left m few (less_marked work.known.table_left n m marked).1;
    table_read = λ m few marked. knows.table_read m few (less_marked work.known.table_read n m marked).1;
  }

  placed_fits : (done : Bool) → KnownFits (known_placed done n work.known)
  placed_fits done = record {
    gates = fits.known.gates;
    fill = fits.known.fill;
    table = λ m marked.
        let was = less_marked work.known.table_left n m marked in
        read_after done work.known.table_read n m was.0 (fits.known.table m was.1);
  }

  place_aside : IsAside (table_piece work.job n) (knowing (known_placed false n) work)
  place_aside = record {
    gate = inr (table_from_gate work.job fits.is n 1);
    fill = λ m few marked. table_from_fill work.job fits.is n m low;
    table = λ m few marked. apart_tables work.job fits.is n m (λ same. (less_marked work.known.table_read n m marked).0 (sym same)) low few;
  }

  placed_knows : (done : Bool) (old new : View) → Touches (table_piece work.job n) old new
      → (done ≡ true → Reads new (IsWrittenIn (table_piece work.job n))) → KnowsWork work old → KnowsWork (knowing (known_placed done n) work) new
  placed_knows done old new touches stands knows =
      let kept = knows_aside (table_piece work.job n) old new touches (knowing (known_placed false n) work) (placed_fits false) place_aside
      (but_placed old knows) in
      record {
        gate_left = kept.gate_left;
        gate_read = kept.gate_read;
        fill_left = kept.fill_left;
        fill_read = kept.fill_read;
        table_left = kept.table_left;
        table_read = λ m few marked. elim (marked_after done work.known.table_read n m marked) [
          | inl here ↦ subst (λ (j : ℕ). Reads new (IsWrittenIn (table_piece work.job j))) (sym here.0) (stands here.1)
          | inr before ↦ kept.table_read m few (mark_kept work.known.table_read n m before.0 before.1)
        ];
      }

module _ (gives : ℕ → List InodePart) (layout : Layout) (books : DiskBooks) (slots : Slots) (old : View) (box : IsBox gives layout books.base slots old)
    (k n : ℕ) (has : HasWork slots k true open_gate) (low : n < length has.work.job.entries) where
  own_fits : WorkFits gives layout books.base k has.work
  own_fits = box.works.each k has.work has.there

  own_lies : TablePiece layout (inode_of_nth has.work.job n) (table_piece has.work.job n)
  own_lies = table_lies gives layout books.base k has.work own_fits n low

  -- no other record of the inode is known to be in the table
  elsewhere : IsOldestOf slots k has.work n → IsElsewhere layout slots k (table_piece has.work.job n)
  elsewhere oldest =
      table_elsewhere gives layout books.base slots box.works k has.work has.there (table_piece has.work.job n) (inode_of_nth has.work.job n) own_lies
      (λ j m other away at few marked same.
      let mark : is_started other m ≡ true = ap (λ (b : Bool). other.known.table_left m || b) marked ∙ or_true (other.known.table_left m) in
      elim (true_or_false other.settled) [
        | inl settled ↦
            let below = box.works.rings.started j k other has.work (in_slots away at has.there settled has.aloft)
            (record { n = m; placed = mark; within = few; shared = (n, low, same) }) in
            let above = oldest j other away at settled (m, few, sym same) in
            omega arith
        | inr aloft ↦ not_both mark (box.works.rings.unplaced j other at aloft m)
      ])

  module _ (content : List ℕ) (told : old.content ≡ Some content) (was image : List ℕ) (left : images old was)
      (same : SameOutside (table_piece has.work.job n).at (length (table_piece has.work.job n).bytes) was image) where
    stood : StandsOpen gives layout books.base slots was
    stood = box.stands content told was left

    table_keeps : IsImageOf layout (opened_in gives layout slots was) books.base image
    table_keeps =
        let inode = inode_of_nth has.work.job n in
        let at : (table_piece has.work.job n).at ≡ table_byte layout inode + 0 = omega (arith, own_lies.at) in
        let same_at : SameOutside (table_byte layout inode + 0) (length (table_piece has.work.job n).bytes) was image =
        subst (λ (a : ℕ). SameOutside a (length (table_piece has.work.job n).bytes) was image) at same in
        table_written layout (opened_in gives layout slots was) books.base inode 1 was image stood
        (record {
          from = 0;
          n = length (table_piece has.work.job n).bytes;
          written = agrees (table_byte layout inode + 0) (length (table_piece has.work.job n).bytes) was image same_at;
          within = let below = own_lies.below in omega arith;
          fits = omega (arith, own_lies.long);
          taken = λ i from high none.
              let here : inode ≡ i = omega arith in
              let gave = gives_nth gives has.work own_fits.commit.records n low in
              none_given gives layout books.base slots was box.works (gates_open gives layout books slots old box content told was left) stood i none k has.work
              gave.0
              (record {
                there = has.there;
                gate = gates_open gives layout books slots old box content told was left k has.work has.there has.gate_is;
                may = ap may_be_open has.gate_is;
              })
              (subst (λ (m : ℕ). GivesPart gives has.work m gave.0) here gave.1);
        })

    placed_stands : IsElsewhere layout slots k (table_piece has.work.job n) → StandsOpen gives layout books.base slots image
    placed_stands apart =
        subst (λ (opened : ℕ → Option Transaction). IsImageOf layout opened books.base image)
        (sym (opened_elsewhere gives layout books.base slots box.works k has.work has.there (table_piece has.work.job n) apart
        (table_from_gate has.work.job own_fits.is n 1) was image same))
        table_keeps

pub places_keep : (old new : View) → PlacesKeep old new
places_keep old new run turns slots k n done has low oldest lawful is runs =
    plain_run run turns slots k (known_placed done n) old new
    (record {
      piece = piece;
      has = (has.work, has.there);
      time = is.time;
      size = is.size;
      touches = touches;
      same_gate = refl;
      rings = rings_move slots (changed_slot slots k (knowing (known_placed done n))) runs.box.works.rings
          (changed_as slots k (knowing (known_placed done n))
          (λ work there.
          subst (λ (w : SlotWork). KeepsMarks slots k w (knowing (known_placed done n) w)) (some_same (sym has.there ∙ there))
          (placed_as slots k n done has.work has.aloft oldest)));
      still = record {
        known = placed_fits run.gives run.layout books.base k n has.work fits low done;
        gate = fits.gate;
        landed = λ settled. record { forgot = (fits.landed settled).forgot; opens = inl has.gate_is };
      };
      own = placed_knows run.gives run.layout books.base k n has.work fits low done old new touches
          (λ ok. written_stands piece old new large (record { whole = lawful.whole; read_is_left = lawful.read_is_left }) (is.ok ok))
          (subst (λ (o : Option SlotWork). KnowsSlot run.layout k o old) has.there
          (runs.box.knows k (low_slot run.gives run.layout books.base k has.work fits)));
      elsewhere = apart;
      stays = λ content told was image left same. placed_stands run.gives run.layout books slots old runs.box k n has low content told was image left same apart;
    })
    runs
  where
    books : DiskBooks
    books = disk_books run turns

    piece : Piece
    piece = table_piece has.work.job n

    fits : WorkFits run.gives run.layout (disk_books run turns).base k has.work
    fits = runs.box.works.each k has.work has.there

    apart : IsElsewhere run.layout slots k (table_piece has.work.job n)
    apart = elsewhere run.gives run.layout (disk_books run turns) slots old runs.box k n has low oldest

    large : (table_piece has.work.job n).at + length (table_piece has.work.job n).bytes ≤ 4096 * old.size
    large =
        omega (
          arith,
          table_within run.layout runs.box.fits (table_piece has.work.job n) (inode_of_nth has.work.job n)
              (table_lies run.gives run.layout (disk_books run turns).base k has.work fits n low),
          runs.box.large,
        )

    touches : Touches (table_piece has.work.job n) old new
    touches = touches_by done (table_piece has.work.job n) old new large lawful is
