-- A piece that fills a slot is written, or that failed.
use Rattle.std.proofs.Common.{◌≢◌, ◌≡◌, ◌&&◌, ◌∙◌, ◌||◌, ◌⊎◌, ◌<◌, ◌*◌, ◌≤◌, ◌-◌, ◌+◌, ℕ, Bool, true, ap, not, cond, nat_eq, false, inl, refl, inr, List, sym, subst, None, Option, Some, length, arith, get_or}
use Rattle.std.proofs.lemmas.Bool.{cases_order, cases_lt}
use Rattle.sfs_base.proofs.BasicNumbers.{not_same}
use Rattle.sfs_base.proofs.BasicTruth.{or_true, not_both}
use Rattle.sfs_base.proofs.BasicOptions.{some_same}
use Rattle.sfs_image.specs.ImageOf.{InodePart, Transaction, with_opened, IsImageOf}
use Rattle.sfs_image.specs.Super.{Layout}
use Rattle.sfs_image.specs.Part.{Part, pointer_at}
use Rattle.sfs_image.specs.ImageWrites.{LiesApart}
use Rattle.sfs_image.specs.Settled.{slot_byte}
use Rattle.sfs_image.proofs.WrittenLaws.{data_written, body_written}
use Rattle.sfs_dev.specs.Disk.{View, images}
use Rattle.sfs_dev.specs.Ranges.{SameOutside}
use Rattle.journal_one.specs.Job.{fill_count, fill_piece, table_piece, body_piece, Place, Piece, LiesInData, no_block}
use Rattle.journal_one.specs.Known.{Reads, IsWrittenIn}
use Rattle.journal_one.proofs.Apart.{apart_from_gate, fills_apart, AreApart-swap, table_from_fill}
use Rattle.journal_one.proofs.Kept.{Touches, written_stands}
use Rattle.journal_one.proofs.Places.{LiesInSlot, body_lies, body_is, in_data, fresh_is, fresh_whole}
use Rattle.commit_one.proofs.Images.{agrees}
use Rattle.merge_laws.proofs.Blocks.{same_or_not}
use Rattle.slot_laws.specs.Slots.{without_number, with_number, SlotWork, knowing, known_filled, Slots, shut_gate, KnownGate, may_be_open, place_at, changed_slot}
use Rattle.slot_laws.specs.Rules.{HasWork}
use Rattle.slot_laws.proofs.Rings.{in_slots, rings_move, marks_as, marked_with}
use Rattle.slot_image_laws.specs.Commits.{WorkFits, KnownFits, opened_in, may_have, work_transaction, StandsOpen, nth_block}
use Rattle.slot_image_laws.specs.Images.{KnowsWork, DiskBooks, IsBox, KnowsSlot, disk_books}
use Rattle.slot_image_laws.specs.Laws.{FillsKeep}
use Rattle.slot_image_laws.proofs.Changed.{less_marked}
use Rattle.slot_image_laws.proofs.Aside.{IsAside, knows_aside, touches_by}
use Rattle.slot_image_laws.proofs.Anew.{StillFits, gate_in, none_either}
use Rattle.slot_image_laws.proofs.Given.{given_so}
use Rattle.slot_image_laws.proofs.Shown.{gates_open}
use Rattle.slot_image_laws.proofs.Regions.{DataPiece, low_slot, fill_lies, slot_within, data_within}
use Rattle.slot_image_laws.proofs.Written.{IsElsewhere, plain_run, slot_elsewhere, data_elsewhere, opened_elsewhere}

pub mark_kept : (marks : ℕ → Bool) (n m : ℕ) → m ≢ n → marks m ≡ true → without_number marks n m ≡ true
mark_kept marks n m away marked = ap (λ (b : Bool). not b && marks m) (not_same m n away) ∙ marked

pub read_after : (done : Bool) (marks : ℕ → Bool) (n m : ℕ) → m ≢ n → marks m ≡ true
    → cond done (with_number marks n) (without_number marks n) m ≡ true
read_after true marks n m away marked = ap (λ (b : Bool). nat_eq m n || b) marked ∙ or_true (nat_eq m n)
read_after false marks n m away marked = mark_kept marks n m away marked

-- a number that is marked afterwards is the new one, where it was done, or was marked and is another
pub marked_after : (done : Bool) (marks : ℕ → Bool) (n m : ℕ) → cond done (with_number marks n) (without_number marks n) m ≡ true
    → ((m ≡ n) × (done ≡ true)) ⊎ ((m ≢ n) × (marks m ≡ true))
marked_after true marks n m marked = elim (same_or_not m n) [
  | inl same ↦ inl (same, refl)
  | inr away ↦ elim (marked_with marks n m marked) [
    | inl same ↦ absurd (away same)
    | inr before ↦ inr (away, before)
  ]
]
marked_after false marks n m marked = inr (less_marked marks n m marked)

module _ (gives : ℕ → List InodePart) (layout : Layout) (base : ℕ → Part) (k n : ℕ) (work : SlotWork) (fits : WorkFits gives layout base k work)
    (low : n < fill_count work.job) where
  -- what is known but for the piece
  but_filled : (old : View) → KnowsWork work old → KnowsWork (knowing (known_filled false n) work) old
  but_filled old knows = record {
    gate_left = knows.gate_left;
    gate_read = knows.gate_read;
    fill_left = λ m few marked. knows.fill_left m few (less_marked work.known.fill_left n m marked).1;
    fill_read = λ m few marked. knows.fill_read m few (less_marked work.known.fill_read n m marked).1;
    table_left = knows.table_left;
    table_read = knows.table_read;
  }

  but_fits : KnownFits (known_filled false n work.known)
  but_fits = record {
    gates = fits.known.gates;
    fill = λ m marked.
        let was = less_marked work.known.fill_left n m marked in
        mark_kept work.known.fill_read n m was.0 (fits.known.fill m was.1);
    table = fits.known.table;
  }

  fill_aside : IsAside (fill_piece work.job n) (knowing (known_filled false n) work)
  fill_aside = record {
    gate = inr (apart_from_gate work.job fits.is n 1);
    fill = λ m few marked.
        fills_apart work.job fits.is n m (λ same. (less_marked work.known.fill_read n m marked).0 (sym same)) fits.commit.own low few
        (fresh_whole work.job fits.is n) (fresh_whole work.job fits.is m);
    table = λ m few marked. AreApart-swap (table_piece work.job m) (fill_piece work.job n) (table_from_fill work.job fits.is m n few);
  }

  filled_knows : (done : Bool) (old new : View) → Touches (fill_piece work.job n) old new
      → (done ≡ true → Reads new (IsWrittenIn (fill_piece work.job n))) → KnowsWork work old → KnowsWork (knowing (known_filled done n) work) new
  filled_knows done old new touches stands knows =
      let kept = knows_aside (fill_piece work.job n) old new touches (knowing (known_filled false n) work) but_fits fill_aside (but_filled old knows) in
      record {
        gate_left = kept.gate_left;
        gate_read = kept.gate_read;
        fill_left = kept.fill_left;
        fill_read = λ m few marked. elim (marked_after done work.known.fill_read n m marked) [
          | inl here ↦ subst (λ (j : ℕ). Reads new (IsWrittenIn (fill_piece work.job j))) (sym here.0) (stands here.1)
          | inr before ↦ kept.fill_read m few (mark_kept work.known.fill_read n m before.0 before.1)
        ];
        table_left = kept.table_left;
        table_read = kept.table_read;
      }

  filled_still : (done : Bool) → work.settled ≡ false → StillFits (knowing (known_filled done n) work)
  filled_still done aloft = record {
    known = record {
      gates = fits.known.gates;
      fill = λ m marked.
          let was = less_marked work.known.fill_left n m marked in
          read_after done work.known.fill_read n m was.0 (fits.known.fill m was.1);
      table = fits.known.table;
    };
    gate = fits.gate;
    landed = λ settled. absurd (not_both settled aloft);
  }

-- the slot of a commit with a shut gate is open in no image
module _ (gives : ℕ → List InodePart) (layout : Layout) (books : DiskBooks) (slots : Slots) (old : View) (box : IsBox gives layout books.base slots old)
    (k : ℕ) (has : HasWork slots k false shut_gate) where
  pub is_shut : (image : List ℕ) → opened_in gives layout slots image k ≡ None
  is_shut image =
      ap (λ (o : Option SlotWork). cond (gate_in layout image k) (may_have gives o) None) has.there
      ∙ ap (λ (gate : KnownGate). cond (gate_in layout image k) (cond (may_be_open gate) (Some (work_transaction gives has.work)) None) None) has.gate_is
      ∙ none_either (gate_in layout image k)

-- an image keeps what it stands for
module _ (gives : ℕ → List InodePart) (layout : Layout) (books : DiskBooks) (slots : Slots) (old : View) (box : IsBox gives layout books.base slots old)
    (k n : ℕ) (has : HasWork slots k false shut_gate) where
  own_fits : WorkFits gives layout books.base k has.work
  own_fits = box.works.each k has.work has.there

  module _ (content : List ℕ) (told : old.content ≡ Some content) (was image : List ℕ) (left : images old was)
      (same : SameOutside (fill_piece has.work.job n).at (length (fill_piece has.work.job n).bytes) was image) where
    stood : StandsOpen gives layout books.base slots was
    stood = box.stands content told was left

    -- no part that the image has points to a fresh block of the commit
    not_reached : (i place : ℕ) → i < layout.inodes → n < length has.work.job.fresh
        → pointer_at (with_opened layout (opened_in gives layout slots was) books.base i) place ≢ 0
        → nth_block has.work n ≢ pointer_at (with_opened layout (opened_in gives layout slots was) books.base i) place
    not_reached i place low few points =
        elim (given_so gives layout books.base slots was box.works (gates_open gives layout books slots old box content told was left) stood i) [
          | inl flight ↦
              let away : k ≢ flight.slot = λ at.
              not_both flight.flight.is_open.may
              (ap (λ (w : SlotWork). may_be_open w.known.gate_left) (some_same (sym flight.flight.is_open.there ∙ ap slots (sym at) ∙ has.there))
              ∙ ap may_be_open has.gate_is) in
              let apart = box.works.apart k flight.slot has.work flight.work (in_slots away has.there flight.flight.is_open.there has.aloft flight.flight.aloft) in
              subst (λ (p : Part). nth_block has.work n ≢ pointer_at p place) (sym flight.whole)
              (apart.reached n i place flight.part few flight.given_is (subst (λ (p : Part). pointer_at p place ≢ 0) flight.whole points))
          | inr stays ↦
              subst (λ (p : Part). nth_block has.work n ≢ pointer_at p place) (sym stays.whole)
              ((own_fits.aloft has.aloft).free i place n low few (subst (λ (p : Part). pointer_at p place ≢ 0) stays.whole points))
        ]

    data_keeps : n < length has.work.job.fresh → DataPiece layout (nth_block has.work n) (fill_piece has.work.job n)
        → IsImageOf layout (opened_in gives layout slots was) books.base image
    data_keeps few lies =
        data_written layout (opened_in gives layout slots was) books.base was image stood
        (record {
          at = (fill_piece has.work.job n).at;
          n = length (fill_piece has.work.job n).bytes;
          written = agrees (fill_piece has.work.job n).at (length (fill_piece has.work.job n).bytes) was image same;
          behind = omega (arith, lies.at, lies.low);
          apart = λ i place low points.
              lie_apart (pointer_at (with_opened layout (opened_in gives layout slots was) books.base i) place) (not_reached i place low few points);
        })
      where
        lie_apart : (p : ℕ) → nth_block has.work n ≢ p
            → LiesApart (4096 * p) 4096 (fill_piece has.work.job n).at (length (fill_piece has.work.job n).bytes)
        lie_apart p away = elim (cases_order p (nth_block has.work n)) [
          | inl at ↦ absurd (away (sym at))
          | inr (inl below) ↦ inl (omega (arith, lies.at))
          | inr (inr above) ↦ inr (omega (arith, lies.at, lies.long))
        ]

    body_keeps : length has.work.job.fresh ≤ n → IsImageOf layout (opened_in gives layout slots was) books.base image
    body_keeps many =
        let body = body_piece has.work.job (n - length has.work.job.fresh) in
        let lies : LiesInSlot (place_at layout k) body =
        subst (λ (place : Place). LiesInSlot place body) own_fits.place (body_lies has.work.job own_fits.is (n - length has.work.job.fresh)) in
        let same_body : SameOutside body.at (length body.bytes) was image =
        subst (λ (p : Piece). SameOutside p.at (length p.bytes) was image) (body_is has.work.job own_fits.is n many) same in
        let same_at : SameOutside (slot_byte layout k + lies.from) (length body.bytes) was image =
        subst (λ (a : ℕ). SameOutside a (length body.bytes) was image) lies.begins same_body in
        body_written layout (opened_in gives layout slots was) books.base k was image stood
        (record {
          from = lies.from;
          n = length body.bytes;
          written = agrees (slot_byte layout k + lies.from) (length body.bytes) was image same_at;
          within = low_slot gives layout books.base k has.work own_fits;
          fits = lies.fits;
          behind = omega (arith, lies.behind);
          shut = is_shut gives layout books slots old box k has was;
        })

    filled_stands : (elsewhere : IsElsewhere layout slots k (fill_piece has.work.job n)) → StandsOpen gives layout books.base slots image
    filled_stands elsewhere =
        subst (λ (opened : ℕ → Option Transaction). IsImageOf layout opened books.base image)
        (sym (opened_elsewhere gives layout books.base slots box.works k has.work has.there (fill_piece has.work.job n) elsewhere
        (apart_from_gate has.work.job own_fits.is n 1) was image same))
        (elim (cases_lt n (length has.work.job.fresh)) [
          | inl few ↦ elim (fill_lies gives layout books.base k has.work own_fits n) [
            | inl slot ↦ data_keeps few (record {
              low = (subst (λ (l : Layout). LiesInData l (get_or has.work.job.fresh n no_block))
                  (ap (λ (place : Place). place.layout) own_fits.place) (in_data has.work.job own_fits.is n few)).low;
              high = (subst (λ (l : Layout). LiesInData l (get_or has.work.job.fresh n no_block))
                  (ap (λ (place : Place). place.layout) own_fits.place) (in_data has.work.job own_fits.is n few)).high;
              at = ap (λ (p : Piece). p.at) (fresh_is has.work.job own_fits.is n few);
              long = fresh_whole has.work.job own_fits.is n few;
            })
            | inr lies ↦ data_keeps few lies.1
          ]
          | inr many ↦ body_keeps many
        ])

pub fills_keep : (old new : View) → FillsKeep old new
fills_keep old new run turns slots k n done has low lawful is runs =
    plain_run run turns slots k (known_filled done n) old new
    (record {
      piece = piece;
      has = (has.work, has.there);
      time = is.time;
      size = is.size;
      touches = touches;
      same_gate = refl;
      rings = rings_move slots (changed_slot slots k (knowing (known_filled done n))) runs.box.works.rings
          (marks_as slots k (known_filled done n) (λ work m mark. mark));
      still = filled_still run.gives run.layout books.base k n has.work fits low done has.aloft;
      own = filled_knows run.gives run.layout books.base k n has.work fits low done old new touches
          (λ ok. written_stands piece old new large (record { whole = lawful.whole; read_is_left = lawful.read_is_left }) (is.ok ok))
          (subst (λ (o : Option SlotWork). KnowsSlot run.layout k o old) has.there
          (runs.box.knows k (low_slot run.gives run.layout books.base k has.work fits)));
      elsewhere = elsewhere;
      stays = λ content told was image left same. filled_stands run.gives run.layout books slots old runs.box k n has content told was image left same elsewhere;
    })
    runs
  where
    books : DiskBooks
    books = disk_books run turns

    piece : Piece
    piece = fill_piece has.work.job n

    fits : WorkFits run.gives run.layout (disk_books run turns).base k has.work
    fits = runs.box.works.each k has.work has.there

    elsewhere : IsElsewhere run.layout slots k (fill_piece has.work.job n)
    elsewhere = elim (fill_lies run.gives run.layout (disk_books run turns).base k has.work fits n) [
      | inl lies ↦ slot_elsewhere run.gives run.layout (disk_books run turns).base slots runs.box.works k has.work has.there (fill_piece has.work.job n) lies
      | inr lies ↦
          data_elsewhere run.gives run.layout (disk_books run turns).base slots runs.box.works k has.work has.there (fill_piece has.work.job n) n has.aloft
          lies.0 lies.1
    ]

    large : (fill_piece has.work.job n).at + length (fill_piece has.work.job n).bytes ≤ 4096 * old.size
    large = elim (fill_lies run.gives run.layout (disk_books run turns).base k has.work fits n) [
      | inl lies ↦ omega (arith, slot_within run.layout runs.box.fits (fill_piece has.work.job n) k lies, runs.box.large)
      | inr lies ↦ omega (arith, data_within run.layout runs.box.fits (fill_piece has.work.job n) (nth_block has.work n) lies.1, runs.box.large)
    ]

    touches : Touches (fill_piece has.work.job n) old new
    touches = touches_by done (fill_piece has.work.job n) old new large lawful is
