-- What the images of a disk with journal slots show.
use Rattle.std.specs.Prelude.{◌<◌, ◌≡◌, ◌≤◌, ◌++◌, ◌∷◌, ◌==◌, if◌then◌else◌, List, ℕ, true, length, Option, None, Some, [], filter, not, Bool, All}
use Rattle.sfs_image.specs.Super.{Layout, IsLayout}
use Rattle.sfs_image.specs.ImageOf.{InodePart, Transaction, IsImageOf, with_opened}
use Rattle.sfs_image.specs.Part.{Part}
use Rattle.sfs_image.specs.Settled.{slot_count}
use Rattle.sfs_dev.specs.Run.{CountsOn}
use Rattle.sfs_dev.specs.Disk.{View, LeftSince}
use Rattle.journal_one.specs.Known.{IsShutIn, IsOpenIn, EachLeft, Reads, IsWrittenIn}
use Rattle.journal_one.specs.Job.{fill_count, fill_piece, table_piece, Place}
use Rattle.tree_laws.specs.declared.turns.TurnAct.{TurnAct}
use Rattle.tree_laws.specs.declared.turns.Turn.{Turn}
use Rattle.tree_laws.specs.declared.turns.TurnAct.TheVariants as act
use Rattle.slot_laws.specs.Slots.{shut_gate, open_gate, any_gate, KnownGate, SlotWork, place_at, Slots}
use Rattle.slot_image_laws.specs.Commits.{WorksFit, StandsOpen, parts_over}

-- a gate is in an image as it is known to be
abbrev pub HasGate : KnownGate → Place → List ℕ → Type 0
HasGate shut_gate place image = IsShutIn place image
HasGate open_gate place image = IsOpenIn place image
HasGate any_gate place image = Unit {0}

-- A disk has of a commit's slot what is known of it, in each image and in what a read gives.
pub record KnowsWork (work : SlotWork) (disk : View) : Type 0 where
  pub gate_left : EachLeft disk (HasGate work.known.gate_left work.job.place)
  pub gate_read : Reads disk (HasGate work.known.gate_read work.job.place)
  pub fill_left : (n : ℕ) → n < fill_count work.job → work.known.fill_left n ≡ true → EachLeft disk (IsWrittenIn (fill_piece work.job n))
  pub fill_read : (n : ℕ) → n < fill_count work.job → work.known.fill_read n ≡ true → Reads disk (IsWrittenIn (fill_piece work.job n))
  pub table_left : (n : ℕ) → n < length work.job.entries → work.known.table_left n ≡ true → EachLeft disk (IsWrittenIn (table_piece work.job n))
  pub table_read : (n : ℕ) → n < length work.job.entries → work.known.table_read n ≡ true → Reads disk (IsWrittenIn (table_piece work.job n))

-- a disk has of a slot what is known of it: of an idle one the gate is shut in each image
abbrev pub KnowsSlot : Layout → ℕ → Option SlotWork → View → Type 0
KnowsSlot layout k None disk = EachLeft disk (IsShutIn (place_at layout k))
KnowsSlot layout k (Some work) disk = KnowsWork work disk

-- Each image of a disk stands for these parts, whichever of the slots are open that may be.
pub record IsBox (gives : ℕ → List InodePart) (layout : Layout) (base : ℕ → Part) (slots : Slots) (disk : View) : Type 0 where
  pub large : layout.blocks ≤ disk.size
  pub fits : IsLayout layout.blocks layout
  pub works : WorksFit gives layout base slots
  pub knows : (k : ℕ) → k < slot_count layout → KnowsSlot layout k (slots k) disk
  pub stands : EachLeft disk (StandsOpen gives layout base slots)

-- What turns say of a disk: the parts once the durable commits are done, and the commits that were opened since and are not durable.
pub record DiskBooks : Type 0 where
  pub base : ℕ → Part
  pub flying : List ℕ

-- a turn at the disk
abbrev pub book_act : (ℕ → List InodePart) → TurnAct → ℕ → DiskBooks → DiskBooks
book_act gives act.Opened commit books = record books { flying = books.flying ++ commit ∷ [] }
book_act gives act.Durable commit books =
    record { base = parts_over (gives commit) books.base; flying = filter (λ other. not (other == commit)) books.flying }
book_act gives _ commit books = books

-- turns at the disk, one after another
abbrev pub books_from : (ℕ → List InodePart) → List Turn → DiskBooks → DiskBooks
books_from gives [] books = books
books_from gives (turn ∷ turns) books = books_from gives turns (book_act gives turn.act turn.commit books)

-- What a run begins with: the layout of the disk, the moment, the parts that the disk stands for then, and those that each commit gives.
pub record RunStart : Type 0 where
  pub layout : Layout
  pub moment : ℕ
  pub parts : ℕ → Part
  pub gives : ℕ → List InodePart

-- what turns say of a disk at the start of a run, and from it on
abbrev pub first_books : RunStart → DiskBooks
first_books run = record { base = run.parts; flying = [] }

abbrev pub disk_books : RunStart → List Turn → DiskBooks
disk_books run turns = books_from run.gives turns (first_books run)

-- the parts once some of these commits are done too
abbrev pub parts_kept : (ℕ → List InodePart) → (ℕ → Bool) → List ℕ → (ℕ → Part) → ℕ → Part
parts_kept gives kept [] base = base
parts_kept gives kept (commit ∷ commits) base = parts_kept gives kept commits (if kept commit then parts_over (gives commit) base else base)

-- An image shows the parts once the durable commits are done, and some of those that are open.
pub record Shows (gives : ℕ → List InodePart) (layout : Layout) (books : DiskBooks) (image : List ℕ) : Type 0 where
  pub kept : ℕ → Bool
  pub table : ℕ → Part
  pub opened : ℕ → Option Transaction
  pub stands : IsImageOf layout opened table image
  pub parts : (i : ℕ) → i < layout.inodes → with_opened layout opened table i ≡ parts_kept gives kept books.flying books.base i

-- An image shows a front of the turns, which has each turn of a moment at most this one.
pub record ShowsFront (run : RunStart) (turns : List Turn) (moment : ℕ) (image : List ℕ) : Type 0 where
  pub front : List Turn
  pub back : List Turn
  pub split : turns ≡ front ++ back
  pub later : All (λ (turn : Turn). moment < turn.now) back
  pub shows : Shows run.gives run.layout (disk_books run front) image

-- each image that a crash at a moment since the start may leave shows such a front
abbrev pub LeavesPrefixes : RunStart → List Turn → View → Type 0
LeavesPrefixes run turns disk = (content : List ℕ) → disk.content ≡ Some content → CountsOn disk
    → (t : ℕ) (image : List ℕ) → run.moment ≤ t → LeftSince disk t image → ShowsFront run turns t image
