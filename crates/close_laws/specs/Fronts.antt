-- What is so of each front of the record that labels make: it is one record of the volumes that are imagined along it and of the parts on the disk.
use Rattle.std.specs.Prelude.{◌⊎◌, ◌≡◌, ◌++◌, ◌∷◌, ◌≢◌, List, ℕ, map, []}
use Rattle.tree_laws.specs.declared.turns.TurnAct.TheVariants as act
use Rattle.tree_laws.specs.declared.turns.Turn.{Turn}
use Rattle.disk_nodes.specs.declared.old.OldEntry.{OldEntry}
use Rattle.cut_laws.specs.Rules.{IsOneOf}
use Rattle.flush_laws.specs.Volume.{Volume}
use Rattle.turn_laws.specs.Books.{flush_at}
use Rattle.merge_laws.specs.Plays.{durables}
use Rattle.book_laws.specs.Imagined.{Imagines, flush_brought}
use Rattle.book_laws.specs.Walk.{brought_under}
use Rattle.book_laws.specs.Pairs.{PairsBeside, bringing_under}
use Rattle.slot_image_laws.specs.Images.{RunStart, disk_books}
use Rattle.imagined_laws.specs.Parts.{parts_once}
use Rattle.close_laws.specs.Maps.{Telling, past_of, Numbered, bringing_of}
use Rattle.close_laws.specs.Beside.{IsToldBeside, run_told}

-- no two of some have one number under this
abbrev pub DifferBy : {X : Type 0} → (X → ℕ) → List X → Type 0
DifferBy key [] = Unit {0}
DifferBy key (x ∷ xs) = ((other : _) → IsOneOf xs other → key other ≢ key x) × DifferBy key xs

-- A commit was opened in some turns, of the fsync that brings it.
pub record WasOpened (named : Numbered) (turns : List Turn) (number : ℕ) : Type 0 where
  pub turn : Turn
  pub among : IsOneOf turns turn
  pub did : turn.act ≡ act.Opened
  pub own : (bringing_of named number).flush ≡ flush_at turn
  pub stamp_is : turn.stamp.0 ≡ named.stamps number

-- A volume is imagined where these fsyncs are done, and beside it stand the pairs of those, and of some that are open.
pub record ImaginedPlace (start : Volume) (named : Numbered) (done opens : List ℕ) : Type 0 where
  pub volume : Volume
  pub imagines : Imagines start (brought_under named.pairs done) volume
  pub beside : PairsBeside named.pairs done opens volume

-- A front of the record: there is a volume that is imagined with the fsyncs that are durable in it, in their order and each once; the parts that its turns say
-- are those that were brought; and each commit that was opened and is not durable is open beside the volume, under a stamp of its own.
pub record IsOneRecord (start : Volume) (named : Numbered) (run : RunStart) (front : List Turn) : Type 0 where
  pub done : List ℕ
  pub opens : List ℕ
  pub place : ImaginedPlace start named done opens
  pub flushes : map flush_brought (brought_under named.pairs done) ≡ durables front
  pub base : (disk_books run front).base ≡ parts_once (brought_under named.pairs done) start.parts
  pub flies : (number : ℕ) → IsOneOf (disk_books run front).flying number → IsOneOf opens (named.stamps number) × WasOpened named front number
  pub own : (stamp : ℕ) → IsOneOf done stamp → (bringing_under named.pairs stamp).flush.stamp ≡ stamp
  pub once : DifferBy (λ stamp. stamp) done × DifferBy named.stamps (disk_books run front).flying

-- So it is of each front.
abbrev pub AreOneRecord : Volume → Numbered → RunStart → List Turn → Type 0
AreOneRecord start named run turns = (front back : List Turn) → turns ≡ front ++ back → IsOneRecord start named run front

-- Each turn that opens a commit or makes one durable is of the fsync whose commit stands under its stamp.
abbrev pub AreTurnsOf : Numbered → List Turn → Type 0
AreTurnsOf named turns = (turn : Turn) → IsOneOf turns turn → (turn.act ≡ act.Opened) ⊎ (turn.act ≡ act.Durable)
    → (bringing_under named.pairs turn.stamp.0).flush ≡ flush_at turn

-- So it is where labels are told beside what commits bring.
abbrev pub LabelsAreOneRecord : Type 0
LabelsAreOneRecord = (start : Volume) (entries : List OldEntry) (named : Numbered) (told : Telling) → IsToldBeside start entries named told
    → AreTurnsOf named (past_of told).turns → AreOneRecord start named (run_told start named told) (past_of told).turns
