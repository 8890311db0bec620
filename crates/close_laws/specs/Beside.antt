-- What commits bring beside the volumes that are imagined along labels, and that each begins where it may.
use Rattle.std.specs.Prelude.{◌∷◌, ◌≡◌, List, ℕ, map, []}
use Rattle.sfs_image.specs.Super.{Layout}
use Rattle.space_map.specs.Space.{Space}
use Rattle.disk_nodes.specs.declared.old.OldEntry.{OldEntry}
use Rattle.flush_laws.specs.Volume.{Volume}
use Rattle.flush_laws.specs.Journal.{IsSpelled}
use Rattle.flush_laws.specs.Ready.{KeepsEntries}
use Rattle.space_laws.specs.Map.{IsMapOf}
use Rattle.book_laws.specs.Brings.{Bringing}
use Rattle.book_laws.specs.Imagined.{Imagines, entries_once}
use Rattle.book_laws.specs.Walk.{brought_under, BeginsWalk}
use Rattle.book_laws.specs.Pairs.{PairsBeside, commit_under}
use Rattle.reserve_laws.specs.Fits.{TellsPair}
use Rattle.stamp_table.specs.declared.event.Event.{Event}
use Rattle.stamp_table.specs.declared.event.Event.TheVariants.{Told}
use Rattle.slot_laws.specs.declared.label.Label.{Label}
use Rattle.slot_laws.specs.declared.label.Label.TheVariants as label
use Rattle.slot_laws.specs.Nodes.{ReservedCommit}
use Rattle.slot_laws.specs.Labels.{BoxPast, after_event, first_past}
use Rattle.slot_image_laws.specs.Images.{RunStart, disk_books}
use Rattle.slot_image_laws.specs.Run.{BeginWell}
use Rattle.imagined_laws.specs.Parts.{parts_once}
use Rattle.close_laws.specs.Maps.{Numbered, Telling, IsTold, past_of, bringing_of}

-- the stamps of the fsyncs of some commits
abbrev pub stamps_under : Numbered → List ReservedCommit → List ℕ
stamps_under named commits = map (λ one. named.stamps one.number) commits

-- what those that have ended brought, in their order
abbrev pub brought_at : Numbered → BoxPast → List Bringing
brought_at named past = brought_under named.pairs (stamps_under named past.done)

-- what stands beside a volume of the commits that have ended and those that are open
abbrev pub PairsAt : Numbered → BoxPast → Volume → Type 0
PairsAt named past volume = PairsBeside named.pairs (stamps_under named past.done) (stamps_under named past.opens) volume

-- As a number is reserved its core tells of its pair, beside each volume that is imagined there with the commits that have ended.
abbrev pub TellsAt : Volume → Numbered → Event Label → BoxPast → Type 0
TellsAt start named (Told core (label.Reserved commit seen grant)) past =
    (volume : Volume) → Imagines start (brought_at named past) volume → PairsAt named past volume
    → TellsPair volume (map (commit_under named.pairs) (stamps_under named past.done)) (named.pairs (named.stamps commit))
TellsAt start named _ past = Unit {0}

-- so it is along a history
abbrev pub TellAlong : Layout → Volume → Numbered → List (Event Label) → BoxPast → Type 0
TellAlong layout start named [] past = Unit {0}
TellAlong layout start named (event ∷ log) past = TellsAt start named event past × TellAlong layout start named log (after_event layout event past)

-- What a history begins with: a volume, from which a walk may begin and whose records are spelled as their inodes are; and what memory keeps of it, beside
-- which the map is right.
pub record BeginsLabels (layout : Layout) (start : Volume) (entries : List OldEntry) (first : Space) : Type 0 where
  pub walk : BeginsWalk start
  pub spelled : IsSpelled start
  pub layout_is : start.layout ≡ layout
  pub keeps : KeepsEntries start.num start.parts entries
  pub right : IsMapOf layout entries first

-- A history is told so, from a volume of which memory keeps entries, and cores tell of their pairs along it.
pub record IsToldBeside (start : Volume) (entries : List OldEntry) (named : Numbered) (told : Telling) : Type 0 where
  pub is : IsTold named told
  pub begins : BeginsLabels told.layout start entries told.first
  pub tell : TellAlong told.layout start named told.log (first_past told.moment)

-- Behind it there is a volume that is imagined with the commits that have ended; beside each such volume their pairs stand, and those of the open ones; and the
-- map is right beside what memory then keeps.
pub record StandsBeside (start : Volume) (entries : List OldEntry) (named : Numbered) (layout : Layout) (past : BoxPast) (now : Space) : Type 0 where
  pub volume : Volume
  pub imagines : Imagines start (brought_at named past) volume
  pub beside : (other : Volume) → Imagines start (brought_at named past) other → PairsAt named past other
  pub right : IsMapOf layout (entries_once (brought_at named past) entries) now

abbrev pub LabelsStandBeside : Type 0
LabelsStandBeside = (start : Volume) (entries : List OldEntry) (named : Numbered) (told : Telling) → IsToldBeside start entries named told
    → StandsBeside start entries named told.layout (past_of told) told.now

-- the run of a disk that such a history tells: each commit gives inodes what its fsync brings
abbrev pub run_told : Volume → Numbered → Telling → RunStart
run_told start named told =
    record { layout = told.layout; moment = told.moment; parts = start.parts; gives = λ number. (bringing_of named number).parts }

-- Then each commit of it begins where it may, and those that wrote nothing give nothing.
abbrev pub CommitsBeginWell : Type 0
CommitsBeginWell = (start : Volume) (entries : List OldEntry) (named : Numbered) (told : Telling) → IsToldBeside start entries named told
    → BeginWell (run_told start named told) (past_of told)

-- And the parts that the turns say are those that were brought to the first ones, in their order.
pub record SaysParts (start : Volume) (named : Numbered) (told : Telling) : Type 0 where
  pub base : (disk_books (run_told start named told) (past_of told).turns).base ≡ parts_once (brought_at named (past_of told)) start.parts

abbrev pub TurnsSayParts : Type 0
TurnsSayParts = (start : Volume) (entries : List OldEntry) (named : Numbered) (told : Telling) → IsToldBeside start entries named told
    → SaysParts start named told
