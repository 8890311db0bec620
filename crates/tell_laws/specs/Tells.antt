-- What a core made tells of its pair, at the place at which it reserves.
use Rattle.std.specs.Prelude.{◌≡◌, ℕ, map, [], List}
use Rattle.tree_laws.specs.Tree.{is_alive}
use Rattle.disk_nodes.specs.declared.old.OldEntry.{OldEntry}
use Rattle.disk_change.specs.AllBuilt.{entry_keyed}
use Rattle.beside_laws.specs.Commits.{CoreCommit}
use Rattle.beside_laws.specs.Box.{BoxState}
use Rattle.beside_laws.specs.Answers.{asked}
use Rattle.beside_laws.specs.Progress.{Standing}
use Rattle.flush_laws.specs.Volume.{Volume, tree_held}
use Rattle.mark_laws.specs.Changed.{HasShortFiles}
use Rattle.volume_laws.specs.Volume.{IsVolumeStanding}
use Rattle.book_laws.specs.Imagined.{entries_once}
use Rattle.book_laws.specs.Pairs.{Pair, commit_under, run_with}
use Rattle.book_laws.specs.Walk.{brought_under}
use Rattle.reserve_laws.specs.Olds.{DoneBeside, AreDoneBeside}
use Rattle.reserve_laws.specs.Plans.{bringing_made}
use Rattle.reserve_laws.specs.Looks.{CoreTells}
use Rattle.reserve_laws.specs.OwnFile.{OwnMaking, own_pair}
use Rattle.reserve_laws.specs.Fits.{TellsPair}
use Rattle.note_laws.specs.Run.{TableRun, calls_of, IsTableRun}
use Rattle.note_laws.specs.Joined.{BoxKnows}
use Rattle.made_laws.specs.Made.{CoreMaking, IsPlanMade, sources_of, CoreMade, OwnFileMaking, own_flush, OwnFileMade}
use Rattle.made_laws.specs.Tells.{AreAllMade, commit_made}
use Rattle.tell_laws.specs.Kept.{TellsDisk}

-- A place at which a core's fsync reserves: the run of the table, what the core made and its pair, what is done beside a volume, the box's open commits and
-- its last number, and all commits that ever are done.
pub record MadePlace : Type 0 where
  pub run : TableRun
  pub making : CoreMaking
  pub pair : Pair
  pub beside : DoneBeside
  pub opens : List CoreCommit
  pub number : ℕ
  pub all : List CoreCommit

-- the commits that are done there
abbrev pub done_at : MadePlace → List CoreCommit
done_at at = map (commit_under at.beside.pairs) at.beside.done

-- the box there
abbrev pub box_at : MadePlace → BoxState
box_at at = record { done = done_at at; opens = at.opens; number = at.number }

-- what memory keeps there of the disk
abbrev pub entries_at : MadePlace → List OldEntry
entries_at at = entries_once (brought_under at.beside.pairs at.beside.done) at.beside.entries

-- The pair is of what the core made: its commit is that one, and it brings what is made of the plan with its grant.
pub record IsPairMade (at : MadePlace) (plans : IsPlanMade at.making) : Type 0 where
  pub commit : at.pair.commit ≡ commit_made at.run at.making plans at.pair.commit.number
  pub one : at.pair.one ≡ bringing_made at.beside.volume (sources_of at.making []) plans at.pair.one.grant

-- The volume there stands, with the run's first tree and a history that asks what the run's calls do; no file of the first tree is too long; and the
-- commits that are done stand beside it.
pub record IsVolumeThere (run : TableRun) (volume : Volume) (done : List CoreCommit) : Type 0 where
  pub stands : IsVolumeStanding volume
  pub first : volume.first ≡ run.first
  pub asks : map asked (calls_of run) ≡ map asked volume.history
  pub short : HasShortFiles volume.first
  pub standing : Standing (run_with volume done)

-- All that is known as the fsync reserves there: the run is a table's, and the core made what it made in it; the pair is of that; all commits are made so;
-- the box knows what it knows; what the run tells is what the volume's disk has; and the volume is the one imagined there.
pub record MadeThere (at : MadePlace) : Type 0 where
  pub table : IsTableRun at.run
  pub made : CoreMade at.run at.making
  pub pair : IsPairMade at made.plans
  pub all_made : AreAllMade at.run at.all
  pub box_knows : BoxKnows at.run (box_at at) at.all at.pair.commit
  pub disk : TellsDisk at.run at.beside
  pub done : AreDoneBeside at.beside
  pub volume : IsVolumeThere at.run at.beside.volume (done_at at)

-- Then the core tells of its pair: so the pair may be open beside the volume.
abbrev pub MadesTell : Type 0
MadesTell = (at : MadePlace) → MadeThere at → CoreTells at.beside.volume (done_at at) at.pair (sources_of at.making (entries_at at))

-- A place at which the fsync of a file that has an inode reserves, as above.
pub record OwnPlace : Type 0 where
  pub run : TableRun
  pub own : OwnFileMaking
  pub pair : Pair
  pub beside : DoneBeside
  pub opens : List CoreCommit
  pub number : ℕ
  pub all : List CoreCommit

-- the commits that are done there
abbrev pub done_there : OwnPlace → List CoreCommit
done_there at = map (commit_under at.beside.pairs) at.beside.done

-- the box there
abbrev pub box_there : OwnPlace → BoxState
box_there at = record { done = done_there at; opens = at.opens; number = at.number }

-- what the fsync is made of beside a volume: under a number, with the file's entry; a row names the file where it does in the tree that the disk holds
abbrev pub making_own : Volume → OwnFileMaking → ℕ → OwnMaking
making_own volume own number = record {
  flush = own_flush own;
  numbers = record { number = number; last = own.value.last; named = is_alive (tree_held volume) own.node };
  entry = entry_keyed (own.node, own.kept);
  files = own.files;
}

-- All that is known as it reserves there: as above, where the pair is of its own file.
pub record OwnThere (at : OwnPlace) : Type 0 where
  pub table : IsTableRun at.run
  pub made : OwnFileMade at.run at.own
  pub pair : at.pair ≡ own_pair at.beside.volume (done_there at) (making_own at.beside.volume at.own at.pair.commit.number) at.pair.one.grant
  pub box_knows : BoxKnows at.run (box_there at) at.all at.pair.commit
  pub disk : TellsDisk at.run at.beside
  pub done : AreDoneBeside at.beside
  pub volume : IsVolumeThere at.run at.beside.volume (done_there at)

-- Then its core tells of its pair too.
abbrev pub OwnsTell : Type 0
OwnsTell = (at : OwnPlace) → OwnThere at → TellsPair at.beside.volume (done_there at) at.pair
