-- Commits of cores with what they bring, side by side along a record.
use Rattle.std.specs.Prelude.{◌≡◌, ◌≢◌, ℕ, List, map, Contains}
use Rattle.disk_change.specs.Directory.{is_among}
use Rattle.cut_laws.specs.Rules.{IsOneOf}
use Rattle.beside_laws.specs.Commits.{CoreCommit, commit_fsync, IsByItsLook, Share}
use Rattle.beside_laws.specs.Laws.{KnowsRun, FindsAlways}
use Rattle.beside_laws.specs.Progress.{Progress, Standing, IsLater}
use Rattle.flush_laws.specs.Volume.{Volume}
use Rattle.book_laws.specs.Brings.{Bringing, Brings}

-- The commit of a core with what it brings.
pub record Pair : Type 0 where
  pub commit : CoreCommit
  pub one : Bringing

-- the commit under a stamp, that of its fsync
abbrev pub commit_under : (ℕ → Pair) → ℕ → CoreCommit
commit_under pairs stamp = (pairs stamp).commit

-- what it brings
abbrev pub bringing_under : (ℕ → Pair) → ℕ → Bringing
bringing_under pairs stamp = (pairs stamp).one

-- the run so far where these commits are done and the disk is that of a volume
abbrev pub run_with : Volume → List CoreCommit → Progress
run_with volume done = record { first = volume.first; history = volume.history; done = done; cut = volume.cut; inodes = volume.inodes }

-- A pair is open beside a volume: both are of one fsync and hold the same nodes; the commit is made by its look, knows enough, finds what is so and
-- is later than those that are done; and what it brings it brings to this volume.
pub record IsOpenBeside (volume : Volume) (done : List CoreCommit) (pair : Pair) : Type 0 where
  pub flush : commit_fsync pair.commit ≡ pair.one.flush
  pub nodes : (node : ℕ) → is_among pair.one.nodes node ≡ pair.commit.holds node
  pub made : IsByItsLook pair.commit
  pub knows : KnowsRun (run_with volume done) pair.commit
  pub finds : FindsAlways volume.first volume.history pair.commit
  pub later : IsLater done pair.commit
  pub brings : Brings volume pair.one

-- Two pairs have other numbers, share no node, and no inode and no block that they were granted.
pub record ArePairsApart (mine theirs : Pair) : Type 0 where
  pub numbers : theirs.commit.number ≢ mine.commit.number
  pub nodes : Share mine.commit theirs.commit → ⊥
  pub inodes : (i : ℕ) → Contains mine.one.grant.inodes i → Contains theirs.one.grant.inodes i → ⊥
  pub blocks : (block : ℕ) → Contains mine.one.grant.blocks block → Contains theirs.one.grant.blocks block → ⊥

-- What stands beside a volume where the fsyncs with some stamps are done and those with some others are open.
pub record PairsBeside (pairs : ℕ → Pair) (done open_ones : List ℕ) (volume : Volume) : Type 0 where
  pub standing : Standing (run_with volume (map (commit_under pairs) done))
  pub opens : (stamp : ℕ) → IsOneOf open_ones stamp → IsOpenBeside volume (map (commit_under pairs) done) (pairs stamp)
  pub apart : (stamp other : ℕ) → IsOneOf open_ones stamp → IsOneOf open_ones other → stamp ≢ other → ArePairsApart (pairs stamp) (pairs other)

-- An fsync may be open beside those that are: so is its pair, and it is apart from theirs.
pub record PairReserves (pairs : ℕ → Pair) (volume : Volume) (done open_ones : List ℕ) (stamp : ℕ) : Type 0 where
  pub opens : IsOpenBeside volume (map (commit_under pairs) done) (pairs stamp)
  pub apart : (other : ℕ) → IsOneOf open_ones other → ArePairsApart (pairs stamp) (pairs other)
