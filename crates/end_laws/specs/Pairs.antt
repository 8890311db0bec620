-- What stands under the stamp of an fsync for which something was made.
use Rattle.std.specs.Prelude.{◌≡◌, ℕ, true, List, map, []}
use Rattle.disk_change.specs.Directory.{is_among}
use Rattle.disk_change.specs.AllBuilt.{entry_keyed}
use Rattle.commit_laws.specs.CommitOfPlan.{change_planned}
use Rattle.beside_laws.specs.Commits.{CoreCommit}
use Rattle.flush_laws.specs.Volume.{Volume}
use Rattle.book_laws.specs.Brings.{Bringing}
use Rattle.book_laws.specs.Pairs.{Pair}
use Rattle.reserve_laws.specs.Plans.{parts_given, bringing_made}
use Rattle.reserve_laws.specs.OwnFile.{bringing_own}
use Rattle.note_laws.specs.Run.{TableRun}
use Rattle.made_laws.specs.Made.{is_concerned, CoreMade, sources_of, OwnMade, own_flush}
use Rattle.made_laws.specs.Tells.{last_of_seen, commit_made}
use Rattle.made_laws.specs.Own.{commit_of_own}
use Rattle.flush_agrees.specs.Made.{FlushMade, change_of}
use Rattle.end_laws.specs.Cuts.{cuts_left, lift_of}

-- A commit is of what a core made, under its number: it holds exactly the nodes that the fsync concerns, each with the last commit that the core knew of.
pub record CommitsMade (made : FlushMade) (commit : CoreCommit) : Type 0 where
  pub number_is : commit.number ≡ made.number
  pub holds : (node : ℕ) → commit.holds node ≡ is_concerned made.making node
  pub last : (node : ℕ) → is_concerned made.making node ≡ true → commit.last node ≡ last_of_seen (made.making.noted.pending node)

-- Something brings to a volume what was planned, with its grant, of the nodes that the fsync concerns.
pub record BringsMade (made : FlushMade) (volume : Volume) (one : Bringing) : Type 0 where
  pub nodes : (node : ℕ) → is_among one.nodes node ≡ is_concerned made.making node
  pub change : change_planned one.plan ≡ change_of made
  pub grant : one.grant ≡ made.grant
  pub parts : one.parts ≡ parts_given volume one.plan one.grant

-- A pair is of what a core made, beside a volume where some commits are done: its commit is that one, by what was noted, or by its own file where these
-- commits have left such stamps; and it brings what is made of the plan with its grant.
pub data IsPairThere (run : TableRun) (made : FlushMade) (volume : Volume) (done : List CoreCommit) (pair : Pair) : Type 0 where
  of_look : (core : CoreMade run made.making) → pair.commit ≡ commit_made run made.making core.plans made.number
      → pair.one ≡ bringing_made volume (sources_of made.making []) core.plans made.grant → IsPairThere run made volume done pair
  of_own : (one : OwnMade run made.making)
      → pair.commit ≡ commit_of_own volume.first volume.history (cuts_left (map lift_of done)) one.own made.number
      → pair.one ≡ bringing_own volume (own_flush one.own) (entry_keyed (one.own.node, one.own.kept)) one.own.files made.grant
      → IsPairThere run made volume done pair
