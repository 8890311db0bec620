-- That what a core saw of a node is what memory keeps of a volume once some fsyncs are done.
use Rattle.std.specs.Prelude.{◌≡◌, ◌↔◌, ◌<◌, ◌≤◌, ◌∷◌, ◌++◌, ℕ, true, false, List, [], map, Option, Some, Contains}
use Rattle.disk_nodes.specs.OldKept.{OldKept}
use Rattle.disk_nodes.specs.declared.old.OldEntry.{OldEntry}
use Rattle.disk_change.specs.AllBuilt.{after_commit, entry_keyed}
use Rattle.disk_change.specs.Directory.{is_among}
use Rattle.commit_laws.specs.CommitOfPlan.{change_planned}
use Rattle.cut_laws.specs.Rules.{IsOneOf}
use Rattle.beside_laws.specs.Commits.{Share}
use Rattle.beside_laws.specs.Progress.{IsLater}
use Rattle.flush_laws.specs.Ready.{KeepsEntries}
use Rattle.flush_laws.specs.Volume.{Volume}
use Rattle.book_laws.specs.Imagined.{Imagines, entries_once}
use Rattle.book_laws.specs.Pairs.{Pair, commit_under, bringing_under}
use Rattle.book_laws.specs.Walk.{brought_under}

-- Some fsyncs are done beside a volume, in this order: the first volume, the entries that memory kept of it, the one imagined now, and the pairs by stamp.
pub record DoneBeside : Type 0 where
  pub start : Volume
  pub entries : List OldEntry
  pub volume : Volume
  pub pairs : ℕ → Pair
  pub done : List ℕ

-- numbers rise along those that share a node
abbrev pub NumbersRise : (ℕ → Pair) → List ℕ → Type 0
NumbersRise pairs [] = Unit {0}
NumbersRise pairs (stamp ∷ done) =
    ((other : ℕ) → IsOneOf done other → Share (commit_under pairs stamp) (commit_under pairs other)
    → (commit_under pairs stamp).number < (commit_under pairs other).number)
    × NumbersRise pairs done

-- It is so: memory kept the first volume's entries, the volume is the one imagined with those that are done, whose commits hold the nodes that they bring,
-- and numbers rise along them.
pub record AreDoneBeside (beside : DoneBeside) : Type 0 where
  pub keeps : KeepsEntries beside.start.num beside.start.parts beside.entries
  pub imagines : Imagines beside.start (brought_under beside.pairs beside.done) beside.volume
  pub nodes : (stamp node : ℕ) → IsOneOf beside.done stamp
      → is_among (bringing_under beside.pairs stamp).nodes node ≡ (commit_under beside.pairs stamp).holds node
  pub rise : NumbersRise beside.pairs beside.done

-- The last of those that are done and hold a node: it has the greatest number of them.
pub record IsLastHolder (beside : DoneBeside) (node stamp : ℕ) : Type 0 where
  pub among : IsOneOf beside.done stamp
  pub held : (commit_under beside.pairs stamp).holds node ≡ true
  pub latest : (other : ℕ) → IsOneOf beside.done other → (commit_under beside.pairs other).holds node ≡ true
      → (commit_under beside.pairs other).number ≤ (commit_under beside.pairs stamp).number

-- What a core saw of a node is what these entries have of it.
abbrev pub IsKeptIn : List OldEntry → ℕ → Option OldKept → Type 0
IsKeptIn entries node kept = (old : OldKept) → (kept ≡ Some old) ↔ Contains entries (entry_keyed (node, old))

-- What a core saw of a node is what those that are done left of it: none of them holds it, and it is what memory kept at first; or it is what the plan of
-- the last holder leaves.
pub data SawLeftOf (beside : DoneBeside) (node : ℕ) (kept : Option OldKept) : Type 0 where
  by_none : ((other : ℕ) → IsOneOf beside.done other → (commit_under beside.pairs other).holds node ≡ false) → IsKeptIn beside.entries node kept
      → SawLeftOf beside node kept
  by_last : (stamp : ℕ) → IsLastHolder beside node stamp
      → IsKeptIn (after_commit (change_planned (bringing_under beside.pairs stamp).plan) (bringing_under beside.pairs stamp).grant) node kept
      → SawLeftOf beside node kept

-- Then it is what memory keeps of the volume.
abbrev pub OldsAreLeft : Type 0
OldsAreLeft = (beside : DoneBeside) (node : ℕ) (kept : Option OldKept) → AreDoneBeside beside → SawLeftOf beside node kept
    → IsKeptIn (entries_once (brought_under beside.pairs beside.done) beside.entries) node kept

-- Numbers go on rising as one more is done that is later than all before it.
abbrev pub NumbersRiseOn : Type 0
NumbersRiseOn = (pairs : ℕ → Pair) (done : List ℕ) (stamp : ℕ) → NumbersRise pairs done
    → IsLater (map (commit_under pairs) done) (commit_under pairs stamp) → NumbersRise pairs (done ++ stamp ∷ [])
