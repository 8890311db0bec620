-- What the entries of a history log.
use Rattle.std.specs.Prelude.{◌≡◌, ◌↔◌, ℕ, ◌≤◌, Bool, true, List, [], ◌∷◌, ◌++◌, map, filter}
use Rattle.sfs_base.specs.Listed.{is_listed}
use Rattle.tree_laws.specs.declared.changes.Change.{Change}
use Rattle.tree_laws.specs.declared.history.Entry.{Entry}
use Rattle.tree_laws.specs.Tree.{TreeState}
use Rattle.tree_laws.specs.Verdict.{verdict}
use Rattle.tree_laws.specs.History.{tree_after_entry}
use Rattle.tree_laws.specs.Logged.{logged_by, is_logged_in}
use Rattle.tree_laws.specs.NameRow.{node_number}
use Rattle.cut_laws.specs.Cut.{Cut, cut_of}
use Rattle.cut_laws.specs.Rules.{IsOneOf, births_of}
use Rattle.cut_laws.specs.Closure.{Counts}
use Rattle.dep_closure.specs.declared.gathered.DirectoryChanges.{DirectoryChanges}
use Rattle.dep_closure.specs.declared.gathered.Gathered.{Gathered}
use Rattle.dep_closure.specs.Gathered.{cut_in, born_as}

-- the changes that the entries of a history log, in their order
abbrev pub logged_of : TreeState → List Entry → List Change
logged_of first [] = []
logged_of first (entry ∷ history) =
    logged_by first entry.core.0 entry.stamp.0 (verdict first entry.core.0 entry.call).effect (verdict first entry.core.0 entry.call).makes
    ++ logged_of (tree_after_entry first entry) history

-- A log has what a history logs of its directory at some stamps, all of it at each of them, and the entries of these stamps count.
pub record IsLogOf (first : TreeState) (history : List Entry) (counts : Counts) (log : DirectoryChanges) : Type 0 where
  pub keeps : ℕ → Bool
  pub counted : (stamp : ℕ) → keeps stamp ≡ true → counts stamp ≡ true
  pub changes : log.changes.items ≡ filter (λ change. keeps change.stamp.0) (filter (is_logged_in log.dir.0) (logged_of first history))

-- What was gathered has of a history all that counts and is not flushed, each node's cut and whether it has an inode, and all births.
-- What was flushed may be there too.
pub record HasUnflushed (first : TreeState) (history : List Entry) (counts : Counts) (cut : Cut) (inodes : ℕ → Bool) (gathered : Gathered) : Type 0 where
  pub logs : (log : DirectoryChanges) → IsOneOf gathered.logs.items log → IsLogOf first history counts log
  pub changes : (change : Change) → IsOneOf (logged_of first history) change → counts change.stamp.0 ≡ true → cut_of cut change.dir.0 ≤ change.stamp.0
      → (log : DirectoryChanges) × IsOneOf gathered.logs.items log × IsOneOf log.changes.items change
  pub cuts : (node : ℕ) → cut_in gathered.cuts.items node ≡ cut_of cut node
  pub births : (node directory : ℕ)
      → IsOneOf (map born_as gathered.births.items) (record { node = node; directory = directory }) ↔
      ((stamp : ℕ) × IsOneOf (births_of first history) (record { stamp = stamp; directory = directory; node = node }))
  pub with_inode : (node : ℕ) → is_listed (map node_number gathered.inodes.items) node ≡ inodes node
