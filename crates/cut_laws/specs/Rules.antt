-- The four rules of a cut, and when it is closed.
use Rattle.std.specs.Prelude.{◌≡◌, ◌≢◌, ◌⊎◌, ℕ, ◌<◌, ◌≤◌, true, List, [], ◌∷◌, ◌++◌, Option, Some, None, take}
use Rattle.sfs_base.specs.declared.numbers.Kind.{Kind}
use Rattle.tree_laws.specs.declared.history.Entry.{Entry}
use Rattle.tree_laws.specs.Tree.{TreeState, row_of, is_directory}
use Rattle.tree_laws.specs.Effect.{Effect, Adds}
use Rattle.tree_laws.specs.Verdict.{verdict}
use Rattle.tree_laws.specs.Sound.{Above}
use Rattle.tree_laws.specs.Changes.{RowChange, changes_of}
use Rattle.tree_laws.specs.History.{tree_after, tree_after_entry}
use Rattle.cut_laws.specs.Cut.{Cut, cut_of, IsWithin}

-- this is one of a list
abbrev pub IsOneOf : {X : Type 0} → List X → X → Type 0
IsOneOf [] x = ⊥
IsOneOf (first ∷ rest) x = (first ≡ x) ⊎ IsOneOf rest x

-- a change of a history
abbrev pub IsChange : TreeState → List Entry → RowChange → Type 0
IsChange first history change = IsOneOf (changes_of first history) change

-- the birth of a node: a call makes it in a directory
pub record Birth : Type 0 where
  pub stamp : ℕ
  pub directory : ℕ
  pub node : ℕ

-- the birth that an effect is by which a node is made
abbrev pub births_by : ℕ → Effect → Option Kind → List Birth
births_by stamp (Adds directory name child) (Some kind) = record { stamp = stamp; directory = directory; node = child } ∷ []
births_by stamp effect makes = []

-- the births of a history, in stamp order
abbrev pub births_of : TreeState → List Entry → List Birth
births_of first [] = []
births_of first (entry ∷ history) =
    births_by entry.stamp.0 (verdict first entry.core.0 entry.call).effect (verdict first entry.core.0 entry.call).makes
    ++ births_of (tree_after_entry first entry) history

-- A rename between two directories changes both, and lies below the cuts of both or of neither: where it lies below that of one, it
-- lies below that of the other.
abbrev pub RenamesWhole : TreeState → List Entry → Cut → Type 0
RenamesWhole first history cut =
    (change : RowChange) (other : ℕ) → IsChange first history change → change.other ≡ Some other → IsWithin cut change → change.stamp < cut_of cut other

-- Where a change that ends a directory lies below its own directory's cut, all own changes of the ended one lie below its cut.
abbrev pub RemovalsWhole : TreeState → List Entry → Cut → Type 0
RemovalsWhole first history cut =
    (change own : RowChange) → IsChange first history change → change.ends ≡ true → IsWithin cut change → IsChange first history own
    → own.directory ≡ change.child → IsWithin cut own

-- Where an own change of a directory that was made in the history lies below its cut, its making lies below the cut of the
-- directory in which it was made.
abbrev pub BirthsKept : TreeState → List Entry → Cut → Type 0
BirthsKept first history cut =
    (birth : Birth) (own : RowChange) → IsOneOf (births_of first history) birth → IsChange first history own → own.directory ≡ birth.node → IsWithin cut own
    → birth.stamp < cut_of cut birth.directory

-- The last change below a stamp that places a node.
pub record IsLastPlacing (first : TreeState) (history : List Entry) (node stamp : ℕ) (last : RowChange) : Type 0 where
  pub is_change : IsChange first history last
  pub places : last.places ≡ true
  pub child : last.child ≡ node
  pub below : last.stamp < stamp
  pub latest : (other : RowChange) → IsChange first history other → other.places ≡ true → other.child ≡ node → other.stamp < stamp → other.stamp ≤ last.stamp

-- A change places a directory of a tree by a rename between two directories.
pub record MovesDirectory (tree : TreeState) (change : RowChange) : Type 0 where
  pub places : change.places ≡ true
  pub other : change.other ≢ None
  pub kind : is_directory tree change.child ≡ true

-- A change of a history that does so in the tree at its stamp.
pub record IsMove (first : TreeState) (history : List Entry) (change : RowChange) : Type 0 where
  pub is_change : IsChange first history change
  pub moves : MovesDirectory (tree_after first (take change.stamp history)) change

-- Where a change that places a directory into another one by a rename between two directories lies below the cut of that other
-- one, then for it and each of its ancestors at that stamp except the root: the last change below the stamp that places it lies
-- below the cut of its holder at that stamp. One that no change below the stamp places is excepted.
abbrev pub AncestorsKept : TreeState → List Entry → Cut → Type 0
AncestorsKept first history cut =
    (change : RowChange) (above : List ℕ) (node holder : ℕ) (name : List ℕ) (last : RowChange) → IsMove first history change → IsWithin cut change
    → Above (tree_after first (take change.stamp history)) change.directory above
    → IsOneOf (change.directory ∷ above) node
    → row_of (tree_after first (take change.stamp history)) holder name ≡ Some node
    → IsLastPlacing first history node change.stamp last
    → last.stamp < cut_of cut holder

-- A cut that keeps the four rules.
pub record IsClosed (first : TreeState) (history : List Entry) (cut : Cut) : Type 0 where
  pub renames : RenamesWhole first history cut
  pub removals : RemovalsWhole first history cut
  pub births : BirthsKept first history cut
  pub ancestors : AncestorsKept first history cut
