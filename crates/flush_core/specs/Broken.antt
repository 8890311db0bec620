-- What each rule says of a cut, which rule is the first that does not hold, and what breaks a rule in a past.
use Rattle.std.specs.Prelude.{◌≡◌, ℕ, ◌<◌, ◌≤◌, true, List, ◌∷◌, length, slice_index, max, Option, Some, None}
use Rattle.tree_laws.specs.declared.history.Entry.{Entry}
use Rattle.tree_laws.specs.Tree.{TreeState}
use Rattle.flush_core.specs.declared.past.OwnChange.{OwnChange}
use Rattle.flush_core.specs.declared.past.BornNode.{BornNode}
use Rattle.flush_core.specs.declared.rules.Rule.{Rule}
use Rattle.flush_core.specs.declared.rules.Rule.TheVariants as rule
use Rattle.cut_laws.specs.Cut.{Cut, cut_of}
use Rattle.flush_core.specs.Engine.{above_of}
use Rattle.cut_laws.specs.Rules.{IsOneOf, RenamesWhole, RemovalsWhole, BirthsKept, AncestorsKept, IsClosed}

-- A cut keeps a rule.
abbrev pub CutKeeps : TreeState → List Entry → Cut → Rule → Type 0
CutKeeps first history cut rule.Renames = RenamesWhole first history cut
CutKeeps first history cut rule.Removals = RemovalsWhole first history cut
CutKeeps first history cut rule.Births = BirthsKept first history cut
CutKeeps first history cut rule.Ancestors = AncestorsKept first history cut

-- the place of a rule in the order in which they are looked at
abbrev pub rule_place : Rule → ℕ
rule_place rule.Renames = 1
rule_place rule.Removals = 2
rule_place rule.Births = 3
rule_place rule.Ancestors = 4

-- The first rule that a cut breaks.
pub record IsFirstBroken (first : TreeState) (history : List Entry) (cut : Cut) (broken : Rule) : Type 0 where
  pub breaks : CutKeeps first history cut broken → ⊥
  pub before : (other : Rule) → rule_place other < rule_place broken → CutKeeps first history cut other

-- What a search for a broken rule gives: the first one, or none where the cut is closed.
abbrev pub FindsBroken : TreeState → List Entry → Cut → Option Rule → Type 0
FindsBroken first history cut None = IsClosed first history cut
FindsBroken first history cut (Some broken) = IsFirstBroken first history cut broken

-- One of some elements is such.
abbrev pub SomeIs : {X : Type 0} → List X → (X → Type 0) → Type 0
SomeIs {X} xs Is = (x : X) × IsOneOf xs x × Is x

-- A change lies below the cut of its directory.
abbrev pub IsFlushed : Cut → OwnChange → Type 0
IsFlushed cut change = change.stamp < cut_of cut change.directory

-- A rename between two directories lies below the cut of the changed one, and not below that of the other.
pub record IsSplit (cut : Cut) (change : OwnChange) : Type 0 where
  pub other : ℕ
  pub two : change.other ≡ Some other
  pub flushed : IsFlushed cut change
  pub late : cut_of cut other ≤ change.stamp

-- A change is an own one of a directory and does not lie below its cut.
pub record IsLeft (cut : Cut) (directory : ℕ) (change : OwnChange) : Type 0 where
  pub own : change.directory ≡ directory
  pub late : cut_of cut directory ≤ change.stamp

-- A change that ends a directory lies below its own directory's cut, and leaves an own change of the ended one.
pub record LeavesChange (changes : List OwnChange) (cut : Cut) (change : OwnChange) : Type 0 where
  pub ends : change.ends ≡ true
  pub flushed : IsFlushed cut change
  pub left : SomeIs changes (IsLeft cut change.child)

-- A change is an own one of a directory and lies below its cut.
pub record IsFlushedIn (cut : Cut) (directory : ℕ) (change : OwnChange) : Type 0 where
  pub own : change.directory ≡ directory
  pub flushed : change.stamp < cut_of cut directory

-- The making of a node does not lie below the cut of the directory in which it was made, and an own change of the node lies below the
-- node's cut.
pub record IsBornLate (changes : List OwnChange) (cut : Cut) (born : BornNode) : Type 0 where
  pub late : cut_of cut born.directory ≤ born.stamp
  pub flushed : SomeIs changes (IsFlushedIn cut born.node)

-- A change places a node and lies below a stamp.
pub record PlacesBelow (node stamp : ℕ) (change : OwnChange) : Type 0 where
  pub places : change.places ≡ true
  pub child : change.child ≡ node
  pub below : change.stamp < stamp

-- A stamp is that of the last change below another one that places a node, if any does.
abbrev pub IsLatest : List OwnChange → ℕ → ℕ → Option ℕ → Type 0
IsLatest changes node below None = (change : OwnChange) → IsOneOf changes change → PlacesBelow node below change → ⊥
IsLatest changes node below (Some stamp) =
    ((change : OwnChange) × IsOneOf changes change × PlacesBelow node below change × (change.stamp ≡ stamp))
    × ((other : OwnChange) → IsOneOf changes other → PlacesBelow node below other → other.stamp ≤ stamp)

-- the greater of two stamps, of which the first may be missing
abbrev pub later : Option ℕ → ℕ → ℕ
later None stamp = stamp
later (Some last) stamp = max last stamp

-- On a way up from a node, a directory stands right behind one of those before it.
pub record IsNext (start : ℕ) (above : List ℕ) (node holder : ℕ) : Type 0 where
  pub place : ℕ
  pub within : place < length above
  pub node_is : node ≡ slice_index (start ∷ above) place
  pub holder_is : holder ≡ slice_index above place

-- The last change below a stamp that places a node does not lie below the cut of the node's holder.
pub record IsUnplaced (changes : List OwnChange) (cut : Cut) (below node holder : ℕ) : Type 0 where
  pub last : ℕ
  pub latest : IsLatest changes node below (Some last)
  pub late : cut_of cut holder ≤ last

-- On a way up from a node, some node is so.
pub record HasUnplaced (changes : List OwnChange) (cut : Cut) (below start : ℕ) (above : List ℕ) : Type 0 where
  pub node : ℕ
  pub holder : ℕ
  pub next : IsNext start above node holder
  pub unplaced : IsUnplaced changes cut below node holder

-- A change that lies below its own directory's cut placed a directory by a rename between two, and on the way up from the new one
-- some node's last placing is not flushed.
pub record LacksAncestor (changes : List OwnChange) (cut : Cut) (change : OwnChange) : Type 0 where
  pub flushed : IsFlushed cut change
  pub lacks : HasUnplaced changes cut change.stamp change.directory (above_of change)
