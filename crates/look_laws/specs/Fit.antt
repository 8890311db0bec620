-- When what was gathered is enough of a history.
use Rattle.std.specs.Prelude.{◌≡◌, ◌↔◌, ℕ, ◌≤◌, Bool, true, List, take}
use Rattle.tree_laws.specs.declared.history.Entry.{Entry}
use Rattle.tree_laws.specs.Tree.{TreeState, is_directory}
use Rattle.tree_laws.specs.Sound.{Above}
use Rattle.tree_laws.specs.Changes.{RowChange}
use Rattle.tree_laws.specs.History.{tree_after}
use Rattle.cut_laws.specs.Cut.{Cut, cut_of, counted_rows_at_cut}
use Rattle.cut_laws.specs.Rules.{IsOneOf, IsChange, IsMove, births_of}
use Rattle.cut_laws.specs.Closure.{Counts, InSpan, IsNamedIn}
use Rattle.look_laws.specs.Look.{Noted, Look, Gathers, Touches}
use Rattle.look_laws.specs.Made.{Found}

-- A change was gathered.
abbrev pub IsNoted : Look → RowChange → Type 0
IsNoted look change = (noted : Noted) × IsOneOf look.noted noted × (noted.change ≡ change)

-- What was gathered of a change is so in the history: it is a change of an entry that counts, and with it are recorded the
-- directories above its own exactly where it places a directory by a rename between two.
pub record IsTrue (first : TreeState) (history : List Entry) (counts : Counts) (noted : Noted) : Type 0 where
  pub is_change : IsChange first history noted.change
  pub counted : counts noted.change.stamp ≡ true
  pub told : (above : List ℕ) → IsMove first history noted.change → Above (tree_after first (take noted.change.stamp history)) noted.change.directory above
      → noted.above ≡ above
  pub moves : (node : ℕ) → IsOneOf noted.above node → IsMove first history noted.change
  pub stands : (node : ℕ) → IsOneOf noted.above node → Above (tree_after first (take noted.change.stamp history)) noted.change.directory noted.above

-- A look knows enough: of each node that it touches the stamp, the inode and where it was made; of each member all changes that count
-- in its span; and of each node that it touches all namings that count and are not flushed. It may lack whatever else there is, of
-- entries that do not count and of nodes that it does not touch, and it may have more changes.
pub record KnowsEnough (first : TreeState) (history : List Entry) (counts : Counts) (cut : Cut) (inodes : ℕ → Bool) (look : Look) : Type 0 where
  pub cuts : (node : ℕ) → Touches look node → look.cut node ≡ cut_of cut node
  pub cuts_low : (node : ℕ) → look.cut node ≤ cut_of cut node
  pub same_inodes : (node : ℕ) → Touches look node → look.inodes node ≡ inodes node
  pub born : (node directory : ℕ) → Touches look node
      → IsOneOf look.born (record { node = node; directory = directory }) ↔
      ((stamp : ℕ) × IsOneOf (births_of first history) (record { stamp = stamp; directory = directory; node = node }))
  pub truths : (noted : Noted) → IsOneOf look.noted noted → IsTrue first history counts noted
  pub spans : (change : RowChange) → Gathers look change.directory → InSpan first history counts cut look.flush.stamp change → IsNoted look change
  pub namings : (change : RowChange) → Touches look change.child → IsChange first history change → counts change.stamp ≡ true
      → cut_of cut change.directory ≤ change.stamp → IsNoted look change
  pub unflushed : (noted : Noted) → IsOneOf look.noted noted → Touches look noted.change.child → look.cut noted.change.directory ≤ noted.change.stamp
      → cut_of cut noted.change.directory ≤ noted.change.stamp

-- What was found is so: of each node that the look touches, whether a row at the raised cut names it; and the own node's kind.
pub record FindsRight (first : TreeState) (history : List Entry) (counts : Counts) (raised : Cut) (look : Look) (found : Found) : Type 0 where
  pub named : (node : ℕ) → Touches look node → (found.named node ≡ true) ↔ IsNamedIn (counted_rows_at_cut first history counts raised) node
  pub directory : found.directory ≡ is_directory (tree_after first history) look.flush.node
