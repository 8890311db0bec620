-- What an fsync knows of a history while other commits go on.
use Rattle.std.specs.Prelude.{◌≡◌, ◌⊎◌, ℕ, ◌<◌, ◌≤◌, Bool, true, false, List, max}
use Rattle.tree_laws.specs.declared.history.Entry.{Entry}
use Rattle.tree_laws.specs.Tree.{TreeState}
use Rattle.tree_laws.specs.Changes.{RowChange}
use Rattle.tree_laws.specs.History.{IsLegal}
use Rattle.tree_laws.specs.Laws.{IsSoundTree}
use Rattle.cut_laws.specs.Cut.{Cut, cut_of, rows_at_cut}
use Rattle.cut_laws.specs.Rules.{IsChange}
use Rattle.cut_laws.specs.Closure.{Counts, every_entry, HasLiveNode, IsNamedIn, IsRaised, AreInodesAfter}
use Rattle.cut_laws.specs.LawsInodes.{StaysAsItWas}
use Rattle.look_laws.specs.Look.{Look, Gathers, Touches}
use Rattle.look_laws.specs.Made.{Lifts, Found, AreMoved}
use Rattle.look_laws.specs.Fit.{KnowsEnough, FindsRight}
use Rattle.look_laws.specs.Laws.{FitsHistory}

-- An fsync's observation of a history: the history with its first tree, the entries that count for it, a stamp below which all of them do, and
-- its look.
pub record Observation : Type 0 where
  pub first : TreeState
  pub history : List Entry
  pub counts : Counts
  pub late : ℕ
  pub look : Look

-- It knows enough at a cut: its look is enough of the entries that count, among which are all below the stamp, and the fsync's own stamp is not
-- above that; its node was alive; and no change that names a node which the look touches and has that stamp or a greater one is flushed.
pub record Knows (seen : Observation) (cut : Cut) (inodes : ℕ → Bool) : Type 0 where
  pub enough : KnowsEnough seen.first seen.history seen.counts cut inodes seen.look
  pub early : (stamp : ℕ) → stamp < seen.late → seen.counts stamp ≡ true
  pub stamp : seen.look.flush.stamp ≤ seen.late
  pub unflushed : (change : RowChange) → Touches seen.look change.child → IsChange seen.first seen.history change → seen.late ≤ change.stamp
      → cut_of cut change.directory ≤ change.stamp
  pub live : HasLiveNode seen.first seen.history seen.look.flush

-- A node that the look touches has an inode where a row at the cut names it.
abbrev pub NamedHaveInodes : Observation → Cut → (ℕ → Bool) → Type 0
NamedHaveInodes seen cut inodes =
    (node : ℕ) → Touches seen.look node → IsNamedIn (rows_at_cut seen.first seen.history cut) node → inodes node ≡ true

-- What an fsync makes of the nodes that it touches: the stamps that it leaves, what it found of them, which get an inode and which lose it.
pub record Lifting : Type 0 where
  pub lifted : ℕ → ℕ
  pub found : Found
  pub gets : ℕ → Bool
  pub loses : ℕ → Bool

-- It is made by a look.
pub record IsLiftingOf (look : Look) (lifting : Lifting) : Type 0 where
  pub lifts : Lifts look lifting.lifted
  pub moved : AreMoved look lifting.lifted lifting.found lifting.gets lifting.loses

-- The nodes with an inode behind an lifting: those that get one have it, those that lose it have none, and all others are as before.
pub record AreInodesBehind (inodes : ℕ → Bool) (lifting : Lifting) (after : ℕ → Bool) : Type 0 where
  pub got : (node : ℕ) → lifting.gets node ≡ true → after node ≡ true
  pub lost : (node : ℕ) → lifting.loses node ≡ true → after node ≡ false
  pub same : (node : ℕ) → lifting.gets node ≡ false → lifting.loses node ≡ false → after node ≡ inodes node

-- A cut raised by a look: the stamp of what it gathers is the fsync's at least, and no other moves.
pub record IsLiftedBy (look : Look) (cut raised : Cut) : Type 0 where
  pub gathered : (node : ℕ) → Gathers look node → cut_of raised node ≡ max (cut_of cut node) look.flush.stamp
  pub others : (node : ℕ) → Gathers look node ⊎ (cut_of raised node ≡ cut_of cut node)

-- What an fsync does that knows enough is what it does over the whole history: its members and concerned nodes, the cut that it raises, and the
-- nodes with an inode behind it; and it knows enough at each later cut at which the nodes that it touches are as they were.
pub record IsOfTheWhole (seen : Observation) (cut : Cut) (inodes : ℕ → Bool) : Type 0 where
  pub fits : FitsHistory seen.first seen.history every_entry cut inodes seen.look
  pub raises : (raised : Cut) → IsLiftedBy seen.look cut raised → IsRaised seen.first seen.history every_entry cut inodes seen.look.flush raised
  pub moves : (raised : Cut) (lifting : Lifting) (after : ℕ → Bool) → IsRaised seen.first seen.history every_entry cut inodes seen.look.flush raised
      → IsLiftingOf seen.look lifting → FindsRight seen.first seen.history every_entry raised seen.look lifting.found
      → AreInodesBehind inodes lifting after
      → AreInodesAfter seen.first seen.history every_entry cut inodes seen.look.flush raised after
  pub stays : (raised : Cut) (after : ℕ → Bool) → ((node : ℕ) → cut_of cut node ≤ cut_of raised node)
      → ((node : ℕ) → Touches seen.look node → StaysAsItWas seen.first seen.history cut raised inodes after node)
      → Knows seen raised after

-- So it is for each observation of a legal history from a sound tree, whatever cuts other nodes have.
abbrev pub LooksKnow : Type 0
LooksKnow = (seen : Observation) (cut : Cut) (inodes : ℕ → Bool) → IsSoundTree seen.first → IsLegal seen.first seen.history
    → NamedHaveInodes seen cut inodes → Knows seen cut inodes → IsOfTheWhole seen cut inodes
