-- The laws of looks, each of which a function of the module laws proves.
use Rattle.std.specs.Prelude.{◌≡◌, ◌↔◌, ℕ, ◌<◌, ◌≤◌, Bool, true, false, List}
use Rattle.tree_laws.specs.declared.history.Entry.{Entry}
use Rattle.tree_laws.specs.Tree.{TreeState}
use Rattle.tree_laws.specs.History.{IsLegal}
use Rattle.tree_laws.specs.Laws.{IsSoundTree}
use Rattle.cut_laws.specs.Cut.{Cut, cut_of}
use Rattle.cut_laws.specs.Closure.{Counts, every_entry, HasLiveNode, Closure, IsConcerned, IsRaised, IsReached, IsDead}
use Rattle.cut_laws.specs.Laws.{KeepsAll}
use Rattle.look_laws.specs.Look.{Look, Gathers, Touches}
use Rattle.look_laws.specs.Made.{Lifts, Found, AreMoved}
use Rattle.look_laws.specs.Fit.{KnowsEnough, FindsRight}

-- A look fits a history: what it gathers are the members, what it touches the concerned nodes.
pub record FitsHistory (first : TreeState) (history : List Entry) (counts : Counts) (cut : Cut) (inodes : ℕ → Bool) (look : Look) : Type 0 where
  pub members : (node : ℕ) → Gathers look node ↔ Closure first history counts cut inodes look.flush node
  pub concerned : (node : ℕ) → Touches look node ↔ IsConcerned first history counts cut inodes look.flush node

-- A look that knows enough fits, for each tree, history, cut and way to count.
abbrev pub LooksFit : Type 0
LooksFit =
    (first : TreeState) (history : List Entry) (counts : Counts) (cut : Cut) (inodes : ℕ → Bool) (look : Look)
    → KnowsEnough first history counts cut inodes look → FitsHistory first history counts cut inodes look

-- What is made of the cut and the inodes by a look: of each node that it touches the stamp is that of the raised cut, and it gets an
-- inode, or loses it, exactly where the fsync gives it one or takes it.
pub record MakesCommit (first : TreeState) (history : List Entry) (counts : Counts) (inodes : ℕ → Bool) (look : Look) (raised : Cut) (lifted : ℕ → ℕ)
    (gets loses : ℕ → Bool) : Type 0 where
  pub stamps : (node : ℕ) → Touches look node → lifted node ≡ cut_of raised node
  pub enters : (node : ℕ) → Touches look node → inodes node ≡ false → (gets node ≡ true) ↔ IsReached first history counts look.flush raised node
  pub leaves : (node : ℕ) → Touches look node → inodes node ≡ true → (loses node ≡ true) ↔ IsDead first history counts raised node

-- What is made by a look that knows enough is what the fsync makes.
abbrev pub LooksAreMade : Type 0
LooksAreMade =
    (first : TreeState) (history : List Entry) (counts : Counts) (cut raised : Cut) (inodes : ℕ → Bool) (look : Look) (lifted : ℕ → ℕ) (found : Found)
    (gets loses : ℕ → Bool)
    → KnowsEnough first history counts cut inodes look → IsRaised first history counts cut inodes look.flush raised
    → Lifts look lifted → FindsRight first history counts raised look found → AreMoved look lifted found gets loses
    → MakesCommit first history counts inodes look raised lifted gets loses

-- A look fits the whole history too where it lacks only entries from a stamp on that no cut is above, and at or behind the fsync's.
abbrev pub LateEntriesMayBeMissing : Type 0
LateEntriesMayBeMissing =
    (first : TreeState) (history : List Entry) (late : ℕ) (counts : Counts) (cut : Cut) (inodes : ℕ → Bool) (look : Look) → IsSoundTree first
    → IsLegal first history
    → KeepsAll first history cut inodes → HasLiveNode first history look.flush
    → ((stamp : ℕ) → stamp < late → counts stamp ≡ true) → ((node : ℕ) → cut_of cut node ≤ late) → look.flush.stamp ≤ late
    → KnowsEnough first history counts cut inodes look
    → FitsHistory first history every_entry cut inodes look
