-- What an fsync concerns and raises, while others become durable.
use Rattle.std.specs.Prelude.{◌≡◌, ◌↔◌, ℕ, Bool, List}
use Rattle.tree_laws.specs.declared.history.Entry.{Entry}
use Rattle.tree_laws.specs.History.{IsLegal}
use Rattle.tree_laws.specs.Laws.{IsSoundTree}
use Rattle.tree_laws.specs.Tree.{TreeState}
use Rattle.cut_laws.specs.Closure.{every_entry, Flush, IsConcerned, IsRaised, AreInodesAfter}
use Rattle.cut_laws.specs.Cut.{Cut, cut_of}
use Rattle.cut_laws.specs.Rules.{IsOneOf}

-- Two fsyncs are planned over one cut, and no node concerns both; one of them raises the cut and leaves these nodes with an inode.
pub record RaisesBeside (first : TreeState) (history : List Entry) (cut : Cut) (inodes : ℕ → Bool) (mine theirs : Flush) (raised : Cut)
    (after : ℕ → Bool) : Type 0 where
  pub raises : IsRaised first history every_entry cut inodes theirs raised
  pub inodes_after : AreInodesAfter first history every_entry cut inodes theirs raised after
  pub apart : (node : ℕ) → IsConcerned first history every_entry cut inodes mine node
      → IsConcerned first history every_entry cut inodes theirs node → ⊥

-- Two fsyncs, with the cut that both are planned over, and what one of them raises and leaves.
pub record TwoFsyncs : Type 0 where
  pub first : TreeState
  pub history : List Entry
  pub cut : Cut
  pub inodes : ℕ → Bool
  pub mine : Flush
  pub theirs : Flush
  pub raised : Cut
  pub after : ℕ → Bool

-- they are so
abbrev pub AreBeside : TwoFsyncs → Type 0
AreBeside two = RaisesBeside two.first two.history two.cut two.inodes two.mine two.theirs two.raised two.after

-- The other one concerns then the nodes that it did before.
abbrev pub ConcernsStay : Type 0
ConcernsStay = (two : TwoFsyncs) → AreBeside two → (node : ℕ)
    → IsConcerned two.first two.history every_entry two.cut two.inodes two.mine node
    ↔ IsConcerned two.first two.history every_entry two.raised two.after two.mine node

-- What an fsync makes over a cut: where it raises it to, which nodes then have an inode, and the nodes that it concerns.
pub record MadeOver (first : TreeState) (history : List Entry) (cut : Cut) (inodes : ℕ → Bool) (flush : Flush) : Type 0 where
  pub raised : Cut
  pub after : ℕ → Bool
  pub nodes : List ℕ
  pub raises : IsRaised first history every_entry cut inodes flush raised
  pub inodes_after : AreInodesAfter first history every_entry cut inodes flush raised after
  pub concerns : (node : ℕ) → IsOneOf nodes node ↔ IsConcerned first history every_entry cut inodes flush node

-- It makes the same of its nodes over a later cut: they are the same ones, come to the same stamps, and have an inode where they had one; all
-- others stay as they are there.
pub record MakesTheSame {first : TreeState} {history : List Entry} {cut raised : Cut} {inodes after : ℕ → Bool} {flush : Flush}
    (once : MadeOver first history cut inodes flush) (again : MadeOver first history raised after flush) : Type 0 where
  pub nodes : again.nodes ≡ once.nodes
  pub own_stamps : (node : ℕ) → IsOneOf once.nodes node → cut_of again.raised node ≡ cut_of once.raised node
  pub own_inodes : (node : ℕ) → IsOneOf once.nodes node → again.after node ≡ once.after node
  pub other_stamps : (node : ℕ) → (IsOneOf once.nodes node → ⊥) → cut_of again.raised node ≡ cut_of raised node
  pub other_inodes : (node : ℕ) → (IsOneOf once.nodes node → ⊥) → again.after node ≡ after node

-- what the other one makes over the first cut, and what over the one that was raised
abbrev pub MadeBefore : TwoFsyncs → Type 0
MadeBefore two = MadeOver two.first two.history two.cut two.inodes two.mine

abbrev pub MadeBehind : TwoFsyncs → Type 0
MadeBehind two = MadeOver two.first two.history two.raised two.after two.mine

-- So does the other one, over what the one that is on the disk has raised and left.
abbrev pub RaisesStay : Type 0
RaisesStay = (two : TwoFsyncs) → IsSoundTree two.first → IsLegal two.first two.history → AreBeside two → (once : MadeBefore two)
    → (again : MadeBehind two) × MakesTheSame once again
