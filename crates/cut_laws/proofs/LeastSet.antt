-- A closure is the least set that keeps its rules.
use Rattle.std.proofs.Common.{◌≡◌, ℕ, Bool, true, List}
use Rattle.tree_laws.specs.declared.history.Entry.{Entry}
use Rattle.tree_laws.specs.Tree.{TreeState}
use Rattle.cut_laws.specs.Closure.{Counts, Flush, Closure, itself, other_side, ended, ancestor, birth_place}
use Rattle.cut_laws.specs.Cut.{Cut}
use Rattle.cut_laws.specs.LawsLeast.{KeepsFlushRules}

pub closures_are_least : (first : TreeState) (history : List Entry) (counts : Counts) (cut : Cut) (inodes : ℕ → Bool) (flush : Flush) (has : ℕ → Bool)
    → KeepsFlushRules first history counts cut inodes flush has → (node : ℕ) → Closure first history counts cut inodes flush node → has node ≡ true
closures_are_least first history counts cut inodes flush has keeps = every
  where
    every : (node : ℕ) → Closure first history counts cut inodes flush node → has node ≡ true
    every node itself = keeps.itself
    every node (other_side change other member span is) = keeps.other_side change other (every change.directory member) span is
    every node (ended change member span ends) = keeps.ended change (every change.directory member) span ends
    every node (ancestor change above high member span move are among) =
        keeps.ancestor change above high (every change.directory member) span move are among
    every node (birth_place birth member born without naming) = keeps.birth_place birth (every birth.node member) born without naming
