-- What fsyncs keep over the whole history: what the tree at the cut names has an inode.
use Rattle.std.proofs.Common.{ℕ, ◌≤◌, Bool, List, refl, arith}
use borrow.Author.Tests.{lt-ltb}
use Rattle.tree_laws.specs.declared.history.Entry.{Entry}
use Rattle.tree_laws.specs.Tree.{TreeState}
use Rattle.tree_laws.specs.History.{IsLegal}
use Rattle.tree_laws.specs.Laws.{IsSoundTree}
use Rattle.cut_laws.specs.Cut.{Cut, cut_of}
use Rattle.cut_laws.specs.Closure.{every_entry, Flush, HasLiveNode, IsRaised, AreInodesAfter, KeepsCut}
use Rattle.cut_laws.specs.Runs.{view_by}
use Rattle.cut_laws.proofs.Commit.{fsyncs_keep}
use Rattle.cut_laws.proofs.Views.{below, IsHeld, RaisesHold}
use Rattle.cut_laws.proofs.RunFacts.{raised_low}
use Rattle.cut_laws.proofs.Alike.{inodes_alike}
use Rattle.cut_laws.proofs.Recount.{counted_named, recounts}
use Rattle.cut_laws.proofs.NamedKept.{named_after}

module _ (first : TreeState) (history : List Entry) (n : ℕ) (flush : Flush) (cut raised : Cut) (inodes after : ℕ → Bool) (is : IsSoundTree first)
    (legal : IsLegal first history) (low : (node : ℕ) → cut_of cut node ≤ n) (stamp : flush.stamp ≤ n) (live : HasLiveNode first history flush)
    (held : IsHeld first history cut inodes) (raise : IsRaised first history (below n) cut inodes flush raised)
    (sets : AreInodesAfter first history (below n) cut inodes flush raised after) where
  kept_after : KeepsCut first history raised after
  kept_after =
      let alike = recounts first history n (below n) every_entry flush cut inodes is legal (λ t lt. lt-ltb t n lt) (λ t lt. refl) low stamp live held in
      fsyncs_keep first history cut raised inodes after flush is legal held.kept ((alike.raises raised).0 raise)
      (inodes_alike first flush (view_by history (below n) cut inodes) (view_by history every_entry cut inodes) raised after alike raise sets)

  holds_after : IsHeld first history raised after
  holds_after =
      record {
        kept = kept_after;
        named =
            named_after first history (below n) flush cut raised inodes is legal (λ t lt. lt-ltb t n (omega arith)) raise after sets
            (counted_named first history n (below n) raised (λ t lt. lt-ltb t n lt)
            (raised_low first history (below n) cut inodes flush raised n raise low stamp))
            held.named;
      }

pub raises_hold : RaisesHold
raises_hold first history n flush cut raised inodes after is legal low stamp live held raise sets =
    holds_after first history n flush cut raised inodes after is legal low stamp live held raise sets
