-- A bucket of a directory that stands elsewhere after a call which touches none of its rows.
use Rattle.std.proofs.Common.{◌≡◌, ◌<◌, ℕ, false, ◌==◌, length, Option, refl, sym, ap, ◌∙◌}
use Rattle.std.specs.FinMap.{get}
use Rattle.sfs_base.specs.Name.{bucket}
use Rattle.sfs_base.specs.declared.numbers.NodeId.{NodeId}
use Rattle.tree_laws.specs.declared.call.Call.{Call}
use Rattle.tree_laws.specs.NameRow.{number_of}
use Rattle.tree_laws.specs.Tree.{TreeState, bucket_rows}
use Rattle.tree_laws.specs.Footprints.{touches_part}
use Rattle.tree_laws.specs.Lock.{stands_of}
use Rattle.tree_laws.specs.Laws.{IsSoundTree}
use Rattle.tree_laws.specs.Verdict.{tree_after_call}
use Rattle.tree_laws.proofs.KeepsRest.{calls_keep_the_rest}
use Rattle.mem_values.specs.declared.bucket.Bucket.{Bucket}
use Rattle.mem_values.specs.Stands.{ShowsBucket, if_directory}
use Rattle.mem_calls.specs.Ends.{IsPlacedBucket}
use Rattle.mem_calls.proofs.RowsGo.{directories_kept, old_directory}

module _ (tree : TreeState) (core : ℕ) (c : Call) (is : IsSoundTree tree) (lt : core < length tree.made) (node number : ℕ)
    (apart : touches_part c node (λ n. bucket n == number) ≡ false) where
  abbrev next : TreeState
  next = tree_after_call tree core c

  rows_same : bucket_rows node number next.rows ≡ bucket_rows node number tree.rows
  rows_same = (calls_keep_the_rest tree core c is lt).rows node (λ n. bucket n == number) apart

  -- It shows the directory after the call.
  pub placed_after : (place : Option NodeId) (old new : Bucket) → ShowsBucket tree node number old → IsPlacedBucket place old new
      → number_of place ≡ stands_of next node → ShowsBucket next node number new
  placed_after place old new shows placed stands = record {
    rows = placed.rows ∙ (shows.rows ∙ sym rows_same);
    directories = λ n. ap (λ m. get m n) placed.directories ∙ (old_directory tree core c is lt node number old shows n
        ∙ (sym (directories_kept tree core c is lt node number old shows n (get old.rows n) refl)
        ∙ ap (λ m. if_directory next (get m n)) (shows.rows ∙ sym rows_same)));
    stands = ap number_of placed.stands ∙ stands;
  }
