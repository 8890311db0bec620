-- What a look-up answers, by the values that are held.
use Rattle.std.proofs.Common.{◌≡◌, ℕ, List, Some, None, sym, ap, ◌∙◌}
use Rattle.std.specs.Prelude.{is_some}
use Rattle.std.specs.FinMap.{get}
use Rattle.sfs_base.specs.Name.{bucket}
use Rattle.sfs_base.specs.declared.numbers.NodeId.{NodeId}
use Rattle.tree_laws.specs.declared.call.Call.TheVariants as call
use Rattle.tree_laws.specs.declared.reply.Reply.TheVariants as reply
use Rattle.tree_laws.specs.declared.reply.Code.{Code}
use Rattle.tree_laws.specs.declared.reply.Code.TheVariants.{NoEntry}
use Rattle.tree_laws.specs.Tree.{TreeState, row_of, kind_if}
use Rattle.tree_laws.specs.Verdict.{verdict, answered, refused, or_else, directory_fault, look_row}
use Rattle.mem_values.specs.declared.bucket.Bucket.{Bucket}
use Rattle.mem_values.specs.Stands.{ShowsBucket}
use Rattle.mem_calls.proofs.NamedRows.{row_in, kind_in}

module _ (tree : TreeState) (core : ℕ) (dir : NodeId) (name : List ℕ) where
  pub look_refused : (code : Code) → directory_fault tree dir.0 ≡ Some code → verdict tree core (call.Look dir name) ≡ refused code
  look_refused code fault = ap (λ f. or_else f (look_row tree (row_of tree dir.0 name))) fault

  module _ (b : Bucket) (shows : ShowsBucket tree dir.0 (bucket name) b) (fault : directory_fault tree dir.0 ≡ None) where
    pub look_found : (child : NodeId) → get b.rows name ≡ Some child.0
        → verdict tree core (call.Look dir name) ≡ answered (reply.Node child (kind_if (is_some (get b.directories name))))
    look_found child row =
        ap (λ f. or_else f (look_row tree (row_of tree dir.0 name))) fault
        ∙ (ap (look_row tree) (row_in tree dir.0 name b shows ∙ row)
        ∙ ap (λ k. answered (reply.Node child k)) (sym (kind_in tree dir.0 name b shows child.0 row)))

    pub look_missed : get b.rows name ≡ None → verdict tree core (call.Look dir name) ≡ refused NoEntry
    look_missed row = ap (λ f. or_else f (look_row tree (row_of tree dir.0 name))) fault ∙ ap (look_row tree) (row_in tree dir.0 name b shows ∙ row)
