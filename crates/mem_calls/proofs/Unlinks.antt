-- What a removal of a file's row answers, by the values that are held.
use Rattle.std.proofs.Common.{◌≡◌, ℕ, Bool, true, false, List, Some, None, sym, ap, ◌∙◌}
use Rattle.std.specs.Prelude.{is_some, if◌then◌else◌}
use Rattle.std.specs.FinMap.{get}
use Rattle.sfs_base.specs.Name.{bucket}
use Rattle.sfs_base.specs.declared.numbers.NodeId.{NodeId}
use Rattle.tree_laws.specs.declared.call.Call.TheVariants as call
use Rattle.tree_laws.specs.declared.reply.Code.{Code}
use Rattle.tree_laws.specs.declared.reply.Code.TheVariants.{NoEntry, NotPermitted}
use Rattle.tree_laws.specs.Tree.{TreeState, row_of}
use Rattle.tree_laws.specs.Effect.{Removes}
use Rattle.tree_laws.specs.Verdict.{verdict, refused, done, or_else, directory_fault, unlink_row}
use Rattle.mem_values.specs.declared.bucket.Bucket.{Bucket}
use Rattle.mem_values.specs.Stands.{ShowsBucket}
use Rattle.mem_calls.proofs.NamedRows.{row_in, directory_in}

module _ (tree : TreeState) (core : ℕ) (dir : NodeId) (name : List ℕ) where
  pub unlink_refused : (code : Code) → directory_fault tree dir.0 ≡ Some code → verdict tree core (call.Unlink dir name) ≡ refused code
  unlink_refused code fault = ap (λ f. or_else f (unlink_row tree dir.0 name (row_of tree dir.0 name))) fault

  module _ (b : Bucket) (shows : ShowsBucket tree dir.0 (bucket name) b) (fault : directory_fault tree dir.0 ≡ None) where
    pub unlink_missed : get b.rows name ≡ None → verdict tree core (call.Unlink dir name) ≡ refused NoEntry
    unlink_missed row = ap (λ f. or_else f (unlink_row tree dir.0 name (row_of tree dir.0 name))) fault
        ∙ ap (unlink_row tree dir.0 name) (row_in tree dir.0 name b shows ∙ row)

    found : (child : ℕ) (d : Bool) → get b.rows name ≡ Some child → is_some (get b.directories name) ≡ d
        → verdict tree core (call.Unlink dir name) ≡ (if d then refused NotPermitted else done (Removes dir.0 name child))
    found child d row kind =
        ap (λ f. or_else f (unlink_row tree dir.0 name (row_of tree dir.0 name))) fault
        ∙ (ap (unlink_row tree dir.0 name) (row_in tree dir.0 name b shows ∙ row)
        ∙ ap (λ x. if x then refused NotPermitted else done (Removes dir.0 name child)) (sym (directory_in tree dir.0 name b shows child row) ∙ kind))

    pub unlink_directory : (child : ℕ) → get b.rows name ≡ Some child → is_some (get b.directories name) ≡ true
        → verdict tree core (call.Unlink dir name) ≡ refused NotPermitted
    unlink_directory child row kind = found child true row kind

    pub unlink_file : (child : ℕ) → get b.rows name ≡ Some child → is_some (get b.directories name) ≡ false
        → verdict tree core (call.Unlink dir name) ≡ done (Removes dir.0 name child)
    unlink_file child row kind = found child false row kind
