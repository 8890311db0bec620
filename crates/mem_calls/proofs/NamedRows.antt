-- The rows of a directory, by the bucket that a core holds.
use Rattle.std.proofs.Common.{◌≡◌, ℕ, Bool, true, false, ◌==◌, List, Some, None, refl, sym, ap, ◌∙◌, eq-eqb}
use Rattle.std.specs.Prelude.{is_some, if◌then◌else◌}
use Rattle.std.specs.FinMap.{get}
use Rattle.sfs_base.specs.Name.{bucket}
use Rattle.tree_laws.specs.Tree.{TreeState, row_of, is_directory, kind_if, kind_again, kind_of}
use Rattle.tree_laws.proofs.Names.{get-names_where}
use Rattle.tree_laws.proofs.Readings.{directory_by_kind}
use Rattle.mem_values.specs.declared.bucket.Bucket.{Bucket}
use Rattle.mem_values.specs.Stands.{ShowsBucket, if_directory}

module _ (tree : TreeState) (directory : ℕ) (name : List ℕ) (b : Bucket) (shows : ShowsBucket tree directory (bucket name) b) where
  -- the row of a name is that of its bucket
  pub row_in : row_of tree directory name ≡ get b.rows name
  row_in =
      sym (ap (λ t. if t then row_of tree directory name else None) (eq-eqb (bucket name) (bucket name) refl))
      ∙ (sym (get-names_where directory (λ n. bucket n == bucket name) tree.rows name) ∙ ap (λ m. get m name) (sym shows.rows))

  -- and tells whether its child is a directory
  pub directory_in : (child : ℕ) → get b.rows name ≡ Some child → is_some (get b.directories name) ≡ is_directory tree child
  directory_in child row =
      ap is_some (shows.directories name ∙ ap (if_directory tree) (ap (λ m. get m name) (sym shows.rows) ∙ row)) ∙ by (is_directory tree child)
    where
      by : (d : Bool) → is_some (if d then Some child else None) ≡ d
      by true = refl
      by false = refl

  pub kind_in : (child : ℕ) → get b.rows name ≡ Some child → kind_if (is_some (get b.directories name)) ≡ kind_of tree child
  kind_in child row = ap kind_if (directory_in child row ∙ directory_by_kind tree child) ∙ kind_again (kind_of tree child)
