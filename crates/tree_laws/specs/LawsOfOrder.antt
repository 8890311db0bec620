-- The laws of the order in which conditions are tried, each of which a function of the module laws proves.
use Rattle.std.specs.Prelude.{◌≡◌, ℕ, ◌<◌, ◌≤◌, true, false, List, Some, None, is_some}
use Rattle.std.specs.FinMap.{len}
use Rattle.sfs_base.specs.Name.{bucket}
use Rattle.tree_laws.specs.Tree.{TreeState, row_of, is_alive, is_directory, count_of, bucket_rows, made_by}
use Rattle.tree_laws.specs.Verdict.{directory_fault, make_fault, link_fault}
use Rattle.tree_laws.specs.declared.reply.Code.TheVariants.{NoEntry, Exists, NotDir, NotPermitted, TooManyLinks, DirFull, NoNodes}

-- What a directory is asked first: whether it is alive, and then whether it is a directory.
pub record AsksDirectory (tree : TreeState) (directory : ℕ) : Type 0 where
  pub dead : is_alive tree directory ≡ false → directory_fault tree directory ≡ Some NoEntry
  pub file : is_alive tree directory ≡ true → is_directory tree directory ≡ false → directory_fault tree directory ≡ Some NotDir
  pub fine : is_alive tree directory ≡ true → is_directory tree directory ≡ true → directory_fault tree directory ≡ None

-- What a link of a file is asked before its directory: whether the file is alive, and then that it is none.
pub record AsksLinked (tree : TreeState) (file directory : ℕ) (name : List ℕ) : Type 0 where
  pub dead : is_alive tree file ≡ false → link_fault tree file directory name ≡ Some NoEntry
  pub directory_linked : is_alive tree file ≡ true → is_directory tree file ≡ true → link_fault tree file directory name ≡ Some NotPermitted

-- A file and a directory for which a link may be asked.
pub record IsLinkable (tree : TreeState) (file directory : ℕ) : Type 0 where
  pub alive : is_alive tree file ≡ true
  pub is_file : is_directory tree file ≡ false
  pub usable : directory_fault tree directory ≡ None

-- What is asked then, in this order: a name that is there is answered Exists, however full its bucket is and however many links the file has; a
-- file of 65,535 links TooManyLinks, however full the bucket is; and a bucket of 4,096 rows DirFull.
pub record AsksLink (tree : TreeState) (file directory : ℕ) (name : List ℕ) : Type 0 where
  pub there : is_some (row_of tree directory name) ≡ true → link_fault tree file directory name ≡ Some Exists
  pub many : is_some (row_of tree directory name) ≡ false → 65535 ≤ count_of tree.rows file → link_fault tree file directory name ≡ Some TooManyLinks
  pub full : is_some (row_of tree directory name) ≡ false → count_of tree.rows file < 65535
      → 4096 ≤ len (bucket_rows directory (bucket name) tree.rows) → link_fault tree file directory name ≡ Some DirFull
  pub fine : is_some (row_of tree directory name) ≡ false → count_of tree.rows file < 65535
      → len (bucket_rows directory (bucket name) tree.rows) < 4096 → link_fault tree file directory name ≡ None

-- What a creation is asked in a directory that may be used, in this order: whether the name is there, whether its bucket has 4,096 rows, and
-- whether the core has made its share of nodes.
pub record AsksMake (tree : TreeState) (core directory : ℕ) (name : List ℕ) : Type 0 where
  pub there : is_some (row_of tree directory name) ≡ true → make_fault tree core directory name ≡ Some Exists
  pub full : is_some (row_of tree directory name) ≡ false → 4096 ≤ len (bucket_rows directory (bucket name) tree.rows)
      → make_fault tree core directory name ≡ Some DirFull
  pub share_made : is_some (row_of tree directory name) ≡ false → len (bucket_rows directory (bucket name) tree.rows) < 4096
      → tree.share ≤ made_by tree core → make_fault tree core directory name ≡ Some NoNodes

-- Conditions are tried in this order.
pub record ConditionsHaveTheirOrder : Type 0 where
  pub directory : (tree : TreeState) (directory : ℕ) → AsksDirectory tree directory
  pub linked : (tree : TreeState) (file directory : ℕ) (name : List ℕ) → AsksLinked tree file directory name
  pub link : (tree : TreeState) (file directory : ℕ) (name : List ℕ) → IsLinkable tree file directory → AsksLink tree file directory name
  pub make : (tree : TreeState) (core directory : ℕ) (name : List ℕ) → directory_fault tree directory ≡ None → AsksMake tree core directory name
