-- A tree with more nodes has the same shape, and what is read as the one is read as the other.
use Rattle.std.proofs.Common.{◌≡◌, ℕ, List, Option, Some, None, IsSome, refl, sym, ap, ◌∙◌}
use Rattle.std.specs.Option.{option_and_then}
use Rattle.std.specs.FinMap.{get}
use Rattle.sfs_base.proofs.BasicOptions.{some_same}
use Rattle.tree_laws.specs.Shape.{shape_of}
use Rattle.tree_laws.specs.Sound.{IsSound}
use Rattle.tree_laws.specs.Tree.{TreeState, row_of}
use Rattle.tree_laws.proofs.KeepsNodes.{directory_node}
use Rattle.cut_laws.specs.LawsGrowth.{HasMoreNodes}
use Rattle.image_laws.specs.Image.{IsReadAsTree}
use Rattle.image_laws.specs.Renamed.{Numbering, IsMet, root, named, IsRenamed}
use Rattle.image_laws.proofs.Shapes.{renamed_trees_have_one_shape}

-- the numbering that leaves each node its number
abbrev itself : Numbering
itself node = Some node

itself_of : (o : Option ℕ) → option_and_then itself o ≡ o
itself_of None = refl
itself_of (Some node) = refl

module _ (tree more : TreeState) (is : IsSound tree) (has : HasMoreNodes tree more) where
  -- what a walk may meet is a node
  met_node : (node : ℕ) → IsMet tree node → IsSome (get tree.nodes node)
  met_node node root = directory_node tree 0 is.root
  met_node node (named directory name child row) = is.node directory name child row

  rows_same : (directory number : ℕ) → itself directory ≡ Some number → (name : List ℕ)
      → row_of more number name ≡ option_and_then itself (row_of tree directory name)
  rows_same directory number same name =
      ap (λ rows. get rows (number, name)) has.rows
      ∙ ap (λ (d : ℕ). get tree.rows (d, name)) (sym (some_same same))
      ∙ sym (itself_of (row_of tree directory name))

  same_numbers : IsRenamed itself tree more
  same_numbers = record {
    root = refl;
    once = λ node twin number is also. some_same (is ∙ sym also);
    holder = λ directory name child row. (directory, refl);
    child = λ directory name child row. (child, refl);
    rows = rows_same;
    only = λ number name child row. (number, refl);
    nodes = λ node number same met. ap (get more.nodes) (sym (some_same same)) ∙ has.nodes node (met_node node met);
  }

  pub shape_of_more : shape_of more ≡ shape_of tree
  shape_of_more = (renamed_trees_have_one_shape itself tree more is same_numbers).1

-- what is read as a tree is read as each of its shape
pub read_as : (image : List ℕ) (share : ℕ) (tree other : TreeState) → shape_of other ≡ shape_of tree → IsReadAsTree image share tree
    → IsReadAsTree image share other
read_as image share tree other same is = record {
  faultless = is.faultless;
  shown = is.shown;
  read = is.read;
  shape = is.shape ∙ sym same;
}
