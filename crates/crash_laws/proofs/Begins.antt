-- A run begins with the first tree.
use Rattle.std.proofs.Common.{◌≡◌, ℕ, List, [], Option, Some, None, option_map, refl, ap, ◌∙◌}
use Rattle.std.specs.Option.{option_map_or}
use Rattle.std.specs.FinMap.{get, empty}
use Rattle.sfs_base.proofs.BasicNumbers.{le_itself}
use Rattle.sfs_dev.specs.Disk.{View}
use Rattle.tree_laws.specs.Changes.{bytes_at}
use Rattle.tree_laws.specs.Tree.{TreeState, Node, bytes_of}
use Rattle.cut_laws.specs.Closure.{none}
use Rattle.cut_laws.specs.Cut.{cut_of, tree_at_cut}
use Rattle.cut_laws.specs.LawsGrowth.{HasMoreNodes}
use Rattle.cut_laws.proofs.CutNodes.{node_at_cut_is}
use Rattle.image_laws.specs.Image.{IsReadAsTree}
use Rattle.crash_laws.specs.Laws.{RunsBegin}
use Rattle.crash_laws.specs.Listed.{AreListed}
use Rattle.crash_laws.proofs.Shapes.{shape_of_more, read_as}

-- with no entry a file's bytes are the first tree's
bytes_first : (first : TreeState) (node stamp : ℕ) → bytes_at first [] node stamp ≡ bytes_of first node
bytes_first first node stamp = refl

-- the tree at the cut 0 of no entries is the first one
pub first_nodes : (first : TreeState) → HasMoreNodes first (tree_at_cut first [] empty)
first_nodes first = record {
  rows = refl;
  nodes = λ node some.
      node_at_cut_is first [] empty node
      ∙ ap (λ (bytes : List ℕ). option_map (λ (n : Node). record n { bytes = bytes }) (get first.nodes node)) (bytes_first first node (cut_of empty node))
      ∙ same (get first.nodes node);
}
  where
    same : (o : Option Node) → option_map (λ (n : Node). record n { bytes = option_map_or (λ (n : Node). n.bytes) o [] }) o ≡ o
    same (Some n) = refl
    same None = refl

none_listed : (moment : ℕ) → AreListed [] moment []
none_listed moment = record {
  each = λ flush one. absurd one;
  acked = λ flush ack acked le. absurd acked.among;
  order = tt;
  once = tt;
}

pub runs_begin : (disk : View) → RunsBegin disk
runs_begin disk share from first is mounts = record {
  so_far = λ k image since le left. record {
    flushes = [];
    cut = empty;
    inodes = _;
    listed = none_listed k;
    flushed = none;
    read = read image (mounts.moments k image since le left);
  };
  stands = record {
    flushed = none;
    listed = none_listed;
    each_acked = λ flush one. absurd one;
    acked_by_now = λ flush ack acked. absurd acked.among;
    holds = record {
      left = λ image left. read image (mounts.moments disk.now image mounts.later (le_itself disk.now) left);
      told = λ content told. read content (mounts.told content told);
    };
  };
}
  where
    read : (image : List ℕ) → IsReadAsTree image share first → IsReadAsTree image share (tree_at_cut first [] empty)
    read image = read_as image share first (tree_at_cut first [] empty) (shape_of_more first (tree_at_cut first [] empty) is.sound (first_nodes first))
