-- What stands for a tree stands for one with more nodes.
use Rattle.std.proofs.Common.{◌≡◌, ℕ, List, Option, Some, None, IsSome, option_map, refl, sym, ap, ◌∙◌}
use Rattle.std.specs.FinMap.{get}
use Rattle.sfs_image.specs.Seen.{Seen, SeenInodes}
use Rattle.sfs_image.specs.Slot.{kind_byte}
use Rattle.tree_laws.specs.Sound.{IsSound}
use Rattle.tree_laws.specs.Tree.{TreeState, row_of}
use Rattle.image_laws.specs.Renamed.{Numbering}
use Rattle.image_laws.specs.Stands.{inode_under, row_on, ShowsNode, StandsForTree}
use Rattle.cut_laws.specs.LawsGrowth.{HasMoreNodes}
use Rattle.turn_laws.proofs.MoreNodes.{kind_more, bytes_more, links_more, row_more}

-- each node with a number is one of the tree's
module _ (num : Numbering) (tree more : TreeState) (sound : IsSound tree) (has : HasMoreNodes tree more)
    (numbered : (node i : ℕ) → num node ≡ Some i → IsSome (get tree.nodes node)) where
  row_same : (directory : ℕ) (name : List ℕ)
      → option_map (row_on num more name) (row_of more directory name) ≡ option_map (row_on num tree name) (row_of tree directory name)
  row_same directory name = ap (option_map (row_on num more name)) (row_more tree more sound has directory name) ∙ by (row_of tree directory name) refl
    where
      by : (o : Option ℕ) → row_of tree directory name ≡ o → option_map (row_on num more name) o ≡ option_map (row_on num tree name) o
      by None e = refl
      by (Some child) e =
          let kind = kind_more tree more sound has child (sound.node directory name child e) in
          λ i. Some (record { inode = inode_under num child; kind = kind i; name = name })

  shows_more : (node i : ℕ) (seen : Seen) → num node ≡ Some i → ShowsNode num tree node seen → ShowsNode num more node seen
  shows_more node i seen number shows = record {
    kind = shows.kind ∙ ap kind_byte (sym (kind_more tree more sound has node (numbered node i number)));
    links = shows.links ∙ sym (links_more tree more sound has node (numbered node i number));
    size = shows.size;
    bytes = shows.bytes ∙ sym (bytes_more tree more sound has node (numbered node i number));
    slots = λ name. shows.slots name ∙ sym (row_same node name);
    once = shows.once;
  }

  pub stands_more : (image : SeenInodes) → StandsForTree num tree image → StandsForTree num more image
  stands_more image stands = record {
    root = stands.root;
    once = stands.once;
    within = stands.within;
    named = λ directory name child row. stands.named directory name child (sym (row_more tree more sound has directory name) ∙ row);
    each = λ node i number. shows_more node i (image.seen i) number (stands.each node i number);
    rest = stands.rest;
    apart = stands.apart;
  }
