use Rattle.std.proofs.Common.{◌≡◌, map, option_map, take}
use Rattle.sfs_tree.specs.Nodes.{node_of}
use Rattle.sfs_tree.proofs.nodes.Nodes.copy.Given as goal

abbrev pub invariant-loop-place : goal.invariant-loop-place
invariant-loop-place l = map (option_map node_of) l.places.items ≡ map (option_map node_of) (take l.place-index l.place-items)
