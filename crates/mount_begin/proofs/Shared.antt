-- A tree with another share of new nodes for each core.
use Rattle.std.proofs.Common.{◌≡◌, ℕ, ◌<◌, ◌≤◌, List, [], ◌∷◌, length, replicate, Option, None, Some, cond, refl, sym, ap, ◌∙◌, arith, inl, inr}
use Rattle.std.specs.Prelude.{is_none, slice_index}
use Rattle.sfs_base.proofs.BasicOptions.{some_same}
use Rattle.tree_laws.specs.Sound.{Above, at_root, below, IsSound, IsWithinLimits}
use Rattle.tree_laws.specs.Tree.{TreeState}
use Rattle.image_laws.specs.Image.{ImageFault, fault_of, tree_of, image_inodes, making_at_mount}
use Rattle.image_laws.specs.ImageTree.{image_tree}
use Rattle.recovery.proofs.JudgedImage.{has_no_fault}

module _ (tree : TreeState) (share : ℕ) where
  abbrev shared : TreeState
  shared = record tree { share = share }

  above_shared : (node : ℕ) (above : List ℕ) → Above tree node above → Above shared node above
  above_shared _ _ at_root = at_root
  above_shared _ _ (below node holder name above row rest) = below node holder name above row (above_shared holder above rest)

  pub sound_shared : IsSound tree → IsSound shared
  sound_shared sound = record {
    root = sound.root;
    unnamed = sound.unnamed;
    node = sound.node;
    once = sound.once;
    holds = sound.holds;
    climbs = λ directory name child row kind. let up = sound.climbs directory name child row kind in (up.0, above_shared child up.0 up.1);
  }

  pub limits_shared : IsWithinLimits tree → IsWithinLimits shared
  limits_shared limits = record { buckets = limits.buckets; plain = limits.plain }

-- the tree of an image with another share
pub shared_tree_of : (image : List ℕ) (share : ℕ) (tree : TreeState) → tree_of image 0 ≡ Some tree → tree_of image share ≡ Some (record tree { share = share })
shared_tree_of image share tree is =
    let none = has_no_fault image 0 tree is in
    let first : Some (image_tree (image_inodes image) (making_at_mount image 0)) ≡ Some tree =
    sym (ap (λ (o : Option ImageFault). cond (is_none o) (Some (image_tree (image_inodes image) (making_at_mount image 0))) None) none) ∙ is in
    ap (λ (o : Option ImageFault). cond (is_none o) (Some (image_tree (image_inodes image) (making_at_mount image share))) None) none
    ∙ ap (λ (t : TreeState). Some (record t { share = share })) (some_same first)
