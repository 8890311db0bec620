-- What is read of the cells that are held.
use Rattle.std.proofs.Common.{◌≡◌, ℕ, ◌<◌, Bool, true, false, ◌||◌, List, [], ◌∷◌, map, nat_eq, Option, Some, None, IsSome, refl, sym, ap, subst, ◌∙◌, nat_le}
use Rattle.std.specs.Prelude.{option_map, MatchOption}
use Rattle.std.specs.FinMap.{len}
use Rattle.std.specs.List.{list_any}
use Rattle.tree_laws.specs.NameRow.{node_number}
use Rattle.sfs_base.specs.Name.{bucket as name_bucket}
use Rattle.sfs_base.specs.declared.numbers.NodeId.{NodeId}
use Rattle.tree_laws.specs.Logged.{numbered_node}
use Rattle.tree_laws.specs.Tree.{BUCKET_ROWS}
use Rattle.mem_values.specs.Start.{FileHand}
use Rattle.mem_values.specs.declared.cell_id.CellId.TheVariants as id
use Rattle.mem_values.proofs.Basics.{some_of}
use Rattle.mem_calls.specs.Held.{bucket_held, file_held}
use Rattle.mem_rename.specs.declared.sides.Move.{Move}
use Rattle.mem_rename.specs.declared.plans.Plan.{Plan}
use Rattle.mem_rename.specs.declared.looking.Reads.{Reads}
use Rattle.mem_rename.specs.Sights.{Sight, child_seen, are_bare}
use Rattle.mem_rename.specs.Decisions.{look_seen, reads_of, is_at_or_below}
use Rattle.mem_rename.specs.Holding.{HoldsCells}
use Rattle.mem_rename.specs.Plans.{asked_cells}
use Rattle.mem_rename.specs.Ready.{bucket_or, links_if, buckets_held, is_at_or_in, is_among_nodes, sight_of}
use Rattle.mem_rename.proofs.Kept.{bucket_in}
use Rattle.mem_rename.proofs.Readies.{held_bucket, held_file, old_file_asked, new_file_asked, directory_asked}

module _ (nodes : ℕ) (hand : FileHand) (move : Move) (plan : Plan) (holds : HoldsCells nodes hand.held (asked_cells move plan)) where
  pub old_there : IsSome (bucket_held nodes hand.held move.directory (name_bucket move.name))
  old_there = let b = held_bucket nodes hand move.directory (name_bucket move.name)
      (holds (id.Bucket move.directory (name_bucket move.name)) (Rattle.std.proofs.Common.inl refl)) in some_of _ b.0 b.1

  pub new_there : IsSome (bucket_held nodes hand.held move.to_directory (name_bucket move.to_name))
  new_there = let b = held_bucket nodes hand move.to_directory (name_bucket move.to_name)
      (holds (id.Bucket move.to_directory (name_bucket move.to_name)) (Rattle.std.proofs.Common.inr (Rattle.std.proofs.Common.inl refl))) in some_of _ b.0 b.1

  pub old_file_there : plan.old_file ≡ true → IsSome (file_held nodes hand.held move.directory)
  old_file_there is = let f = held_file nodes hand move.directory (holds (id.File move.directory) (old_file_asked move plan is)) in some_of _ f.0 f.1

  pub new_file_there : plan.new_file ≡ true → IsSome (file_held nodes hand.held move.to_directory)
  new_file_there is = let f = held_file nodes hand move.to_directory (holds (id.File move.to_directory) (new_file_asked move plan is)) in some_of _ f.0 f.1

  pub eight_there : (directory : Option NodeId) → plan.directory ≡ directory
      → MatchOption directory Unit (λ n. (number : ℕ) → number < 8 → IsSome (bucket_held nodes hand.held n number))
  eight_there None is = tt
  eight_there (Some node) is = λ number lt. let b = held_bucket nodes hand node number
      (holds (id.Bucket node number) (directory_asked move plan node (id.Bucket node number) is (bucket_in node number lt))) in some_of _ b.0 b.1

-- whether the child is the new directory or above it
below_same : (move : Move) (above : List ℕ) (seen : Sight) (child : Option ℕ) → seen.above ≡ above
    → is_at_or_in (option_map numbered_node child) move.to_directory.0 above ≡ is_at_or_below seen move child
below_same move above seen None is = refl
below_same move above seen (Some child) is = ap (λ l. is_at_or_in (Some (numbered_node child)) move.to_directory.0 l) (sym is)

pub reads_same : (nodes : ℕ) (hand : FileHand) (move : Move) (plan : Plan) (above : List ℕ) (reads : Reads)
    → reads.old_links ≡ links_if plan.old_file (file_held nodes hand.held move.directory)
    → reads.new_links ≡ links_if plan.new_file (file_held nodes hand.held move.to_directory)
    → reads.full ≡ nat_le BUCKET_ROWS (len (bucket_or (bucket_held nodes hand.held move.to_directory (name_bucket move.to_name))).rows)
    → reads.bare ≡ are_bare (buckets_held nodes hand.held plan.directory)
    → reads.below ≡ is_at_or_in (look_seen (sight_of nodes hand.held move plan above) move).child move.to_directory.0 above
    → reads ≡ reads_of (sight_of nodes hand.held move plan above) move
reads_same nodes hand move plan above reads old new full bare below = λ i. record {
  old_links = old i;
  new_links = new i;
  full = full i;
  bare = bare i;
  below = (below ∙ below_same move above (sight_of nodes hand.held move plan above) (child_seen (sight_of nodes hand.held move plan above) move) refl) i;
}

-- a node is one of some by their numbers
pub listed_same : (node : ℕ) (nodes : List NodeId) → list_any (λ (y : NodeId). nat_eq y.0 node) nodes ≡ is_among_nodes node (map node_number nodes)
listed_same node [] = refl
listed_same node (x ∷ nodes) = ap (λ b. nat_eq x.0 node || b) (listed_same node nodes)
