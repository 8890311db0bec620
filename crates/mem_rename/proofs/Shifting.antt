-- What changes of a bucket and of a file is what a rename leaves in them.
use Rattle.std.proofs.Common.{◌≡◌, ℕ, ◌+◌, ◌<◌, Bool, true, false, cond, not, ◌&&◌, nat_eq, Option, Some, None, option_map, refl, sym, ap, ◌∙◌, arith}
use borrow.Author.Tests.{eqb-true}
use Rattle.std.specs.FinMap.{insert, remove}
use Rattle.sfs_base.proofs.BasicTruth.{and_first}
use Rattle.sfs_base.specs.Name.{bucket as name_bucket}
use Rattle.sfs_base.specs.declared.numbers.NodeId.{NodeId}
use Rattle.tree_laws.specs.NameRow.{number_of}
use Rattle.tree_laws.specs.Logged.{numbered_node}
use Rattle.tree_laws.specs.Parts.{is_this}
use Rattle.mem_values.specs.declared.cell.FileCell.{FileCell}
use Rattle.mem_values.specs.declared.bucket.Bucket.{Bucket}
use Rattle.mem_rename.specs.declared.sides.Move.{Move}
use Rattle.mem_rename.specs.declared.plans.Plan.{Plan}
use Rattle.mem_rename.specs.Sights.{Sight, there_seen, moves_directory, meets_directory, goes_between}
use Rattle.mem_rename.specs.After.{rows_moved, directories_moved, IsMovedBucket, IsMovedFile}
use Rattle.mem_rename.specs.Moving.{with_row, without_row, standing, less_one, at_bucket, in_buckets_of, at_file, bucket_moved}
use Rattle.mem_rename.proofs.RowsBack.{come_then_go}

-- What a plan has where a child moves.
pub record PlansMove (seen : Sight) (move : Move) (plan : Plan) (child : NodeId) : Type 0 where
  pub comes : plan.comes ≡ cond (goes_between seen move) (Some child) None
  pub directory : plan.directory ≡ cond (meets_directory seen move) (option_map numbered_node (there_seen seen move)) None
  pub file : plan.file ≡ cond (meets_directory seen move) None (option_map numbered_node (there_seen seen move))
  pub apart : move.directory.0 ≡ move.to_directory.0 → move.to_name ≡ move.name → ⊥

module _ (s : Option NodeId) (at : NodeId) (n : ℕ) (b : Bucket) where
  rows_if : (c : Bool) → (cond c (standing s b) b).rows ≡ b.rows
  rows_if true = refl
  rows_if false = refl

  directories_if : (c : Bool) → (cond c (standing s b) b).directories ≡ b.directories
  directories_if true = refl
  directories_if false = refl

  in_rows : (o : Option NodeId) → (in_buckets_of o (standing s) at n b).rows ≡ b.rows
  in_rows None = refl
  in_rows (Some node) = rows_if (nat_eq node.0 at.0)

  in_directories : (o : Option NodeId) → (in_buckets_of o (standing s) at n b).directories ≡ b.directories
  in_directories None = refl
  in_directories (Some node) = directories_if (nat_eq node.0 at.0)

module _ (move : Move) (child : NodeId) (at : NodeId) (n : ℕ) (b : Bucket) where
  abbrev comes_here : Bool
  comes_here = nat_eq move.to_directory.0 at.0 && nat_eq (name_bucket move.to_name) n

  abbrev goes_here : Bool
  goes_here = nat_eq move.directory.0 at.0 && nat_eq (name_bucket move.name) n

  abbrev rowed : Bool → Bool → Bool → Bucket
  rowed moves a g = cond g (without_row move.name (cond a (with_row moves move.to_name child.0 b) b)) (cond a (with_row moves move.to_name child.0 b) b)

  module _ (apart : move.directory.0 ≡ move.to_directory.0 → move.to_name ≡ move.name → ⊥) where
    names_apart : comes_here ≡ true → goes_here ≡ true → move.to_name ≡ move.name → ⊥
    names_apart a g same = apart (eqb-true _ _ (and_first _ _ g) ∙ sym (eqb-true _ _ (and_first _ _ a))) same

    by_rows : (moves a g : Bool) → comes_here ≡ a → goes_here ≡ g
        → (rowed moves a g).rows ≡ cond a (insert (cond g (remove b.rows move.name) b.rows) move.to_name child.0) (cond g (remove b.rows move.name) b.rows)
    by_rows moves true true is_a is_g = come_then_go b.rows move.name move.to_name child.0 (names_apart is_a is_g)
    by_rows moves true false is_a is_g = refl
    by_rows moves false true is_a is_g = refl
    by_rows moves false false is_a is_g = refl

    by_directories : (moves a g : Bool) → comes_here ≡ a → goes_here ≡ g
        → (rowed moves a g).directories ≡ cond moves
        (cond a (insert (cond g (remove b.directories move.name) b.directories) move.to_name child.0)
        (cond g (remove b.directories move.name) b.directories)) (cond g (remove b.directories move.name) b.directories)
    by_directories true true true is_a is_g = come_then_go b.directories move.name move.to_name child.0 (names_apart is_a is_g)
    by_directories true true false is_a is_g = refl
    by_directories true false true is_a is_g = refl
    by_directories true false false is_a is_g = refl
    by_directories false true true is_a is_g = refl
    by_directories false true false is_a is_g = refl
    by_directories false false true is_a is_g = refl
    by_directories false false false is_a is_g = refl

    moved_rows : (moves : Bool) → (rowed moves comes_here goes_here).rows ≡ rows_moved move child.0 at.0 n b.rows
    moved_rows moves = by_rows moves comes_here goes_here refl refl

    moved_directories : (moves : Bool) → (rowed moves comes_here goes_here).directories ≡ directories_moved move moves child.0 at.0 n b.directories
    moved_directories true = by_directories true comes_here goes_here refl refl
    moved_directories false = by_directories false comes_here goes_here refl refl

  same_stands : (moves a g : Bool) → (rowed moves a g).stands ≡ b.stands
  same_stands moves true true = refl
  same_stands moves true false = refl
  same_stands moves false true = refl
  same_stands moves false false = refl

module _ (move : Move) (child : NodeId) (at : NodeId) (n : ℕ) (b : Bucket) where
  stands_if : (s : Option NodeId) (c : Bool) → number_of (cond c (standing s b) b).stands ≡ cond c (number_of s) (number_of b.stands)
  stands_if s true = refl
  stands_if s false = refl

  comes_stand : (between : Bool)
      → number_of (in_buckets_of (cond between (Some child) None) (standing (Some move.to_directory)) at n b).stands ≡ cond (between && nat_eq child.0 at.0)
      (Some move.to_directory.0) (number_of b.stands)
  comes_stand true = stands_if (Some move.to_directory) (nat_eq child.0 at.0)
  comes_stand false = refl

  gone_stand : (meets : Bool) (there : Option ℕ)
      → number_of (in_buckets_of (cond meets (option_map numbered_node there) None) (standing None) at n b).stands ≡ cond (meets && is_this at.0 there) None
      (number_of b.stands)
  gone_stand true None = refl
  gone_stand true (Some there) = stands_if None (nat_eq there at.0)
  gone_stand false there = refl

module _ (seen : Sight) (move : Move) (plan : Plan) (child : NodeId) (plans : PlansMove seen move plan child) where
  abbrev pub bucket_after : NodeId → ℕ → Bucket → Bucket
  bucket_after at n b = bucket_moved move plan at n
      (at_bucket move.to_directory (name_bucket move.to_name) (with_row (moves_directory seen move) move.to_name child.0) at n b)

  pub bucket_is_moved : (at : NodeId) (n : ℕ) (b : Bucket) → IsMovedBucket seen move child.0 at.0 n b (bucket_after at n b)
  bucket_is_moved at n b =
      let moves = moves_directory seen move in
      let inner : Bucket = rowed move child at n b moves (comes_here move child at n b) (goes_here move child at n b) in
      let mid : Bucket = in_buckets_of plan.directory (standing None) at n inner in
      record {
        rows = in_rows (Some move.to_directory) at n mid plan.comes ∙ (in_rows None at n inner plan.directory ∙ moved_rows move child at n b plans.apart moves);
        directories = in_directories (Some move.to_directory) at n mid plan.comes
            ∙ (in_directories None at n inner plan.directory ∙ moved_directories move child at n b plans.apart moves);
        stands = ap (λ o. number_of (in_buckets_of o (standing (Some move.to_directory)) at n mid).stands) plans.comes
            ∙ (comes_stand move child at n mid (goes_between seen move)
            ∙ ap (cond (goes_between seen move && nat_eq child.0 at.0) (Some move.to_directory.0))
            (ap (λ o. number_of (in_buckets_of o (standing None) at n inner).stands) plans.directory
            ∙ (gone_stand move child at n inner (meets_directory seen move) (there_seen seen move)
            ∙ ap (λ s. cond (meets_directory seen move && is_this at.0 (there_seen seen move)) None (number_of s))
            (same_stands move child at n b moves (comes_here move child at n b) (goes_here move child at n b)))));
      }

  less : (at : NodeId) (f : FileCell) (meets : Bool) (there : Option ℕ) → ((not meets && is_this at.0 there) ≡ true → 0 < f.links)
      → (at_file (cond meets None (option_map numbered_node there)) less_one at f).links + cond (not meets && is_this at.0 there) 1 0 ≡ f.links
  less at f true there some = omega arith
  less at f false None some = omega arith
  less at f false (Some there) some = by (nat_eq there at.0) some
    where
      by : (c : Bool) → (c ≡ true → 0 < f.links) → (cond c (less_one f) f).links + cond c 1 0 ≡ f.links
      by true some = let lt = some refl in omega (arith, lt)
      by false some = omega arith

  same_bytes : (at : NodeId) (f : FileCell) (o : Option NodeId) → (at_file o less_one at f).file ≡ f.file
  same_bytes at f None = refl
  same_bytes at f (Some node) = by (nat_eq node.0 at.0)
    where
      by : (c : Bool) → (cond c (less_one f) f).file ≡ f.file
      by true = refl
      by false = refl

  pub file_is_moved : (at : NodeId) (f : FileCell) → ((not (meets_directory seen move) && is_this at.0 (there_seen seen move)) ≡ true → 0 < f.links)
      → IsMovedFile seen move at.0 f (at_file plan.file less_one at f)
  file_is_moved at f some = record {
    links = ap (λ o. (at_file o less_one at f).links + cond (not (meets_directory seen move) && is_this at.0 (there_seen seen move)) 1 0) plans.file
        ∙ less at f (meets_directory seen move) (there_seen seen move) some;
    file = same_bytes at f plan.file;
  }
