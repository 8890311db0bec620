-- What is said of a node, by the values that are held.
use Rattle.std.proofs.Common.{◌≡◌, ◌<◌, ◌≤◌, ◌+◌, ℕ, Bool, true, false, length, Some, None, sym, ap, ◌∙◌, arith}
use Rattle.std.specs.Prelude.{count_by, if◌then◌else◌, not}
use Rattle.std.specs.Option.{option_map_or}
use Rattle.std.specs.FinMap.{len, entries}
use Rattle.sfs_base.specs.declared.numbers.NodeId.{NodeId}
use Rattle.sfs_base.specs.declared.numbers.Kind.TheVariants.{File, Directory}
use Rattle.tree_laws.specs.declared.call.Call.TheVariants as call
use Rattle.tree_laws.specs.declared.reply.Reply.TheVariants as reply
use Rattle.tree_laws.specs.declared.reply.Code.TheVariants.{NoEntry}
use Rattle.tree_laws.specs.Tree.{TreeState, is_alive, is_directory, kind_of, kind_if, kind_again, links_of, row_count, holds_directory, bytes_of, bucket_rows, count_of}
use Rattle.tree_laws.specs.Verdict.{verdict, answered, refused, or_else, size_of}
use Rattle.tree_laws.proofs.Readings.{directory_by_kind}
use Rattle.mem_values.specs.Start.{FileHand}
use Rattle.mem_values.specs.declared.bucket.Bucket.{Bucket}
use Rattle.mem_values.specs.Places.{node_count}
use Rattle.mem_values.specs.Laws.{MayMeet}
use Rattle.mem_values.proofs.Basics.{is_value, some_of}
use Rattle.mem_calls.specs.Held.{bucket_held, is_standing, HoldsDirectory, CanMeet}
use Rattle.mem_calls.specs.Working.{StillHolds}
use Rattle.mem_calls.specs.Sums.{sum_until, rows_held, directories_held, HoldsBuckets, AreSmall, HoldsNode}
use Rattle.mem_calls.proofs.HeldKinds.{still_bucket, still_directory}
use Rattle.mem_calls.proofs.Shown.{bucket_shows}
use Rattle.mem_calls.proofs.Summed.{sum_same, rows_summed, directories_counted, directories_summed, fewer_directories}

module _ (nodes : ℕ) (before after : FileHand) (node : NodeId) (still : StillHolds nodes before after) where
  pub still_buckets : HoldsBuckets nodes before.held node → HoldsBuckets nodes after.held node
  still_buckets holds number lt = let b = is_value (bucket_held nodes before.held node number) (holds number lt) in
      some_of (bucket_held nodes after.held node number) b.0 (still_bucket nodes before after node number b.0 still b.1)

  pub still_node : HoldsNode nodes before.held node → HoldsNode nodes after.held node
  still_node holds = record {
    directory = still_directory nodes before after node 0 still holds.directory;
    buckets = λ within stands.
        let b = is_value (bucket_held nodes before.held node 0) (holds.directory.bucket within) in
        let same : bucket_held nodes before.held node 0 ≡ bucket_held nodes after.held node 0 = b.1
        ∙ sym (still_bucket nodes before after node 0 b.0 still b.1) in
        still_buckets (holds.buckets within (ap (λ o. option_map_or (is_standing node) o false) same ∙ stands));
  }

  -- the first bucket, by which the node stands, and the others
  pub all_buckets : HoldsDirectory nodes before.held node 0 → HoldsBuckets nodes after.held node → HoldsNode nodes after.held node
  all_buckets directory buckets = record { directory = still_directory nodes before after node 0 still directory; buckets = λ within stands. buckets }

module _ (hand : FileHand) (nodes : ℕ) (counted : nodes ≡ node_count hand.view.first) (node : NodeId) (within : node.0 < nodes) where
  -- no bucket that is held is larger than it may be
  pub small_buckets : CanMeet hand → AreSmall nodes hand.held node
  small_buckets met number b lt is =
      let shows = bucket_shows hand nodes counted met.0 met.1 node number b within lt is in
      let rows : len b.rows ≤ 4096 = (let few = met.2.buckets node.0 number in let same = ap len shows.rows in omega (arith, few, same)) in
      (rows, let fewer = fewer_directories met.0 node.0 number b shows in omega (arith, fewer, rows))

  module _ (tree : TreeState) (meets : MayMeet hand.view hand.held tree) (core : ℕ) where
    pub rows_are : HoldsBuckets nodes hand.held node → sum_until 8 (rows_held nodes hand.held node) ≡ row_count tree node.0
    rows_are holds = sum_same 8 (rows_held nodes hand.held node) (λ b. len (bucket_rows node.0 b tree.rows)) each ∙ sym (rows_summed tree node.0)
      where
        each : (number : ℕ) → number < 8 → rows_held nodes hand.held node number ≡ len (bucket_rows node.0 number tree.rows)
        each number lt =
            let b = is_value (bucket_held nodes hand.held node number) (holds number lt) in
            ap (λ o. option_map_or (λ (x : Bucket). len x.rows) o 0) b.1
            ∙ ap len (bucket_shows hand nodes counted tree meets node number b.0 within lt b.1).rows

    pub directories_are : HoldsBuckets nodes hand.held node
        → sum_until 8 (directories_held nodes hand.held node) ≡ count_by (holds_directory tree node.0) (entries tree.rows)
    directories_are holds = sym (directories_summed tree node.0 (directories_held nodes hand.held node) each)
      where
        each : (number : ℕ) → number < 8
            → directories_held nodes hand.held node number ≡ count_by
            (λ row. Rattle.std.specs.Prelude.◌&&◌ (holds_directory tree node.0 row)
            (Rattle.std.specs.Prelude.◌==◌ (Rattle.sfs_base.specs.Name.bucket row.0.1) number)) (entries tree.rows)
        each number lt =
            let b = is_value (bucket_held nodes hand.held node number) (holds number lt) in
            ap (λ o. option_map_or (λ (x : Bucket). len x.directories) o 0) b.1
            ∙ directories_counted tree node.0 number b.0 (bucket_shows hand nodes counted tree meets node number b.0 within lt b.1)

module _ (tree : TreeState) (core : ℕ) (node : NodeId) where
  pub stat_dead : is_alive tree node.0 ≡ false → verdict tree core (call.Stat node) ≡ refused NoEntry
  stat_dead dead = ap (λ b. or_else (if not b then Some NoEntry else None)
      (answered (reply.Stat (kind_of tree node.0) (links_of tree node.0) (size_of tree node.0)))) dead

  live : is_alive tree node.0 ≡ true
      → verdict tree core (call.Stat node) ≡ answered (reply.Stat (kind_of tree node.0) (links_of tree node.0) (size_of tree node.0))
  live alive = ap (λ b. or_else (if not b then Some NoEntry else None)
      (answered (reply.Stat (kind_of tree node.0) (links_of tree node.0) (size_of tree node.0)))) alive

  kind_is : (d : Bool) → is_directory tree node.0 ≡ d → kind_of tree node.0 ≡ kind_if d
  kind_is d is = sym (kind_again (kind_of tree node.0)) ∙ ap kind_if (sym (directory_by_kind tree node.0) ∙ is)

  pub stat_directory : (links size : ℕ) → is_alive tree node.0 ≡ true → is_directory tree node.0 ≡ true
      → links ≡ 2 + count_by (holds_directory tree node.0) (entries tree.rows) → size ≡ row_count tree node.0
      → verdict tree core (call.Stat node) ≡ answered (reply.Stat Directory links size)
  stat_directory links size alive kind links_is size_is = live alive
      ∙ (λ i. answered (reply.Stat (kind_is true kind i)
      ((ap (λ b. if b then 2 + count_by (holds_directory tree node.0) (entries tree.rows) else count_of tree.rows node.0) kind ∙ sym links_is) i)
      ((ap (λ b. if b then row_count tree node.0 else length (bytes_of tree node.0)) kind ∙ sym size_is) i)))

  pub stat_file : (links size : ℕ) → is_alive tree node.0 ≡ true → is_directory tree node.0 ≡ false → links ≡ count_of tree.rows node.0
      → size ≡ length (bytes_of tree node.0) → verdict tree core (call.Stat node) ≡ answered (reply.Stat File links size)
  stat_file links size alive kind links_is size_is = live alive
      ∙ (λ i. answered (reply.Stat (kind_is false kind i)
      ((ap (λ b. if b then 2 + count_by (holds_directory tree node.0) (entries tree.rows) else count_of tree.rows node.0) kind ∙ sym links_is) i)
      ((ap (λ b. if b then row_count tree node.0 else length (bytes_of tree node.0)) kind ∙ sym size_is) i)))
