-- What a bucket and a file tell of the tree that their core has seen.
use Rattle.std.proofs.Common.{◌≡◌, ◌<◌, ◌≤◌, ℕ, zero, suc, Bool, true, false, cond, not, ◌||◌, nat_eq, [], length, Some, refl, sym, ap, subst, ◌∙◌, arith, ⊎_elim}
use Rattle.std.proofs.lemmas.Bool.{cases_Bool}
use Rattle.std.proofs.lemmas.Bool.Decides.{nat_tests}
use Rattle.std.proofs.lemmas.List.{take_all}
use Rattle.std.specs.FinMap.{len}
use Rattle.sfs_base.specs.declared.numbers.NodeId.{NodeId}
use Rattle.tree_laws.specs.History.{tree_after}
use Rattle.tree_laws.specs.Laws.{IsSoundTree}
use Rattle.tree_laws.specs.Sound.{IsWithinLimits}
use Rattle.tree_laws.specs.Tree.{BUCKET_ROWS, TreeState, bucket_rows, bytes_of, count_of, is_alive, is_directory}
use Rattle.tree_laws.proofs.Limits.{histories_stay_within}
use Rattle.tree_totals.specs.Totals.{LONGEST_FILE, live_bytes}
use Rattle.stamp_table.specs.Events.{calls_in}
use Rattle.mem_values.specs.Places.{node_count}
use Rattle.mem_values.specs.Stands.{file_links}
use Rattle.mem_values.specs.Start.{FileHand, FileState}
use Rattle.mem_values.specs.declared.bucket.Bucket.{Bucket}
use Rattle.mem_values.specs.declared.cell.FileCell.{FileCell}
use Rattle.mem_values.specs.declared.cell_id.CellId.{CellId}
use Rattle.mem_calls.specs.Held.{bucket_held, file_held}
use Rattle.mem_calls.specs.Table.{IsFileTable}
use Rattle.mem_calls.specs.Working.{Gains}
use Rattle.mem_calls.proofs.Faults.{linked_alive}
use Rattle.mem_calls.proofs.Shown.{bucket_shows, file_shows}
use Rattle.table_totals.specs.Seen.{HasNoLongFile, tree_seen}
use Rattle.table_totals.proofs.Short.{short_after}

module _ (t : FileState) (nodes : ℕ) (table : IsFileTable t nodes) (before hand : FileHand) (which : CellId) (gains : Gains nodes which before hand)
    (first_is : hand.view.first ≡ t.first) where
  counted : nodes ≡ node_count hand.view.first
  counted = table.counted ∙ sym (ap node_count first_is)

  sound_first : IsSoundTree hand.view.first
  sound_first = subst IsSoundTree (sym first_is) table.sound

  -- the tree that was seen is within its limits
  within : IsWithinLimits (tree_seen hand)
  within =
      let calls = calls_in hand.view.seen in
      subst (λ l. IsWithinLimits (tree_after hand.view.first l)) (take_all (length calls) calls (omega arith))
      (histories_stay_within hand.view.first calls (length calls) sound_first gains.legal (subst IsWithinLimits (sym first_is) table.within))

  short : HasNoLongFile t.first → HasNoLongFile (tree_seen hand)
  short none = short_after hand.view.first (calls_in hand.view.seen) sound_first gains.legal (subst HasNoLongFile (sym first_is) none)

  module _ (node : NodeId) (in_range : node.0 < nodes) where
    -- a bucket has the rows of its part of the directory
    pub bucket_counts : (number : ℕ) (bucket : Bucket) → number < 8 → bucket_held nodes hand.held node number ≡ Some bucket
        → len bucket.rows ≡ len (bucket_rows node.0 number (tree_seen hand).rows)
    bucket_counts number bucket eight is =
        ap len (bucket_shows hand nodes counted (tree_seen hand) gains.seen_met node number bucket in_range eight is).rows

    pub bucket_few : (number : ℕ) (bucket : Bucket) → number < 8 → bucket_held nodes hand.held node number ≡ Some bucket → len bucket.rows ≤ 4096
    bucket_few number bucket eight is =
        subst (λ n. n ≤ BUCKET_ROWS) (sym (bucket_counts number bucket eight is)) (within.buckets node.0 number)

    module _ (file : FileCell) (is : file_held nodes hand.held node ≡ Some file) where
      abbrev tree : TreeState
      tree = tree_seen hand

      links_are : file.links ≡ file_links tree node.0
      links_are = (file_shows hand nodes counted tree gains.seen_met node file in_range is).0

      bytes_are : file.file.bytes ≡ bytes_of tree node.0
      bytes_are = (file_shows hand nodes counted tree gains.seen_met node file in_range is).1

      -- a file that rows name is alive, and has its bytes
      pub linked_counts : 0 < file.links → length file.file.bytes ≡ live_bytes tree node.0
      linked_counts some =
          let links = links_are in
          let alive = linked_alive tree gains.seen_met.sound node.0 (omega (arith, links, some)) in
          ap length bytes_are ∙ sym (ap (λ b. cond b (length (bytes_of tree node.0)) 0) alive)

      pub linked_short : HasNoLongFile t.first → length file.file.bytes ≤ LONGEST_FILE
      linked_short none = subst (λ l. length l ≤ LONGEST_FILE) (sym bytes_are) (short none node.0)

      -- one that none names is a directory, which has no bytes, or not alive
      pub unlinked_counts : file.links ≡ 0 → live_bytes tree node.0 ≡ 0
      unlinked_counts none = ⊎_elim
          (λ (directory : is_directory tree node.0 ≡ true). by_bytes (is_alive tree node.0) (within.plain node.0 directory))
          (λ (other : is_directory tree node.0 ≡ false). ap (λ b. cond b (length (bytes_of tree node.0)) 0) (dead other))
          (cases_Bool (is_directory tree node.0))
        where
          by_bytes : (b : Bool) → bytes_of tree node.0 ≡ [] → cond b (length (bytes_of tree node.0)) 0 ≡ 0
          by_bytes true empty = ap length empty
          by_bytes false empty = refl

          not_root : is_directory tree node.0 ≡ false → nat_eq node.0 0 ≡ false
          not_root other = by node.0 other
            where
              by : (n : ℕ) → is_directory tree n ≡ false → nat_eq n 0 ≡ false
              by zero other = absurd (let never : true ≡ false = sym gains.seen_met.sound.sound.root ∙ other in cc (never))
              by (suc n) other = grind (arith, nat_tests)

          dead : is_directory tree node.0 ≡ false → is_alive tree node.0 ≡ false
          dead other =
              let counted : count_of tree.rows node.0 ≡ 0 = sym (ap (λ b. cond b 0 (count_of tree.rows node.0)) other) ∙ (sym links_are ∙ none) in
              let test : nat_eq (count_of tree.rows node.0) 0 ≡ true = ap (λ n. nat_eq n 0) counted in
              (λ i. not_root other i || not (test i))
