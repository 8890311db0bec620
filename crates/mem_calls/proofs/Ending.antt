-- The directory that a row names, by the bucket that a core holds, and what its removal answers.
use Rattle.std.proofs.Common.{◌≡◌, ◌≢◌, ◌<◌, ◌≤◌, ◌+◌, ◌*◌, ℕ, Bool, true, false, not, nat_eq, List, ◌∷◌, length, Option, Some, None, IsSome, refl, sym, ap, subst, ◌∙◌, arith, ⊎_elim}
use borrow.Author.Tests.{eqb-true}
use Rattle.std.proofs.lemmas.Bool.{cases_Bool}
use Rattle.std.specs.Prelude.{is_some, IfSome, if◌then◌else◌}
use Rattle.std.specs.Option.{option_map_or}
use Rattle.std.specs.FinMap.{get}
use Rattle.sfs_base.specs.Name.{bucket}
use Rattle.sfs_base.specs.declared.numbers.NodeId.{NodeId}
use Rattle.tree_laws.specs.NameRow.{number_of}
use Rattle.tree_laws.specs.declared.call.Call.TheVariants as call
use Rattle.tree_laws.specs.declared.reply.Code.TheVariants.{NoEntry, NotDir, NotEmpty}
use Rattle.tree_laws.specs.Tree.{TreeState, row_of, is_directory, row_count}
use Rattle.tree_laws.specs.Sound.{IsSound, below}
use Rattle.tree_laws.specs.Effect.{Removes}
use Rattle.tree_laws.specs.Verdict.{verdict, refused, done, or_else, directory_fault, rmdir_row}
use Rattle.tree_laws.proofs.Walks.{above_same}
use Rattle.tree_laws.proofs.Joined.{bucket_small}
use Rattle.stamp_table.specs.Ascending.{LiesAbove}
use Rattle.stamp_table.specs.declared.held.HeldCell.{HeldCell}
use Rattle.mem_values.specs.Start.{FileHand}
use Rattle.mem_values.specs.declared.cell.Cell.{Cell}
use Rattle.mem_values.specs.declared.bucket.Bucket.{Bucket}
use Rattle.mem_values.specs.declared.cell_id.CellId.TheVariants as id
use Rattle.mem_values.specs.Places.{node_count}
use Rattle.mem_values.specs.Stands.{ShowsBucket, if_directory}
use Rattle.mem_values.specs.Laws.{MayMeet}
use Rattle.mem_values.proofs.Basics.{is_value, some_of}
use Rattle.mem_values.proofs.Places.{node_again}
use Rattle.mem_calls.specs.Held.{bucket_held, is_standing, stands_held, HoldsDirectory, CanMeet}
use Rattle.mem_calls.specs.Working.{StillHolds, Gains}
use Rattle.mem_calls.specs.Sums.{HoldsBuckets}
use Rattle.mem_calls.specs.Ends.{NamesDirectory, HoldsNamedBuckets, HoldsEnding}
use Rattle.mem_calls.proofs.Shown.{name_shows}
use Rattle.mem_calls.proofs.NamedRows.{row_in, directory_in}
use Rattle.mem_calls.proofs.Faults.{same_count, node_within}
use Rattle.mem_calls.proofs.HeldKinds.{still_bucket, still_directory}
use Rattle.mem_calls.proofs.Statuses.{still_buckets}

-- no directory has a row that names itself
pub not_itself : (tree : TreeState) → IsSound tree → (directory : ℕ) (name : List ℕ) → row_of tree directory name ≡ Some directory
    → is_directory tree directory ≡ true → ⊥
not_itself tree s directory name row kind =
    let way = s.climbs directory name directory row kind in
    let longer : way.0 ≡ directory ∷ way.0 = above_same tree s way.1 (below directory directory name way.0 row way.1) kind in
    let same = ap (λ (l : List ℕ). length l) longer in
    omega (arith, same)

-- what a bucket names as a directory is one
module _ (tree : TreeState) (directory : ℕ) (name : List ℕ) (b : Bucket) (shows : ShowsBucket tree directory (bucket name) b) where
  pub directory_row : (child : ℕ) → get b.directories name ≡ Some child → (row_of tree directory name ≡ Some child) × (is_directory tree child ≡ true)
  directory_row child named =
      let both = by (get b.rows name) (sym (shows.directories name ∙ ap (λ m. if_directory tree (get m name)) (sym shows.rows)) ∙ named) in
      (row_in tree directory name b shows ∙ both.0, both.1)
    where
      by : (o : Option ℕ) → if_directory tree o ≡ Some child → (o ≡ Some child) × (is_directory tree child ≡ true)
      by None is = absurd (cc (is))
      by (Some x) is = kind (is_directory tree x) refl is
        where
          kind : (d : Bool) → is_directory tree x ≡ d → (if d then Some x else None) ≡ Some child → (Some x ≡ Some child) × (is_directory tree child ≡ true)
          kind true here is = let same : x ≡ child = cc (is) in (is, ap (is_directory tree) (sym same) ∙ here)
          kind false here is = absurd (cc (is))

module _ (nodes : ℕ) (held : List (HeldCell Cell)) (dir : NodeId) (name : List ℕ) where
  pub names_if : (o : Option NodeId) (b : Bucket) → dir.0 < nodes → bucket_held nodes held dir (bucket name) ≡ Some b → is_standing dir b ≡ true
      → number_of o ≡ get b.directories name
      → IfSome o (λ child. NamesDirectory nodes held dir (bucket name) name child)
  names_if None b within is stands row = tt
  names_if (Some child) b within is stands row = record { within = within; bucket = b; held_is = is; stands = stands; row = sym row }

  -- a row names one directory
  pub one_directory : (a b : NodeId) → NamesDirectory nodes held dir (bucket name) name a → NamesDirectory nodes held dir (bucket name) name b → a ≡ b
  one_directory a b one two =
      let same : one.bucket ≡ two.bucket = cc (sym one.held_is ∙ two.held_is) in
      node_again a b (cc (sym one.row ∙ (ap (λ (x : Bucket). get x.directories name) same ∙ two.row)))

  pub standing_held : (child : NodeId) → NamesDirectory nodes held dir (bucket name) name child → stands_held nodes held dir (bucket name) ≡ true
  standing_held child names = ap (λ o. option_map_or (is_standing dir) o false) names.held_is ∙ names.stands

  pub standing_directory : (child : NodeId) → NamesDirectory nodes held dir (bucket name) name child → HoldsDirectory nodes held dir (bucket name)
  standing_directory child names = record {
    bucket = λ within. some_of (bucket_held nodes held dir (bucket name)) names.bucket names.held_is;
    file = λ within falls. let never : true ≡ false = sym (standing_held child names) ∙ falls in absurd (cc (never));
  }

-- what a row names in each tree that a core may meet
pub named_row : (hand : FileHand) (nodes : ℕ) (dir : NodeId) (name : List ℕ) (child : NodeId) (tree : TreeState) → nodes ≡ node_count hand.view.first
    → NamesDirectory nodes hand.held dir (bucket name) name child → MayMeet hand.view hand.held tree
    → (row_of tree dir.0 name ≡ Some child.0) × (is_directory tree child.0 ≡ true)
named_row hand nodes dir name child tree counted names meets =
    directory_row tree dir.0 name names.bucket
    (name_shows hand nodes counted tree meets dir name (bucket name) names.bucket names.within refl names.held_is) child.0 names.row

-- the child of a row is a node, and not the directory that has the row
module _ (hand : FileHand) (nodes : ℕ) (dir : NodeId) (name : List ℕ) (counted : nodes ≡ node_count hand.view.first) (met : CanMeet hand) where
  pub child_within : (child : NodeId) → NamesDirectory nodes hand.held dir (bucket name) name child → child.0 < nodes
  child_within child names =
      let row = (named_row hand nodes dir name child met.0 counted names met.1).0 in
      let lt = node_within met.0 met.1.sound child.0 (met.1.sound.sound.node dir.0 name child.0 row) in
      let same = same_count hand met.0 met.1 in
      omega (arith, counted, lt, same)

  pub child_apart : (child : NodeId) → NamesDirectory nodes hand.held dir (bucket name) name child → child.0 ≢ dir.0
  child_apart child names same =
      let row = named_row hand nodes dir name child met.0 counted names met.1 in
      not_itself met.0 met.1.sound.sound dir.0 name (row.0 ∙ ap Some same) (ap (is_directory met.0) (sym same) ∙ row.1)

  pub within_if : (o : Option NodeId) → IfSome o (λ child. NamesDirectory nodes hand.held dir (bucket name) name child) → IfSome o (λ child. child.0 < nodes)
  within_if None names = tt
  within_if (Some child) names = child_within child names

  pub apart_if : (o : Option NodeId) → IfSome o (λ child. NamesDirectory nodes hand.held dir (bucket name) name child) → IfSome o (λ child. child.0 ≢ dir.0)
  apart_if None names = tt
  apart_if (Some child) names = child_apart child names

module _ (nodes : ℕ) (dir : NodeId) (name : List ℕ) (before after : FileHand) where
  -- what a row names still is what it named
  pub names_back : (child : NodeId) → StillHolds nodes before after → HoldsDirectory nodes before.held dir (bucket name)
      → NamesDirectory nodes after.held dir (bucket name) name child → NamesDirectory nodes before.held dir (bucket name) name child
  names_back child still holds names =
      let b = is_value (bucket_held nodes before.held dir (bucket name)) (holds.bucket names.within) in
      let same : names.bucket ≡ b.0 = cc (sym names.held_is ∙ still_bucket nodes before after dir (bucket name) b.0 still b.1) in
      record {
        within = names.within;
        bucket = b.0;
        held_is = b.1;
        stands = ap (is_standing dir) (sym same) ∙ names.stands;
        row = ap (λ (x : Bucket). get x.directories name) (sym same) ∙ names.row;
      }

  pub still_named : StillHolds nodes before after → HoldsDirectory nodes before.held dir (bucket name) → HoldsNamedBuckets nodes before.held dir name
      → HoldsNamedBuckets nodes after.held dir name
  still_named still holds named child names =
      let old = named child (names_back child still holds names) in
      (old.0, still_buckets nodes before after child still old.1)

  -- the directory that ends lies above its place
  pub ending_above : (child : NodeId) → HoldsDirectory nodes before.held dir (bucket name) → NamesDirectory nodes before.held dir (bucket name) name child
      → child.0 < nodes → StillHolds nodes before after → HoldsBuckets nodes after.held child
      → LiesAbove (32 + 10 * nodes) after.view.held → length after.held ≤ 10 → HoldsEnding nodes dir name after
  ending_above child holds names within still buckets low few = record {
    directory = still_directory nodes before after dir (bucket name) still holds;
    child = λ other named. subst (λ x. (x.0 < nodes) × HoldsBuckets nodes after.held x)
        (one_directory nodes before.held dir name child other names (names_back other still holds named)) (within, buckets);
    below = low;
    few = few;
  }

  -- it lies below its place
  pub ending_below : (child other : NodeId) → HoldsBuckets nodes before.held child → child.0 < nodes → length before.held ≤ 8
      → Gains nodes (id.Bucket dir (bucket name)) before after → NamesDirectory nodes after.held dir (bucket name) name other → other.0 ≡ child.0
      → HoldsEnding nodes dir name after
  ending_below child other buckets within few gains names same_number = record {
    directory = standing_directory nodes after.held dir name other names;
    child = λ third named. subst (λ x. (x.0 < nodes) × HoldsBuckets nodes after.held x)
        (sym (node_again other child same_number) ∙ one_directory nodes after.held dir name other third names named)
        (within, still_buckets nodes before after child gains.still buckets);
    below = subst (LiesAbove (32 + 10 * nodes)) (sym gains.top) (low (bucket name) (bucket_small name) names.within);
    few = let on = gains.on.room in let room = gains.room in omega (arith, few, on, room);
  }
    where
      low : (b : ℕ) → b < 8 → dir.0 < nodes → 16 + 9 * dir.0 + b < 32 + 10 * nodes
      low b lt node = omega (arith, lt, node)

-- what a removal of a directory answers
module _ (tree : TreeState) (core : ℕ) (dir : NodeId) (name : List ℕ) (b : Bucket) (shows : ShowsBucket tree dir.0 (bucket name) b)
    (fault : directory_fault tree dir.0 ≡ None) where
  answer : (row : Option ℕ) → row_of tree dir.0 name ≡ row → verdict tree core (call.Rmdir dir name) ≡ rmdir_row tree dir.0 name row
  answer row is = ap (λ f. or_else f (rmdir_row tree dir.0 name (row_of tree dir.0 name))) fault ∙ ap (rmdir_row tree dir.0 name) is

  pub rmdir_missed : get b.rows name ≡ None → verdict tree core (call.Rmdir dir name) ≡ refused NoEntry
  rmdir_missed row = answer None (row_in tree dir.0 name b shows ∙ row)

  pub rmdir_file : IsSome (get b.rows name) → get b.directories name ≡ None → verdict tree core (call.Rmdir dir name) ≡ refused NotDir
  rmdir_file some none =
      let child = is_value (get b.rows name) some in
      answer (Some child.0) (row_in tree dir.0 name b shows ∙ child.1)
      ∙ ap (λ d. if not d then refused NotDir else if not (nat_eq (row_count tree child.0) 0) then refused NotEmpty else done (Removes dir.0 name child.0))
      (sym (directory_in tree dir.0 name b shows child.0 child.1) ∙ ap is_some none)

  found : (child : ℕ) → get b.directories name ≡ Some child
      → verdict tree core (call.Rmdir dir name) ≡ (if not (nat_eq (row_count tree child) 0) then refused NotEmpty else done (Removes dir.0 name child))
  found child named =
      let row = directory_row tree dir.0 name b shows child named in
      answer (Some child) row.0 ∙ ap
      (λ d. if not d then refused NotDir else if not (nat_eq (row_count tree child) 0) then refused NotEmpty else done (Removes dir.0 name child)) row.1

  pub rmdir_full : (child : ℕ) → get b.directories name ≡ Some child → 0 < row_count tree child → verdict tree core (call.Rmdir dir name) ≡ refused NotEmpty
  rmdir_full child named some = found child named ∙ ap (λ b. if not b then refused NotEmpty else done (Removes dir.0 name child)) not_none
    where
      not_none : nat_eq (row_count tree child) 0 ≡ false
      not_none = ⊎_elim (λ yes. let none = eqb-true (row_count tree child) 0 yes in absurd (omega (arith, some, none))) (λ no. no)
          (cases_Bool (nat_eq (row_count tree child) 0))

  pub rmdir_empty : (child : ℕ) → get b.directories name ≡ Some child → row_count tree child ≡ 0
      → verdict tree core (call.Rmdir dir name) ≡ done (Removes dir.0 name child)
  rmdir_empty child named none = found child named ∙ ap (λ n. if not (nat_eq n 0) then refused NotEmpty else done (Removes dir.0 name child)) none
