-- The file that a row names, by the bucket that a core holds.
use Rattle.std.proofs.Common.{◌≡◌, ◌<◌, ◌≤◌, ◌+◌, ◌*◌, ℕ, true, false, List, length, Option, Some, None, IsSome, refl, sym, ap, subst, ◌∙◌, arith}
use Rattle.std.specs.Prelude.{is_some, IfSome}
use Rattle.std.specs.Option.{option_map_or}
use Rattle.std.specs.FinMap.{get}
use Rattle.sfs_base.specs.Name.{bucket}
use Rattle.sfs_base.specs.declared.numbers.NodeId.{NodeId}
use Rattle.tree_laws.specs.NameRow.{number_of}
use Rattle.tree_laws.proofs.Joined.{bucket_small}
use Rattle.stamp_table.specs.Ascending.{LiesAbove}
use Rattle.stamp_table.specs.declared.held.HeldCell.{HeldCell}
use Rattle.mem_values.specs.Start.{FileHand}
use Rattle.mem_values.specs.declared.cell.Cell.{Cell}
use Rattle.mem_values.specs.declared.bucket.Bucket.{Bucket}
use Rattle.mem_values.specs.declared.cell_id.CellId.TheVariants as id
use Rattle.mem_values.specs.Places.{node_count}
use Rattle.mem_values.proofs.Basics.{is_value, some_of}
use Rattle.mem_values.proofs.Places.{node_again}
use Rattle.mem_calls.specs.Held.{bucket_held, file_held, is_standing, stands_held, HoldsDirectory, CanMeet}
use Rattle.mem_calls.specs.Working.{StillHolds, Gains}
use Rattle.mem_calls.specs.Changes.{NamesFile, HoldsNamed}
use Rattle.mem_calls.proofs.Shown.{name_shows}
use Rattle.mem_calls.proofs.NamedRows.{row_in}
use Rattle.mem_calls.proofs.Faults.{same_count, node_within}
use Rattle.mem_calls.proofs.HeldKinds.{holds_file, still_bucket, still_file, still_directory}

module _ (nodes : ℕ) (held : List (HeldCell Cell)) (dir : NodeId) (name : List ℕ) where
  pub names_if : (o : Option NodeId) (b : Bucket) → dir.0 < nodes → bucket_held nodes held dir (bucket name) ≡ Some b → is_standing dir b ≡ true
      → number_of o ≡ get b.rows name → is_some (get b.directories name) ≡ false
      → IfSome o (λ child. NamesFile nodes held dir (bucket name) name child)
  names_if None b within is stands row file = tt
  names_if (Some child) b within is stands row file = record { within = within; bucket = b; held_is = is; stands = stands; row = sym row; file = file }

  -- a row names one file
  pub one_file : (a b : NodeId) → NamesFile nodes held dir (bucket name) name a → NamesFile nodes held dir (bucket name) name b → a ≡ b
  one_file a b one two =
      let same : one.bucket ≡ two.bucket = cc (sym one.held_is ∙ two.held_is) in
      node_again a b (cc (sym one.row ∙ (ap (λ (x : Bucket). get x.rows name) same ∙ two.row)))

  pub standing_held : (child : NodeId) → NamesFile nodes held dir (bucket name) name child → stands_held nodes held dir (bucket name) ≡ true
  standing_held child names = ap (λ o. option_map_or (is_standing dir) o false) names.held_is ∙ names.stands

  pub standing_directory : (child : NodeId) → NamesFile nodes held dir (bucket name) name child → HoldsDirectory nodes held dir (bucket name)
  standing_directory child names = record {
    bucket = λ within. some_of (bucket_held nodes held dir (bucket name)) names.bucket names.held_is;
    file = λ within falls. let never : true ≡ false = sym (standing_held child names) ∙ falls in absurd (cc (never));
  }

-- the child of a row is a node
pub child_within : (hand : FileHand) (nodes : ℕ) (dir : NodeId) (name : List ℕ) (o : Option NodeId) (b : Bucket) → nodes ≡ node_count hand.view.first
    → CanMeet hand → dir.0 < nodes → bucket_held nodes hand.held dir (bucket name) ≡ Some b
    → number_of o ≡ get b.rows name → IfSome o (λ child. child.0 < nodes)
child_within hand nodes dir name None b counted met within is row = tt
child_within hand nodes dir name (Some child) b counted met within is row =
    let shows = name_shows hand nodes counted met.0 met.1 dir name (bucket name) b within refl is in
    let there = met.1.sound.sound.node dir.0 name child.0 (row_in met.0 dir.0 name b shows ∙ sym row) in
    let lt = node_within met.0 met.1.sound child.0 there in
    let same = same_count hand met.0 met.1 in
    omega (arith, counted, lt, same)

module _ (nodes : ℕ) (dir : NodeId) (name : List ℕ) (before after : FileHand) where
  -- what a row names still is what it named
  pub names_back : (child : NodeId) → StillHolds nodes before after → HoldsDirectory nodes before.held dir (bucket name)
      → NamesFile nodes after.held dir (bucket name) name child → NamesFile nodes before.held dir (bucket name) name child
  names_back child still holds names =
      let b = is_value (bucket_held nodes before.held dir (bucket name)) (holds.bucket names.within) in
      let same : names.bucket ≡ b.0 = cc (sym names.held_is ∙ still_bucket nodes before after dir (bucket name) b.0 still b.1) in
      record {
        within = names.within;
        bucket = b.0;
        held_is = b.1;
        stands = ap (is_standing dir) (sym same) ∙ names.stands;
        row = ap (λ (x : Bucket). get x.rows name) (sym same) ∙ names.row;
        file = ap (λ (x : Bucket). is_some (get x.directories name)) (sym same) ∙ names.file;
      }

  -- the file lies above its place
  pub named_above : (child : NodeId) → HoldsDirectory nodes before.held dir (bucket name) → NamesFile nodes before.held dir (bucket name) name child
      → child.0 < nodes → length before.held ≤ 2 → Gains nodes (id.File child) before after → HoldsNamed nodes dir name after
  named_above child holds names within few gains = record {
    directory = still_directory nodes before after dir (bucket name) gains.still holds;
    file = λ other named.
        let same : child ≡ other = one_file nodes before.held dir name child other names (names_back other gains.still holds named) in
        subst (λ x. (x.0 < nodes) × IsSome (file_held nodes after.held x)) same (within, holds_file nodes before after child gains);
    below = subst (LiesAbove (32 + 10 * nodes)) (sym gains.top) (let lt : 24 + 9 * child.0 < 32 + 10 * nodes = omega (arith, within) in lt);
    few = let on = gains.on.room in let room = gains.room in omega (arith, few, on, room);
  }

  -- the file lies below its place
  pub named_below : (child other : NodeId) → IsSome (file_held nodes before.held child) → child.0 < nodes → length before.held ≤ 1
      → Gains nodes (id.Bucket dir (bucket name)) before after → NamesFile nodes after.held dir (bucket name) name other → other.0 ≡ child.0
      → HoldsNamed nodes dir name after
  named_below child other file within few gains names same_number = record {
    directory = standing_directory nodes after.held dir name other names;
    file = λ third named.
        let same : child ≡ third = sym (node_again other child same_number) ∙ one_file nodes after.held dir name other third names named in
        let f = is_value (file_held nodes before.held child) file in
        subst (λ x. (x.0 < nodes) × IsSome (file_held nodes after.held x)) same
        (within, some_of (file_held nodes after.held child) f.0 (still_file nodes before after child f.0 gains.still f.1));
    below = subst (LiesAbove (32 + 10 * nodes)) (sym gains.top) (low (bucket name) (bucket_small name) names.within);
    few = let on = gains.on.room in let room = gains.room in omega (arith, few, on, room);
  }
    where
      low : (b : ℕ) → b < 8 → dir.0 < nodes → 16 + 9 * dir.0 + b < 32 + 10 * nodes
      low b lt node = omega (arith, lt, node)
