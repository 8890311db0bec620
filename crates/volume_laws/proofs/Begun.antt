-- What was mounted begins a volume.
use Rattle.std.proofs.Common.{◌≡◌, ◌≢◌, ℕ, ◌*◌, ◌<◌, ◌≤◌, Bool, true, false, cond, List, [], length, Option, Some, None, is_some, inl, inr, refl, sym, ap, subst, ◌∙◌, arith, nat_eq, nat_lt}
use Rattle.std.specs.Prelude.{◌⊎◌, ◌↔◌, ◌&&◌, ◌||◌, not}
use Rattle.std.specs.FinMap.{get, empty}
use Rattle.std.specs.List.{range_with_len}
use Rattle.std.specs.Option.{option_map_or}
use Rattle.std.proofs.lemmas.Bool.{cond-true, cond-false, cases_Bool, cases_lt, lt-ltb, eqb-true, eqb-false, eq-eqb, ne_eqb}
use Rattle.sfs_base.proofs.BasicOptions.{none_some, some_same}
use Rattle.sfs_base.proofs.BasicTruth.{true_not_false, and_first, and_second}
use Rattle.sfs_base.specs.declared.numbers.Kind.TheVariants.{File, Directory}
use Rattle.sfs_image.specs.Seen.{SeenInodes, FILE_BLOCKS}
use Rattle.sfs_image.specs.Slot.{kind_byte}
use Rattle.tree_laws.specs.Tree.{TreeState, Node, is_alive, is_directory}
use Rattle.tree_laws.proofs.RowFacts.{root_alive, named_alive, named_or_none}
use Rattle.image_laws.specs.ImageTree.{Making, is_used, node_shown, tree_with_orphans}
use Rattle.image_laws.specs.Mount.{StandsByItself, own_numbers}
use Rattle.image_laws.specs.Renamed.{Numbering, IsMet, root, named}
use Rattle.image_laws.specs.Stands.{BLOCK_BYTES, own_size}
use Rattle.image_laws.proofs.Images.{get_node, no_node_outside}
use Rattle.image_laws.proofs.Standing.{not_used}
use Rattle.cut_laws.specs.LawsInodes.{AreAllAlive}
use Rattle.raise_laws.specs.Next.{NumbersInodes}
use Rattle.mark_laws.specs.Changed.{HasShortFiles}

-- what inodes show, with the nodes of their own tree
module _ (image : SeenInodes) (making : Making) where
  abbrev tree : TreeState
  tree = tree_with_orphans image making

  abbrev num : Numbering
  num = own_numbers image

  -- An inode that is numbered: it is one of the image's and in use, and its number is its own.
  pub record IsNumberedInode (node i : ℕ) : Type 0 where
    pub low : node < image.count
    pub used : is_used image node ≡ true
    pub same : i ≡ node

  pub numbered : (node i : ℕ) → num node ≡ Some i → IsNumberedInode node i
  numbered node i has = by (nat_lt node image.count && is_used image node) refl has
    where
      by : (b : Bool) → (nat_lt node image.count && is_used image node) ≡ b → cond b (Some node) None ≡ Some i → IsNumberedInode node i
      by false e number = absurd (none_some number)
      by true e number = record {
        low = Rattle.std.proofs.lemmas.Bool.ltb-true node image.count (and_first (nat_lt node image.count) (is_used image node) e);
        used = and_second (nat_lt node image.count) (is_used image node) e;
        same = sym (some_same number);
      }

  pub number_of : (node : ℕ) → node < image.count → is_used image node ≡ true → num node ≡ Some node
  number_of node low used = ap (λ b. cond (b && is_used image node) (Some node) None) (lt-ltb node image.count low) ∙ ap (λ b. cond b (Some node) None) used

  -- a node of the tree is an inode in use
  node_used : (node : ℕ) → is_some (get tree.nodes node) ≡ true → (node < image.count) × (is_used image node ≡ true)
  node_used node some = elim (cases_lt node image.count) [
    | inr past ↦ absurd (true_not_false (sym some ∙ ap is_some (no_node_outside image (is_used image) node past)))
    | inl low ↦ (low, by (is_used image node) (sym (ap is_some (get_node image (is_used image) node low)) ∙ some))
  ]
    where
      by : (b : Bool) → is_some (cond b (Some (node_shown (image.seen node))) None) ≡ true → b ≡ true
      by true e = refl
      by false e = e

  pub node_there : (node i : ℕ) → num node ≡ Some i → is_some (get tree.nodes node) ≡ true
  node_there node i has =
      let is = numbered node i has in
      ap is_some (get_node image (is_used image) node is.low) ∙ ap (λ b. is_some (cond b (Some (node_shown (image.seen node))) None)) is.used

  module _ (itself_is : StandsByItself image making) (kinds : Rattle.image_laws.specs.Mount.ShowsByKind image)
      (none_left : Rattle.image_laws.specs.Mount.HasNoOrphans image) where
    pub numbers_inodes : NumbersInodes num (λ node. is_some (get tree.nodes node))
    numbers_inodes = record {
      root = itself_is.stands.root;
      each = λ node. (
        (λ some. let is = node_used node some in (node, number_of node is.0 is.1)),
        (λ has. node_there node has.0 has.1),
      );
    }

    used_kind : (node : ℕ) → is_used image node ≡ true → (image.seen node).kind ≢ 0
    used_kind node used free = true_not_false (sym used ∙ ap not (eq-eqb (image.seen node).kind 0 free))

    pub all_alive : AreAllAlive tree
    all_alive node some = elim (kinds.kinds node is.0 (used_kind node is.1)) [
      | inl file ↦ elim (named_or_none tree.rows node) [
        | inl row ↦ named_alive tree node row
        | inr nameless ↦ absurd (none_left node is.0 file nameless)
      ]
      | inr directory ↦ met node (itself_is.storable.placed node node (number_of node is.0 is.1) (is_directory_node directory))
    ]
      where
        is : (node < image.count) × (is_used image node ≡ true)
        is = node_used node some

        is_directory_node : (image.seen node).kind ≡ kind_byte Directory → is_directory tree node ≡ true
        is_directory_node directory =
            Rattle.image_laws.proofs.Images.directory_where image (is_used image) making
            (λ i kind. ap (λ n. not (nat_eq n 0)) kind) node is.0
            ∙ eq-eqb (image.seen node).kind (kind_byte Directory) directory

        met : (x : ℕ) → IsMet tree x → is_alive tree x ≡ true
        met _ root = root_alive tree 0 refl
        met _ (named directory name x row) = named_alive tree x (record { directory = directory; name = name; row = row })

    -- no file has more bytes than its blocks
    pub short_files : ((i : ℕ) → i < image.count → (image.seen i).kind ≡ kind_byte File → (image.seen i).size ≤ BLOCK_BYTES * FILE_BLOCKS)
        → HasShortFiles tree
    short_files sizes node = elim (cases_Bool (is_some (get tree.nodes node))) [
      | inr absent ↦ subst (λ (bytes : List ℕ). length bytes ≤ BLOCK_BYTES * FILE_BLOCKS) (sym (no_bytes (get tree.nodes node) absent)) (omega arith)
      | inl some ↦
          let is = node_used node some in
          let shows = itself_is.stands.each node node (number_of node is.0 is.1) in
          subst (λ (bytes : List ℕ). length bytes ≤ BLOCK_BYTES * FILE_BLOCKS) shows.bytes (of_kind is.0 (kinds.kinds node is.0 (used_kind node is.1)))
    ]
      where
        no_bytes : (o : Option Node) → is_some o ≡ false → option_map_or (λ (n : Node). n.bytes) o [] ≡ []
        no_bytes None e = refl
        no_bytes (Some n) e = absurd (true_not_false e)

        of_kind : node < image.count → ((image.seen node).kind ≡ kind_byte File) ⊎ ((image.seen node).kind ≡ kind_byte Directory)
            → length (image.seen node).bytes ≤ BLOCK_BYTES * FILE_BLOCKS
        of_kind low (inr directory) =
            subst (λ (bytes : List ℕ). length bytes ≤ BLOCK_BYTES * FILE_BLOCKS) (sym (kinds.directories node low directory)) (omega arith)
        of_kind low (inl file) =
            let size = kinds.sizes node low (λ free. not_used File (sym file ∙ free)) in
            let own : own_size (image.seen node) ≡ length (image.seen node).bytes =
            ap (λ k. cond (nat_eq k (kind_byte Directory))
            (BLOCK_BYTES * (Rattle.std.specs.Prelude.◌/◌ (length (image.seen node).slots) Rattle.image_laws.specs.Slots.BLOCK_SLOTS))
            (length (image.seen node).bytes)) file in
            subst (λ (n : ℕ). n ≤ BLOCK_BYTES * FILE_BLOCKS) (size ∙ own) (sizes node low file)
