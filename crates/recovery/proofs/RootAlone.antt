-- An image that is just made shows the root alone.
use Rattle.std.proofs.Common.{◌≡◌, ◌⊎◌, ℕ, ◌+◌, ◌*◌, ◌/◌, ◌<◌, ◌≤◌, true, false, cond, eqb, List, [], length, take, filter_map, flat_map, count_by, Option, None, Some, refl, sym, ap, subst, ◌∙◌, arith, inl, inr}
use Rattle.std.specs.Option.{option_map, option_map_or}
use Rattle.std.specs.Ordering.{nat_cmp}
use Rattle.std.specs.FinMap.{get, empty, entries, len, get-empty, len-empty, len-entries}
use Rattle.std.proofs.lemmas.Bool.{cases_eq, eq-eqb, eqb-true, ne_eqb}
use Rattle.std.proofs.lemmas.List.{nil_from_length}
use Rattle.sfs_base.proofs.BasicOptions.{none_some, some_same}
use Rattle.sfs_base.specs.Name.{bucket}
use Rattle.sfs_base.specs.declared.numbers.Kind.TheVariants.{File, Directory}
use Rattle.sfs_image.specs.ImageOf.{IsJustMade}
use Rattle.sfs_image.specs.Inode.{Inode}
use Rattle.sfs_image.specs.Laws.{ShowsRootAlone}
use Rattle.sfs_image.specs.Part.{Part, seen_of, tabulate, file_byte, shown_bytes, shown_slots}
use Rattle.sfs_image.specs.Settled.{parts_of, journal_fault_of}
use Rattle.sfs_image.specs.Slot.{Row, kind_byte}
use Rattle.sfs_image.specs.SlotBlock.{slots_of}
use Rattle.sfs_image.specs.Super.{Layout}
use Rattle.sfs_image.proofs.JustMadeLaws.{just_made_shows, has_none}
use Rattle.tree_laws.specs.Build.{root_alone}
use Rattle.tree_laws.specs.Laws.{IsSoundTree}
use Rattle.tree_laws.specs.Order.{Key, key_cmp}
use Rattle.tree_laws.specs.Tree.{BUCKET_ROWS, Node, TreeState, bucket_rows, count_of, holds_directory, name_row, kind_of, bytes_of, links_of, is_directory, is_directory_kind}
use Rattle.tree_laws.proofs.Names.{entries-names_where}
use Rattle.tree_laws.proofs.KeepsNodes.{node_cases}
use Rattle.tree_laws.proofs.SoundTrees.{root_alone_is_sound}
use Rattle.image_laws.specs.Image.{HasGoodBytes, HaveGoodBytes, inodes_shown, IsReadAsTree}
use Rattle.image_laws.specs.Renamed.{Numbering, IsMet}
use Rattle.image_laws.specs.Renamed.IsMet.{root as met_root}
use Rattle.image_laws.specs.Slots.{BLOCK_SLOTS, looked_up, name_count}
use Rattle.image_laws.specs.Stands.{BLOCK_BYTES, row_on, ShowsNode, StandsForSoundTree}
use Rattle.image_laws.proofs.WholeImages.{standing_images_are_read}
use Rattle.recovery.specs.Mkfs.{JustMadeHasRootAlone}

-- the root has its own number, and no other node has one
abbrev root_numbered : Numbering
root_numbered node = cond (eqb node 0) (Some 0) None

only_root : (node i : ℕ) → root_numbered node ≡ Some i → (node ≡ 0) × (i ≡ 0)
only_root node i has = elim (cases_eq node 0) [
  | inl here ↦ (here, sym (some_same (sym (ap (λ b. cond b (Some 0) None) (eq-eqb node 0 here)) ∙ has)))
  | inr other ↦ absurd (none_some (sym (ap (λ b. cond b (Some 0) None) (ne_eqb node 0 other)) ∙ has))
]

module _ (layout : Layout) (image : List ℕ) (is : IsJustMade layout image) (share : ℕ) where
  abbrev shows : ShowsRootAlone layout image
  shows = just_made_shows layout image is

  abbrev tree : TreeState
  tree = root_alone layout.inodes share layout.cores

  abbrev root_part : Part
  root_part = parts_of layout image 0

  -- the root's node
  abbrev root_node : Node
  root_node = record { kind = Directory; bytes = [] }

  node_at : (node : ℕ) → ((node ≡ 0) × (get tree.nodes node ≡ Some root_node)) ⊎ (get tree.nodes node ≡ None)
  node_at node = elim (node_cases empty 0 root_node node) [
    | inl here ↦ inl here
    | inr other ↦ inr (other.1 ∙ get-empty nat_cmp node)
  ]

  root_there : get tree.nodes 0 ≡ Some root_node
  root_there = elim (node_cases empty 0 root_node 0) [
    | inl here ↦ here.1
    | inr other ↦ absurd (other.0 refl)
  ]

  no_bytes : (node : ℕ) → bytes_of tree node ≡ []
  no_bytes node = elim (node_at node) [
    | inl here ↦ ap (λ (o : Option Node). option_map_or (λ n. n.bytes) o []) here.1
    | inr none ↦ ap (λ (o : Option Node). option_map_or (λ n. n.bytes) o []) none
  ]

  no_slots : shown_slots root_part ≡ []
  no_slots = ap (λ (inode : Inode). cond (eqb inode.kind 2) (flat_map slots_of (take (inode.size / 4096) root_part.blocks)) []) shows.root

  bytes_none : shown_bytes root_part ≡ []
  bytes_none = ap (λ (inode : Inode). cond (eqb inode.kind 1) (tabulate inode.size (file_byte root_part)) []) shows.root

  root_kind : kind_of tree 0 ≡ Directory
  root_kind = ap (λ (o : Option Node). option_map_or (λ n. n.kind) o File) root_there

  abbrev root_sound : IsSoundTree tree
  root_sound = root_alone_is_sound layout.inodes share layout.cores (let l = is.fits.ranges.inodes_low in omega (arith, l))

  no_rows : entries tree.rows ≡ []
  no_rows = nil_from_length (entries tree.rows) (sym (len-entries tree.rows) ∙ len-empty key_cmp ℕ)

  root_links : 2 ≡ links_of tree 0
  root_links =
      sym (ap (λ b. cond b (2 + count_by (holds_directory tree 0) (entries tree.rows)) (count_of tree.rows 0)) root_sound.sound.root
      ∙ ap (λ (rows : List (Key × ℕ)). 2 + count_by (holds_directory tree 0) rows) no_rows)

  few_rows : (directory number : ℕ) → len (bucket_rows directory number tree.rows) ≤ BUCKET_ROWS
  few_rows directory number =
      let none : len (bucket_rows directory number tree.rows) ≡ 0 =
      len-entries (bucket_rows directory number tree.rows) ∙ ap length (entries-names_where directory (λ name. eqb (bucket name) number) tree.rows
      ∙ ap (filter_map (name_row directory (λ name. eqb (bucket name) number))) no_rows) in
      omega (arith, none)

  root_shown : ShowsNode root_numbered tree 0 (seen_of root_part)
  root_shown = record {
    kind = ap (λ (inode : Inode). inode.kind) shows.root ∙ sym (ap kind_byte root_kind);
    links = ap (λ (inode : Inode). inode.links) shows.root ∙ root_links;
    size = ap (λ (inode : Inode). inode.size) shows.root
        ∙ sym
        (ap
        (λ (inode : Inode). cond (eqb inode.kind 2) (BLOCK_BYTES * (length (shown_slots root_part) / BLOCK_SLOTS)) (length (shown_bytes root_part)))
        shows.root
        ∙ ap (λ (l : List (Option Row)). BLOCK_BYTES * (length l / BLOCK_SLOTS)) no_slots);
    bytes = bytes_none ∙ sym (no_bytes 0);
    slots = λ name. ap (looked_up name) no_slots ∙ sym (ap (option_map (row_on root_numbered tree name)) (get-empty key_cmp (0, name)));
    once = λ name. subst (λ (l : List (Option Row)). name_count name l ≤ 1) (sym no_slots) (omega arith);
  }

  stands : StandsForSoundTree root_numbered tree (inodes_shown layout (parts_of layout image))
  stands = record {
    sound = root_sound.sound;
    storable = record {
      placed = λ node i has directory. subst (IsMet tree) (sym (only_root node i has).0) met_root;
      limits = record { buckets = few_rows; plain = λ node directory. no_bytes node };
    };
    stands = record {
      root = refl;
      once = λ node twin i has other. (only_root node i has).0 ∙ sym (only_root twin i other).0;
      within = λ node i has. subst (λ j. j < layout.inodes) (sym (only_root node i has).1) (let l = is.fits.ranges.inodes_low in omega (arith, l));
      named = λ directory name child row. absurd (none_some (sym (get-empty key_cmp (directory, name)) ∙ row));
      each = λ node i has. subst (λ j. ShowsNode root_numbered tree j (seen_of (parts_of layout image i))) (sym (only_root node i has).0)
          (subst (λ j. ShowsNode root_numbered tree 0 (seen_of (parts_of layout image j))) (sym (only_root node i has).1) root_shown);
      rest = λ i low. elim (cases_eq i 0) [
        | inl here ↦ inl (0, sym (ap (λ (j : ℕ). Some j) here))
        | inr other ↦ inr (record { kind = eqb-true _ 0 (shows.free i low other); blocks = λ place within. has_none layout image is i low place })
      ];
      apart = λ i place j other low inside within there held same. absurd (held (has_none layout image is i low place));
    };
  }

  good_bytes : HasGoodBytes image
  good_bytes = record {
    super = shows.accepted.super;
    journals = subst (λ (l : Layout). journal_fault_of l image ≡ None) (sym shows.accepted.divided) shows.accepted.journals;
    parts =
        subst (λ (l : Layout). HaveGoodBytes l (parts_of l image)) (sym shows.accepted.divided) (λ rule i least most other apart low. shows.rules rule i low);
  }

  pub is_read : IsReadAsTree image share tree
  is_read =
      standing_images_are_read image share root_numbered tree good_bytes
      (subst (λ (l : Layout). StandsForSoundTree root_numbered tree (inodes_shown l (parts_of l image))) (sym shows.accepted.divided) stands)

pub just_made_has_root_alone : JustMadeHasRootAlone
just_made_has_root_alone layout image is = record {
  layout_is = (just_made_shows layout image is).accepted.divided;
  read = is_read layout image is;
}
