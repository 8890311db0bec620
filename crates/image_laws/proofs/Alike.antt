-- Inodes that show the same up to their count have one tree, and break the same rules.
use Rattle.std.proofs.Common.{◌≡◌, ℕ, ◌<◌, Bool, false, cond, not, ◌||◌, ◌&&◌, List, [], ◌∷◌, Option, ap, ◌∙◌, sym, arith, nat_eq, nat_lt, ltb, inl, inr}
use Rattle.std.specs.Prelude.{filter_map}
use Rattle.std.specs.List.{range_with_len, list_any}
use Rattle.std.specs.Option.{option_map_or}
use Rattle.std.specs.FinMap.{FinMap, from_entries, len}
use Rattle.std.proofs.lemmas.Bool.{cases_Bool, ltb-true}
use Rattle.tree_laws.specs.Order.{Key, key_cmp}
use Rattle.tree_laws.specs.Tree.{BUCKET_ROWS, Node, TreeState, bucket_rows, count_of, lies_below, links_of}
use Rattle.sfs_image.specs.Seen.{Seen, SeenInodes}
use Rattle.sfs_image.specs.Slot.{Row, kind_byte}
use Rattle.sfs_image.proofs.Basics.{pieces_same}
use Rattle.image_laws.specs.ImageTree.{Making, NOTHING_MADE, image_rows, image_tree, is_node, node_in, node_shown, nodes_where, rows_in, shows_directory, shows_file, tree_row}
use Rattle.image_laws.specs.Keeps.{ruled_tree}
use Rattle.image_laws.specs.Rules.{breaks_tree_rule, is_misplaced}
use Rattle.image_laws.specs.Slots.{name_count}

-- whether an inode breaks a rule across inodes, by what it shows, by which rows are misplaced, and by the rows and the tree of the image
abbrev tested : ℕ → ℕ → Seen → (Row → Bool) → FinMap key_cmp ℕ → TreeState → Bool
tested rule i seen misplaced rows tree =
    cond (nat_eq rule 8)
    (shows_directory seen && list_any (λ slot. option_map_or (λ (row : Row). nat_lt 1 (name_count row.name seen.slots)) slot false) seen.slots)
    (cond (nat_eq rule 9) (shows_directory seen && list_any (λ number. nat_lt BUCKET_ROWS (len (bucket_rows i number rows))) (range_with_len 0 8))
    (cond (nat_eq rule 10) (shows_directory seen && list_any (λ slot. option_map_or misplaced slot false) seen.slots)
    (cond (nat_eq rule 11) (shows_directory seen && list_any (λ slot. option_map_or (λ (row : Row). nat_eq row.inode 0) slot false) seen.slots)
    (cond (nat_eq rule 12) (shows_directory seen && nat_lt 1 (count_of rows i))
    (cond (nat_eq rule 13) (not (nat_eq seen.kind 0) && not (nat_eq seen.links (links_of tree i)))
    (cond (nat_eq rule 14) (shows_directory seen && not (nat_eq i 0 || lies_below tree i 0)) false))))))

module _ (count : ℕ) (shown others : ℕ → Seen) (same : (i : ℕ) → i < count → shown i ≡ others i) where
  abbrev image : SeenInodes
  image = record { count = count; seen = shown }

  abbrev other : SeenInodes
  other = record { count = count; seen = others }

  rows_alike : image_rows image ≡ image_rows other
  rows_alike =
      ap from_entries
      (pieces_same (rows_in image) (rows_in other) 0 count
      (λ i low high. ap (λ (seen : Seen). cond {A = List (Key × ℕ)} (shows_directory seen) (filter_map (tree_row i) seen.slots) [])
      (same i (omega arith))))

  node_alike : (i : ℕ) → i < count → is_node image i ≡ is_node other i
  node_alike i within =
      ap (λ (seen : Seen). shows_directory seen || (shows_file seen && not (nat_eq (count_of (image_rows image) i) 0))) (same i within)
      ∙ ap (λ (rows : FinMap key_cmp ℕ). shows_directory (others i) || (shows_file (others i) && not (nat_eq (count_of rows i) 0))) rows_alike

  abbrev nodes_of : ℕ → Bool → Seen → List (ℕ × Node)
  nodes_of i chosen seen = cond chosen ((let node : ℕ × Node = (i, node_shown seen) in node) ∷ []) []

  nodes_alike : nodes_where (is_node image) image ≡ nodes_where (is_node other) other
  nodes_alike = ap from_entries (pieces_same (node_in (is_node image) image) (node_in (is_node other) other) 0 count (λ i low high. here i (omega arith)))
    where
      here : (i : ℕ) → i < count → node_in (is_node image) image i ≡ node_in (is_node other) other i
      here i within = ap (λ b. nodes_of i b (shown i)) (node_alike i within) ∙ ap (nodes_of i (is_node other i)) (same i within)

  pub tree_alike : (making : Making) → image_tree image making ≡ image_tree other making
  tree_alike making =
      let rows = rows_alike in
      let nodes = nodes_alike in
      λ j. record { rows = rows j; nodes = nodes j; first = making.first; share = making.share; made = making.made }

  misplaced_alike : (row : Row) → is_misplaced image row ≡ is_misplaced other row
  misplaced_alike row = elim (cases_Bool (ltb row.inode count)) [
    | inl within ↦ ap (λ (seen : Seen). not (ltb row.inode count) || not (nat_eq seen.kind (kind_byte row.kind))) (same row.inode (ltb-true _ _ within))
    | inr beyond ↦
        ap (λ b. not b || not (nat_eq (shown row.inode).kind (kind_byte row.kind))) beyond
        ∙ sym (ap (λ b. not b || not (nat_eq (others row.inode).kind (kind_byte row.kind))) beyond)
  ]

  pub tree_rule_alike : (rule i : ℕ) → i < count → breaks_tree_rule image rule i ≡ breaks_tree_rule other rule i
  tree_rule_alike rule i within =
      let misplaced : is_misplaced image ≡ is_misplaced other = λ j row. misplaced_alike row j in
      ap (λ (seen : Seen). tested rule i seen (is_misplaced image) (image_rows image) (ruled_tree image)) (same i within)
      ∙ ap (λ (test : Row → Bool). tested rule i (others i) test (image_rows image) (ruled_tree image)) misplaced
      ∙ ap (λ (rows : FinMap key_cmp ℕ). tested rule i (others i) (is_misplaced other) rows (ruled_tree image)) rows_alike
      ∙ ap (tested rule i (others i) (is_misplaced other) (image_rows other)) (tree_alike NOTHING_MADE)
