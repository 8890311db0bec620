-- Freeing its orphans leaves an image its tree.
use Rattle.std.proofs.Common.{◌≡◌, ◌≢◌, ℕ, ◌<◌, ◌≤◌, Bool, true, false, cond, not, ◌||◌, ◌&&◌, List, [], ◌∷◌, Option, Some, None, ◌⊎◌, inl, inr, refl, sym, ap, subst, ◌∙◌, arith, nat_eq}
use borrow.Author.Tests.{eqb-true, eq-eqb}
use Rattle.std.specs.Prelude.{filter_map}
use Rattle.std.specs.List.{range_with_len, flat_map, AllByRecursion}
use Rattle.std.specs.FinMap.{FinMap, from_entries, get, len}
use Rattle.sfs_base.specs.declared.numbers.Kind.TheVariants.{File, Directory}
use Rattle.tree_laws.specs.Order.{key_cmp}
use Rattle.tree_laws.specs.Tree.{BUCKET_ROWS, TreeState, Node, count_of, names_it, bucket_rows, links_of}
use Rattle.tree_laws.specs.Sound.{Above}
use Rattle.tree_laws.proofs.Counting.{count_some}
use Rattle.sfs_image.specs.Slot.{Row, kind_byte}
use Rattle.sfs_image.specs.Seen.{Seen, SeenInodes}
use Rattle.sfs_image.proofs.Basics.{pieces_same}
use Rattle.image_laws.specs.Slots.{looked_up, name_count}
use Rattle.image_laws.specs.ImageTree.{Making, NOTHING_MADE, shows_directory, shows_file, tree_row, rows_in, image_rows, is_node, node_shown, node_in, nodes_where, image_tree}
use Rattle.image_laws.specs.Stands.{IsUnused, HoldsApart}
use Rattle.image_laws.specs.Keeps.{ruled_tree, IsDirectoryInode, MayName, MayStand, KeepsRules}
use Rattle.image_laws.specs.Mount.{ShowsByKind, HasNoOrphans}
use Rattle.image_laws.specs.Orphans.{is_orphan, FreesOrphans}
use Rattle.image_laws.specs.Laws.{FreedOrphansKeepTheTree}
use Rattle.sfs_base.proofs.BasicTruth.{and_first, and_second}
use Rattle.image_laws.proofs.SlotRows.{OnRow, each_found}
use Rattle.image_laws.proofs.Images.{row_shown}
use Rattle.image_laws.proofs.Mounted.{looked_may}

module _ (image next : SeenInodes) (k : KeepsRules image) (g : ShowsByKind image) (f : FreesOrphans image next) where
  no_kind : 0 ≡ kind_byte Directory → ⊥
  no_kind e = cc

  no_file : 0 ≡ kind_byte File → ⊥
  no_file e = cc

  within_image : (n : ℕ) → n < next.count → n < image.count
  within_image n lt = subst (λ (c : ℕ). n < c) f.count lt

  no_directory_file : (n : ℕ) → n ≡ kind_byte Directory → nat_eq n (kind_byte File) ≡ false
  no_directory_file n e = ap (λ m. nat_eq m (kind_byte File)) e

  -- a directory is no orphan, and a free inode is neither
  directory_stays : (i : ℕ) → i < image.count → (image.seen i).kind ≡ kind_byte Directory → next.seen i ≡ image.seen i
  directory_stays i lt kind = f.others i lt (ap (λ b. b && nat_eq (count_of (image_rows image) i) 0) (no_directory_file (image.seen i).kind kind))

  abbrev FreedOr : ℕ → Type 0
  FreedOr i = (next.seen i ≡ image.seen i) ⊎ (IsUnused (next.seen i) × (is_orphan image i ≡ true))

  freed_or : (i : ℕ) → i < image.count → FreedOr i
  freed_or i lt = elim (is_orphan image i) as (λ b. is_orphan image i ≡ b → FreedOr i) [
    | true ↦ λ t. inr (f.freed i lt t, t)
    | false ↦ λ t. inl (f.others i lt t)
  ] refl

  orphan_file : (i : ℕ) → is_orphan image i ≡ true → (image.seen i).kind ≡ kind_byte File
  orphan_file i e = eqb-true _ _ (and_first (shows_file (image.seen i)) _ e)

  orphan_unnamed : (i : ℕ) → is_orphan image i ≡ true → count_of (image_rows image) i ≡ 0
  orphan_unnamed i e = eqb-true _ _ (and_second (shows_file (image.seen i)) _ e)

  no_directory : (seen : Seen) (n : ℕ) → seen.kind ≡ n → nat_eq n (kind_byte Directory) ≡ false → shows_directory seen ≡ false
  no_directory seen n e t = ap (λ m. nat_eq m (kind_byte Directory)) e ∙ t

  rows_same : (i : ℕ) → i < image.count → rows_in next i ≡ rows_in image i
  rows_same i lt = elim (freed_or i lt) as (λ _. rows_in next i ≡ rows_in image i) [
    | inl same ↦ ap (λ (seen : Seen). cond (shows_directory seen) (filter_map (tree_row i) seen.slots) []) same
    | inr freed ↦
        ap (λ b. cond b (filter_map (tree_row i) (next.seen i).slots) []) (no_directory (next.seen i) 0 freed.0.kind refl)
        ∙ sym (ap (λ b. cond b (filter_map (tree_row i) (image.seen i).slots) []) (no_directory (image.seen i) (kind_byte File) (orphan_file i freed.1) refl))
  ]

  all_rows_same : image_rows next ≡ image_rows image
  all_rows_same =
      ap (λ n. from_entries (flat_map (rows_in next) (range_with_len 0 n))) f.count
      ∙ ap from_entries (pieces_same (rows_in next) (rows_in image) 0 image.count (λ i _ lt. rows_same i (omega arith)))

  count_same : (i : ℕ) → count_of (image_rows next) i ≡ count_of (image_rows image) i
  count_same i = ap (λ (rows : FinMap key_cmp ℕ). count_of rows i) all_rows_same

  node_of_seen : ℕ → Seen → Bool
  node_of_seen count seen = shows_directory seen || (shows_file seen && not (nat_eq count 0))

  is_node_same : (i : ℕ) → i < image.count → is_node next i ≡ is_node image i
  unfolding node_of_seen
  is_node_same i lt =
      ap (λ n. node_of_seen n (next.seen i)) (count_same i)
      ∙ elim (freed_or i lt) as (λ _. node_of_seen (count_of (image_rows image) i) (next.seen i) ≡ is_node image i) [
        | inl same ↦ ap (node_of_seen (count_of (image_rows image) i)) same
        | inr freed ↦
            ap (λ n. nat_eq n (kind_byte Directory) || (nat_eq n (kind_byte File) && not (nat_eq (count_of (image_rows image) i) 0))) freed.0.kind
            ∙ sym (ap (λ n. nat_eq n (kind_byte Directory) || (nat_eq n (kind_byte File) && not (nat_eq (count_of (image_rows image) i) 0))) (orphan_file i freed.1)
            ∙ ap (λ b. not b) (eq-eqb _ _ (orphan_unnamed i freed.1)))
      ]

  single : ℕ → Node → List (ℕ × Node)
  single i node = (i, node) ∷ []

  orphan_no_node : (i : ℕ) → is_orphan image i ≡ true → is_node image i ≡ false
  orphan_no_node i e =
      ap (λ n. nat_eq n (kind_byte Directory) || (nat_eq n (kind_byte File) && not (nat_eq (count_of (image_rows image) i) 0))) (orphan_file i e)
      ∙ ap (λ b. not b) (eq-eqb _ _ (orphan_unnamed i e))

  nodes_in_same : (i : ℕ) → i < image.count → node_in (is_node next) next i ≡ node_in (is_node image) image i
  unfolding single
  nodes_in_same i lt =
      ap (λ b. cond b (single i (node_shown (next.seen i))) []) (is_node_same i lt)
      ∙ elim (freed_or i lt) as (λ _. cond (is_node image i) (single i (node_shown (next.seen i))) []
      ≡ cond (is_node image i) (single i (node_shown (image.seen i))) []) [
        | inl same ↦ ap (λ (seen : Seen). cond (is_node image i) (single i (node_shown seen)) []) same
        | inr freed ↦
            ap (λ b. cond b (single i (node_shown (next.seen i))) []) (orphan_no_node i freed.1)
            ∙ sym (ap (λ b. cond b (single i (node_shown (image.seen i))) []) (orphan_no_node i freed.1))
      ]

  nodes_same : nodes_where (is_node next) next ≡ nodes_where (is_node image) image
  nodes_same =
      ap (λ n. from_entries (flat_map (node_in (is_node next) next) (range_with_len 0 n))) f.count
      ∙ ap from_entries (pieces_same (node_in (is_node next) next) (node_in (is_node image) image) 0 image.count (λ i _ lt. nodes_in_same i (omega arith)))

  tree_same : (making : Making) → image_tree next making ≡ image_tree image making
  tree_same making = λ i. record { rows = all_rows_same i; nodes = nodes_same i; first = making.first; share = making.share; made = making.made }

  -- a directory afterwards was one before, as it is
  record WasDirectory (i : ℕ) : Type 0 where
    inode : IsDirectoryInode image i
    same : next.seen i ≡ image.seen i

  was_directory : (i : ℕ) → IsDirectoryInode next i → WasDirectory i
  was_directory i is = elim (freed_or i within) as (λ _. WasDirectory i) [
    | inl same ↦ record { inode = (within, ap (λ (seen : Seen). seen.kind) (sym same) ∙ is.1); same = same }
    | inr freed ↦ absurd (no_kind (sym freed.0.kind ∙ is.1))
  ]
    where
      within : i < image.count
      within = subst (λ (n : ℕ). i < n) f.count is.0

  -- an inode that a row names stays
  named_stays : (d : ℕ) → IsDirectoryInode image d → (row : Row) → looked_up row.name (image.seen d).slots ≡ Some row →
      next.seen row.inode ≡ image.seen row.inode
  named_stays d is row found =
      let may = looked_may image row.name (image.seen d).slots row (k.children d is) found in
      f.others row.inode may.within (not_orphan (is_orphan image row.inode) refl)
    where
      counts : 0 < count_of (image_rows image) row.inode
      counts =
          count_some (names_it row.inode) (image_rows image) (d, row.name) row.inode
          (row_shown image d row.name is.0 is.1 ∙ ap (Rattle.std.specs.Prelude.option_map (λ (r : Row). r.inode)) found) (eq-eqb row.inode row.inode refl)

      not_orphan : (b : Bool) → is_orphan image row.inode ≡ b → is_orphan image row.inode ≡ false
      not_orphan false e = e
      not_orphan true e = absurd (let none = orphan_unnamed row.inode e in let lt = counts in omega arith)

  children_stay : (d : ℕ) → IsDirectoryInode image d → AllByRecursion (MayStand next) (image.seen d).slots
  children_stay d is = stand (image.seen d).slots (each_found (MayName next) (image.seen d).slots (k.once d is) may_name)
    where
      may_name : (row : Row) → looked_up row.name (image.seen d).slots ≡ Some row → MayName next row
      may_name row found =
          let may = looked_may image row.name (image.seen d).slots row (k.children d is) found in
          record {
            within = subst (λ (n : ℕ). row.inode < n) (sym f.count) may.within;
            kind = ap (λ (seen : Seen). seen.kind) (named_stays d is row found) ∙ may.kind;
            no_root = may.no_root;
          }

      stand_at : (slot : Option Row) → OnRow (MayName next) slot → MayStand next slot
      stand_at None h = tt
      stand_at (Some row) h = h

      stand : (slots : List (Option Row)) → AllByRecursion (OnRow (MayName next)) slots → AllByRecursion (MayStand next) slots
      stand [] h = tt
      stand (slot ∷ slots) h = (stand_at slot h.0, stand slots h.1)

  blocks_stay : HoldsApart next
  blocks_stay i p j q lt less small tiny some same = by_both (freed_or i (within_image i lt)) (freed_or j (within_image j less))
    where
      by_both : FreedOr i → FreedOr j → (i ≡ j) × (p ≡ q)
      by_both (inr freed) other = absurd (some (freed.0.blocks p small))
      by_both (inl first) (inr freed) = absurd (some (same ∙ freed.0.blocks q tiny))
      by_both (inl first) (inl second) =
          let a : (next.seen i).blocks p ≡ (image.seen i).blocks p = ap (λ (seen : Seen). seen.blocks p) first in
          let b : (next.seen j).blocks q ≡ (image.seen j).blocks q = ap (λ (seen : Seen). seen.blocks q) second in
          k.apart i p j q (within_image i lt) (within_image j less) small tiny (λ none. some (a ∙ none)) (sym a ∙ same ∙ b)

  used_stays : (i : ℕ) → i < image.count → (next.seen i).kind ≢ 0 → next.seen i ≡ image.seen i
  used_stays i lt used = elim (freed_or i lt) as (λ _. next.seen i ≡ image.seen i) [ inl same ↦ same | inr freed ↦ absurd (used freed.0.kind) ]

  above_same : {i : ℕ} {l : List ℕ} → Above (ruled_tree image) i l → Above (ruled_tree next) i l
  above_same {i} {l} way = subst (λ (tree : TreeState). Above tree i l) (sym (tree_same NOTHING_MADE)) way

  rules_stay : KeepsRules next
  rules_stay = record {
    root = (subst (λ (n : ℕ). 0 < n) (sym f.count) k.root.0, ap (λ (seen : Seen). seen.kind) (directory_stays 0 k.root.0 k.root.1) ∙ k.root.1);
    apart = blocks_stay;
    once = λ i is n. let w = was_directory i is in subst (λ (seen : Seen). name_count n seen.slots ≤ 1) (sym w.same) (k.once i w.inode n);
    full = λ i number is lt. let w = was_directory i is in
        subst (λ (rows : FinMap key_cmp ℕ). len (bucket_rows i number rows) ≤ BUCKET_ROWS) (sym all_rows_same) (k.full i number w.inode lt);
    children = λ i is. let w = was_directory i is in subst (λ (seen : Seen). AllByRecursion (MayStand next) seen.slots) (sym w.same) (children_stay i w.inode);
    named_once = λ i is. let w = was_directory i is in subst (λ (n : ℕ). n ≤ 1) (sym (count_same i)) (k.named_once i w.inode);
    links = λ i lt used.
        let within = subst (λ (n : ℕ). i < n) f.count lt in
        let same = used_stays i within used in
        ap (λ (seen : Seen). seen.links) same
        ∙ k.links i within (λ free. used (ap (λ (seen : Seen). seen.kind) same ∙ free))
        ∙ sym (ap (λ (tree : TreeState). links_of tree i) (tree_same NOTHING_MADE));
    reached = λ i is. let w = was_directory i is in let up = k.reached i w.inode in (up.0, above_same up.1);
  }

  kinds_stay : ShowsByKind next
  kinds_stay = record {
    kinds = λ i lt used.
        let same = ap (λ (seen : Seen). seen.kind) (used_stays i (within_image i lt) used) in
        elim (g.kinds i (within_image i lt) (λ free. used (same ∙ free))) as (λ _. ((next.seen i).kind ≡ kind_byte File)
        ⊎ ((next.seen i).kind ≡ kind_byte Directory)) [
          | inl file ↦
              inl (same ∙ file)
          | inr directory ↦ inr (same ∙ directory)
        ];
    sizes = λ i lt used.
        let same = used_stays i (within_image i lt) used in
        subst (λ (seen : Seen). seen.size ≡ Rattle.image_laws.specs.Stands.own_size seen) (sym same)
        (g.sizes i (within_image i lt) (λ free. used (ap (λ (seen : Seen). seen.kind) same ∙ free)));
    files = λ i lt file.
        let same = used_stays i (within_image i lt) (λ free. no_file (sym free ∙ file)) in
        subst (λ (seen : Seen). seen.slots ≡ []) (sym same) (g.files i (within_image i lt) (ap (λ (seen : Seen). seen.kind) (sym same) ∙ file));
    directories = λ i lt directory.
        let same = used_stays i (within_image i lt) (λ free. no_kind (sym free ∙ directory)) in
        ap (λ (seen : Seen). seen.bytes) same ∙ g.directories i (within_image i lt) (ap (λ (seen : Seen). seen.kind) (sym same) ∙ directory);
    unused = λ i lt free. elim (freed_or i (within_image i lt)) as (λ _. IsUnused (next.seen i)) [
      | inl same ↦ subst IsUnused (sym same) (g.unused i (within_image i lt) (ap (λ (seen : Seen). seen.kind) (sym same) ∙ free))
      | inr freed ↦ freed.0
    ];
  }

  no_orphans : HasNoOrphans next
  no_orphans i lt file none =
      let within = subst (λ (n : ℕ). i < n) f.count lt in
      elim (freed_or i within) as (λ _. ⊥) [
        | inr freed ↦ no_file (sym freed.0.kind ∙ file)
        | inl same ↦
            let orphan : is_orphan image i ≡ true =
            ap (λ b. b && nat_eq (count_of (image_rows image) i) 0)
            (eq-eqb (image.seen i).kind (kind_byte File) (ap (λ (seen : Seen). seen.kind) (sym same) ∙ file))
            ∙ eq-eqb (count_of (image_rows image) i) 0 (sym (count_same i) ∙ none) in
            no_file (sym (f.freed i within orphan).kind ∙ file)
      ]

pub freed_orphans_keep_the_tree : FreedOrphansKeepTheTree
freed_orphans_keep_the_tree image next making k g f = record {
  rules = rules_stay image next k g f;
  kinds = kinds_stay image next k g f;
  none_left = no_orphans image next k g f;
  tree = tree_same image next k g f making;
}
