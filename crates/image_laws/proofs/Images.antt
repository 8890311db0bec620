-- What stands in the tree of an image, from what its inodes show.
use Rattle.std.proofs.Common.{◌≡◌, ◌≢◌, ℕ, zero, suc, ◌+◌, ◌<◌, ◌≤◌, Bool, true, false, cond, not, ◌&&◌, ◌||◌, List, [], ◌∷◌, Option, Some, None, option_map, ◌⊎◌, inl, inr, refl, sym, ap, ◌∙◌, arith, nat_eq, nat_lt}
use borrow.Author.Tests.{eqb-true, eq-eqb, eqb-false, ltb-true, ltb-false}
use Rattle.std.specs.Prelude.{bytes_eq, filter_map}
use Rattle.std.specs.List.{range_with_len, flat_map}
use Rattle.std.specs.Option.{option_or, option_map_or}
use Rattle.std.specs.Ordering.{nat_cmp, eq_by_cmp}
use Rattle.std.specs.Cmp.{nat_cmp_total, unsigned_ties}
use Rattle.std.specs.FinMap.{FinMap, find, get, get-from_entries}
use Rattle.std.proofs.lemmas.Map.Text.{is_eq-slice_cmp}
use Rattle.sfs_base.specs.declared.numbers.Kind.{Kind}
use Rattle.sfs_base.specs.declared.numbers.Kind.TheVariants.{File, Directory}
use Rattle.tree_laws.specs.Order.{name_cmp, key_cmp}
use Rattle.tree_laws.specs.Tree.{Node, is_directory_kind, count_of, is_directory}
use Rattle.tree_laws.proofs.Joined.{key_cmp_total, same_key, find-append}
use Rattle.sfs_image.specs.Slot.{Row, kind_byte, kind_of}
use Rattle.sfs_image.specs.Seen.{SeenInodes}
use Rattle.image_laws.specs.Slots.{looked_up}
use Rattle.image_laws.specs.ImageTree.{Making, shows_directory, shows_file, tree_row, rows_in, image_rows, is_node, node_shown, node_in, nodes_where, tree_where, image_tree}
use Rattle.sfs_base.proofs.BasicTruth.{or_true}
use Rattle.sfs_base.proofs.BasicOptions.{or_none, none_some, some_same}

-- entries that are gathered from numbers in turn, where those of other numbers have not the key that is looked for
module _ {K X : Type 0} (R : K → K → Rattle.std.specs.declared.cmp.Ordering.Ordering) (f : ℕ → List (K × X)) (q : K) (j : ℕ)
    (others : (i : ℕ) → i ≢ j → find R q (f i) ≡ None) where
  find_outside : (a n : ℕ) → (j < a) ⊎ (a + n ≤ j) → find R q (flat_map f (range_with_len a n)) ≡ None
  find_outside a zero out = refl
  find_outside a (suc n) out =
      find-append R q (f a) (flat_map f (range_with_len (a + 1) n))
      ∙ ap (λ o. option_or o (find R q (flat_map f (range_with_len (a + 1) n)))) (others a (λ same. apart same out))
      ∙ find_outside (a + 1) n (further out)
    where
      apart : a ≡ j → (j < a) ⊎ (a + suc n ≤ j) → ⊥
      apart same (inl lt) = omega arith
      apart same (inr le) = omega arith

      further : (j < a) ⊎ (a + suc n ≤ j) → (j < a + 1) ⊎ (a + 1 + n ≤ j)
      further (inl lt) = inl (omega arith)
      further (inr le) = inr (omega arith)

  find_inside : (a n : ℕ) → a ≤ j → j < a + n → find R q (flat_map f (range_with_len a n)) ≡ find R q (f j)
  find_inside a zero le lt = absurd (omega arith)
  find_inside a (suc n) le lt =
      find-append R q (f a) (flat_map f (range_with_len (a + 1) n))
      ∙ elim (nat_eq a j) as (λ b. nat_eq a j ≡ b → option_or (find R q (f a)) (find R q (flat_map f (range_with_len (a + 1) n))) ≡ find R q (f j)) [
        | true ↦ λ t.
            let same : a ≡ j = eqb-true _ _ t in
            ap (option_or (find R q (f a))) (find_outside (a + 1) n (inl (omega arith))) ∙ or_none (find R q (f a)) ∙ ap (λ i. find R q (f i)) same
        | false ↦ λ t.
            let apart : a ≢ j = eqb-false _ _ t in
            ap (λ o. option_or o (find R q (flat_map f (range_with_len (a + 1) n)))) (others a apart) ∙ find_inside (a + 1) n (omega arith) (omega arith)
      ] refl

-- names are compared by their bytes
key_test : (i : ℕ) (n m : List ℕ) → eq_by_cmp key_cmp (i, n) (i, m) ≡ bytes_eq n m
key_test i n m = same_key i i n m ∙ ap (λ b. cond b (eq_by_cmp name_cmp n m) false) (eq-eqb i i refl) ∙ is_eq-slice_cmp n m

key_apart : (d i : ℕ) (n m : List ℕ) → i ≢ d → eq_by_cmp key_cmp (d, n) (i, m) ≡ false
key_apart d i n m other =
    same_key d i n m
    ∙ elim (nat_eq d i) as (λ b. nat_eq d i ≡ b → cond b (eq_by_cmp name_cmp n m) false ≡ false) [
      | true ↦
          λ t. absurd (other (sym (eqb-true _ _ t)))
      | false ↦ λ _. refl
    ] refl

find_slot : (i : ℕ) (n : List ℕ) (slots : List (Option Row)) →
    find key_cmp (i, n) (filter_map (tree_row i) slots) ≡ option_map (λ (row : Row). row.inode) (looked_up n slots)
find_slot i n [] = refl
find_slot i n (None ∷ slots) = find_slot i n slots
find_slot i n (Some row ∷ slots) =
    ap (λ b. cond b (Some row.inode) (find key_cmp (i, n) (filter_map (tree_row i) slots))) (key_test i n row.name)
    ∙ elim (bytes_eq n row.name) as (λ b. cond b (Some row.inode) (find key_cmp (i, n) (filter_map (tree_row i) slots))
    ≡ option_map (λ (row : Row). row.inode) (cond b (Some row) (looked_up n slots))) [
      | true ↦ refl
      | false ↦ find_slot i n slots
    ]

find_other : (d i : ℕ) (n : List ℕ) (slots : List (Option Row)) → i ≢ d → find key_cmp (d, n) (filter_map (tree_row i) slots) ≡ None
find_other d i n [] other = refl
find_other d i n (None ∷ slots) other = find_other d i n slots other
find_other d i n (Some row ∷ slots) other =
    ap (λ b. cond b (Some row.inode) (find key_cmp (d, n) (filter_map (tree_row i) slots))) (key_apart d i n row.name other) ∙ find_other d i n slots other

pub kind_again : (kind : Kind) → kind_of (kind_byte kind) ≡ kind
kind_again File = refl
kind_again Directory = refl

module _ (image : SeenInodes) where
  rows_apart : (d i : ℕ) (n : List ℕ) → i ≢ d → find key_cmp (d, n) (rows_in image i) ≡ None
  rows_apart d i n other =
      elim (shows_directory (image.seen i)) as (λ b. find key_cmp (d, n) (cond b (filter_map (tree_row i) (image.seen i).slots) []) ≡ None) [
        | true ↦ find_other d i n (image.seen i).slots other
        | false ↦ refl
      ]

  get_rows : (i : ℕ) (n : List ℕ) → i < image.count → get (image_rows image) (i, n) ≡ find key_cmp (i, n) (rows_in image i)
  get_rows i n lt =
      get-from_entries key_cmp_total (flat_map (rows_in image) (range_with_len 0 image.count)) (i, n)
      ∙ find_inside key_cmp (rows_in image) (i, n) i (λ k other. rows_apart i k n other) 0 image.count (omega arith) (omega arith)

  pub no_rows_outside : (i : ℕ) (n : List ℕ) → image.count ≤ i → get (image_rows image) (i, n) ≡ None
  no_rows_outside i n le =
      get-from_entries key_cmp_total (flat_map (rows_in image) (range_with_len 0 image.count)) (i, n)
      ∙ find_outside key_cmp (rows_in image) (i, n) i (λ k other. rows_apart i k n other) 0 image.count (inr (omega arith))

  -- a directory's rows are those of its slots
  pub row_shown : (i : ℕ) (n : List ℕ) → i < image.count → (image.seen i).kind ≡ kind_byte Directory →
      get (image_rows image) (i, n) ≡ option_map (λ (row : Row). row.inode) (looked_up n (image.seen i).slots)
  row_shown i n lt kind =
      get_rows i n lt ∙ ap (λ b. find key_cmp (i, n) (cond b (filter_map (tree_row i) (image.seen i).slots) [])) (eq-eqb _ _ kind)
      ∙ find_slot i n (image.seen i).slots

  -- any other inode has none
  pub no_row_shown : (i : ℕ) (n : List ℕ) → i < image.count → (image.seen i).kind ≢ kind_byte Directory → get (image_rows image) (i, n) ≡ None
  no_row_shown i n lt kind =
      get_rows i n lt
      ∙ elim (shows_directory (image.seen i)) as (λ b. shows_directory (image.seen i) ≡ b
      → find key_cmp (i, n) (cond b (filter_map (tree_row i) (image.seen i).slots) []) ≡ None) [
        | true ↦ λ t. absurd (kind (eqb-true _ _ t))
        | false ↦ λ _. refl
      ] refl

  -- a row of an image, as the slot that it is
  pub record SlotBack (i : ℕ) (n : List ℕ) (j : ℕ) : Type 0 where
    pub within : i < image.count
    pub kind : (image.seen i).kind ≡ kind_byte Directory
    pub row : Row
    pub slot : looked_up n (image.seen i).slots ≡ Some row
    pub child : row.inode ≡ j

  slot_at : (i : ℕ) (n : List ℕ) (j : ℕ) (o : Option Row) → i < image.count → (image.seen i).kind ≡ kind_byte Directory →
      looked_up n (image.seen i).slots ≡ o → option_map (λ (row : Row). row.inode) o ≡ Some j → SlotBack i n j
  slot_at i n j (Some row) lt kind slot is = record { within = lt; kind = kind; row = row; slot = slot; child = some_same is }
  slot_at i n j None lt kind slot is = absurd (none_some is)

  pub slot_back : (i : ℕ) (n : List ℕ) (j : ℕ) → get (image_rows image) (i, n) ≡ Some j → SlotBack i n j
  slot_back i n j is =
      elim (nat_lt i image.count) as (λ b. nat_lt i image.count ≡ b → SlotBack i n j) [
        | false ↦ λ t. absurd (none_some (sym (no_rows_outside i n (ltb-false _ _ t)) ∙ is))
        | true ↦ λ t. elim (shows_directory (image.seen i)) as (λ b. shows_directory (image.seen i) ≡ b → SlotBack i n j) [
          | true ↦
              λ u. slot_at i n j (looked_up n (image.seen i).slots) (ltb-true _ _ t) (eqb-true _ _ u) refl
              (sym (row_shown i n (ltb-true _ _ t) (eqb-true _ _ u)) ∙ is)
          | false ↦ λ u. absurd (none_some (sym (no_row_shown i n (ltb-true _ _ t) (eqb-false _ _ u)) ∙ is))
        ] refl
      ] refl

  module _ (chosen : ℕ → Bool) where
    node_apart : (d i : ℕ) → i ≢ d → find nat_cmp d (node_in chosen image i) ≡ None
    node_apart d i other =
        elim (chosen i) as (λ b. find nat_cmp d (cond b ((i, node_shown (image.seen i)) ∷ []) []) ≡ None) [
          | true ↦ ap (λ b. cond b (Some (node_shown (image.seen i))) None) (number_apart d i other)
          | false ↦ refl
        ]
      where
        number_apart : (d i : ℕ) → i ≢ d → eq_by_cmp nat_cmp d i ≡ false
        number_apart d i other =
            sym (unsigned_ties d i)
            ∙ elim (nat_eq d i) as (λ b. nat_eq d i ≡ b → b ≡ false) [ true ↦ λ t. absurd (other (sym (eqb-true _ _ t))) | false ↦ λ _. refl ] refl

    pub get_node : (i : ℕ) → i < image.count → get (nodes_where chosen image) i ≡ cond (chosen i) (Some (node_shown (image.seen i))) None
    get_node i lt =
        get-from_entries nat_cmp_total (flat_map (node_in chosen image) (range_with_len 0 image.count)) i
        ∙ find_inside nat_cmp (node_in chosen image) i i (λ k other. node_apart i k other) 0 image.count (omega arith) (omega arith)
        ∙ elim (chosen i) as (λ b. find nat_cmp i (cond b ((i, node_shown (image.seen i)) ∷ []) []) ≡ cond b (Some (node_shown (image.seen i))) None) [
          | true ↦ ap (λ b. cond b (Some (node_shown (image.seen i))) None) (sym (unsigned_ties i i) ∙ eq-eqb i i refl)
          | false ↦ refl
        ]

    pub no_node_outside : (i : ℕ) → image.count ≤ i → get (nodes_where chosen image) i ≡ None
    no_node_outside i le =
        get-from_entries nat_cmp_total (flat_map (node_in chosen image) (range_with_len 0 image.count)) i
        ∙ find_outside nat_cmp (node_in chosen image) i i (λ k other. node_apart i k other) 0 image.count (inr (omega arith))

    pub node_is : (i : ℕ) → i < image.count → chosen i ≡ true → get (nodes_where chosen image) i ≡ Some (node_shown (image.seen i))
    node_is i lt is = get_node i lt ∙ ap (λ b. cond b (Some (node_shown (image.seen i))) None) is

    -- where all directories are chosen, those of the tree are those of the image
    pub directory_where : (making : Making) → ((i : ℕ) → (image.seen i).kind ≡ kind_byte Directory → chosen i ≡ true) → (i : ℕ) → i < image.count →
        is_directory (tree_where chosen image making) i ≡ shows_directory (image.seen i)
    directory_where making all i lt =
        ap (λ (o : Option Node). option_map_or (λ n. is_directory_kind n.kind) o false) (get_node i lt)
        ∙ elim (shows_directory (image.seen i)) as (λ b. shows_directory (image.seen i) ≡ b
        → option_map_or (λ (n : Node). is_directory_kind n.kind) (cond (chosen i) (Some (node_shown (image.seen i))) None) false ≡ b) [
          | true ↦ λ t.
              ap (λ b. option_map_or (λ (n : Node). is_directory_kind n.kind) (cond b (Some (node_shown (image.seen i))) None) false) (all i (eqb-true _ _ t))
              ∙ ap (λ k. is_directory_kind (kind_of k)) (eqb-true _ _ t)
          | false ↦ λ t. by_test (chosen i) t
        ] refl
      where
        by_test : (b : Bool) → shows_directory (image.seen i) ≡ false →
            option_map_or (λ (n : Node). is_directory_kind n.kind) (cond b (Some (node_shown (image.seen i))) None) false ≡ false
        by_test false t = refl
        by_test true t = ap (λ b. is_directory_kind (cond b Directory File)) t

  -- a directory is a node, and so is a file that a row names
  pub directory_is_node : (i : ℕ) → (image.seen i).kind ≡ kind_byte Directory → is_node image i ≡ true
  directory_is_node i kind = ap (λ b. b || (shows_file (image.seen i) && not (nat_eq (count_of (image_rows image) i) 0))) (eq-eqb _ _ kind)

  pub file_is_node : (i : ℕ) → (image.seen i).kind ≡ kind_byte File → count_of (image_rows image) i ≢ 0 → is_node image i ≡ true
  file_is_node i kind some =
      ap (λ b. shows_directory (image.seen i) || (b && not (nat_eq (count_of (image_rows image) i) 0))) (eq-eqb _ _ kind)
      ∙ ap (λ b. shows_directory (image.seen i) || not b) (none_there (nat_eq (count_of (image_rows image) i) 0) refl)
      ∙ or_true (shows_directory (image.seen i))
    where
      none_there : (b : Bool) → nat_eq (count_of (image_rows image) i) 0 ≡ b → nat_eq (count_of (image_rows image) i) 0 ≡ false
      none_there true t = absurd (some (eqb-true _ _ t))
      none_there false t = t

  -- the directories of the tree are those of the image
  pub directory_shown : (making : Making) (i : ℕ) → i < image.count → is_directory (image_tree image making) i ≡ shows_directory (image.seen i)
  directory_shown making i lt = directory_where (is_node image) making directory_is_node i lt
