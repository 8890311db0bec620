-- The shape of a tree under other numbers is its shape.
use Rattle.std.proofs.Common.{◌≡◌, ℕ, zero, suc, ◌+◌, Bool, true, false, cond, T, not, ◌&&◌, ◌||◌, List, [], ◌∷◌, ◌++◌, length, map, Option, Some, None, option_map, refl, sym, ap, subst, ◌∙◌, nat_eq, nat_lt}
use Rattle.std.specs.Prelude.{fold, filter}
use Rattle.std.specs.List.{AllByRecursion, list_any, flat_map, position, position_or_len}
use Rattle.std.specs.Option.{option_and_then}
use Rattle.std.specs.Ordering.{eq_by_cmp, is_lt}
use Rattle.std.specs.Cmp.Lexicographic.{nat_list_cmp_total}
use Rattle.std.specs.FinMap.{FinMap, find, entries, get, len, from_sorted, is_sorted, get-from_sorted, entries-from_sorted, get-entries, entries_sorted, same_map}
use Rattle.std.specs.FinMap.Entries.{below_all}
use Rattle.std.proofs.lemmas.List.{length-map, map-append}
use Rattle.tree_laws.specs.Order.{name_cmp}
use Rattle.tree_laws.specs.Tree.{TreeState, row_of, is_directory, names_where, names_of}
use Rattle.tree_laws.specs.Shape.{Met, met_from, met, with_file, files_met, line_of, shape_of}
use Rattle.tree_laws.proofs.Joined.{name_cmp-IsAntisymmetric}
use Rattle.tree_laws.proofs.Names.{get-names_where}
use Rattle.image_laws.specs.Renamed.{Numbering, IsMet, root, named, IsRenamed}
use Rattle.image_laws.specs.Stands.{inode_under}
use Rattle.image_laws.specs.Laws.{RenamedTreesHaveOneShape}
use Rattle.tree_laws.proofs.Found.{each_entry}
use Rattle.image_laws.proofs.Renaming.{under_is, met_number, number_same, len_renamed, directory_renamed, kind_renamed, links_renamed, bytes_renamed, sound_renamed}

-- entries with their values changed
module _ (h : ℕ → ℕ) where
  abbrev pub with_value : List ℕ × ℕ → List ℕ × ℕ
  with_value e = (e.0, h e.1)

  below_kept : (k : List ℕ) (es : List (List ℕ × ℕ)) → below_all name_cmp k (map with_value es) ≡ below_all name_cmp k es
  below_kept k [] = refl
  below_kept k (e ∷ es) = ap (λ b. is_lt (name_cmp k e.0) && b) (below_kept k es)

  sorted_kept : (es : List (List ℕ × ℕ)) → is_sorted name_cmp (map with_value es) ≡ is_sorted name_cmp es
  sorted_kept [] = refl
  sorted_kept (e ∷ es) = ap (λ b. b && is_sorted name_cmp (map with_value es)) (below_kept e.0 es) ∙ ap (λ b. below_all name_cmp e.0 es && b) (sorted_kept es)

  find_changed : (k : List ℕ) (es : List (List ℕ × ℕ)) → find name_cmp k (map with_value es) ≡ option_map h (find name_cmp k es)
  find_changed k [] = refl
  find_changed k (e ∷ es) =
      elim (eq_by_cmp name_cmp k e.0) as (λ b. cond b (Some (h e.1)) (find name_cmp k (map with_value es))
      ≡ option_map h (cond b (Some e.1) (find name_cmp k es))) [
        | true ↦
            refl
        | false ↦ find_changed k es
      ]

  -- maps that differ by a function on values have entries that do
  pub entries_changed : (m n : FinMap name_cmp ℕ) → ((k : List ℕ) → get n k ≡ option_map h (get m k)) → entries n ≡ map with_value (entries m)
  entries_changed m n alike =
      ap entries
      (same_map nat_list_cmp_total name_cmp-IsAntisymmetric n (from_sorted (map with_value (entries m)))
      (λ k. alike k ∙ ap (option_map h) (get-entries m k) ∙ sym (find_changed k (entries m))
      ∙ sym (get-from_sorted name_cmp (map with_value (entries m)) k sorted)))
      ∙ entries-from_sorted name_cmp (map with_value (entries m)) sorted
    where
      sorted : T (is_sorted name_cmp (map with_value (entries m)))
      sorted = subst T (sym (sorted_kept (entries m))) (entries_sorted m)

-- lists whose elements are told apart alike
all_append : {X : Type 0} (P : X → Type 0) (xs ys : List X) → AllByRecursion P xs → AllByRecursion P ys → AllByRecursion P (xs ++ ys)
all_append P [] ys a b = b
all_append P (x ∷ xs) ys a b = (a.0, all_append P xs ys a.1 b)

all_flat : {X Y : Type 0} (P : Y → Type 0) (Q : X → Type 0) (f : X → List Y) → ((x : X) → Q x → AllByRecursion P (f x)) → (xs : List X) →
    AllByRecursion Q xs → AllByRecursion P (flat_map f xs)
all_flat P Q f h [] a = tt
all_flat P Q f h (x ∷ xs) a = all_append P (f x) (flat_map f xs) (h x a.0) (all_flat P Q f h xs a.1)

flat_alike : {X Y : Type 0} (P : X → Type 0) (h : X → X) (ren : Y → Y) (f g : X → List Y) → ((x : X) → P x → g (h x) ≡ map ren (f x)) → (xs : List X) →
    AllByRecursion P xs → flat_map g (map h xs) ≡ map ren (flat_map f xs)
flat_alike P h ren f g alike [] a = refl
flat_alike P h ren f g alike (x ∷ xs) a =
    ap (λ l. l ++ flat_map g (map h xs)) (alike x a.0) ∙ ap (λ l. map ren (f x) ++ l) (flat_alike P h ren f g alike xs a.1)
    ∙ sym (map-append ren (f x) (flat_map f xs))

map_alike : {X Y : Type 0} (P : X → Type 0) (h : X → X) (f g : X → Y) → ((x : X) → P x → g (h x) ≡ f x) → (xs : List X) → AllByRecursion P xs →
    map g (map h xs) ≡ map f xs
map_alike P h f g alike [] a = refl
map_alike P h f g alike (x ∷ xs) a = ap (λ y. y ∷ map g (map h xs)) (alike x a.0) ∙ ap (λ l. f x ∷ l) (map_alike P h f g alike xs a.1)

filter_alike : {X : Type 0} (P : X → Type 0) (h : X → X) (p q : X → Bool) → ((x : X) → P x → q (h x) ≡ p x) → (xs : List X) → AllByRecursion P xs →
    filter q (map h xs) ≡ map h (filter p xs)
filter_alike P h p q alike [] a = refl
filter_alike P h p q alike (x ∷ xs) a =
    ap (λ b. cond b (h x ∷ filter q (map h xs)) (filter q (map h xs))) (alike x a.0)
    ∙ elim (p x) as (λ b. cond b (h x ∷ filter q (map h xs)) (filter q (map h xs)) ≡ map h (cond b (x ∷ filter p xs) (filter p xs))) [
      | true ↦ ap (λ l. h x ∷ l) (filter_alike P h p q alike xs a.1)
      | false ↦ filter_alike P h p q alike xs a.1
    ]

all_filtered : {X : Type 0} (P : X → Type 0) (p : X → Bool) (xs : List X) → AllByRecursion P xs → AllByRecursion P (filter p xs)
all_filtered P p [] a = tt
all_filtered P p (x ∷ xs) a =
    elim (p x) as (λ b. AllByRecursion P (cond b (x ∷ filter p xs) (filter p xs))) [ true ↦ (a.0, all_filtered P p xs a.1) | false ↦ all_filtered P p xs a.1 ]

all_mapped : {X Y : Type 0} (P : X → Type 0) (Q : Y → Type 0) (f : X → Y) → ((x : X) → P x → Q (f x)) → (xs : List X) → AllByRecursion P xs →
    AllByRecursion Q (map f xs)
all_mapped P Q f h [] a = tt
all_mapped P Q f h (x ∷ xs) a = (h x a.0, all_mapped P Q f h xs a.1)

module _ (num : Numbering) (tree other : TreeState) (r : IsRenamed num tree other) where
  abbrev rename_met : Met → Met
  rename_met m = record { path = m.path; node = inode_under num m.node }

  number_of_met : (x : ℕ) → IsMet tree x → num x ≡ Some (inode_under num x)
  number_of_met x m = let h = met_number num tree other r x m in h.1 ∙ ap Some (sym (under_is num x h.0 h.1))

  -- the rows of a directory that pass a test of names, under other numbers
  pub part_renamed : (test : List ℕ → Bool) (x i : ℕ) → num x ≡ Some i →
      entries (names_where i test other.rows) ≡ map (with_value (inode_under num)) (entries (names_where x test tree.rows))
  part_renamed test x i is =
      entries_changed (inode_under num) (names_where x test tree.rows) (names_where i test other.rows) (λ k.
      get-names_where i test other.rows k
      ∙ ap (λ o. cond (test k) o None) (r.rows x i is k ∙ by_child k (row_of tree x k) refl)
      ∙ sym (ap (option_map (inode_under num)) (get-names_where x test tree.rows k) ∙ out (test k) (row_of tree x k)))
    where
      by_child : (k : List ℕ) (o : Option ℕ) → row_of tree x k ≡ o → option_and_then num o ≡ option_map (inode_under num) o
      by_child k None e = refl
      by_child k (Some c) e = number_of_met c (named x k c e)

      out : (b : Bool) (o : Option ℕ) → option_map (inode_under num) (cond b o None) ≡ cond b (option_map (inode_under num) o) None
      out true o = refl
      out false o = refl

  -- each child of a directory is met
  children_met : (x : ℕ) → AllByRecursion (λ (row : List ℕ × ℕ). IsMet tree row.1) (entries (names_of x tree.rows))
  children_met x =
      each_entry nat_list_cmp_total name_cmp-IsAntisymmetric (λ (row : List ℕ × ℕ). IsMet tree row.1) (entries (names_of x tree.rows)) (entries_sorted _)
      (λ k c is.
      named x k c (sym (get-names_where x (λ _. true) tree.rows k) ∙ get-entries (names_of x tree.rows) k ∙ is))

  met_list : (steps : ℕ) (path : List (List ℕ)) (x : ℕ) → IsMet tree x → AllByRecursion (λ (m : Met). IsMet tree m.node) (met_from steps tree path x)
  met_list zero path x m = (m, tt)
  met_list (suc steps) path x m = (
    m,
    all_flat (λ (m : Met). IsMet tree m.node) (λ (row : List ℕ × ℕ). IsMet tree row.1)
        (λ (row : List ℕ × ℕ). met_from steps tree (path ++ row.0 ∷ []) row.1) (λ row is. met_list steps (path ++ row.0 ∷ []) row.1 is) _
        (by_kind (is_directory tree x)),
  )
    where
      by_kind : (b : Bool) → AllByRecursion (λ (row : List ℕ × ℕ). IsMet tree row.1) (cond b (entries (names_of x tree.rows)) [])
      by_kind true = children_met x
      by_kind false = tt

  met_renamed : (steps : ℕ) (path : List (List ℕ)) (x : ℕ) → IsMet tree x →
      met_from steps other path (inode_under num x) ≡ map rename_met (met_from steps tree path x)
  met_renamed zero path x m = refl
  met_renamed (suc steps) path x m =
      ap (λ l. record { path = path; node = inode_under num x } ∷ l) (
      ap (λ b. flat_map (walk other) (cond b (entries (names_of (inode_under num x) other.rows)) []))
      (directory_renamed num tree other r x (inode_under num x) (number_of_met x m) m)
      ∙ by_kind (λ row is. met_renamed steps (path ++ row.0 ∷ []) row.1 is) (is_directory tree x))
    where
      walk : TreeState → List ℕ × ℕ → List Met
      walk from row = met_from steps from (path ++ row.0 ∷ []) row.1

      by_kind : ((row : List ℕ × ℕ) → IsMet tree row.1 → walk other (with_value (inode_under num) row) ≡ map rename_met (walk tree row)) → (b : Bool) →
          flat_map (walk other) (cond b (entries (names_of (inode_under num x) other.rows)) [])
          ≡ map rename_met (flat_map (walk tree) (cond b (entries (names_of x tree.rows)) []))
      by_kind deeper false = refl
      by_kind deeper true =
          ap (flat_map (walk other)) (part_renamed (λ _. true) x (inode_under num x) (number_of_met x m))
          ∙ flat_alike (λ (row : List ℕ × ℕ). IsMet tree row.1) (with_value (inode_under num)) rename_met (walk tree) (walk other) deeper
          (entries (names_of x tree.rows)) (children_met x)

  met_same : met other ≡ map rename_met (met tree)
  met_same =
      ap (λ n. met_from n other [] 0) (len_renamed num tree other r)
      ∙ ap (met_from (len tree.rows) other []) (sym (under_is num 0 0 r.root))
      ∙ met_renamed (len tree.rows) [] 0 root

  all_met : AllByRecursion (λ (m : Met). IsMet tree m.node) (met tree)
  all_met = met_list (len tree.rows) [] 0 root

  -- whether two nodes that are met are one
  same_node : (x y : ℕ) → IsMet tree x → IsMet tree y → nat_eq (inode_under num y) (inode_under num x) ≡ nat_eq y x
  same_node x y m l = number_same num tree other r x y (inode_under num x) (inode_under num y) (number_of_met x m) (number_of_met y l)

  any_same : (x : ℕ) → IsMet tree x → (files : List ℕ) → AllByRecursion (IsMet tree) files
      → list_any (λ b. nat_eq b (inode_under num x)) (map (inode_under num) files) ≡ list_any (λ b. nat_eq b x) files
  any_same x m [] a = refl
  any_same x m (f ∷ files) a =
      ap (λ b. b || list_any (λ b. nat_eq b (inode_under num x)) (map (inode_under num) files)) (same_node x f m a.0)
      ∙ ap (λ b. nat_eq f x || b) (any_same x m files a.1)

  with_file_same : (x : ℕ) → IsMet tree x → (files : List ℕ) → AllByRecursion (IsMet tree) files
      → with_file (map (inode_under num) files) (inode_under num x) ≡ map (inode_under num) (with_file files x)
  with_file_same x m files a =
      ap (λ b. cond b (map (inode_under num) files) (map (inode_under num) files ++ inode_under num x ∷ [])) (any_same x m files a)
      ∙ by_test (list_any (λ b. nat_eq b x) files)
    where
      by_test : (b : Bool) →
          cond b (map (inode_under num) files) (map (inode_under num) files ++ inode_under num x ∷ []) ≡ map (inode_under num) (cond b files (files ++ x ∷ []))
      by_test true = refl
      by_test false = sym (map-append (inode_under num) files (x ∷ []))

  with_file_met : (x : ℕ) → IsMet tree x → (files : List ℕ) → AllByRecursion (IsMet tree) files → AllByRecursion (IsMet tree) (with_file files x)
  with_file_met x m files a =
      elim (list_any (λ b. nat_eq b x) files) as (λ b. AllByRecursion (IsMet tree) (cond b files (files ++ x ∷ []))) [
        | true ↦ a
        | false ↦
            all_append (IsMet tree) files (x ∷ []) a (m, tt)
      ]

  fold_same : (xs files : List ℕ) → AllByRecursion (IsMet tree) xs → AllByRecursion (IsMet tree) files
      → fold with_file (map (inode_under num) files) (map (inode_under num) xs) ≡ map (inode_under num) (fold with_file files xs)
  fold_same [] files a b = refl
  fold_same (x ∷ xs) files a b =
      ap (λ l. fold with_file l (map (inode_under num) xs)) (with_file_same x a.0 files b) ∙ fold_same xs (with_file files x) a.1 (with_file_met x a.0 files b)

  fold_met : (xs files : List ℕ) → AllByRecursion (IsMet tree) xs → AllByRecursion (IsMet tree) files → AllByRecursion (IsMet tree) (fold with_file files xs)
  fold_met [] files a b = b
  fold_met (x ∷ xs) files a b = fold_met xs (with_file files x) a.1 (with_file_met x a.0 files b)

  nodes_met : AllByRecursion (IsMet tree) (map (λ (m : Met). m.node) (met tree))
  nodes_met = all_mapped (λ (m : Met). IsMet tree m.node) (IsMet tree) (λ m. m.node) (λ m is. is) (met tree) all_met

  nodes_same : map (λ (m : Met). m.node) (map rename_met (met tree)) ≡ map (inode_under num) (map (λ (m : Met). m.node) (met tree))
  nodes_same = go (met tree)
    where
      go : (ms : List Met) → map (λ (m : Met). m.node) (map rename_met ms) ≡ map (inode_under num) (map (λ (m : Met). m.node) ms)
      go [] = refl
      go (m ∷ ms) = ap (λ l. inode_under num m.node ∷ l) (go ms)

  not_directory_same : (x : ℕ) → IsMet tree x → not (is_directory other (inode_under num x)) ≡ not (is_directory tree x)
  not_directory_same x m = ap not (directory_renamed num tree other r x (inode_under num x) (number_of_met x m) m)

  files_same : files_met other ≡ map (inode_under num) (files_met tree)
  files_same =
      ap (λ ms. fold with_file [] (filter (λ node. not (is_directory other node)) (map (λ (m : Met). m.node) ms))) met_same
      ∙ ap (λ xs. fold with_file [] (filter (λ node. not (is_directory other node)) xs)) nodes_same
      ∙ ap (fold with_file [])
      (filter_alike (IsMet tree) (inode_under num) (λ node. not (is_directory tree node))
      (λ node. not (is_directory other node)) not_directory_same _ nodes_met)
      ∙ fold_same _ [] (all_filtered (IsMet tree) _ _ nodes_met) tt

  files_are_met : AllByRecursion (IsMet tree) (files_met tree)
  files_are_met = fold_met _ [] (all_filtered (IsMet tree) _ _ nodes_met) tt

  place_same : (x : ℕ) → IsMet tree x → (files : List ℕ) → AllByRecursion (IsMet tree) files
      → position_or_len (λ f. nat_eq f (inode_under num x)) (map (inode_under num) files) ≡ position_or_len (λ f. nat_eq f x) files
  place_same x m [] a = refl
  place_same x m (f ∷ files) a =
      ap (λ b. cond (not b) (1 + position_or_len (λ f. nat_eq f (inode_under num x)) (map (inode_under num) files)) 0) (same_node x f m a.0)
      ∙ ap (λ n. cond (not (nat_eq f x)) (1 + n) 0) (place_same x m files a.1)

  position_same : (x : ℕ) → IsMet tree x → (files : List ℕ) → AllByRecursion (IsMet tree) files
      → position (λ f. nat_eq f (inode_under num x)) (map (inode_under num) files) ≡ position (λ f. nat_eq f x) files
  position_same x m files a =
      ap (λ n. cond (nat_lt n (length (map (inode_under num) files))) (Some n) None) (place_same x m files a)
      ∙ ap (λ n. cond (nat_lt (position_or_len (λ f. nat_eq f x) files) n) (Some (position_or_len (λ f. nat_eq f x) files)) None)
      (length-map files (inode_under num))

  line_same : (m : Met) → IsMet tree m.node → line_of other (map (inode_under num) (files_met tree)) (rename_met m) ≡ line_of tree (files_met tree) m
  line_same m is =
      let x = m.node in
      let j : num x ≡ Some (inode_under num x) = number_of_met x is in
      λ i. record {
        path = m.path;
        kind = kind_renamed num tree other r x (inode_under num x) j is i;
        links = links_renamed num tree other r x (inode_under num x) j is i;
        group = group_same i;
        bytes = bytes_renamed num tree other r x (inode_under num x) j is i;
      }
    where
      group_same : cond (is_directory other (inode_under num m.node)) None
          (position (λ f. nat_eq f (inode_under num m.node)) (map (inode_under num) (files_met tree)))
          ≡ cond (is_directory tree m.node) None (position (λ f. nat_eq f m.node) (files_met tree))
      group_same =
          ap (λ b. cond b None (position (λ f. nat_eq f (inode_under num m.node)) (map (inode_under num) (files_met tree))))
          (directory_renamed num tree other r m.node (inode_under num m.node) (number_of_met m.node is) is)
          ∙ ap (cond (is_directory tree m.node) None) (position_same m.node is (files_met tree) files_are_met)

  pub shape_renamed : shape_of other ≡ shape_of tree
  shape_renamed =
      ap (λ files. map (line_of other files) (met other)) files_same
      ∙ ap (map (line_of other (map (inode_under num) (files_met tree)))) met_same
      ∙ map_alike (λ (m : Met). IsMet tree m.node) rename_met (line_of tree (files_met tree)) (line_of other (map (inode_under num) (files_met tree))) line_same
      (met tree) all_met

pub renamed_trees_have_one_shape : RenamedTreesHaveOneShape
renamed_trees_have_one_shape num tree other s r = (sound_renamed num tree other r s, shape_renamed num tree other r)
