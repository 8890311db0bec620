-- The rules that count rows, by what was counted.
use Rattle.std.proofs.Common.{◌≡◌, ℕ, ◌+◌, ◌<◌, Bool, false, cond, not, ◌&&◌, ◌||◌, List, [], ◌∷◌, length, map, count_by, nat_eq, nat_lt, eqb, Option, None, Some, refl, sym, ap, ◌∙◌, arith, inl, inr}
use Rattle.std.specs.Prelude.{bytes_eq, filter_map, slice_index_or}
use Rattle.std.specs.List.{list_any, range_with_len}
use Rattle.std.specs.FinMap.{FinMap, entries, from_entries, len}
use Rattle.std.proofs.lemmas.Bool.{cases_Bool, cases_lt, eqb-true, eqb-false, lt-ltb, ltb-true, or_parts}
use Rattle.std.proofs.lemmas.List.{get_or_past}
use Rattle.std.proofs.lemmas.List.Folds.{list_any_at}
use Rattle.sfs_base.proofs.BasicLists.{same_bytes}
use Rattle.sfs_base.proofs.BasicTruth.{not_both_of, not_false}
use Rattle.sfs_base.specs.Lists.{Roomy}
use Rattle.sfs_base.specs.Name.{bucket}
use Rattle.sfs_base.specs.declared.numbers.Kind.{Kind}
use Rattle.sfs_base.specs.declared.numbers.Kind.TheVariants.{File, Directory}
use Rattle.sfs_image.specs.Inode.{Inode}
use Rattle.sfs_image.specs.Seen.{SeenInodes}
use Rattle.sfs_image.specs.Slot.{Row, kind_byte}
use Rattle.sfs_image.proofs.Basics.{pieces_same}
use Rattle.tree_laws.specs.Order.{Key, key_cmp}
use Rattle.tree_laws.specs.Tree.{BUCKET_ROWS, bucket_rows, count_of, links_of, names_it, is_directory, is_directory_kind, holds_directory}
use Rattle.tree_laws.proofs.Joined.{count-cons}
use Rattle.image_laws.specs.ImageTree.{NOTHING_MADE, shows_directory, is_used, tree_row, rows_in, image_rows}
use Rattle.image_laws.specs.Keeps.{ruled_tree}
use Rattle.image_laws.specs.Rules.{has_overfull_bucket, is_named_twice, has_wrong_links}
use Rattle.image_laws.proofs.Images.{directory_shown}
use Rattle.disk_tree.specs.Built.{entry_of_row, entries_at, row_entries}
use Rattle.disk_tree.specs.First.{NonePasses}
use Rattle.disk_tree.specs.Inodes.{inode_at}
use Rattle.disk_tree.specs.Rows.{NO_ROW, rows_of_inode, rows_in_slots, rows_in_bucket, has_full_bucket, naming_below, directory_row_count, is_misplaced_by, HaveOwnNames}
use Rattle.disk_tree.specs.Shown.{ShowsRows, CountTestsAreRules}
use Rattle.disk_tree.specs.Tests.{rows_named, has_twice, breaks_eighth, breaks_tenth, breaks_twelfth, breaks_thirteenth}
use Rattle.disk_tree.proofs.Entries.{own_entries, counted_from, len-names_where, entries_of, entries_naming}
use Rattle.disk_tree.proofs.NamesTwice.{two_counted}

-- where no name stands twice each row has a name of its own
own_names : (rows : List Row) → has_twice rows ≡ false → HaveOwnNames rows (length rows)
own_names rows none at earlier within before same =
    not_both_of (has_twice rows)
    (list_any_at (λ (row : Row). nat_lt 1 (rows_named row.name rows)) rows at NO_ROW within
    (lt-ltb 1 (rows_named (slice_index_or rows at NO_ROW).name rows)
    (two_counted (λ (row : Row). bytes_eq (slice_index_or rows at NO_ROW).name row.name) NO_ROW rows earlier at before within
    (ap (bytes_eq (slice_index_or rows at NO_ROW).name) same ∙ same_bytes (slice_index_or rows at NO_ROW).name)
    (same_bytes (slice_index_or rows at NO_ROW).name))))
    none

-- rows of slots, as a tree has them
tree_rows : (i : ℕ) (slots : List (Option Row)) → filter_map (tree_row i) slots ≡ map (entry_of_row i) (rows_in_slots slots)
tree_rows i [] = refl
tree_rows i (None ∷ slots) = tree_rows i slots
tree_rows i (Some row ∷ slots) = ap (λ (xs : List (Key × ℕ)). entry_of_row i row ∷ xs) (tree_rows i slots)

any_same : (p q : ℕ → Bool) (xs : List ℕ) → ((x : ℕ) → p x ≡ q x) → list_any p xs ≡ list_any q xs
any_same p q [] same = refl
any_same p q (x ∷ xs) same = ap (λ b. b || list_any p xs) (same x) ∙ ap (λ b. q x || b) (any_same p q xs same)

-- tests that agree on rows that pass another
counted_same : (p q wrong : Row → Bool) (rows : List Row) → list_any wrong rows ≡ false → ((row : Row) → wrong row ≡ false → p row ≡ q row)
    → count_by p rows ≡ count_by q rows
counted_same p q wrong [] none same = refl
counted_same p q wrong (row ∷ rows) none same =
    let both = or_parts (wrong row) (list_any wrong rows) none in
    count-cons p row rows ∙ ap (λ b. cond b 1 0 + count_by p rows) (same row both.0)
    ∙ ap (λ (k : ℕ). cond (q row) 1 0 + k) (counted_same p q wrong rows both.1 same) ∙ sym (count-cons q row rows)

module _ (image : SeenInodes) (inodes : List Inode) (rows : List (Roomy Row)) (shows : ShowsRows image inodes rows) (long : length rows ≡ length inodes)
    (once : NonePasses image.count (breaks_eighth rows)) where
  pub own : (i : ℕ) → HaveOwnNames (rows_of_inode rows i) (length (rows_of_inode rows i))
  own i = elim (cases_lt i image.count) [
    | inl within ↦ own_names (rows_of_inode rows i) (once i within)
    | inr past ↦
        own_names (rows_of_inode rows i)
        (ap has_twice (ap (λ (r : Roomy Row). r.items) (get_or_past rows i (record { items = []; spare = 0 }) (let c = shows.count in omega arith))))
  ]

  pub rows_are : image_rows image ≡ from_entries (row_entries rows image.count)
  unfolding row_entries
  rows_are = ap from_entries (pieces_same (rows_in image) (entries_at rows) 0 image.count (λ i low high. here i (omega arith)))
    where
      here : (i : ℕ) → i < image.count → rows_in image i ≡ entries_at rows i
      here i within = elim (cases_Bool (eqb (image.seen i).kind 2)) [
        | inl directory ↦
            ap (λ b. cond b (filter_map (tree_row i) (image.seen i).slots) []) directory ∙ tree_rows i (image.seen i).slots
            ∙ ap (map (entry_of_row i)) (sym (shows.slots i within (eqb-true _ _ directory)))
        | inr other ↦
            ap (λ b. cond b (filter_map (tree_row i) (image.seen i).slots) []) other
            ∙ ap (map (entry_of_row i)) (sym (shows.others i within (eqb-false _ _ other)))
      ]

  pub counted : (p : Key × ℕ → Bool) → count_by p (entries (image_rows image)) ≡ count_by p (row_entries rows image.count)
  counted p = ap (λ (m : FinMap key_cmp ℕ). count_by p (entries m)) rows_are ∙ counted_from p (row_entries rows image.count) (own_entries rows own image.count)

  pub count_is : (x : ℕ) → count_of (image_rows image) x ≡ naming_below rows (length inodes) x
  count_is x = counted (names_it x) ∙ entries_naming rows image.count x ∙ ap (λ (n : ℕ). naming_below rows n x) shows.count

  pub bucket_is : (i number : ℕ) → i < image.count → len (bucket_rows i number (image_rows image)) ≡ rows_in_bucket (rows_of_inode rows i) number
  bucket_is i number within =
      len-names_where i (λ name. nat_eq (bucket name) number) (image_rows image)
      ∙ counted (λ e. nat_eq e.0.0 i && nat_eq (bucket e.0.1) number)
      ∙ entries_of rows (λ e. nat_eq (bucket e.0.1) number) i image.count within

  ninth : (i : ℕ) → i < image.count → (shows_directory (image.seen i) && has_overfull_bucket image i) ≡ has_full_bucket (rows_of_inode rows i)
  unfolding has_full_bucket
  ninth i within = elim (cases_Bool (eqb (image.seen i).kind 2)) [
    | inl directory ↦ ap (λ b. b && has_overfull_bucket image i) directory
        ∙ any_same (λ number. nat_lt BUCKET_ROWS (len (bucket_rows i number (image_rows image))))
        (λ number. nat_lt BUCKET_ROWS (rows_in_bucket (rows_of_inode rows i) number)) (range_with_len 0 8)
        (λ number. ap (nat_lt BUCKET_ROWS) (bucket_is i number within))
    | inr other ↦ ap (λ b. b && has_overfull_bucket image i) other ∙ sym (ap has_full_bucket (shows.others i within (eqb-false _ _ other)))
  ]

  twelfth : (i : ℕ) → i < image.count → (shows_directory (image.seen i) && is_named_twice image i) ≡ breaks_twelfth inodes rows (length inodes) i
  twelfth i within =
      ap (λ (k : ℕ). nat_eq k 2 && is_named_twice image i) (shows.kind i within)
      ∙ ap (λ (n : ℕ). nat_eq (inode_at inodes i).kind 2 && nat_lt 1 n) (count_is i)

  module _ (placed : NonePasses image.count (breaks_tenth inodes rows)) where
    kind_test : (kind : Kind) → nat_eq (kind_byte kind) 2 ≡ is_directory_kind kind
    kind_test File = refl
    kind_test Directory = refl

    child_is : (row : Row) → is_misplaced_by inodes row ≡ false → is_directory (ruled_tree image) row.inode ≡ is_directory_kind row.kind
    child_is row none =
        let both = or_parts (not (nat_lt row.inode (length inodes))) _ none in
        let within : row.inode < image.count = (let h = ltb-true _ _ (not_false _ both.0) in let c = shows.count in omega arith) in
        directory_shown image NOTHING_MADE row.inode within
        ∙ ap (λ (k : ℕ). nat_eq k 2) (shows.kind row.inode within ∙ eqb-true _ _ (not_false _ both.1)) ∙ kind_test row.kind

    inside_is : (i : ℕ) → i < image.count
        → count_by (holds_directory (ruled_tree image) i) (entries (image_rows image)) ≡ directory_row_count (rows_of_inode rows i)
    inside_is i within =
        counted (holds_directory (ruled_tree image) i)
        ∙ entries_of rows (λ e. is_directory (ruled_tree image) e.1) i image.count within
        ∙ counted_same (λ (row : Row). is_directory (ruled_tree image) row.inode) (λ (row : Row). is_directory_kind row.kind) (is_misplaced_by inodes)
        (rows_of_inode rows i) (placed i within) child_is

    links_are : (i : ℕ) → i < image.count
        → links_of (ruled_tree image) i
        ≡ cond (nat_eq (inode_at inodes i).kind 2) (2 + directory_row_count (rows_of_inode rows i)) (naming_below rows (length inodes) i)
    links_are i within =
        ap (λ b. cond b (2 + count_by (holds_directory (ruled_tree image) i) (entries (image_rows image))) (count_of (image_rows image) i))
        (directory_shown image NOTHING_MADE i within ∙ ap (λ (k : ℕ). nat_eq k 2) (shows.kind i within))
        ∙ ap (λ (n : ℕ). cond (nat_eq (inode_at inodes i).kind 2) (2 + n) (count_of (image_rows image) i)) (inside_is i within)
        ∙ ap (cond (nat_eq (inode_at inodes i).kind 2) (2 + directory_row_count (rows_of_inode rows i))) (count_is i)

    thirteenth : (i : ℕ) → i < image.count → (is_used image i && has_wrong_links image i) ≡ breaks_thirteenth inodes rows (length inodes) i
    thirteenth i within =
        ap (λ (k : ℕ). not (nat_eq k 0) && has_wrong_links image i) (shows.kind i within)
        ∙ ap (λ (n : ℕ). not (nat_eq (inode_at inodes i).kind 0) && not (nat_eq n (links_of (ruled_tree image) i))) (shows.links i within)
        ∙ ap (λ (n : ℕ). not (nat_eq (inode_at inodes i).kind 0) && not (nat_eq (inode_at inodes i).links n)) (links_are i within)

pub count_tests_are_rules : CountTestsAreRules
count_tests_are_rules image inodes rows shows long once = record {
  ninth = ninth image inodes rows shows long once;
  twelfth = twelfth image inodes rows shows long once;
  thirteenth = λ placed. thirteenth image inodes rows shows long once placed;
}
