-- The rules on rows as tests on the rows in slots.
use Rattle.std.proofs.Common.{◌≡◌, ◌≢◌, ◌⊎◌, ℕ, ◌+◌, ◌<◌, Bool, true, false, cond, not, ◌&&◌, ◌||◌, List, [], ◌∷◌, length, count_by, nat_eq, nat_lt, eqb, Option, None, Some, refl, sym, ap, subst, ◌∙◌, inl, inr}
use Rattle.std.specs.Prelude.{bytes_eq}
use Rattle.std.specs.List.{list_any}
use Rattle.std.specs.Option.{option_map_or}
use Rattle.std.proofs.lemmas.Bool.{cases_Bool, eq-eqb, ne_eqb, eqb-true, eqb-false}
use Rattle.sfs_base.specs.Lists.{Roomy}
use Rattle.sfs_image.specs.Inode.{Inode}
use Rattle.sfs_image.specs.Seen.{SeenInodes}
use Rattle.sfs_image.specs.Slot.{Row, kind_byte}
use Rattle.tree_laws.proofs.Joined.{count-cons}
use Rattle.image_laws.specs.ImageTree.{shows_directory}
use Rattle.image_laws.specs.Rules.{some_row, is_misplaced}
use Rattle.image_laws.specs.Slots.{has_name, name_count}
use Rattle.disk_tree.specs.Inodes.{inode_at}
use Rattle.disk_tree.specs.Rows.{rows_of_inode, rows_in_slots, is_misplaced_by}
use Rattle.disk_tree.specs.Shown.{ShowsRows, AreRowTests, RowTestsAreRules}
use Rattle.disk_tree.specs.Tests.{rows_named, has_twice}

-- a row in a slot passes a test where one of the rows does
any_row : (test : Row → Bool) (slots : List (Option Row)) → list_any (λ slot. option_map_or test slot false) slots ≡ list_any test (rows_in_slots slots)
any_row test [] = refl
any_row test (None ∷ slots) = any_row test slots
any_row test (Some row ∷ slots) = ap (λ b. test row || b) (any_row test slots)

-- as many slots as rows have a name
named_rows : (name : List ℕ) (slots : List (Option Row)) → name_count name slots ≡ rows_named name (rows_in_slots slots)
named_rows name [] = refl
named_rows name (None ∷ slots) = count-cons (has_name name) None slots ∙ (let h = named_rows name slots in omega Rattle.std.proofs.Common.arith)
named_rows name (Some row ∷ slots) =
    count-cons (has_name name) (Some row) slots ∙ ap (λ (k : ℕ). cond (bytes_eq name row.name) 1 0 + k) (named_rows name slots)
    ∙ sym (count-cons (λ (other : Row). bytes_eq name other.name) row (rows_in_slots slots))

-- tests that agree on rows
same_any : (p q : Row → Bool) (rows : List Row) → ((row : Row) → p row ≡ q row) → list_any p rows ≡ list_any q rows
same_any p q [] same = refl
same_any p q (row ∷ rows) same = ap (λ b. b || list_any p rows) (same row) ∙ ap (λ b. q row || b) (same_any p q rows same)

module _ (image : SeenInodes) (inodes : List Inode) (rows : List (Roomy Row)) (shows : ShowsRows image inodes rows) where
  -- what is asked of directories alone, by rows that others have not
  of_directory : (i : ℕ) → i < image.count → (asked : Bool) (test : List Row → Bool) → test [] ≡ false
      → ((image.seen i).kind ≡ 2 → asked ≡ test (rows_of_inode rows i)) →
      (shows_directory (image.seen i) && asked) ≡ test (rows_of_inode rows i)
  of_directory i within asked test none same = elim (cases_Bool (eqb (image.seen i).kind 2)) [
    | inl directory ↦ ap (λ b. b && asked) directory ∙ same (eqb-true _ _ directory)
    | inr other ↦ ap (λ b. b && asked) other ∙ sym (ap test (shows.others i within (eqb-false _ _ other)) ∙ none)
  ]

  asked_rows : (i : ℕ) → i < image.count → (image.seen i).kind ≡ 2 → (test : Row → Bool) → some_row image i test ≡ list_any test (rows_of_inode rows i)
  asked_rows i within kind test = any_row test (image.seen i).slots ∙ ap (list_any test) (sym (shows.slots i within kind))

  misplaced_same : (row : Row) → is_misplaced image row ≡ is_misplaced_by inodes row
  misplaced_same row = elim (cases_Bool (nat_lt row.inode image.count)) [
    | inl within ↦ ap (λ b. not b || not (nat_eq (image.seen row.inode).kind (kind_byte row.kind))) within
        ∙ ap (λ (k : ℕ). not (nat_eq k (kind_byte row.kind))) (shows.kind row.inode (Rattle.std.proofs.lemmas.Bool.ltb-true _ _ within))
        ∙ sym (ap (λ b. not b || not (nat_eq (inode_at inodes row.inode).kind (kind_byte row.kind))) (ap (nat_lt row.inode) (sym shows.count) ∙ within))
    | inr beyond ↦ ap (λ b. not b || not (nat_eq (image.seen row.inode).kind (kind_byte row.kind))) beyond
        ∙ sym (ap (λ b. not b || not (nat_eq (inode_at inodes row.inode).kind (kind_byte row.kind))) (ap (nat_lt row.inode) (sym shows.count) ∙ beyond))
  ]

  row_tests : AreRowTests image inodes rows
  row_tests = record {
    eighth = λ i within. of_directory i within _ has_twice refl
        (λ kind. asked_rows i within kind (λ (row : Row). nat_lt 1 (name_count row.name (image.seen i).slots))
        ∙ same_any (λ (row : Row). nat_lt 1 (name_count row.name (image.seen i).slots)) (λ (row : Row). nat_lt 1 (rows_named row.name (rows_of_inode rows i)))
        (rows_of_inode rows i)
        (λ row. ap (nat_lt 1) (named_rows row.name (image.seen i).slots ∙ ap (rows_named row.name) (sym (shows.slots i within kind)))));
    tenth = λ i within. of_directory i within _ (list_any (is_misplaced_by inodes)) refl
        (λ kind. asked_rows i within kind (is_misplaced image) ∙ same_any (is_misplaced image) (is_misplaced_by inodes) (rows_of_inode rows i) misplaced_same);
    eleventh = λ i within. of_directory i within _ (list_any (λ (row : Row). nat_eq row.inode 0)) refl
        (λ kind. asked_rows i within kind (λ (row : Row). nat_eq row.inode 0));
  }

pub row_tests_are_rules : RowTestsAreRules
row_tests_are_rules image inodes rows shows = row_tests image inodes rows shows
