-- The bucket of a row that goes, once it went.
use Rattle.std.proofs.Common.{◌≡◌, ◌<◌, ℕ, Bool, true, false, cond, ◌==◌, nat_eq, List, length, Option, Some, None, IsSome, refl, sym, ap, ◌∙◌, eq-eqb, ⊎_elim}
use Rattle.std.specs.Prelude.{if◌then◌else◌, is_some}
use Rattle.std.specs.Ordering.{eq_by_cmp}
use Rattle.std.specs.Cmp.Lexicographic.{nat_list_cmp_total}
use Rattle.std.proofs.lemmas.Bool.{cases_Bool}
use Rattle.std.specs.FinMap.{FinMap, get, remove, get-remove}
use Rattle.sfs_base.specs.Name.{bucket}
use Rattle.tree_laws.specs.Order.{name_cmp}
use Rattle.tree_laws.specs.Tree.{TreeState, row_of, bucket_rows}
use Rattle.tree_laws.specs.declared.call.Call.{Call}
use Rattle.tree_laws.specs.Effect.{Removes}
use Rattle.tree_laws.specs.Parts.{part_after}
use Rattle.tree_laws.specs.Verdict.{verdict, tree_after_call}
use Rattle.tree_laws.specs.Laws.{IsSoundTree}
use Rattle.tree_laws.proofs.Joined.{name_cmp-IsAntisymmetric, is_equal}
use Rattle.tree_laws.proofs.Parts.{parts_after}
use Rattle.tree_laws.proofs.Names.{get-names_where}
use Rattle.mem_values.specs.declared.bucket.Bucket.{Bucket}
use Rattle.mem_values.specs.Stands.{ShowsBucket, if_directory}
use Rattle.mem_values.specs.Touches.{touches_standing}
use Rattle.mem_values.proofs.Standing.{standing_stays}
use Rattle.mem_values.proofs.Kept.{directory_kept}
use Rattle.mem_calls.specs.Changes.{IsWithoutRow}

pub same_name : (n name : List ℕ) → eq_by_cmp name_cmp n name ≡ true → n ≡ name
same_name n name same = name_cmp-IsAntisymmetric n name (is_equal _ same)

module _ (tree : TreeState) (core : ℕ) (c : Call) (is : IsSoundTree tree) (lt : core < length tree.made) where
  abbrev next : TreeState
  next = tree_after_call tree core c

  module _ (d number : ℕ) (b : Bucket) (shows : ShowsBucket tree d number b) where
    -- a row's child is a node
    child_there : (n : List ℕ) (child : ℕ) → get b.rows n ≡ Some child → IsSome (get tree.nodes child)
    child_there n child row = is.sound.node d n child
        (found (nat_eq (bucket n) number)
        (sym (get-names_where d (λ m. bucket m == number) tree.rows n) ∙ (ap (λ (m : FinMap name_cmp ℕ). get m n) (sym shows.rows) ∙ row)))
      where
        found : (x : Bool) → (if x then row_of tree d n else None) ≡ Some child → row_of tree d n ≡ Some child
        found true e = e
        found false e = absurd (cc (e))

    -- the rows that stay name directories where they did
    pub directories_kept : (n : List ℕ) (row : Option ℕ) → get b.rows n ≡ row → if_directory next row ≡ if_directory tree row
    directories_kept n None row = refl
    directories_kept n (Some child) row = ap (λ x. if x then Some child else None) (directory_kept tree core c is lt child (child_there n child row))

    pub old_directory : (n : List ℕ) → get b.directories n ≡ if_directory tree (get b.rows n)
    old_directory n = shows.directories n ∙ ap (λ (m : FinMap name_cmp ℕ). if_directory tree (get m n)) (sym shows.rows)

  module _ (d : ℕ) (name : List ℕ) (child : ℕ) (removes : (verdict tree core c).effect ≡ Removes d name child) (b new : Bucket)
      (shows : ShowsBucket tree d (bucket name) b) (without : IsWithoutRow name b new)
      (stays : touches_standing tree core c d ≡ false) where
    rows_next : bucket_rows d (bucket name) next.rows ≡ remove b.rows name
    rows_next =
        parts_after tree core (verdict tree core c).effect (verdict tree core c).makes d (λ n. bucket n == bucket name)
        ∙ (ap (λ e. part_after d (λ n. bucket n == bucket name) e (bucket_rows d (bucket name) tree.rows)) removes
        ∙ ((λ i. if here i then remove (sym shows.rows i) name else sym shows.rows i)))
      where
        both : (x y : Bool) → x ≡ true → y ≡ true → Rattle.std.specs.Prelude.◌&&◌ x y ≡ true
        both x y one two = rw (one, two) refl

        here : Rattle.tree_laws.specs.Parts.is_in_part d (λ n. bucket n == bucket name) d name ≡ true
        here = both (d == d) (bucket name == bucket name) (eq-eqb d d refl) (eq-eqb (bucket name) (bucket name) refl)

    gone_directory : (n : List ℕ) → get new.directories n ≡ cond (eq_by_cmp name_cmp n name) None (get b.directories n)
    gone_directory n = ap (λ (m : FinMap name_cmp ℕ). get m n) without.directories ∙ by (get b.directories name) refl
      where
        by : (o : Option ℕ) → get b.directories name ≡ o
            → get (if is_some o then remove b.directories name else b.directories) n ≡ cond (eq_by_cmp name_cmp n name) None (get b.directories n)
        by (Some x) there = get-remove nat_list_cmp_total b.directories name n
        by None there = ⊎_elim
            (λ (same : eq_by_cmp name_cmp n name ≡ true). rw same (ap (get b.directories) (same_name n name same) ∙ there))
            (λ (other : eq_by_cmp name_cmp n name ≡ false). rw other refl)
            (cases_Bool (eq_by_cmp name_cmp n name))

    -- It shows the directory after the call.
    pub bucket_after : ShowsBucket next d (bucket name) new
    bucket_after = record {
      rows = without.rows ∙ sym rows_next;
      directories = λ n. gone_directory n
          ∙ (by n (eq_by_cmp name_cmp n name)
          ∙ ap (if_directory next) (sym (get-remove nat_list_cmp_total b.rows name n) ∙ ap (λ (m : FinMap name_cmp ℕ). get m n) (sym rows_next)));
      stands = ap Rattle.tree_laws.specs.NameRow.number_of without.stands ∙ (shows.stands ∙ sym (standing_stays tree core c d is lt stays));
    }
      where
        by : (n : List ℕ) (same : Bool) → cond same None (get b.directories n) ≡ if_directory next (cond same None (get b.rows n))
        by n true = refl
        by n false = old_directory d (bucket name) b shows n ∙ sym (directories_kept d (bucket name) b shows n (get b.rows n) refl)
