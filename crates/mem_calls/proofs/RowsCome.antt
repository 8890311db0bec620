-- The bucket of a row that comes, once it came.
use Rattle.std.proofs.Common.{◌≡◌, ◌<◌, ℕ, Bool, true, false, cond, ◌&&◌, ◌==◌, List, length, Some, None, refl, sym, ap, ◌∙◌, eq-eqb, ⊎_elim}
use Rattle.std.specs.Prelude.{if◌then◌else◌}
use Rattle.std.specs.Ordering.{eq_by_cmp}
use Rattle.std.specs.Cmp.Lexicographic.{nat_list_cmp_total}
use Rattle.std.proofs.lemmas.Bool.{cases_Bool}
use Rattle.std.specs.FinMap.{FinMap, get, insert, get-insert}
use Rattle.sfs_base.specs.Name.{bucket}
use Rattle.sfs_base.specs.declared.numbers.Kind.{Kind}
use Rattle.tree_laws.specs.Order.{name_cmp}
use Rattle.tree_laws.specs.NameRow.{number_of}
use Rattle.tree_laws.specs.Tree.{TreeState, is_directory, is_directory_kind, bucket_rows}
use Rattle.tree_laws.specs.declared.call.Call.{Call}
use Rattle.tree_laws.specs.Effect.{Adds}
use Rattle.tree_laws.specs.Parts.{is_in_part, part_after}
use Rattle.tree_laws.specs.Verdict.{verdict, tree_after_call}
use Rattle.tree_laws.specs.Laws.{IsSoundTree}
use Rattle.tree_laws.proofs.Parts.{parts_after}
use Rattle.mem_values.specs.declared.bucket.Bucket.{Bucket}
use Rattle.mem_values.specs.Stands.{ShowsBucket, if_directory}
use Rattle.mem_values.specs.Touches.{touches_standing}
use Rattle.mem_values.proofs.Standing.{standing_stays}
use Rattle.mem_calls.specs.Changes.{IsWithRow}
use Rattle.mem_calls.proofs.RowsGo.{same_name, old_directory, directories_kept}

module _ (tree : TreeState) (core : ℕ) (c : Call) (is : IsSoundTree tree) (lt : core < length tree.made) (d : ℕ) (name : List ℕ) (child : ℕ)
    (adds : (verdict tree core c).effect ≡ Adds d name child) (b new : Bucket)
    (shows : ShowsBucket tree d (bucket name) b) (kind : Kind) (more : IsWithRow name child kind b new) (free : get b.rows name ≡ None)
    (kind_next : is_directory (tree_after_call tree core c) child ≡ is_directory_kind kind) (stays : touches_standing tree core c d ≡ false) where
  abbrev next : TreeState
  next = tree_after_call tree core c

  rows_next : bucket_rows d (bucket name) next.rows ≡ insert b.rows name child
  rows_next =
      parts_after tree core (verdict tree core c).effect (verdict tree core c).makes d (λ n. bucket n == bucket name)
      ∙ (ap (λ e. part_after d (λ n. bucket n == bucket name) e (bucket_rows d (bucket name) tree.rows)) adds
      ∙ (λ i. if here i then insert (sym shows.rows i) name child else sym shows.rows i))
    where
      both : (x y : Bool) → x ≡ true → y ≡ true → (x && y) ≡ true
      both x y one two = rw (one, two) refl

      here : is_in_part d (λ n. bucket n == bucket name) d name ≡ true
      here = both (d == d) (bucket name == bucket name) (eq-eqb d d refl) (eq-eqb (bucket name) (bucket name) refl)

  -- It shows the directory after the call.
  pub bucket_after : ShowsBucket next d (bucket name) new
  bucket_after = record {
    rows = more.rows ∙ sym rows_next;
    directories = λ n. ap (λ (m : FinMap name_cmp ℕ). get m n) more.directories ∙ (with_name n (is_directory_kind kind)
        ∙ (each n ∙ ap (if_directory next)
        (sym (get-insert nat_list_cmp_total b.rows name child n) ∙ ap (λ (m : FinMap name_cmp ℕ). get m n) (sym rows_next))));
    stands = ap number_of more.stands ∙ (shows.stands ∙ sym (standing_stays tree core c d is lt stays));
  }
    where
      none_there : get b.directories name ≡ None
      none_there = old_directory tree core c is lt d (bucket name) b shows name ∙ ap (if_directory tree) free

      with_name : (n : List ℕ) (d : Bool)
          → get (if d then insert b.directories name child else b.directories) n ≡ cond (eq_by_cmp name_cmp n name) (if d then Some child else None)
          (get b.directories n)
      with_name n true = get-insert nat_list_cmp_total b.directories name child n
      with_name n false = ⊎_elim
          (λ (same : eq_by_cmp name_cmp n name ≡ true). rw same (ap (get b.directories) (same_name n name same) ∙ none_there))
          (λ (other : eq_by_cmp name_cmp n name ≡ false). rw other refl)
          (cases_Bool (eq_by_cmp name_cmp n name))

      each : (n : List ℕ) → cond (eq_by_cmp name_cmp n name) (if is_directory_kind kind then Some child else None) (get b.directories n) ≡ if_directory next
          (cond (eq_by_cmp name_cmp n name) (Some child) (get b.rows n))
      each n = ⊎_elim
          (λ (same : eq_by_cmp name_cmp n name ≡ true). rw same (ap (λ d. if d then Some child else None) (sym kind_next)))
          (λ (other : eq_by_cmp name_cmp n name ≡ false). rw other
          (old_directory tree core c is lt d (bucket name) b shows n
          ∙ sym (directories_kept tree core c is lt d (bucket name) b shows n (get b.rows n) refl)))
          (cases_Bool (eq_by_cmp name_cmp n name))
