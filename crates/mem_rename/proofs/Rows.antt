-- The rows of a bucket that name directories, once a child has moved.
use Rattle.std.proofs.Common.{◌≡◌, ℕ, Bool, true, false, cond, List, Some, None, ◌⊎◌, inl, inr, refl, sym, ap, ◌∙◌}
use Rattle.std.specs.Ordering.{eq_by_cmp}
use Rattle.std.specs.Cmp.Lexicographic.{nat_list_cmp_total}
use Rattle.std.specs.FinMap.{FinMap, get, insert, remove, get-insert, get-remove}
use Rattle.tree_laws.specs.Order.{name_cmp}
use Rattle.tree_laws.specs.Tree.{TreeState, is_directory}
use Rattle.tree_laws.specs.Parts.{is_in_part, part_with, part_without}
use Rattle.tree_laws.proofs.Joined.{name_cmp-IsAntisymmetric, is_equal}
use Rattle.mem_values.specs.Stands.{if_directory}

module _ (tree : TreeState) where
  -- a map has those of some rows that name directories
  abbrev pub TellsDirectories : FinMap name_cmp ℕ → FinMap name_cmp ℕ → Type 0
  TellsDirectories directories rows = (name : List ℕ) → get directories name ≡ if_directory tree (get rows name)

  module _ (directory : ℕ) (test : List ℕ → Bool) (at : ℕ) (n : List ℕ) (directories rows : FinMap name_cmp ℕ) (tells : TellsDirectories directories rows) where
    gone : (b : Bool) → TellsDirectories (cond b (remove directories n) directories) (cond b (remove rows n) rows)
    gone false name = tells name
    gone true name =
        get-remove nat_list_cmp_total directories n name
        ∙ (by_place (eq_by_cmp name_cmp name n) ∙ ap (if_directory tree) (sym (get-remove nat_list_cmp_total rows n name)))
      where
        by_place : (here : Bool) → cond here None (get directories name) ≡ if_directory tree (cond here None (get rows name))
        by_place true = refl
        by_place false = tells name

    -- so it is once a row went from both
    pub tells_gone : TellsDirectories (part_without directory test at n directories) (part_without directory test at n rows)
    tells_gone = gone (is_in_part directory test at n)

    module _ (child : ℕ) where
      come : is_directory tree child ≡ true → (b : Bool)
          → TellsDirectories (cond b (insert directories n child) directories) (cond b (insert rows n child) rows)
      come kind false name = tells name
      come kind true name =
          get-insert nat_list_cmp_total directories n child name
          ∙ (by_place (eq_by_cmp name_cmp name n) ∙ ap (if_directory tree) (sym (get-insert nat_list_cmp_total rows n child name)))
        where
          by_place : (here : Bool) → cond here (Some child) (get directories name) ≡ if_directory tree (cond here (Some child) (get rows name))
          by_place true = sym (ap (λ k. cond k (Some child) None) kind)
          by_place false = tells name

      -- and once the row of a directory came to both
      pub tells_come : is_directory tree child ≡ true
          → TellsDirectories (part_with directory test at n child directories) (part_with directory test at n child rows)
      tells_come kind = come kind (is_in_part directory test at n)

      over : is_directory tree child ≡ false → (b : Bool) → (b ≡ true → if_directory tree (get rows n) ≡ None)
          → TellsDirectories directories (cond b (insert rows n child) rows)
      over file false none name = tells name
      over file true none name = by_place (eq_by_cmp name_cmp name n) refl ∙ ap (if_directory tree) (sym (get-insert nat_list_cmp_total rows n child name))
        where
          by_place : (here : Bool) → eq_by_cmp name_cmp name n ≡ here → get directories name ≡ if_directory tree (cond here (Some child) (get rows name))
          by_place false is = tells name
          by_place true is =
              tells name ∙ (ap (λ x. if_directory tree (get rows x)) (name_cmp-IsAntisymmetric name n (is_equal _ is))
              ∙ (none refl ∙ sym (ap (λ k. cond k (Some child) None) file)))

      -- and once the row of a file came to the rows, where no directory stood there
      pub tells_over : is_directory tree child ≡ false → (is_in_part directory test at n ≡ true → if_directory tree (get rows n) ≡ None)
          → TellsDirectories directories (part_with directory test at n child rows)
      tells_over file none = over file (is_in_part directory test at n) none

-- once a row went, at each name there is nothing or what was there
pub gone_or_same : (directory : ℕ) (test : List ℕ → Bool) (at : ℕ) (n : List ℕ) (rows : FinMap name_cmp ℕ) (name : List ℕ)
    → (get (part_without directory test at n rows) name ≡ None) ⊎ (get (part_without directory test at n rows) name ≡ get rows name)
gone_or_same directory test at n rows name = by_part (is_in_part directory test at n)
  where
    by_place : (here : Bool) → (cond here None (get rows name) ≡ None) ⊎ (cond here None (get rows name) ≡ get rows name)
    by_place true = inl refl
    by_place false = inr refl

    by_part : (b : Bool) → (get (cond b (remove rows n) rows) name ≡ None) ⊎ (get (cond b (remove rows n) rows) name ≡ get rows name)
    by_part false = inr refl
    by_part true = elim (by_place (eq_by_cmp name_cmp name n)) [
      | inl none ↦ inl (get-remove nat_list_cmp_total rows n name ∙ none)
      | inr same ↦ inr (get-remove nat_list_cmp_total rows n name ∙ same)
    ]
