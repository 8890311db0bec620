-- Two lists of rows in one.
use Rattle.std.proofs.Common.{◌≡◌, ℕ, Bool, true, false, cond, T, List, [], ◌∷◌, Some, None, IsSome, refl, sym, ap, subst, ◌∙◌}
use Rattle.std.specs.declared.cmp.Ordering.{Ordering}
use Rattle.std.specs.declared.cmp.Ordering.TheVariants.{Less, Equal, Greater}
use Rattle.std.specs.Ordering.{is_eq, is_lt, eq_by_cmp, ordering_reverse}
use Rattle.std.specs.Cmp.{tied_itself}
use Rattle.std.specs.Cmp.Lexicographic.{nat_list_cmp_total}
use Rattle.std.specs.FinMap.{find, is_sorted}
use Rattle.std.specs.FinMap.Entries.{below_all}
use Rattle.tree_laws.specs.Order.{name_cmp}
use Rattle.tree_laws.specs.NameRow.{both_lists, put_among}
use Rattle.std.specs.Option.{option_or}
use Rattle.tree_laws.proofs.Search.{is_less, below_if_less}
use Rattle.sfs_base.proofs.BasicTruth.{both_of}
use Rattle.sfs_base.proofs.BasicTruth.{both_second}
use Rattle.sfs_base.proofs.BasicTruth.{both_first}
use Rattle.sfs_base.proofs.BasicTruth.{not_both}

-- no list has nothing to add
pub both_lists-none : (rows : List (List ℕ × ℕ)) → both_lists rows [] ≡ rows
both_lists-none [] = refl
both_lists-none (row ∷ rows) = ap (λ l. row ∷ l) (both_lists-none rows)

-- names of the first rows that the other rows have not
abbrev pub Apart : List (List ℕ × ℕ) → List (List ℕ × ℕ) → Type 0
Apart rows others = (name : List ℕ) → IsSome (find name_cmp name rows) → find name_cmp name others ≡ None

some_head : (row : List ℕ × ℕ) (rows : List (List ℕ × ℕ)) (name : List ℕ) → eq_by_cmp name_cmp name row.0 ≡ true → IsSome (find name_cmp name (row ∷ rows))
some_head row rows name e = subst (λ b. IsSome (cond b (Some row.1) (find name_cmp name rows))) (sym e) refl

some_tail : (row : List ℕ × ℕ) (rows : List (List ℕ × ℕ)) (name : List ℕ) → IsSome (find name_cmp name rows) → IsSome (find name_cmp name (row ∷ rows))
some_tail row rows name some =
    elim (eq_by_cmp name_cmp name row.0) as (λ b. IsSome (cond b (Some row.1) (find name_cmp name rows))) [ true ↦ refl | false ↦ some ]

none_tail : (row : List ℕ × ℕ) (rows : List (List ℕ × ℕ)) (name : List ℕ) → find name_cmp name (row ∷ rows) ≡ None → find name_cmp name rows ≡ None
none_tail row rows name none =
    elim (eq_by_cmp name_cmp name row.0) as (λ b. cond b (Some row.1) (find name_cmp name rows) ≡ None → find name_cmp name rows ≡ None) [
      | true ↦
          λ e. cc
      | false ↦ λ e. e
    ]
    none

none_head : (row : List ℕ × ℕ) (rows : List (List ℕ × ℕ)) (name : List ℕ) → find name_cmp name (row ∷ rows) ≡ None → eq_by_cmp name_cmp name row.0 ≡ false
none_head row rows name none =
    elim (eq_by_cmp name_cmp name row.0) as (λ b. cond b (Some row.1) (find name_cmp name rows) ≡ None → b ≡ false) [ true ↦ λ e. cc | false ↦ λ e. refl ] none

apart_tail : (row : List ℕ × ℕ) (rows others : List (List ℕ × ℕ)) → Apart (row ∷ rows) others → Apart rows others
apart_tail row rows others apart = λ name some. apart name (some_tail row rows name some)

apart_less : (rows : List (List ℕ × ℕ)) (other : List ℕ × ℕ) (others : List (List ℕ × ℕ)) → Apart rows (other ∷ others) → Apart rows others
apart_less rows other others apart = λ name some. none_tail other others name (apart name some)

-- what follows a row, once it is joined with the other rows, finds what either has
abbrev FindsBoth : List ℕ → List (List ℕ × ℕ) → (List (List ℕ × ℕ) → List (List ℕ × ℕ)) → Type 0
FindsBoth name rows follow =
    (others : List (List ℕ × ℕ)) → Apart rows others → find name_cmp name (follow others) ≡ option_or (find name_cmp name rows) (find name_cmp name others)

find_first : (name : List ℕ) (row : List ℕ × ℕ) (rows : List (List ℕ × ℕ)) (follow : List (List ℕ × ℕ) → List (List ℕ × ℕ)) → FindsBoth name rows follow
    → (others : List (List ℕ × ℕ)) → Apart (row ∷ rows) others
    → cond (eq_by_cmp name_cmp name row.0) (Some row.1) (find name_cmp name (follow others))
    ≡ option_or (cond (eq_by_cmp name_cmp name row.0) (Some row.1) (find name_cmp name rows)) (find name_cmp name others)
find_first name row rows follow h others apart =
    ap (cond (eq_by_cmp name_cmp name row.0) (Some row.1)) (h others (apart_tail row rows others apart))
    ∙ elim (eq_by_cmp name_cmp name row.0) as (λ b. cond b (Some row.1) (option_or (find name_cmp name rows) (find name_cmp name others))
    ≡ option_or (cond b (Some row.1) (find name_cmp name rows)) (find name_cmp name others)) [
      | true ↦
          refl
      | false ↦ refl
    ]

not_among : (name : List ℕ) (rows : List (List ℕ × ℕ)) (other : List ℕ × ℕ) (others : List (List ℕ × ℕ)) → Apart rows (other ∷ others)
    → eq_by_cmp name_cmp name other.0 ≡ true → find name_cmp name rows ≡ None
not_among name rows other others apart t =
    elim (find name_cmp name rows) as (λ o. find name_cmp name rows ≡ o → o ≡ None) [
      | Some x ↦ λ e. absurd (not_both t (none_head other others name (apart name (subst IsSome (sym e) refl))))
      | None ↦ λ e. refl
    ] refl

find-put_among : (name : List ℕ) (row : List ℕ × ℕ) (rows : List (List ℕ × ℕ)) (follow : List (List ℕ × ℕ) → List (List ℕ × ℕ)) → FindsBoth name rows follow
    → FindsBoth name (row ∷ rows) (put_among row follow)
find-put_among name row rows follow h [] apart = find_first name row rows follow h [] apart
find-put_among name row rows follow h (other ∷ others) apart =
    let rest = find-put_among name row rows follow h others (apart_less (row ∷ rows) other others apart) in
    elim (is_lt (name_cmp row.0 other.0)) as (λ b. find name_cmp name (cond b (row ∷ follow (other ∷ others)) (other ∷ put_among row follow others))
    ≡ option_or (find name_cmp name (row ∷ rows)) (find name_cmp name (other ∷ others))) [
      | true ↦ find_first name row rows follow h (other ∷ others) apart
      | false ↦
          ap (cond (eq_by_cmp name_cmp name other.0) (Some other.1)) rest
          ∙ elim (eq_by_cmp name_cmp name other.0) as (λ b. eq_by_cmp name_cmp name other.0 ≡ b
          → cond b (Some other.1) (option_or (find name_cmp name (row ∷ rows)) (find name_cmp name others))
          ≡ option_or (find name_cmp name (row ∷ rows)) (cond b (Some other.1) (find name_cmp name others))) [
            | true ↦ λ t. sym (ap (λ o. option_or o (Some other.1)) (not_among name (row ∷ rows) other others apart t))
            | false ↦ λ t. refl
          ] refl
    ]

-- the row with the name is found in the first list or in the second
pub find-both_lists : (name : List ℕ) (rows others : List (List ℕ × ℕ)) → Apart rows others
    → find name_cmp name (both_lists rows others) ≡ option_or (find name_cmp name rows) (find name_cmp name others)
find-both_lists name [] others apart = refl
find-both_lists name (row ∷ rows) others apart =
    find-put_among name row rows (both_lists rows) (λ others apart. find-both_lists name rows others apart) others apart

-- what follows a row, once it is joined with the other rows, lies above what lies below both
abbrev Above : List (List ℕ × ℕ) → (List (List ℕ × ℕ) → List (List ℕ × ℕ)) → Type 0
Above rows follow =
    (least : List ℕ) (others : List (List ℕ × ℕ)) → T (below_all name_cmp least rows) → T (below_all name_cmp least others)
    → T (below_all name_cmp least (follow others))

below-put_among : (row : List ℕ × ℕ) (rows : List (List ℕ × ℕ)) (follow : List (List ℕ × ℕ) → List (List ℕ × ℕ)) → Above rows follow
    → (least : List ℕ) (others : List (List ℕ × ℕ)) → T (below_all name_cmp least (row ∷ rows)) → T (below_all name_cmp least others)
    → T (below_all name_cmp least (put_among row follow others))
below-put_among row rows follow above least [] h g = both_of _ _ (both_first _ _ h) (above least [] (both_second _ _ h) tt)
below-put_among row rows follow above least (other ∷ others) h g =
    let rest = below-put_among row rows follow above least others h (both_second _ _ g) in
    elim (is_lt (name_cmp row.0 other.0)) as (λ b. T
    (below_all name_cmp least (cond b (row ∷ follow (other ∷ others)) (other ∷ put_among row follow others)))) [
      | true ↦ both_of _ _ (both_first _ _ h) (above least (other ∷ others) (both_second _ _ h) g)
      | false ↦ both_of _ _ (both_first _ _ g) rest
    ]

below-both_lists : (rows : List (List ℕ × ℕ)) → Above rows (both_lists rows)
below-both_lists [] least others h g = g
below-both_lists (row ∷ rows) least others h g = below-put_among row rows (both_lists rows) (below-both_lists rows) least others h g

-- a name that is not less than another, and is not it, is greater
greater : (a b : List ℕ) → is_lt (name_cmp a b) ≡ false → eq_by_cmp name_cmp a b ≡ false → name_cmp b a ≡ Less
greater a b not_less not_same =
    nat_list_cmp_total.antisymm b a ∙ ap ordering_reverse (is_greater (name_cmp a b) not_less not_same)
  where
    is_greater : (o : Ordering) → is_lt o ≡ false → is_eq o ≡ false → o ≡ Greater
    is_greater Less e f = cc
    is_greater Equal e f = cc
    is_greater Greater e f = refl

is_true : (b : Bool) → b ≡ true → T b
is_true b e = subst T (sym e) tt

pub itself : (a : List ℕ) → eq_by_cmp name_cmp a a ≡ true
itself a = ap is_eq (tied_itself nat_list_cmp_total a)

-- what follows a row, once it is joined with the other rows, is in order
abbrev Sorts : List (List ℕ × ℕ) → (List (List ℕ × ℕ) → List (List ℕ × ℕ)) → Type 0
Sorts rows follow = (others : List (List ℕ × ℕ)) → T (is_sorted name_cmp others) → Apart rows others → T (is_sorted name_cmp (follow others))

sorted-put_among : (row : List ℕ × ℕ) (rows : List (List ℕ × ℕ)) (follow : List (List ℕ × ℕ) → List (List ℕ × ℕ)) → T (is_sorted name_cmp (row ∷ rows))
    → Above rows follow → Sorts rows follow → (others : List (List ℕ × ℕ)) → T (is_sorted name_cmp others) → Apart (row ∷ rows) others
    → T (is_sorted name_cmp (put_among row follow others))
sorted-put_among row rows follow s above sorts [] t apart =
    both_of _ _ (above row.0 [] (both_first _ _ s) tt) (sorts [] tt (apart_tail row rows [] apart))
sorted-put_among row rows follow s above sorts (other ∷ others) t apart =
    let rest = sorted-put_among row rows follow s above sorts others (both_second _ _ t) (apart_less (row ∷ rows) other others apart) in
    elim (is_lt (name_cmp row.0 other.0)) as (λ b. is_lt (name_cmp row.0 other.0) ≡ b
    → T (is_sorted name_cmp (cond b (row ∷ follow (other ∷ others)) (other ∷ put_among row follow others)))) [
      | true ↦
          λ e. both_of _ _
          (above row.0 (other ∷ others) (both_first _ _ s)
          (both_of _ _ (is_true _ e) (below_if_less nat_list_cmp_total row.0 other.0 others (is_less _ (is_true _ e)) (both_first _ _ t))))
          (sorts (other ∷ others) t (apart_tail row rows (other ∷ others) apart))
      | false ↦ λ e.
          let less : name_cmp other.0 row.0 ≡ Less =
          greater row.0 other.0 e (none_head other others row.0 (apart row.0 (some_head row rows row.0 (itself row.0)))) in
          both_of _ _
          (below-put_among row rows follow above other.0 others
          (both_of _ _ (subst (λ o. T (is_lt o)) (sym less) tt) (below_if_less nat_list_cmp_total other.0 row.0 rows less (both_first _ _ s)))
          (both_first _ _ t))
          rest
    ] refl

-- two lists in order whose names are apart give a list in order
pub sorted-both_lists : (rows others : List (List ℕ × ℕ)) → T (is_sorted name_cmp rows) → T (is_sorted name_cmp others) → Apart rows others
    → T (is_sorted name_cmp (both_lists rows others))
sorted-both_lists [] others s t apart = t
sorted-both_lists (row ∷ rows) others s t apart =
    sorted-put_among row rows (both_lists rows) s (below-both_lists rows)
    (λ others t apart. sorted-both_lists rows others (both_second _ _ s) t apart) others t apart

-- of two rows the one with the lesser name comes first
pub both_lists-first : (row other : List ℕ × ℕ) (rows others : List (List ℕ × ℕ)) → is_lt (name_cmp row.0 other.0) ≡ true
    → both_lists (row ∷ rows) (other ∷ others) ≡ row ∷ both_lists rows (other ∷ others)
both_lists-first row other rows others e = ap (λ b. cond b (row ∷ both_lists rows (other ∷ others)) (other ∷ put_among row (both_lists rows) others)) e

-- and else the other
pub both_lists-other : (row other : List ℕ × ℕ) (rows others : List (List ℕ × ℕ)) → is_lt (name_cmp row.0 other.0) ≡ false
    → both_lists (row ∷ rows) (other ∷ others) ≡ other ∷ both_lists (row ∷ rows) others
both_lists-other row other rows others e = ap (λ b. cond b (row ∷ both_lists rows (other ∷ others)) (other ∷ put_among row (both_lists rows) others)) e
