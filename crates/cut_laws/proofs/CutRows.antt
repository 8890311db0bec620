-- Rows at a cut, directory by directory.
use Rattle.std.proofs.Common.{◌≡◌, ℕ, Bool, true, false, cond, ◌&&◌, List, [], ◌∷◌, refl, sym, ap, subst, ◌∙◌, nat_lt, nat_eq}
use borrow.Author.Tests.{eqb-true}
use Rattle.std.specs.Prelude.{filter, fold}
use Rattle.std.specs.FinMap.{FinMap, insert, remove}
use Rattle.tree_laws.specs.Order.{key_cmp}
use Rattle.tree_laws.specs.Tree.{names_of}
use Rattle.tree_laws.specs.Changes.{RowChange, is_own_below, with_change, changes_of}
use Rattle.tree_laws.proofs.Histories.{names_of-insert, names_of-remove}
use Rattle.cut_laws.specs.Cut.{Cut, cut_of, is_within, with_own}
use Rattle.cut_laws.specs.Laws.{DirectoriesAreCut}

-- a change made in all rows is made in those of its directory
names_of-with_own : (d : ℕ) (rows : FinMap key_cmp ℕ) (x : RowChange)
    → names_of d (with_own rows x) ≡ cond (nat_eq x.directory d) (with_change (names_of d rows) x) (names_of d rows)
names_of-with_own d rows x =
    elim x.places as (λ b. names_of d (cond b (insert rows (x.directory, x.name) x.child) (remove rows (x.directory, x.name)))
    ≡ cond (nat_eq x.directory d) (cond b (insert (names_of d rows) x.name x.child) (remove (names_of d rows) x.name)) (names_of d rows)) [
      | true ↦ names_of-insert d x.directory x.name x.child rows
      | false ↦ names_of-remove d x.directory x.name rows
    ]

-- one change is made in a directory's rows where it is its own and lies below its cut
one_more : (d : ℕ) (cut : Cut) (x : RowChange) (rows : FinMap key_cmp ℕ) (changes : List RowChange)
    → ((more : FinMap key_cmp ℕ)
    → names_of d (fold with_own more (filter (is_within cut) changes))
    ≡ fold with_change (names_of d more) (filter (is_own_below d (cut_of cut d)) changes))
    → names_of d (fold with_own rows (filter (is_within cut) (x ∷ changes)))
    ≡ fold with_change (names_of d rows) (filter (is_own_below d (cut_of cut d)) (x ∷ changes))
one_more d cut x rows changes rest =
    elim (nat_eq x.directory d) as (λ b. nat_eq x.directory d ≡ b
    → names_of d (fold with_own rows (cond (nat_lt x.stamp (cut_of cut x.directory)) (x ∷ filter (is_within cut) changes) (filter (is_within cut) changes)))
    ≡ fold with_change (names_of d rows)
    (cond (nat_lt x.stamp (cut_of cut d) && b) (x ∷ filter (is_own_below d (cut_of cut d)) changes)
    (filter (is_own_below d (cut_of cut d)) changes))) [
      | true ↦
          λ t. subst (λ (e : ℕ). names_of d
          (fold with_own rows (cond (nat_lt x.stamp (cut_of cut e)) (x ∷ filter (is_within cut) changes) (filter (is_within cut) changes)))
          ≡ fold with_change (names_of d rows)
          (cond (nat_lt x.stamp (cut_of cut d) && true) (x ∷ filter (is_own_below d (cut_of cut d)) changes)
          (filter (is_own_below d (cut_of cut d)) changes)))
          (sym (eqb-true _ _ t)) (own t)
      | false ↦ λ t. other t
    ] refl
  where
    own : nat_eq x.directory d ≡ true
        → names_of d (fold with_own rows (cond (nat_lt x.stamp (cut_of cut d)) (x ∷ filter (is_within cut) changes) (filter (is_within cut) changes)))
        ≡ fold with_change (names_of d rows)
        (cond (nat_lt x.stamp (cut_of cut d) && true) (x ∷ filter (is_own_below d (cut_of cut d)) changes)
        (filter (is_own_below d (cut_of cut d)) changes))
    own t =
        elim (nat_lt x.stamp (cut_of cut d)) as (λ b. names_of d
        (fold with_own rows (cond b (x ∷ filter (is_within cut) changes) (filter (is_within cut) changes)))
        ≡ fold with_change (names_of d rows)
        (cond (b && true) (x ∷ filter (is_own_below d (cut_of cut d)) changes) (filter (is_own_below d (cut_of cut d)) changes))) [
          | true ↦
              rest (with_own rows x)
              ∙ ap (λ r. fold with_change r (filter (is_own_below d (cut_of cut d)) changes))
              (names_of-with_own d rows x ∙ ap (λ b. cond b (with_change (names_of d rows) x) (names_of d rows)) t)
          | false ↦ rest rows
        ]

    none : (b : Bool)
        → cond (b && false) (x ∷ filter (is_own_below d (cut_of cut d)) changes) (filter (is_own_below d (cut_of cut d)) changes)
        ≡ filter (is_own_below d (cut_of cut d)) changes
    none true = refl
    none false = refl

    other : nat_eq x.directory d ≡ false
        → names_of d (fold with_own rows (cond (nat_lt x.stamp (cut_of cut x.directory)) (x ∷ filter (is_within cut) changes) (filter (is_within cut) changes)))
        ≡ fold with_change (names_of d rows)
        (cond (nat_lt x.stamp (cut_of cut d) && false) (x ∷ filter (is_own_below d (cut_of cut d)) changes)
        (filter (is_own_below d (cut_of cut d)) changes))
    other t =
        elim (nat_lt x.stamp (cut_of cut x.directory)) as (λ b. names_of d
        (fold with_own rows (cond b (x ∷ filter (is_within cut) changes) (filter (is_within cut) changes)))
        ≡ fold with_change (names_of d rows) (filter (is_own_below d (cut_of cut d)) changes)) [
          | true ↦
              rest (with_own rows x)
              ∙ ap (λ r. fold with_change r (filter (is_own_below d (cut_of cut d)) changes))
              (names_of-with_own d rows x ∙ ap (λ b. cond b (with_change (names_of d rows) x) (names_of d rows)) t)
          | false ↦ rest rows
        ]
        ∙ ap (fold with_change (names_of d rows)) (sym (none (nat_lt x.stamp (cut_of cut d))))

-- the changes below a cut make in each directory its own changes below its stamp
pub names_of-cut : (d : ℕ) (cut : Cut) (rows : FinMap key_cmp ℕ) (changes : List RowChange)
    → names_of d (fold with_own rows (filter (is_within cut) changes)) ≡ fold with_change (names_of d rows) (filter (is_own_below d (cut_of cut d)) changes)
names_of-cut d cut rows [] = refl
names_of-cut d cut rows (x ∷ changes) = one_more d cut x rows changes (λ more. names_of-cut d cut more changes)

pub directories_are_cut : DirectoriesAreCut
directories_are_cut first history cut directory = names_of-cut directory cut first.rows (changes_of first history)
