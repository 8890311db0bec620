-- Rows in the order of their names: as many of each kind make one list.
use Rattle.std.proofs.Common.{◌≡◌, ◌<◌, ◌≤◌, ◌+◌, ℕ, suc, Bool, true, false, cond, ◌&&◌, T, List, [], ◌∷◌, length, map, count_by, refl, sym, ap, subst, ◌∙◌, arith, ⊎_elim, get_or}
use Rattle.std.specs.Cmp.{tied_itself}
use Rattle.std.specs.Cmp.Lexicographic.{nat_list_cmp_total}
use Rattle.std.specs.Ordering.{is_lt, is_eq, ordering_reverse}
use Rattle.std.specs.declared.cmp.Ordering.{Ordering}
use Rattle.std.specs.declared.cmp.Ordering.TheVariants.{Less, Equal, Greater}
use Rattle.std.specs.FinMap.{is_sorted}
use Rattle.std.specs.FinMap.Entries.{below_all}
use Rattle.std.proofs.lemmas.Bool.{cases_Bool}
use Rattle.std.proofs.lemmas.List.MinMax.{ranks_by}
use Rattle.std.proofs.lemmas.List.Sorted.{sorted_far}
use Rattle.sfs_base.proofs.BasicTruth.{and_first, not_both_of, both_first, both_second}
use Rattle.sfs_base.specs.declared.numbers.Kind.{Kind}
use Rattle.tree_laws.specs.Order.{name_cmp}
use Rattle.tree_laws.specs.Tree.{is_directory_kind, kind_if, kind_again}
use Rattle.tree_laws.specs.NameKinds.{name_kind}
use Rattle.tree_laws.specs.declared.listing.NameKind.{NameKind}
use Rattle.tree_laws.proofs.Joined.{name_cmp-IsAntisymmetric, count-cons}
use Rattle.mem_calls.specs.Listed.{precedes_by_name, AreInNameOrder}

abbrev pub Row : Type 0
Row = List ℕ × Kind

-- two lists have as many rows that pass each test
abbrev pub SameCounts : List Row → List Row → Type 0
SameCounts rows others = (test : Row → Bool) → count_by test rows ≡ count_by test others

-- no name of these comes before that of a row
abbrev NoneBefore : NameKind → List NameKind → Type 0
NoneBefore row [] = Unit {0}
NoneBefore row (other ∷ others) = (precedes_by_name other row ≡ false) × NoneBefore row others

abbrev Ascend : List NameKind → Type 0
Ascend [] = Unit {0}
Ascend (row ∷ rows) = NoneBefore row rows × Ascend rows

none_before : (row : NameKind) (rows : List NameKind) → ((j : ℕ) → j < length rows → precedes_by_name (get_or rows j row) row ≡ false) → NoneBefore row rows
none_before row [] all = tt
none_before row (other ∷ others) all = (all 0 (omega arith), none_before row others (λ j lt. all (suc j) (omega (arith, lt))))

next_is : (k : ℕ) → suc k + 1 ≡ suc (k + 1)
next_is k = omega arith

ascends : (rows : List NameKind) → AreInNameOrder rows → Ascend rows
ascends [] up = tt
ascends (row ∷ rows) up = (
  none_before row rows (λ j lt. sorted_far precedes_by_name (ranks_by nat_list_cmp_total (λ (r : NameKind). r.name)) (row ∷ rows) up 0 (suc j) row (omega arith)
      (omega (arith, lt))),
  ascends rows (λ k d low less. subst (λ n. precedes_by_name (get_or (row ∷ rows) n d) (get_or (row ∷ rows) (suc k) d) ≡ false) (next_is k)
      (up (suc k) d (omega arith) (omega (arith, less)))),
)

is_true : (b : Bool) → T b → b ≡ true
is_true true t = refl
is_true false t = absurd t

-- names of which neither comes before the other are one
one_name : (name other : List ℕ) → is_lt (name_cmp name other) ≡ false → is_lt (name_cmp other name) ≡ false → name ≡ other
one_name name other first second = by (name_cmp name other) (name_cmp other name) refl refl (nat_list_cmp_total.antisymm name other)
  where
    by : (o r : Ordering) → name_cmp name other ≡ o → name_cmp other name ≡ r → name_cmp name other ≡ ordering_reverse (name_cmp other name) → name ≡ other
    by Less r is back both = absurd (not_both_of (is_lt (name_cmp name other)) (ap is_lt is) first)
    by Equal r is back both = name_cmp-IsAntisymmetric name other is
    by Greater Less is back both = absurd (not_both_of (is_lt (name_cmp other name)) (ap is_lt back) second)
    by Greater Equal is back both = cc
    by Greater Greater is back both = cc

-- a name that comes before another does not come behind it, and is not the same
module _ (name other : List ℕ) (before : is_lt (name_cmp name other) ≡ true) where
  turned : (o r : Ordering) → name_cmp name other ≡ o → name_cmp other name ≡ r → name_cmp name other ≡ ordering_reverse (name_cmp other name)
      → (is_lt (name_cmp other name) ≡ false) × (is_eq (name_cmp other name) ≡ false)
  turned Less Less is back both = cc
  turned Less Equal is back both = cc
  turned Less Greater is back both = (ap is_lt back, ap is_eq back)
  turned Equal r is back both = absurd (not_both_of (is_lt (name_cmp name other)) before (ap is_lt is))
  turned Greater r is back both = absurd (not_both_of (is_lt (name_cmp name other)) before (ap is_lt is))

  pub not_behind : is_lt (name_cmp other name) ≡ false
  not_behind = (turned (name_cmp name other) (name_cmp other name) refl refl (nat_list_cmp_total.antisymm name other)).0

  pub not_equal : is_eq (name_cmp other name) ≡ false
  not_equal = (turned (name_cmp name other) (name_cmp other name) refl refl (nat_list_cmp_total.antisymm name other)).1

-- whether a row's name comes before a name; whether it is the name; whether also the row's node is a directory
abbrev is_before : List ℕ → Row → Bool
is_before name row = is_lt (name_cmp row.0 name)

abbrev is_named : List ℕ → Row → Bool
is_named name row = is_eq (name_cmp row.0 name)

abbrev is_directory_named : List ℕ → Row → Bool
is_directory_named name row = is_named name row && is_directory_kind row.1

none_counted : (name : List ℕ) (test : Row → Bool) (rows : List Row) → ((row : Row) → is_lt (name_cmp name row.0) ≡ true → test row ≡ false)
    → T (below_all name_cmp name rows) → count_by test rows ≡ 0
none_counted name test [] fails below = refl
none_counted name test (row ∷ rows) fails below =
    let first : ◌≡◌ {A = ℕ} (cond (test row) 1 0) 0 = ap (λ b. cond b 1 0) (fails row (is_true _ (both_first _ _ below))) in
    let rest = none_counted name test rows fails (both_second _ _ below) in
    let all = count-cons test row rows in
    omega (arith, first, rest, all)

none_less : (row : NameKind) (rows : List NameKind) → NoneBefore row rows → count_by (is_before row.name) (map name_kind rows) ≡ 0
none_less row [] none = refl
none_less row (other ∷ others) none =
    let first : ◌≡◌ {A = ℕ} (cond (precedes_by_name other row) 1 0) 0 = ap (λ b. cond b 1 0) none.0 in
    let rest = none_less row others none.1 in
    let all = count-cons (is_before row.name) (name_kind other) (map name_kind others) in
    omega (arith, first, rest, all)

count_le : (p q : Row → Bool) (rows : List Row) → ((row : Row) → p row ≡ true → q row ≡ true) → count_by p rows ≤ count_by q rows
count_le p q [] less = omega arith
count_le p q (row ∷ rows) less = let rest = count_le p q rows less in let one = count-cons p row rows in let two = count-cons q row rows in ⊎_elim
    (λ (yes : p row ≡ true). let a : ◌≡◌ {A = ℕ} (cond (p row) 1 0) 1 = ap (λ x. cond x 1 0) yes in
    let b : ◌≡◌ {A = ℕ} (cond (q row) 1 0) 1 = ap (λ x. cond x 1 0) (less row yes) in omega (arith, rest, one, two, a, b))
    (λ (no : p row ≡ false). let a : ◌≡◌ {A = ℕ} (cond (p row) 1 0) 0 = ap (λ x. cond x 1 0) no in omega (arith, rest, one, two, a))
    (cases_Bool (p row))

zero_false : (b : Bool) → ◌≡◌ {A = ℕ} (cond b 1 0) 0 → b ≡ false
zero_false true zero = absurd (omega (arith, zero))
zero_false false zero = refl

same_bool : (a b : Bool) → ◌≡◌ {A = ℕ} (cond a 1 0) (cond b 1 0) → a ≡ b
same_bool true true same = refl
same_bool true false same = absurd (omega (arith, same))
same_bool false true same = absurd (omega (arith, same))
same_bool false false same = refl

module _ (a : NameKind) (A : List NameKind) (b : Row) (B : List Row) (asc : Ascend (a ∷ A)) (sorted : T (is_sorted name_cmp (b ∷ B)))
    (same : SameCounts (map name_kind (a ∷ A)) (b ∷ B)) where
  counts : (test : Row → Bool) → cond (test (name_kind a)) 1 0 + count_by test (map name_kind A) ≡ cond (test b) 1 0 + count_by test B
  counts test = sym (count-cons test (name_kind a) (map name_kind A)) ∙ (same test ∙ count-cons test b B)

  below : T (below_all name_cmp b.0 B)
  below = both_first _ _ sorted

  not_less : is_lt (name_cmp a.name b.0) ≡ false
  not_less =
      let all = counts (is_before b.0) in
      let own : ◌≡◌ {A = ℕ} (cond (is_before b.0 b) 1 0) 0 = ap (λ o. cond (is_lt o) 1 0) (tied_itself nat_list_cmp_total b.0) in
      let none = none_counted b.0 (is_before b.0) B (λ row before. not_behind b.0 row.0 before) below in
      zero_false _ (omega (arith, all, own, none))

  not_more : is_lt (name_cmp b.0 a.name) ≡ false
  not_more =
      let all = counts (is_before a.name) in
      let own : ◌≡◌ {A = ℕ} (cond (is_before a.name (name_kind a)) 1 0) 0 = ap (λ o. cond (is_lt o) 1 0) (tied_itself nat_list_cmp_total a.name) in
      let none = none_less a A asc.0 in
      zero_false _ (omega (arith, all, own, none))

  name_same : a.name ≡ b.0
  name_same = one_name a.name b.0 not_less not_more

  a_named : is_named b.0 (name_kind a) ≡ true
  a_named = ap (λ n. is_eq (name_cmp n b.0)) name_same ∙ ap is_eq (tied_itself nat_list_cmp_total b.0)

  b_named : is_named b.0 b ≡ true
  b_named = ap is_eq (tied_itself nat_list_cmp_total b.0)

  alone : count_by (is_named b.0) (map name_kind A) ≡ 0
  alone =
      let all = counts (is_named b.0) in
      let one : ◌≡◌ {A = ℕ} (cond (is_named b.0 (name_kind a)) 1 0) 1 = ap (λ x. cond x 1 0) a_named in
      let two : ◌≡◌ {A = ℕ} (cond (is_named b.0 b) 1 0) 1 = ap (λ x. cond x 1 0) b_named in
      let none = none_counted b.0 (is_named b.0) B (λ row before. not_equal b.0 row.0 before) below in
      omega (arith, all, one, two, none)

  directory_same : is_directory_kind a.kind ≡ is_directory_kind b.1
  directory_same =
      let all = counts (is_directory_named b.0) in
      let one : ◌≡◌ {A = ℕ} (cond (is_directory_named b.0 (name_kind a)) 1 0) (cond (is_directory_kind a.kind) 1 0) = ap
      (λ x. cond (x && is_directory_kind a.kind) 1 0) a_named in
      let two : ◌≡◌ {A = ℕ} (cond (is_directory_named b.0 b) 1 0) (cond (is_directory_kind b.1) 1 0) = ap
      (λ x. cond (x && is_directory_kind b.1) 1 0) b_named in
      let few = count_le (is_directory_named b.0) (is_named b.0) (map name_kind A) (λ row both. and_first _ _ both) in
      let none = none_counted b.0 (is_directory_named b.0) B (λ row before. ap (λ x. x && is_directory_kind row.1) (not_equal b.0 row.0 before)) below in
      let lone = alone in
      same_bool (is_directory_kind a.kind) (is_directory_kind b.1) (omega (arith, all, one, two, few, none, lone))

  head_same : name_kind a ≡ b
  head_same = λ i. (name_same i, (sym (kind_again a.kind) ∙ (ap kind_if directory_same ∙ kind_again b.1)) i)

  rest_same : SameCounts (map name_kind A) B
  rest_same test = let all = counts test in
      let first : ◌≡◌ {A = ℕ} (cond (test (name_kind a)) 1 0) (cond (test b) 1 0) = ap (λ row. cond (test row) 1 0) head_same in omega (arith, all, first)

made_one : (A : List NameKind) (B : List Row) → Ascend A → T (is_sorted name_cmp B) → SameCounts (map name_kind A) B → map name_kind A ≡ B
made_one [] [] asc sorted same = refl
made_one [] (b ∷ B) asc sorted same = let all = same (λ _. true) in let more = count-cons (λ (row : Row). true) b B in absurd (omega (arith, all, more))
made_one (a ∷ A) [] asc sorted same = let all = same (λ _. true) in let more = count-cons (λ (row : Row). true) (name_kind a) (map name_kind A) in
    absurd (omega (arith, all, more))
made_one (a ∷ A) (b ∷ B) asc sorted same = λ i. head_same a A b B asc sorted same i ∷ made_one A B asc.1 (both_second _ _ sorted)
    (rest_same a A b B asc sorted same) i

-- Rows whose names ascend are the same as others whose names strictly rise where as many of both pass each test.
pub one_list : (A : List NameKind) (B : List Row) → AreInNameOrder A → T (is_sorted name_cmp B) → SameCounts (map name_kind A) B → map name_kind A ≡ B
one_list A B up sorted same = made_one A B (ascends A up) sorted same
