-- Rows as an answer to a directory and a name: what names a node, what stands in a directory.
use Rattle.std.proofs.Common.{◌≡◌, ◌≢◌, ℕ, ◌+◌, Bool, true, false, cond, not, ◌||◌, T, List, [], ◌∷◌, Option, Some, None, ◌⊎◌, inl, inr, refl, sym, ap, subst, ◌∙◌, arith, count_by, nat_eq}
use borrow.Author.Tests.{eqb-true, eq-eqb}
use Rattle.std.specs.List as lists
use Rattle.std.specs.Ordering.{nat_cmp, eq_by_cmp, is_eq, is_lt, ordering_reverse}
use Rattle.std.specs.declared.cmp.Ordering.{Ordering}
use Rattle.std.specs.declared.cmp.Ordering.TheVariants.{Less, Equal, Greater}
use Rattle.std.specs.Cmp.{tied_itself, IsTotalOrder}
use Rattle.std.specs.FinMap.{FinMap, find, entries, get, insert, remove, is_sorted, get-entries, get-insert, get-remove, entries_sorted, empty_of_len, get-empty, IsAntisymmetric}
use Rattle.std.specs.FinMap.Entries.{below_all}
use Rattle.tree_laws.specs.Order.{name_cmp, Key, key_cmp}
use Rattle.tree_laws.specs.Tree.{TreeState, names_it, count_of, row_of, is_alive, names_of, row_count, holder_of}
use Rattle.tree_laws.proofs.Joined.{key_cmp_total, key_cmp-IsAntisymmetric, is_equal, count-cons}
use Rattle.tree_laws.proofs.Names.{get-names_where, len-names_of}
use Rattle.sfs_base.proofs.BasicTruth.{both_second, or_true}
use Rattle.sfs_base.proofs.BasicTruth.{both_first}
use Rattle.tree_laws.specs.Buckets.{stands_in}
use Rattle.sfs_base.proofs.BasicNumbers.{one_is_more, none_left}

-- two rows have one place or not
pub key_cases : (d e : ℕ) (n m : List ℕ)
    → ((eq_by_cmp key_cmp (d, n) (e, m) ≡ true) × (d ≡ e) × (n ≡ m)) ⊎ ((eq_by_cmp key_cmp (d, n) (e, m) ≡ false) × (d ≡ e → n ≡ m → ⊥))
key_cases d e n m =
    elim (eq_by_cmp key_cmp (d, n) (e, m)) as (λ b. eq_by_cmp key_cmp (d, n) (e, m) ≡ b
    → ((b ≡ true) × (d ≡ e) × (n ≡ m)) ⊎ ((b ≡ false) × (d ≡ e → n ≡ m → ⊥))) [
      | true ↦ λ t. let same = key_cmp-IsAntisymmetric (d, n) (e, m) (is_equal _ t) in inl (refl, ap (λ (k : Key). k.0) same, ap (λ (k : Key). k.1) same)
      | false ↦ λ t. inr (refl, λ p q. differ t (same_key p q))
    ] refl
  where
    same_key : d ≡ e → n ≡ m → eq_by_cmp key_cmp (d, n) (e, m) ≡ true
    same_key p q =
        subst (λ (x : ℕ). eq_by_cmp key_cmp (d, n) (x, m) ≡ true) p
        (subst (λ (y : List ℕ). eq_by_cmp key_cmp (d, n) (d, y) ≡ true) q (ap is_eq (tied_itself key_cmp_total (d, n))))

    differ : eq_by_cmp key_cmp (d, n) (e, m) ≡ false → eq_by_cmp key_cmp (d, n) (e, m) ≡ true → ⊥
    differ f t = cc

pub some_not_none : {X : Type 0} (o : Option X) (x : X) → o ≡ Some x → o ≡ None → ⊥
some_not_none o x e f = cc

pub same_some : {X : Type 0} (o : Option X) (x y : X) → o ≡ Some x → o ≡ Some y → x ≡ y
same_some o x y e f = cc

none_is : {X : Type 0} (x : X) → None ≡ Some x → ⊥
none_is x e = cc

some_is : {X : Type 0} (x y : X) → Some x ≡ Some y → x ≡ y
some_is x y e = cc

reversed : (o : Ordering) → T (is_lt o) → is_eq (ordering_reverse o) ≡ false
reversed Less h = refl
reversed Equal h = absurd h
reversed Greater h = absurd h

-- an entry behind others has another key
pub behind_apart : {K : Type 0} {R : K → K → Ordering} (o : IsTotalOrder R) → IsAntisymmetric R → (k q : K) (x : ℕ) (es : List (K × ℕ)) → T (below_all R k es)
    → find R q es ≡ Some x → eq_by_cmp R q k ≡ false
behind_apart o anti k q x [] below found = absurd (none_is x found)
behind_apart {K} {R} o anti k q x (e ∷ es) below found =
    elim (eq_by_cmp R q e.0) as (λ b. eq_by_cmp R q e.0 ≡ b → cond b (Some e.1) (find R q es) ≡ Some x → eq_by_cmp R q k ≡ false) [
      | true ↦
          λ t f. ap is_eq (o.antisymm q k) ∙ ap (λ (z : K). is_eq (ordering_reverse (R k z))) (anti q e.0 (is_equal _ t))
          ∙ reversed (R k e.0) (both_first _ _ below)
      | false ↦ λ t f. behind_apart o anti k q x es (both_second _ _ below) f
    ] refl found

-- an entry that is found by a test is the row at its place
found_entry : (test : Key × ℕ → Bool) (row : Key × ℕ) (es : List (Key × ℕ)) → T (is_sorted key_cmp es) → lists.find test es ≡ Some row
    → (find key_cmp row.0 es ≡ Some row.1) × (test row ≡ true)
found_entry test row [] s found = absurd (none_is row found)
found_entry test row (e ∷ es) s found =
    elim (test e) as (λ b. test e ≡ b → cond b (Some e) (lists.find test es) ≡ Some row
    → (cond (eq_by_cmp key_cmp row.0 e.0) (Some e.1) (find key_cmp row.0 es) ≡ Some row.1) × (test row ≡ true)) [
      | true ↦ λ t f.
          let same : e ≡ row = some_is e row f in
          subst (λ (r : Key × ℕ). (cond (eq_by_cmp key_cmp r.0 e.0) (Some e.1) (find key_cmp r.0 es) ≡ Some r.1) × (test r ≡ true)) same
          (ap (λ b. cond b (Some e.1) (find key_cmp e.0 es)) (ap is_eq (tied_itself key_cmp_total e.0)), t)
      | false ↦ λ t f.
          let rest = found_entry test row es (both_second _ _ s) f in (
            ap (λ b. cond b (Some e.1) (find key_cmp row.0 es)) (behind_apart key_cmp_total key_cmp-IsAntisymmetric e.0 row.0 row.1 es (both_first _ _ s) rest.0)
                ∙ rest.0,
            rest.1,
          )
    ] refl found

-- a test finds an entry, or it counts none
found_or_none : (test : Key × ℕ → Bool) (es : List (Key × ℕ))
    → ((row : Key × ℕ) × (lists.find test es ≡ Some row)) ⊎ ((lists.find test es ≡ None) × (count_by test es ≡ 0))
found_or_none test [] = inr (refl, refl)
found_or_none test (e ∷ es) =
    elim (test e) as (λ b. test e ≡ b
    → ((row : Key × ℕ) × (cond b (Some e) (lists.find test es) ≡ Some row))
    ⊎ ((cond b (Some e) (lists.find test es) ≡ None) × (count_by test (e ∷ es) ≡ 0))) [
      | true ↦ λ t. inl (e, refl)
      | false ↦ λ t. elim (found_or_none test es) [
        | inl f ↦ inl f
        | inr n ↦ inr (n.0, count-cons test e es ∙ ap (λ b. cond b 1 0 + count_by test es) t ∙ none_more _ n.1)
      ]
    ] refl
  where
    none_more : (n : ℕ) → n ≡ 0 → 0 + n ≡ 0
    none_more n e = omega arith

-- a row is counted by a test that it passes
counted : (test : Key × ℕ → Bool) (k : Key) (x : ℕ) (es : List (Key × ℕ)) → find key_cmp k es ≡ Some x → test (k, x) ≡ true → count_by test es ≢ 0
counted test k x [] found passes = absurd (none_is x found)
counted test k x (e ∷ es) found passes =
    elim (eq_by_cmp key_cmp k e.0) as (λ b. eq_by_cmp key_cmp k e.0 ≡ b → cond b (Some e.1) (find key_cmp k es) ≡ Some x → count_by test (e ∷ es) ≢ 0) [
      | true ↦ λ t f none.
          let key : k ≡ e.0 = key_cmp-IsAntisymmetric k e.0 (is_equal _ t) in
          let child : e.1 ≡ x = some_is e.1 x f in
          one_is_more _ (ap (λ b. cond b 1 0 + count_by test es) (sym (passed e key child)) ∙ sym (count-cons test e es) ∙ none)
      | false ↦ λ t f none. counted test k x es f passes (none_left (cond (test e) 1 0) _ (sym (count-cons test e es) ∙ none))
    ] refl found
  where
    passed : (e : Key × ℕ) → k ≡ e.0 → e.1 ≡ x → test e ≡ true
    passed e key child = subst (λ (q : Key). test (q, e.1) ≡ true) key (subst (λ (y : ℕ). test (k, y) ≡ true) (sym child) passes)

-- a row that names a node
pub record IsNamed (rows : FinMap key_cmp ℕ) (node : ℕ) : Type 0 where
  pub directory : ℕ
  pub name : List ℕ
  pub row : get rows (directory, name) ≡ Some node

-- a node is named, or no row is counted for it
pub named_or_none : (rows : FinMap key_cmp ℕ) (node : ℕ) → IsNamed rows node ⊎ (count_of rows node ≡ 0)
named_or_none rows node = elim (found_or_none (names_it node) (entries rows)) [
  | inl f ↦
      let both = found_entry (names_it node) f.0 (entries rows) (entries_sorted rows) f.1 in
      inl (record { directory = f.0.0.0; name = f.0.0.1; row = get-entries rows f.0.0 ∙ both.0 ∙ ap Some (eqb-true _ _ both.1) })
  | inr n ↦ inr n.1
]

-- a node that a row names is counted
named_counts : (rows : FinMap key_cmp ℕ) (node : ℕ) → IsNamed rows node → count_of rows node ≢ 0
named_counts rows node h =
    counted (names_it node) (h.directory, h.name) node (entries rows) (sym (get-entries rows (h.directory, h.name)) ∙ h.row) (eq-eqb node node refl)

-- what is alive is the root, or a row names it
pub alive_named : (tree : TreeState) (node : ℕ) → is_alive tree node ≡ true → (node ≡ 0) ⊎ IsNamed tree.rows node
alive_named tree node alive =
    elim (nat_eq node 0) as (λ b. nat_eq node 0 ≡ b → (b || not (nat_eq (count_of tree.rows node) 0)) ≡ true → (node ≡ 0) ⊎ IsNamed tree.rows node) [
      | true ↦ λ t a. inl (eqb-true _ _ t)
      | false ↦ λ t a. elim (named_or_none tree.rows node) [
        | inl named ↦ inr named
        | inr none ↦ absurd (dead (nat_eq (count_of tree.rows node) 0) (eq-eqb _ _ none) a)
      ]
    ] refl alive
  where
    dead : (b : Bool) → b ≡ true → not b ≡ true → ⊥
    dead true t a = cc
    dead false t a = cc

pub root_alive : (tree : TreeState) (node : ℕ) → node ≡ 0 → is_alive tree node ≡ true
root_alive tree node root = ap (λ b. b || not (nat_eq (count_of tree.rows node) 0)) (eq-eqb node 0 root)

pub named_alive : (tree : TreeState) (node : ℕ) → IsNamed tree.rows node → is_alive tree node ≡ true
named_alive tree node named =
    elim (nat_eq (count_of tree.rows node) 0) as (λ b. nat_eq (count_of tree.rows node) 0 ≡ b → (nat_eq node 0 || not b) ≡ true) [
      | true ↦ λ t. absurd (named_counts tree.rows node named (eqb-true _ _ t))
      | false ↦ λ t. or_true (nat_eq node 0)
    ] refl

-- a directory that counts no rows has none
pub no_rows : (tree : TreeState) (directory : ℕ) → row_count tree directory ≡ 0 → (name : List ℕ) → row_of tree directory name ≡ None
no_rows tree directory none name =
    sym (get-names_where directory (λ _. true) tree.rows name)
    ∙ ap (λ m. get m name) (empty_of_len (names_of directory tree.rows) none)
    ∙ get-empty name_cmp name

-- a directory that counts rows has one
pub has_row : (tree : TreeState) (directory : ℕ) → row_count tree directory ≢ 0 → (name : List ℕ) × (child : ℕ) × (row_of tree directory name ≡ Some child)
has_row tree directory some = elim (found_or_none (stands_in directory) (entries tree.rows)) [
  | inl f ↦
      let both = found_entry (stands_in directory) f.0 (entries tree.rows) (entries_sorted tree.rows) f.1 in
      (f.0.0.1, f.0.1, subst (λ (d : ℕ). get tree.rows (d, f.0.0.1) ≡ Some f.0.1) (eqb-true _ _ both.1) (get-entries tree.rows f.0.0 ∙ both.0))
  | inr n ↦ absurd (some (len-names_of directory tree.rows ∙ n.1))
]

-- a directory with a row counts some
pub counts_row : (tree : TreeState) (directory : ℕ) (name : List ℕ) (child : ℕ) → row_of tree directory name ≡ Some child → row_count tree directory ≢ 0
counts_row tree directory name child row none = some_not_none (row_of tree directory name) child row (no_rows tree directory none name)

-- a node's holder is the directory of a row that names it, or no row does
pub holder_found : (tree : TreeState) (node : ℕ)
    → ((h : ℕ) × (holder_of tree node ≡ Some h) × ((name : List ℕ) × (row_of tree h name ≡ Some node)))
    ⊎ ((holder_of tree node ≡ None) × (IsNamed tree.rows node → ⊥))
holder_found tree node = elim (found_or_none (names_it node) (entries tree.rows)) [
  | inl f ↦
      let both = found_entry (names_it node) f.0 (entries tree.rows) (entries_sorted tree.rows) f.1 in
      inl (
        f.0.0.0,
        ap (Rattle.std.specs.Option.option_map (λ (row : Key × ℕ). row.0.0)) f.1,
        (f.0.0.1, get-entries tree.rows f.0.0 ∙ both.0 ∙ ap Some (eqb-true _ _ both.1)),
      )
  | inr n ↦ inr (ap (Rattle.std.specs.Option.option_map (λ (row : Key × ℕ). row.0.0)) n.0, λ named. named_counts tree.rows node named n.1)
]

-- once a row came: it is this one, or it was there
pub added_cases : (rows : FinMap key_cmp ℕ) (d e : ℕ) (n m : List ℕ) (c x : ℕ) → get (insert rows (e, m) c) (d, n) ≡ Some x
    → ((d ≡ e) × (n ≡ m) × (x ≡ c)) ⊎ ((d ≡ e → n ≡ m → ⊥) × (get rows (d, n) ≡ Some x))
added_cases rows d e n m c x is =
    let there = sym (get-insert key_cmp_total rows (e, m) c (d, n)) ∙ is in
    elim (key_cases d e n m) [
      | inl same ↦ inl (same.1, same.2, some_is x c (sym there ∙ ap (λ b. cond b (Some c) (get rows (d, n))) same.0))
      | inr other ↦ inr (other.1, sym (ap (λ b. cond b (Some c) (get rows (d, n))) other.0) ∙ there)
    ]

pub added_there : (rows : FinMap key_cmp ℕ) (e : ℕ) (m : List ℕ) (c : ℕ) → get (insert rows (e, m) c) (e, m) ≡ Some c
added_there rows e m c = get-insert key_cmp_total rows (e, m) c (e, m) ∙ ap (λ o. cond (is_eq o) (Some c) (get rows (e, m))) (tied_itself key_cmp_total (e, m))

pub added_other : (rows : FinMap key_cmp ℕ) (d e : ℕ) (n m : List ℕ) (c : ℕ) → (d ≡ e → n ≡ m → ⊥) → get (insert rows (e, m) c) (d, n) ≡ get rows (d, n)
added_other rows d e n m c apart =
    get-insert key_cmp_total rows (e, m) c (d, n) ∙ elim (key_cases d e n m) [
      | inl same ↦ absurd (apart same.1 same.2)
      | inr other ↦ ap (λ b. cond b (Some c) (get rows (d, n))) other.0
    ]

-- once a row went: what is there was there, and is another one
pub removed_cases : (rows : FinMap key_cmp ℕ) (d e : ℕ) (n m : List ℕ) (x : ℕ) → get (remove rows (e, m)) (d, n) ≡ Some x
    → (d ≡ e → n ≡ m → ⊥) × (get rows (d, n) ≡ Some x)
removed_cases rows d e n m x is =
    let there = sym (get-remove key_cmp_total rows (e, m) (d, n)) ∙ is in
    elim (key_cases d e n m) [
      | inl same ↦ absurd (none_is x (sym (ap (λ b. cond b None (get rows (d, n))) same.0) ∙ there))
      | inr other ↦ (other.1, sym (ap (λ b. cond b None (get rows (d, n))) other.0) ∙ there)
    ]

pub removed_other : (rows : FinMap key_cmp ℕ) (d e : ℕ) (n m : List ℕ) → (d ≡ e → n ≡ m → ⊥) → get (remove rows (e, m)) (d, n) ≡ get rows (d, n)
removed_other rows d e n m apart =
    get-remove key_cmp_total rows (e, m) (d, n) ∙ elim (key_cases d e n m) [
      | inl same ↦ absurd (apart same.1 same.2)
      | inr other ↦ ap (λ b. cond b None (get rows (d, n))) other.0
    ]

-- whether a place is this one
pub is_here : (d e : ℕ) (n m : List ℕ) → ((d ≡ e) × (n ≡ m)) ⊎ (d ≡ e → n ≡ m → ⊥)
is_here d e n m = elim (key_cases d e n m) [ inl same ↦ inl (same.1, same.2) | inr other ↦ inr other.1 ]
