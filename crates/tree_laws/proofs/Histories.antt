-- Histories that grow by one entry at their end.
use Rattle.std.proofs.Common.{◌≡◌, ℕ, zero, suc, ◌+◌, ◌<◌, ◌≤◌, Bool, true, false, cond, ◌&&◌, List, [], ◌∷◌, ◌++◌, length, take, Some, None, refl, sym, ap, subst, ◌∙◌, arith, nat_eq}
use borrow.Author.Tests.{eqb-true, eq-eqb, lt-ltb}
use Rattle.std.specs.Prelude.{filter, fold}
use Rattle.std.specs.Ordering.{eq_by_cmp}
use Rattle.std.specs.Cmp.Lexicographic.{nat_list_cmp_total}
use Rattle.std.specs.FinMap.{FinMap, get, insert, remove, get-insert, get-remove, same_map}
use Rattle.std.proofs.lemmas.List.Sums.{fold-append}
use Rattle.std.proofs.lemmas.List.Elements.{filter-append}
use Rattle.tree_laws.specs.Order.{name_cmp, key_cmp}
use Rattle.tree_laws.specs.declared.history.Entry.{Entry}
use Rattle.tree_laws.specs.Tree.{TreeState, names_of, row_of, is_directory}
use Rattle.tree_laws.specs.Effect.{Effect, Stays, Adds, Removes, Moves, Edits, rows_after}
use Rattle.tree_laws.specs.Verdict.{verdict}
use Rattle.tree_laws.specs.Changes.{RowChange, added, removed, other_side, replaced, changes_by, changes_of, is_own_below, with_change, rows_at}
use Rattle.tree_laws.specs.History.{tree_after, tree_after_entry, MayCome, IsLegalFrom, IsLegal}
use Rattle.tree_laws.proofs.Joined.{key_cmp_total, same_key, name_cmp-IsAntisymmetric}
use Rattle.tree_laws.proofs.Names.{get-names_where, not_same}
use Rattle.sfs_base.proofs.BasicNumbers.{plus_zero, plus_suc, zero_plus, not_below}
use Rattle.sfs_base.proofs.BasicLists.{take_none}

pub tree_after-push : (first : TreeState) (history : List Entry) (entry : Entry)
    → tree_after first (history ++ entry ∷ []) ≡ tree_after_entry (tree_after first history) entry
tree_after-push first [] entry = refl
tree_after-push first (e ∷ history) entry = tree_after-push (tree_after_entry first e) history entry

legal_push : (first : TreeState) (stamp : ℕ) (history : List Entry) (entry : Entry) → IsLegalFrom first stamp history
    → MayCome (tree_after first history) (stamp + length history) entry → IsLegalFrom first stamp (history ++ entry ∷ [])
legal_push first stamp [] entry legal may = (subst (λ n. MayCome first n entry) (plus_zero stamp) may, tt)
legal_push first stamp (e ∷ history) entry legal may = (
  legal.0,
  legal_push (tree_after_entry first e) (suc stamp) history entry legal.1
      (subst (λ n. MayCome (tree_after first (e ∷ history)) n entry) (plus_suc stamp (length history)) may),
)

-- a legal history goes on by an entry that may come
pub IsLegal-push : (first : TreeState) (history : List Entry) (entry : Entry) → IsLegal first history
    → MayCome (tree_after first history) (length history) entry → IsLegal first (history ++ entry ∷ [])
IsLegal-push first history entry legal may =
    legal_push first 0 history entry legal (subst (λ n. MayCome (tree_after first history) n entry) (sym (zero_plus (length history))) may)

-- a row that comes to all rows comes to those of its directory
pub names_of-insert : (d e : ℕ) (name : List ℕ) (child : ℕ) (rows : FinMap key_cmp ℕ)
    → names_of d (insert rows (e, name) child) ≡ cond (nat_eq e d) (insert (names_of d rows) name child) (names_of d rows)
names_of-insert d e name child rows =
    same_map nat_list_cmp_total name_cmp-IsAntisymmetric _ _ (λ n.
    get-names_where d (λ _. true) (insert rows (e, name) child) n
    ∙ get-insert key_cmp_total rows (e, name) child (d, n)
    ∙ ap (λ b. cond b (Some child) (get rows (d, n))) (same_key d e n name)
    ∙ elim (nat_eq e d) as (λ t. nat_eq e d ≡ t
    → cond (cond (nat_eq d e) (eq_by_cmp name_cmp n name) false) (Some child) (get rows (d, n))
    ≡ get (cond t (insert (names_of d rows) name child) (names_of d rows)) n) [
      | true ↦ λ t.
          ap (λ b. cond (cond b (eq_by_cmp name_cmp n name) false) (Some child) (get rows (d, n))) (eq-eqb d e (sym (eqb-true _ _ t)))
          ∙ ap (cond (eq_by_cmp name_cmp n name) (Some child)) (sym (get-names_where d (λ _. true) rows n))
          ∙ sym (get-insert nat_list_cmp_total (names_of d rows) name child n)
      | false ↦ λ t.
          ap (λ b. cond (cond b (eq_by_cmp name_cmp n name) false) (Some child) (get rows (d, n))) (not_same e d t)
          ∙ sym (get-names_where d (λ _. true) rows n)
    ] refl)

-- a row that goes from all rows goes from those of its directory
pub names_of-remove : (d e : ℕ) (name : List ℕ) (rows : FinMap key_cmp ℕ)
    → names_of d (remove rows (e, name)) ≡ cond (nat_eq e d) (remove (names_of d rows) name) (names_of d rows)
names_of-remove d e name rows =
    same_map nat_list_cmp_total name_cmp-IsAntisymmetric _ _ (λ n.
    get-names_where d (λ _. true) (remove rows (e, name)) n
    ∙ get-remove key_cmp_total rows (e, name) (d, n)
    ∙ ap (λ b. cond b None (get rows (d, n))) (same_key d e n name)
    ∙ elim (nat_eq e d) as (λ t. nat_eq e d ≡ t
    → cond (cond (nat_eq d e) (eq_by_cmp name_cmp n name) false) None (get rows (d, n))
    ≡ get (cond t (remove (names_of d rows) name) (names_of d rows)) n) [
      | true ↦ λ t.
          ap (λ b. cond (cond b (eq_by_cmp name_cmp n name) false) None (get rows (d, n))) (eq-eqb d e (sym (eqb-true _ _ t)))
          ∙ ap (cond (eq_by_cmp name_cmp n name) None) (sym (get-names_where d (λ _. true) rows n))
          ∙ sym (get-remove nat_list_cmp_total (names_of d rows) name n)
      | false ↦ λ t.
          ap (λ b. cond (cond b (eq_by_cmp name_cmp n name) false) None (get rows (d, n))) (not_same e d t)
          ∙ sym (get-names_where d (λ _. true) rows n)
    ] refl)

-- what is put at a name covers what went there
covered : (rows : FinMap name_cmp ℕ) (name : List ℕ) (child : ℕ) → insert (remove rows name) name child ≡ insert rows name child
covered rows name child =
    same_map nat_list_cmp_total name_cmp-IsAntisymmetric _ _ (λ k.
    get-insert nat_list_cmp_total (remove rows name) name child k
    ∙ ap (cond (eq_by_cmp name_cmp k name) (Some child)) (get-remove nat_list_cmp_total rows name k)
    ∙ elim (eq_by_cmp name_cmp k name) as (λ b. cond b (Some child) (cond b None (get rows k)) ≡ cond b (Some child) (get rows k)) [
      | true ↦ refl
      | false ↦
          refl
    ]
    ∙ sym (get-insert nat_list_cmp_total rows name child k))

covered_later : (rows : FinMap name_cmp ℕ) (name other : List ℕ) (child : ℕ)
    → insert (remove (remove rows name) other) name child ≡ insert (remove rows other) name child
covered_later rows name other child =
    same_map nat_list_cmp_total name_cmp-IsAntisymmetric _ _ (λ k.
    get-insert nat_list_cmp_total (remove (remove rows name) other) name child k
    ∙ ap (cond (eq_by_cmp name_cmp k name) (Some child))
    (get-remove nat_list_cmp_total (remove rows name) other k ∙ ap (cond (eq_by_cmp name_cmp k other) None) (get-remove nat_list_cmp_total rows name k))
    ∙ elim (eq_by_cmp name_cmp k name) as (λ b. cond b (Some child) (cond (eq_by_cmp name_cmp k other) None (cond b None (get rows k)))
    ≡ cond b (Some child) (cond (eq_by_cmp name_cmp k other) None (get rows k))) [
      | true ↦
          refl
      | false ↦ refl
    ]
    ∙ ap (cond (eq_by_cmp name_cmp k name) (Some child)) (sym (get-remove nat_list_cmp_total rows other k))
    ∙ sym (get-insert nat_list_cmp_total (remove rows other) name child k))

-- a change below the stamp is made where it is the directory's own
fold_one : (d c : ℕ) (rows : FinMap name_cmp ℕ) (change : RowChange) (changes : List RowChange) → change.stamp < c
    → fold with_change rows (filter (is_own_below d c) (change ∷ changes))
    ≡ fold with_change (cond (nat_eq change.directory d) (with_change rows change) rows) (filter (is_own_below d c) changes)
fold_one d c rows change changes lt =
    ap (λ b. fold with_change rows (cond (b && nat_eq change.directory d) (change ∷ filter (is_own_below d c) changes) (filter (is_own_below d c) changes)))
    (lt-ltb _ _ lt)
    ∙ elim (nat_eq change.directory d) as (λ b. fold with_change rows
    (cond (true && b) (change ∷ filter (is_own_below d c) changes) (filter (is_own_below d c) changes))
    ≡ fold with_change (cond b (with_change rows change) rows) (filter (is_own_below d c) changes)) [
      | true ↦
          refl
      | false ↦ refl
    ]

-- the rows that a move leaves in a directory, where something stands at its end or not
moved_over : (old new : Bool) (rows : FinMap name_cmp ℕ) (name to_name : List ℕ) (child : ℕ)
    → cond new (insert (cond old (remove (cond new (remove rows to_name) rows) name) (cond new (remove rows to_name) rows)) to_name child)
    (cond old (remove (cond new (remove rows to_name) rows) name) (cond new (remove rows to_name) rows))
    ≡ cond new (insert (cond old (remove rows name) rows) to_name child) (cond old (remove rows name) rows)
moved_over old false rows name to_name child = refl
moved_over true true rows name to_name child = covered_later rows to_name name child
moved_over false true rows name to_name child = covered rows to_name child

moved_rows : (d p : ℕ) (n : List ℕ) (q : ℕ) (m : List ℕ) (child : ℕ) (rows : FinMap key_cmp ℕ)
    → names_of d (insert (remove rows (p, n)) (q, m) child)
    ≡ cond (nat_eq q d) (insert (cond (nat_eq p d) (remove (names_of d rows) n) (names_of d rows)) m child)
    (cond (nat_eq p d) (remove (names_of d rows) n) (names_of d rows))
moved_rows d p n q m child rows =
    names_of-insert d q m child (remove rows (p, n)) ∙ ap (λ r. cond (nat_eq q d) (insert r m child) r) (names_of-remove d p n rows)

-- the changes of an effect below a stamp, folded in, give the rows after it
folded : (d stamp c : ℕ) (effect : Effect) (tree : TreeState) → stamp < c
    → fold with_change (names_of d tree.rows) (filter (is_own_below d c) (changes_by tree stamp effect)) ≡ names_of d (rows_after tree.rows effect)
folded d stamp c Stays tree lt = refl
folded d stamp c (Adds e name child) tree lt =
    fold_one d c (names_of d tree.rows) (added stamp e name child None) [] lt ∙ sym (names_of-insert d e name child tree.rows)
folded d stamp c (Removes e name child) tree lt =
    fold_one d c (names_of d tree.rows) (removed stamp e name child None (is_directory tree child)) [] lt ∙ sym (names_of-remove d e name tree.rows)
folded d stamp c (Edits file edit) tree lt = refl
folded d stamp c (Moves p n q m child) tree lt =
    elim (row_of tree q m) as (λ o. fold with_change (names_of d tree.rows) (filter (is_own_below d c) (replaced tree stamp p q m o ++ goes ∷ comes ∷ []))
    ≡ cond (nat_eq q d) (insert (cond (nat_eq p d) (remove (names_of d tree.rows) n) (names_of d tree.rows)) m child)
    (cond (nat_eq p d) (remove (names_of d tree.rows) n) (names_of d tree.rows))) [
      | None ↦ two (names_of d tree.rows)
      | Some there ↦
          fold_one d c (names_of d tree.rows) (removed stamp q m there (other_side q p) (is_directory tree there)) (goes ∷ comes ∷ []) lt
          ∙ two (cond (nat_eq q d) (remove (names_of d tree.rows) m) (names_of d tree.rows))
          ∙ moved_over (nat_eq p d) (nat_eq q d) (names_of d tree.rows) n m child
    ]
    ∙ sym (moved_rows d p n q m child tree.rows)
  where
    goes : RowChange
    goes = removed stamp p n child (other_side p q) false

    comes : RowChange
    comes = added stamp q m child (other_side q p)

    two : (rows : FinMap name_cmp ℕ)
        → fold with_change rows (filter (is_own_below d c) (goes ∷ comes ∷ []))
        ≡ cond (nat_eq q d) (insert (cond (nat_eq p d) (remove rows n) rows) m child) (cond (nat_eq p d) (remove rows n) rows)
    two rows = fold_one d c rows goes (comes ∷ []) lt ∙ fold_one d c (cond (nat_eq p d) (remove rows n) rows) comes [] lt

-- a change that does not lie below a stamp is not folded in
drop_one : (d c : ℕ) (change : RowChange) (changes : List RowChange) → c ≤ change.stamp
    → filter (is_own_below d c) (change ∷ changes) ≡ filter (is_own_below d c) changes
drop_one d c change changes le =
    ap (λ b. cond (b && nat_eq change.directory d) (change ∷ filter (is_own_below d c) changes) (filter (is_own_below d c) changes))
    (not_below change.stamp c le)

dropped : (d c stamp : ℕ) (effect : Effect) (tree : TreeState) → c ≤ stamp → filter (is_own_below d c) (changes_by tree stamp effect) ≡ []
dropped d c stamp Stays tree le = refl
dropped d c stamp (Adds e name child) tree le = drop_one d c (added stamp e name child None) [] le
dropped d c stamp (Removes e name child) tree le = drop_one d c (removed stamp e name child None (is_directory tree child)) [] le
dropped d c stamp (Edits file edit) tree le = refl
dropped d c stamp (Moves p n q m child) tree le =
    elim (row_of tree q m) as (λ o. filter (is_own_below d c) (replaced tree stamp p q m o ++ goes ∷ comes ∷ []) ≡ []) [
      | None ↦ two
      | Some there ↦ drop_one d c (removed stamp q m there (other_side q p) (is_directory tree there)) (goes ∷ comes ∷ []) le ∙ two
    ]
  where
    goes : RowChange
    goes = removed stamp p n child (other_side p q) false

    comes : RowChange
    comes = added stamp q m child (other_side q p)

    two : filter (is_own_below d c) (goes ∷ comes ∷ []) ≡ []
    two = drop_one d c goes (comes ∷ []) le ∙ drop_one d c comes [] le

all_dropped : (d c stamp : ℕ) (first : TreeState) (history : List Entry) → c ≤ stamp → IsLegalFrom first stamp history
    → filter (is_own_below d c) (changes_of first history) ≡ []
all_dropped d c stamp first [] le legal = refl
all_dropped d c stamp first (e ∷ history) le legal =
    filter-append (is_own_below d c) (changes_by first e.stamp.0 (verdict first e.core.0 e.call).effect) (changes_of (tree_after_entry first e) history)
    ∙ ap (λ l. l ++ filter (is_own_below d c) (changes_of (tree_after_entry first e) history))
    (dropped d c e.stamp.0 (verdict first e.core.0 e.call).effect first (subst (λ n. c ≤ n) (sym legal.0.stamped) le))
    ∙ all_dropped d c (suc stamp) (tree_after_entry first e) history (omega arith) legal.1

rows_from_stamp : (d c stamp k : ℕ) (first : TreeState) (history : List Entry) → stamp + k ≡ c → IsLegalFrom first stamp history
    → fold with_change (names_of d first.rows) (filter (is_own_below d c) (changes_of first history)) ≡ names_of d (tree_after first (take k history)).rows
rows_from_stamp d c stamp zero first history e legal =
    ap (fold with_change (names_of d first.rows)) (all_dropped d c stamp first history (omega arith) legal)
    ∙ ap (λ h. names_of d (tree_after first h).rows) (sym (take_none history))
rows_from_stamp d c stamp (suc k) first [] e legal = refl
rows_from_stamp d c stamp (suc k) first (entry ∷ history) e legal =
    ap (fold with_change (names_of d first.rows))
    (filter-append (is_own_below d c) (changes_by first entry.stamp.0 (verdict first entry.core.0 entry.call).effect)
    (changes_of (tree_after_entry first entry) history))
    ∙ fold-append with_change (names_of d first.rows)
    (filter (is_own_below d c) (changes_by first entry.stamp.0 (verdict first entry.core.0 entry.call).effect))
    (filter (is_own_below d c) (changes_of (tree_after_entry first entry) history))
    ∙ ap (λ rows. fold with_change rows (filter (is_own_below d c) (changes_of (tree_after_entry first entry) history)))
    (folded d entry.stamp.0 c (verdict first entry.core.0 entry.call).effect first (subst (λ n. n < c) (sym legal.0.stamped) (omega arith)))
    ∙ rows_from_stamp d c (suc stamp) k (tree_after_entry first entry) history (omega arith) legal.1

-- the rows of a directory at a stamp are those of the tree after the entries below it
pub rows_at-tree_after : (first : TreeState) (history : List Entry) (d c : ℕ) → IsLegal first history
    → rows_at first history d c ≡ names_of d (tree_after first (take c history)).rows
rows_at-tree_after first history d c legal = rows_from_stamp d c 0 c first history (zero_plus c) legal
