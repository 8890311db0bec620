-- What an effect leaves of each part of a tree.
use Rattle.std.proofs.Common.{◌≡◌, ℕ, ◌+◌, ◌-◌, Bool, true, false, cond, ◌&&◌, List, [], set, slice_index, Option, Some, None, inl, inr, refl, sym, ap, subst, ◌∙◌, arith, nat_eq, get_or-set_same, get_or-set_other}
use borrow.Author.Tests.{eqb-true, eq-eqb, eqb-false}
use Rattle.std.specs.Option.{option_map_or}
use Rattle.std.specs.Ordering.{eq_by_cmp}
use Rattle.std.specs.Cmp.Lexicographic.{nat_list_cmp_total}
use Rattle.std.specs.FinMap.{FinMap, get, insert, remove, get-insert, get-remove, same_map}
use Rattle.sfs_base.specs.declared.numbers.Kind.{Kind}
use Rattle.sfs_base.specs.declared.numbers.Kind.TheVariants.{File}
use Rattle.tree_laws.specs.Order.{name_cmp, Key, key_cmp}
use Rattle.tree_laws.specs.Tree.{TreeState, Node, row_of, names_it, count_of, names_where, kind_of, made_by, next_number}
use Rattle.tree_laws.specs.Effect.{Effect, Stays, Adds, Removes, Moves, Edits, edited, with_edit, tree_with}
use Rattle.tree_laws.specs.Fits.{Fits, FitsMoves}
use Rattle.tree_laws.specs.Parts.{part_with, part_without, is_this, links_after, kind_after}
use Rattle.tree_laws.specs.Laws.{PartsAfter, NodesAfter, CountsAfter}
use Rattle.tree_laws.proofs.Joined.{key_cmp_total, key_cmp-IsAntisymmetric, same_key, name_cmp-IsAntisymmetric, is_equal, count-insert}
use Rattle.tree_laws.proofs.Counting.{put_back, none_removed}
use Rattle.tree_laws.proofs.Names.{get-names_where}
use Rattle.tree_laws.proofs.RowFacts.{removed_other}
use Rattle.tree_laws.proofs.KeepsNodes.{node_cases}
use Rattle.tree_laws.proofs.FileHistories.{bytes_with}
use Rattle.sfs_base.proofs.BasicNumbers.{turned, not_same}

-- what a part has at a name, once there is a row more: it is there, or not in the part, or another
part_cases : (same_directory same_name mine passes : Bool) (child : Option ℕ) (there : Option ℕ) → (same_name ≡ true → passes ≡ mine)
    → cond mine (cond (cond same_directory same_name false) child there) None
    ≡ cond (same_directory && passes) (cond same_name child (cond mine there None)) (cond mine there None)
part_cases true true mine passes child there h = ap (λ b. cond b child None) (sym (h refl)) ∙ by_pass passes mine (h refl)
  where
    by_pass : (passes mine : Bool) → passes ≡ mine → cond passes child None ≡ cond passes child (cond mine there None)
    by_pass true mine e = refl
    by_pass false mine e = ap (λ b. cond b there None) e
part_cases true false mine true child there h = refl
part_cases true false mine false child there h = refl
part_cases false same mine passes child there h = refl

-- a row that comes to all rows comes to the part that it is in
names_where-insert : (d : ℕ) (test : List ℕ → Bool) (e : ℕ) (name : List ℕ) (child : ℕ) (rows : FinMap key_cmp ℕ)
    → names_where d test (insert rows (e, name) child) ≡ part_with d test e name child (names_where d test rows)
names_where-insert d test e name child rows =
    same_map nat_list_cmp_total name_cmp-IsAntisymmetric _ _ (λ n.
    get-names_where d test (insert rows (e, name) child) n
    ∙ ap (λ o. cond (test n) o None)
    (get-insert key_cmp_total rows (e, name) child (d, n)
    ∙ ap (λ b. cond b (Some child) (get rows (d, n))) (same_key d e n name ∙ ap (λ b. cond b (eq_by_cmp name_cmp n name) false) (turned d e)))
    ∙ part_cases (nat_eq e d) (eq_by_cmp name_cmp n name) (test n) (test name) (Some child) (get rows (d, n))
    (λ t. ap test (sym (name_cmp-IsAntisymmetric n name (is_equal _ t))))
    ∙ elim (nat_eq e d
    && test name) as (λ b. cond b (cond (eq_by_cmp name_cmp n name) (Some child) (cond (test n) (get rows (d, n)) None))
    (cond (test n) (get rows (d, n)) None)
    ≡ get (cond b (insert (names_where d test rows) name child) (names_where d test rows)) n) [
      | true ↦
          ap (cond (eq_by_cmp name_cmp n name) (Some child)) (sym (get-names_where d test rows n))
          ∙ sym (get-insert nat_list_cmp_total (names_where d test rows) name child n)
      | false ↦ sym (get-names_where d test rows n)
    ])

-- a row that goes from all rows goes from the part that it is in
names_where-remove : (d : ℕ) (test : List ℕ → Bool) (e : ℕ) (name : List ℕ) (rows : FinMap key_cmp ℕ)
    → names_where d test (remove rows (e, name)) ≡ part_without d test e name (names_where d test rows)
names_where-remove d test e name rows =
    same_map nat_list_cmp_total name_cmp-IsAntisymmetric _ _ (λ n.
    get-names_where d test (remove rows (e, name)) n
    ∙ ap (λ o. cond (test n) o None)
    (get-remove key_cmp_total rows (e, name) (d, n)
    ∙ ap (λ b. cond b None (get rows (d, n))) (same_key d e n name ∙ ap (λ b. cond b (eq_by_cmp name_cmp n name) false) (turned d e)))
    ∙ part_cases (nat_eq e d) (eq_by_cmp name_cmp n name) (test n) (test name) None (get rows (d, n))
    (λ t. ap test (sym (name_cmp-IsAntisymmetric n name (is_equal _ t))))
    ∙ elim (nat_eq e d
    && test name) as (λ b. cond b (cond (eq_by_cmp name_cmp n name) None (cond (test n) (get rows (d, n)) None)) (cond (test n) (get rows (d, n)) None)
    ≡ get (cond b (remove (names_where d test rows) name) (names_where d test rows)) n) [
      | true ↦
          ap (cond (eq_by_cmp name_cmp n name) None) (sym (get-names_where d test rows n))
          ∙ sym (get-remove nat_list_cmp_total (names_where d test rows) name n)
      | false ↦ sym (get-names_where d test rows n)
    ])

pub parts_after : PartsAfter
parts_after tree core Stays makes d test = refl
parts_after tree core (Adds e n c) makes d test = names_where-insert d test e n c tree.rows
parts_after tree core (Removes e n c) makes d test = names_where-remove d test e n tree.rows
parts_after tree core (Edits file edit) makes d test = refl
parts_after tree core (Moves p n q m c) makes d test =
    names_where-insert d test q m c (remove tree.rows (p, n)) ∙ ap (part_with d test q m c) (names_where-remove d test p n tree.rows)

-- how many rows name a node, once one went
count-remove : (rows : FinMap key_cmp ℕ) (k : Key) (x node : ℕ) → get rows k ≡ Some x
    → count_of (remove rows k) node + cond (nat_eq x node) 1 0 ≡ count_of rows node
count-remove rows k x node row =
    sym (count-insert (remove rows k) k x (names_it node) (none_removed rows k)) ∙ ap (λ r. count_of r node) (put_back rows k x row)

-- a row more where one stands is a row more where it went
put_over : (rows : FinMap key_cmp ℕ) (k : Key) (x : ℕ) → insert (remove rows k) k x ≡ insert rows k x
put_over rows k x =
    same_map key_cmp_total key_cmp-IsAntisymmetric _ _ (λ q.
    get-insert key_cmp_total (remove rows k) k x q
    ∙ ap (cond (eq_by_cmp key_cmp q k) (Some x)) (get-remove key_cmp_total rows k q)
    ∙ elim (eq_by_cmp key_cmp q k) as (λ b. cond b (Some x) (cond b None (get rows q)) ≡ cond b (Some x) (get rows q)) [ true ↦ refl | false ↦ refl ]
    ∙ sym (get-insert key_cmp_total rows k x q))

one_more : (b : Bool) (n m : ℕ) → n ≡ m + cond b 1 0 → n ≡ cond b (m + 1) m
one_more true n m e = e
one_more false n m e = omega arith

one_less : (b : Bool) (n m : ℕ) → n + cond b 1 0 ≡ m → n ≡ cond b (m - 1) m
one_less true n m e = omega arith
one_less false n m e = omega arith

module _ (tree : TreeState) (node p : ℕ) (n : List ℕ) (q : ℕ) (m : List ℕ) (c : ℕ) (f : FitsMoves tree p n q m c) where
  -- the new place is another one
  apart : q ≡ p → m ≡ n → ⊥
  apart same names = f.apart (subst (λ (d : ℕ). row_of tree d m ≡ Some c) (sym same) (subst (λ (k : List ℕ). row_of tree p k ≡ Some c) (sym names) f.row))

  links_moved : (there : Option ℕ) → row_of tree q m ≡ there
      → count_of (insert (remove tree.rows (p, n)) (q, m) c) node ≡ cond (is_this node there) (count_of tree.rows node - 1) (count_of tree.rows node)
  links_moved None e =
      count-insert (remove tree.rows (p, n)) (q, m) c (names_it node) (removed_other tree.rows q p m n apart ∙ e)
      ∙ count-remove tree.rows (p, n) c node f.row
  links_moved (Some y) e =
      let left = remove tree.rows (p, n) in
      let row : get left (q, m) ≡ Some y = removed_other tree.rows q p m n apart ∙ e in
      let new : count_of (insert left (q, m) c) node ≡ count_of (remove left (q, m)) node + cond (nat_eq c node) 1 0 =
      ap (λ r. count_of r node) (sym (put_over left (q, m) c)) ∙ count-insert (remove left (q, m)) (q, m) c (names_it node) (none_removed left (q, m)) in
      let replaced = count-remove left (q, m) y node row in
      let was = count-remove tree.rows (p, n) c node f.row in
      one_less (nat_eq y node) _ _ (joined _ (count_of (remove left (q, m)) node) (count_of left node) _ _ _ new replaced was)
    where
      joined : (a b d e c y : ℕ) → a ≡ b + c → b + y ≡ d → d + c ≡ e → a + y ≡ e
      joined a b d e c y new replaced was = omega arith

links_left : (tree : TreeState) (core : ℕ) (effect : Effect) (makes : Option Kind) (node : ℕ) → Fits tree core effect makes
    → count_of (tree_with tree core effect makes).rows node ≡ links_after tree effect node (count_of tree.rows node)
links_left tree core Stays makes node f = refl
links_left tree core (Edits file edit) makes node f = refl
links_left tree core (Adds d n c) None node f = one_more (nat_eq c node) _ _ (count-insert tree.rows (d, n) c (names_it node) f.free)
links_left tree core (Adds d n c) (Some kind) node f = one_more (nat_eq c node) _ _ (count-insert tree.rows (d, n) c (names_it node) f.free)
links_left tree core (Removes d n c) None node f = one_less (nat_eq c node) _ _ (count-remove tree.rows (d, n) c node f.row)
links_left tree core (Removes d n c) (Some kind) node f = absurd f
links_left tree core (Moves p n q m c) None node f = links_moved tree node p n q m c f (row_of tree q m) refl
links_left tree core (Moves p n q m c) (Some kind) node f = absurd f

kind_left : (tree : TreeState) (core : ℕ) (effect : Effect) (makes : Option Kind) (node : ℕ) → Fits tree core effect makes
    → kind_of (tree_with tree core effect makes) node ≡ kind_after tree core makes node
kind_left tree core Stays None node f = refl
kind_left tree core (Adds d n c) None node f = refl
kind_left tree core (Removes d n c) None node f = refl
kind_left tree core (Moves p n q m c) None node f = refl
kind_left tree core Stays (Some kind) node f = absurd f
kind_left tree core (Removes d n c) (Some kind) node f = absurd f
kind_left tree core (Moves p n q m c) (Some kind) node f = absurd f
kind_left tree core (Edits file edit) (Some kind) node f = absurd f
kind_left tree core (Edits file edit) None node f =
    elim (get tree.nodes file) as (λ o. get tree.nodes file ≡ o
    → option_map_or (λ (n : Node). n.kind) (get (with_edit tree.nodes file edit o) node) File ≡ kind_of tree node) [
      | None ↦ λ e. refl
      | Some was ↦ λ e. elim (node_cases tree.nodes file (record was { bytes = edited edit was.bytes }) node) [
        | inl here ↦
            ap (λ (o : Option Node). option_map_or (λ (n : Node). n.kind) o File) here.1
            ∙ sym (ap (λ (o : Option Node). option_map_or (λ (n : Node). n.kind) o File) (ap (get tree.nodes) here.0 ∙ e))
        | inr other ↦ ap (λ (o : Option Node). option_map_or (λ (n : Node). n.kind) o File) other.1
      ]
    ] refl
kind_left tree core (Adds d n c) (Some kind) node f =
    elim (node_cases tree.nodes (next_number tree core) (record { kind = kind; bytes = [] }) node) [
      | inl here ↦
          ap (λ (o : Option Node). option_map_or (λ (n : Node). n.kind) o File) here.1 ∙ sym (ap (λ b. cond b kind (kind_of tree node)) (eq-eqb _ _ here.0))
      | inr other ↦
          ap (λ (o : Option Node). option_map_or (λ (n : Node). n.kind) o File) other.1 ∙ sym (ap (λ b. cond b kind (kind_of tree node)) (not_same _ _ other.0))
    ]

pub nodes_after : NodesAfter
nodes_after tree core effect makes node f = record {
  links = links_left tree core effect makes node f;
  bytes = bytes_with tree core effect makes node f;
  kind = kind_left tree core effect makes node f;
}

pub counts_after : CountsAfter
counts_after tree core effect None other lt = refl
counts_after tree core effect (Some kind) other lt =
    elim (nat_eq other core) as (λ b. nat_eq other core ≡ b
    → slice_index (set tree.made core (made_by tree core + 1)) other ≡ cond b (made_by tree other + 1) (made_by tree other)) [
      | true ↦ λ t.
          let same : other ≡ core = eqb-true _ _ t in
          ap (slice_index (set tree.made core (made_by tree core + 1))) same ∙ get_or-set_same tree.made core (made_by tree core + 1) 0 lt
          ∙ ap (λ k. slice_index tree.made k + 1) (sym same)
      | false ↦ λ t. get_or-set_other tree.made core other (made_by tree core + 1) 0 (eqb-false _ _ t)
    ] refl
