-- The rows of a directory at a cut, their children, and the nodes that all rows at a cut name.
use Rattle.std.proofs.Common.{◌≡◌, ℕ, ◌+◌, ◌<◌, Bool, true, false, cond, T, List, [], ◌∷◌, ◌++◌, length, map, take, get_or, Option, Some, None, IsSome, ◌↔◌, ◌⊎◌, inl, inr, refl, sym, ap, subst, ◌∙◌}
use borrow.Author.Tests.{eqb-true}
use Rattle.std.specs.Prelude.{filter, fold}
use Rattle.std.specs.Option.{option_map_or}
use Rattle.std.specs.Ordering.{is_eq, eq_by_cmp, ordering_reverse}
use Rattle.std.specs.Cmp.{tied_itself}
use Rattle.std.specs.Cmp.Lexicographic.{nat_list_cmp_total}
use Rattle.std.specs.FinMap.{FinMap, find, entries, get, insert, remove, is_sorted, get-remove, get-entries, entries_sorted, same_map}
use Rattle.std.specs.FinMap.Entries.{below_all}
use Rattle.std.proofs.lemmas.List.{map-append, take_more}
use Rattle.std.proofs.lemmas.List.Elements.{filter-append}
use Rattle.std.proofs.lemmas.List.Sums.{fold-append}
use Rattle.tree_laws.specs.declared.history.Entry.{Entry}
use Rattle.tree_laws.specs.declared.name_map.NameRow.{NameRow}
use Rattle.tree_laws.specs.NameRow.{name_and_child}
use Rattle.tree_laws.specs.Order.{name_cmp}
use Rattle.tree_laws.specs.Tree.{TreeState, Node, names_of, is_directory_kind}
use Rattle.tree_laws.specs.Sound.{IsSound}
use Rattle.tree_laws.specs.Changes.{RowChange, is_own_below, with_change, changes_of}
use Rattle.tree_laws.proofs.Joined.{is_equal, name_cmp-IsAntisymmetric}
use Rattle.tree_laws.proofs.Names.{get-names_where}
use Rattle.tree_laws.proofs.Search.{is_less}
use Rattle.sfs_base.proofs.BasicTruth.{both_second, both_first, and_second, not_both}
use Rattle.flush_core.specs.declared.past.OwnChange.{OwnChange}
use Rattle.flush_core.specs.declared.past.Past.{Past}
use Rattle.flush_core.specs.declared.sets.NodeSet.{NodeSet}
use Rattle.cut_laws.specs.Cut.{Cut, cut_of, counted_rows_at_cut}
use Rattle.cut_laws.specs.Rules.{IsOneOf}
use Rattle.cut_laws.specs.Closure.{every_entry}
use Rattle.flush_core.specs.Past.{IsPast, row_change_of}
use Rattle.flush_core.specs.NodeSets.{has_node}
use Rattle.flush_core.specs.Engine.{Joins}
use Rattle.cut_laws.specs.Elements.{OfSome}
use Rattle.flush_core.specs.Named.{kept_rows, IsChild, IsChildOf, IsChildIn, AreChildren, AreNamed}
use Rattle.cut_laws.proofs.CutRows.{names_of-cut}
use Rattle.cut_laws.proofs.Listed.{from_map, to_map}

-- rows without a name stay when it is taken away
pub remove_absent : (rows : FinMap name_cmp ℕ) (name : List ℕ) → get rows name ≡ None → rows ≡ remove rows name
remove_absent rows name none =
    same_map nat_list_cmp_total name_cmp-IsAntisymmetric rows (remove rows name) (λ q.
    elim (eq_by_cmp name_cmp q name) as (λ b. eq_by_cmp name_cmp q name ≡ b → get rows q ≡ cond b None (get rows q)) [
      | true ↦ λ t. ap (get rows) (name_cmp-IsAntisymmetric q name (is_equal _ t)) ∙ none
      | false ↦ λ _. refl
    ] refl
    ∙ sym (get-remove nat_list_cmp_total rows name q))

-- one more change is made where it is the directory's own and lies below the stamp
one_made : (own : RowChange → Bool) (rows : FinMap name_cmp ℕ) (change : RowChange)
    → fold with_change rows (filter own (change ∷ [])) ≡ cond (own change) (with_change rows change) rows
one_made own rows change =
    elim (own change) as (λ b. fold with_change rows (cond b (change ∷ []) []) ≡ cond b (with_change rows change) rows) [ true ↦ refl | false ↦ refl ]

pub kept_more : (first : TreeState) (changes : List OwnChange) (i : ℕ) (directory stamp : ℕ) (change : OwnChange) (rows made : FinMap name_cmp ℕ)
    → i < length changes → change ≡ get_or changes i change → rows ≡ kept_rows first (take i changes) directory stamp
    → made ≡ cond (is_own_below directory stamp (row_change_of change)) (with_change rows (row_change_of change)) rows
    → made ≡ kept_rows first (take (i + 1) changes) directory stamp
kept_more first changes i directory stamp change rows made lt is before step =
    let own = is_own_below directory stamp in
    let base = names_of directory first.rows in
    step
    ∙ sym (one_made own rows (row_change_of change))
    ∙ ap (λ r. fold with_change r (filter own (row_change_of change ∷ []))) before
    ∙ sym (fold-append with_change base (filter own (map row_change_of (take i changes))) (filter own (row_change_of change ∷ [])))
    ∙ ap (fold with_change base) (sym (filter-append own (map row_change_of (take i changes)) (row_change_of change ∷ [])))
    ∙ ap (λ l. fold with_change base (filter own l)) (sym (map-append row_change_of (take i changes) (change ∷ [])))
    ∙ ap (λ (c : OwnChange). fold with_change base (filter own (map row_change_of (take i changes ++ c ∷ [])))) is
    ∙ ap (λ l. fold with_change base (filter own (map row_change_of l))) (sym (take_more changes i change lt))

-- an entry of sorted ones is found
below_one : (name : List ℕ) (es : List (List ℕ × ℕ)) → T (below_all name_cmp name es) → (e : List ℕ × ℕ) → IsOneOf es e
    → T (Rattle.std.specs.Ordering.is_lt (name_cmp name e.0))
below_one name [] below e one = absurd one
below_one name (f ∷ es) below e one = elim one [
  | inl same ↦ subst (λ (x : List ℕ × ℕ). T (Rattle.std.specs.Ordering.is_lt (name_cmp name x.0))) same (both_first _ _ below)
  | inr rest ↦ below_one name es (both_second _ _ below) e rest
]

found_sorted : (es : List (List ℕ × ℕ)) → T (is_sorted name_cmp es) → (e : List ℕ × ℕ) → IsOneOf es e → find name_cmp e.0 es ≡ Some e.1
found_sorted [] sorted e one = absurd one
found_sorted (f ∷ es) sorted e one = elim one [
  | inl same ↦
      subst (λ (x : List ℕ × ℕ). find name_cmp x.0 (f ∷ es) ≡ Some x.1) same
      (ap (λ r. cond (is_eq r) (Some f.1) (find name_cmp f.0 es)) (tied_itself nat_list_cmp_total f.0))
  | inr rest ↦
      ap (λ r. cond (is_eq r) (Some f.1) (find name_cmp e.0 es))
      (nat_list_cmp_total.antisymm e.0 f.0 ∙ ap ordering_reverse (is_less _ (below_one f.0 es (both_first _ _ sorted) e rest)))
      ∙ found_sorted es (both_second _ _ sorted) e rest
]

-- what is found is an entry
found_entry : (es : List (List ℕ × ℕ)) (name : List ℕ) (node : ℕ) → find name_cmp name es ≡ Some node → (e : List ℕ × ℕ) × IsOneOf es e × (e.1 ≡ node)
found_entry [] name node is = cc
found_entry (f ∷ es) name node here =
    elim (eq_by_cmp name_cmp name f.0) as (λ b. cond b (Some f.1) (find name_cmp name es) ≡ Some node → (e : List ℕ × ℕ) × IsOneOf (f ∷ es) e × (e.1 ≡ node)) [
      | true ↦ λ is. (f, inl refl, some_same is)
      | false ↦ λ is. let rest = found_entry es name node is in (rest.0, inr rest.1, rest.2)
    ] here
  where
    some_same : Some f.1 ≡ Some node → f.1 ≡ node
    some_same is = cc

-- the children of rows are those of their list
pub listed_child : (rows : List NameRow) (names : FinMap name_cmp ℕ) → map name_and_child rows ≡ entries names → (node : ℕ) → OfSome rows IsChildOf node
    → IsChild names node
listed_child rows names same node (row, one, e) = (
  row.name,
  get-entries names row.name
      ∙ found_sorted (entries names) (entries_sorted names) (name_and_child row) (rw same at (to_map name_and_child rows row one))
      ∙ ap (λ x. Some x) e,
)

pub child_listed : (rows : List NameRow) (names : FinMap name_cmp ℕ) → map name_and_child rows ≡ entries names → (node : ℕ) → IsChild names node
    → OfSome rows IsChildOf node
child_listed rows names same node (name, is) =
    let found = found_entry (entries names) name node (sym (get-entries names name) ∙ is) in
    let row = from_map name_and_child rows found.0 (rw same found.1) in
    (row.0, row.1, ap (λ (e : List ℕ × ℕ). e.1) row.2 ∙ found.2)

pub children_join : (rows : List NameRow) (names kept : FinMap name_cmp ℕ) (set joined : NodeSet) → map name_and_child rows ≡ entries names → names ≡ kept
    → Joins (OfSome rows IsChildOf) set joined → Joins (IsChild kept) set joined
children_join rows names kept set joined listed same joins node = (
  λ has. elim ((joins node).0 has) [ inl old ↦ inl old | inr some ↦ inr (rw same at (listed_child rows names listed node some)) ],
  λ from. (joins node).1 (elim from [ inl old ↦ inl old | inr child ↦ inr (child_listed rows names listed node (rw same child)) ]),
)

-- a row at a stamp stood in the tree, or a change stands in its directory
came : (d stamp : ℕ) (n : List ℕ) (node : ℕ) (rows : FinMap name_cmp ℕ) (cs : List OwnChange)
    → get (fold with_change rows (filter (is_own_below d stamp) (map row_change_of cs))) n ≡ Some node
    → (get rows n ≡ Some node) ⊎ ((change : OwnChange) × IsOneOf cs change × (change.directory ≡ d))
came d stamp n node rows [] is = inl is
came d stamp n node rows (x ∷ cs) is =
    elim (is_own_below d stamp (row_change_of x)) as (λ b. is_own_below d stamp (row_change_of x) ≡ b
    → get
    (fold with_change rows
    (cond b (row_change_of x ∷ filter (is_own_below d stamp) (map row_change_of cs)) (filter (is_own_below d stamp) (map row_change_of cs))))
    n
    ≡ Some node
    → (get rows n ≡ Some node) ⊎ ((change : OwnChange) × IsOneOf (x ∷ cs) change × (change.directory ≡ d))) [
      | true ↦ λ own _. inr (x, inl refl, eqb-true _ _ (and_second _ _ own))
      | false ↦ λ _ here. elim (came d stamp n node rows cs here) [ inl stood ↦ inl stood | inr (change, one, same) ↦ inr (change, inr one, same) ]
    ] refl is

-- what is a directory of a tree is one of its nodes
directory_there : (found : Option Node) → option_map_or (λ (n : Node). is_directory_kind n.kind) found false ≡ true → IsSome found
directory_there None is = absurd (not_both is refl)
directory_there (Some node) is = refl

-- the children of some directories' rows are those of all, where all that may have rows are among them
pub are_children : (first : TreeState) (changes : List OwnChange) (cut : Cut) (directories listed : List ℕ) (named : NodeSet) → IsSound first
    → ((node : ℕ) → IsSome (get first.nodes node) → IsOneOf directories node)
    → ((change : OwnChange) → IsOneOf changes change → IsOneOf directories change.directory) → listed ≡ directories
    → ((node : ℕ) → (has_node named node ≡ true) ↔ OfSome listed (IsChildIn first changes cut) node) → AreChildren first changes cut named
are_children first changes cut directories listed named sound nodes changed same gathered node = (
  λ has. let some = (gathered node).0 has in (some.0, some.2),
  λ (d, (n, is)). (gathered node).1 (d, rw same (among d n is), (n, is)),
)
  where
    among : (d : ℕ) (n : List ℕ) → get (kept_rows first changes d (cut_of cut d)) n ≡ Some node → IsOneOf directories d
    among d n is = elim (came d (cut_of cut d) n node (names_of d first.rows) changes is) [
      | inl stood ↦ nodes d (directory_there (get first.nodes d) (sound.holds d n node (sym (get-names_where d (λ _. true) first.rows n) ∙ stood)).0)
      | inr (change, one, e) ↦ rw e at (changed change one)
    ]

-- they are the nodes that the rows at the cut name
pub are_named : (first : TreeState) (history : List Entry) (past : Past) (cut : Cut) (changes : List OwnChange) (named : NodeSet) → IsPast first history past
    → changes ≡ past.changes.items → AreChildren first changes cut named → AreNamed first history cut named
are_named first history past cut changes named is same children node = (
  λ has. let child = (children node).0 has in record { directory = child.0; name = child.1.0; row = kept child.0 child.1.0 ∙ child.1.1 },
  λ names. (children node).1 (names.directory, (names.name, sym (kept names.directory names.name) ∙ names.row)),
)
  where
    kept : (d : ℕ) (n : List ℕ) → get (counted_rows_at_cut first history every_entry cut) (d, n) ≡ get (kept_rows first changes d (cut_of cut d)) n
    kept d n =
        sym (get-names_where d (λ _. true) (counted_rows_at_cut first history every_entry cut) n)
        ∙ ap (λ m. get m n) (names_of-cut d cut first.rows (changes_of first history))
        ∙ ap (λ l. get (fold with_change (names_of d first.rows) (filter (is_own_below d (cut_of cut d)) l)) n)
        (sym is.changes ∙ ap (map row_change_of) (sym same))
